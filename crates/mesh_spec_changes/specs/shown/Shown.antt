-- The rows behind an object and behind a view: those of a table, or those of a stored query over what its targets show.
use Rattle.std.specs.Prelude.{ℕ, zero, suc, Bool, ◌&&◌, if◌then◌else◌, List, [], ◌∷◌, ◌++◌, true, map, Some, None}
use Rattle.std.specs.List.{list_all}
use Rattle.std.specs.Option.{option_map, option_and_then}
use Rattle.std.specs.declared.option.Option.{Option}
use Rattle.mesh_base_values.specs.declared.values.Cell.{Cell}
use Rattle.mesh_base_values.specs.declared.values.Name.{Name}
use Rattle.mesh_base_values.specs.declared.values.Pair.{Pair}
use Rattle.mesh_base.specs.declared.jobs.Input.{Input}
use Rattle.mesh_base.specs.declared.definitions.Defn.{Defn}
use Rattle.mesh_base.specs.declared.definitions.Defn.TheVariants.{Seed, Sql}
use Rattle.mesh_base.specs.declared.definitions.Own.{Own}
use Rattle.mesh_base.specs.declared.queries.Select.{Select}
use Rattle.mesh_base.specs.declared.queries.Query.{Query}
use Rattle.mesh_base.specs.declared.rules.relations.Relation.{Relation}
use Rattle.mesh_base.specs.rules.Relations.{source_relation}
use Rattle.mesh_base.specs.rules.Seen.{are_there, or_no_columns}
use Rattle.mesh_spec_query.specs.Sel.{Sel}
use Rattle.mesh_spec_model.specs.Sources.{inputs}
use Rattle.mesh_spec_model.specs.Scratch.{no_bounds}
use Rattle.mesh_house.specs.declared.objects.Body.{Body}
use Rattle.mesh_house.specs.declared.objects.Body.TheVariants.{Rows, Stored}
use Rattle.mesh_house.specs.declared.world.World.{World}
use Rattle.mesh_house.specs.World.{object_at, columns_of, body_of, rows_of, view}

-- each of them, where all are there
abbrev pub each_there : {A : Type 0} → List (Option A) → Option (List A)
each_there [] = Some []
each_there (o ∷ os) = option_and_then (λ x. option_map (λ xs. x ∷ xs) (each_there os)) o

-- what each FROM item of some SELECTs reads is one of the relations or an earlier CTE
abbrev pub selects_there : List Relation → List (List Select) → List Select → Bool
selects_there relations ctes selects = list_all (λ (s : Select). are_there relations ctes s.from) selects

-- what the CTEs read is there, each beside those before it
abbrev pub ctes_there : List Relation → List (List Select) → List (List Select) → Bool
ctes_there relations before [] = true
ctes_there relations before (c ∷ cs) = selects_there relations before c && ctes_there relations (before ++ c ∷ []) cs

-- what a query reads is there: each relation of its CTEs and of its SELECTs
abbrev pub is_query_there : List Relation → Query → Bool
is_query_there relations q = ctes_there relations [] q.ctes && selects_there relations q.ctes q.selects

-- a target as a relation that a stored query may name
abbrev pub target_relation : Pair → Relation
target_relation t = record { name = t.first; columns = [] }

-- what a stored query may name: the sources that it declares, and its targets
abbrev pub stored_relations : Own → List Pair → List Relation
stored_relations own targets = map source_relation own.sources ++ map target_relation targets

-- a target as a table, where it shows rows
abbrev pub target_table : (Name → Option (List (List Cell))) → World → Pair → Option Input
target_table below w t = option_map (λ rows. record { name = t.first; columns = or_no_columns (columns_of (object_at w t.second)); rows = rows }) (below t.second)

-- the rows of a stored query over these tables, where all that it names is there; a definition without a query has none
abbrev pub stored_rows : Own → List Pair → Defn → List Input → Option (List Input) → Option (List (List Cell))
stored_rows own targets (Seed columns rows) sources tables = None
stored_rows own targets (Sql q) sources tables =
    if is_query_there (stored_relations own targets) q then option_map (λ ts. Sel q (inputs sources own ts) no_bounds) tables else None

-- the rows of a body, where its targets show these
abbrev pub body_rows : (Name → Option (List (List Cell))) → World → Body → Option (List (List Cell))
body_rows below w (Rows rows) = Some rows
body_rows below w (Stored own targets) = stored_rows own targets own.defn w.sources (each_there (map (target_table below w) targets))

-- the rows behind an object through at most so many stored queries, one behind the other
abbrev pub rows_through : ℕ → World → Name → Option (List (List Cell))
rows_through zero w name = rows_of (body_of (object_at w name))
rows_through (suc depth) w name = option_and_then (body_rows (rows_through depth w) w) (body_of (object_at w name))

-- the rows behind an object: none where it dangles
abbrev pub object_rows : World → Name → Option (List (List Cell))
object_rows w name = rows_through 4096 w name

-- the rows behind a view
abbrev pub view_rows : World → Name → Option (List (List Cell))
view_rows w name = option_and_then (object_rows w) (view w name)

-- what a body reads: the targets of a stored query, each by the name that the query has for it
abbrev pub targets_of : Body → List Pair
targets_of (Rows rows) = []
targets_of (Stored own targets) = targets
