-- What FROM draws: relations by two-part names, and earlier CTEs by one-part names.
use Rattle.std.specs.Prelude.{ℕ, List, [], ◌∷◌, ◌++◌, Result, Ok, Err}
use Rattle.std.specs.Option.{option_map}
use Rattle.std.specs.declared.option.Option.{Option}
use Rattle.std.specs.declared.option.Option.TheVariants.{None, Some}
use Rattle.mesh_base_values.specs.declared.values.Column.{Column}
use Rattle.mesh_base_values.specs.declared.values.Name.{Name}
use Rattle.mesh_base.specs.declared.definitions.Decl.{Decl}
use Rattle.mesh_base.specs.declared.jobs.Input.{Input}
use Rattle.mesh_base.specs.declared.queries.Join.{Join}
use Rattle.mesh_base.specs.declared.queries.Join.TheVariants as join
use Rattle.mesh_base.specs.declared.queries.Rel.{Rel}
use Rattle.mesh_base.specs.declared.queries.Rel.TheVariants.{Named}
use Rattle.mesh_base_values.specs.declared.values.ColType.TheVariants.{Bool as Truth}
use Rattle.mesh_list.specs.Keyed.{found}
use Rattle.mesh_base.specs.Keys.{input_name}
use Rattle.mesh_base_values.specs.Names.{name_cmp}
use Rattle.mesh_query_grammar.specs.declared.surface.expressions.OrExpr.{OrExpr}
use Rattle.mesh_query_grammar.specs.declared.surface.queries.SurfaceFrom.{SurfaceFrom}
use Rattle.mesh_query_grammar.specs.declared.surface.queries.SurfaceJoin.{SurfaceJoin}
use Rattle.mesh_query_grammar.specs.declared.surface.queries.SurfaceJoin.TheVariants as written
use Rattle.mesh_query_grammar.specs.declared.surface.queries.SurfaceRel.{SurfaceRel}
use Rattle.mesh_query_tokens.specs.Gives.{◌>>=◌}
use Rattle.mesh_query_tokens.specs.declared.faults.ReadFault.{ReadFault}
use Rattle.mesh_resolve_selects.specs.declared.outputs.commons.Common.{Common}
use Rattle.mesh_resolve_selects.specs.outputs.Commons.{Found, cte_named}
use Rattle.mesh_resolve_selects.specs.declared.selects.parts.Drawn.{Drawn}
use Rattle.mesh_resolve.specs.declared.known.Known.{Known}
use Rattle.mesh_resolve.specs.declared.drawn.Drawing.{Drawing}
use Rattle.mesh_resolve_scope.specs.sight.InSight.{Sight}
use Rattle.mesh_resolve_types.specs.declared.typed.Typed.{Typed}
use Rattle.mesh_resolve_types.specs.Faults.{unknown_relation, mismatch}
use Rattle.mesh_query_tokens.specs.Walk.{provided, along}
use Rattle.mesh_resolve_types.specs.rules.Kinds.{may_be}
use Rattle.mesh_resolve_types.specs.Forms.{Read}
use Rattle.mesh_resolve_scope.specs.sight.Sight.{nothing_seen, seeing}
use Rattle.mesh_resolve_scope.specs.Expressions.{typed}

-- models and declared sources are found by their names
abbrev pub decl_name : Decl → Name
decl_name d = d.name

abbrev pub model_columns : List Input → Name → Option (List Column)
model_columns models name = option_map (λ (m : Input). m.columns) (found name_cmp input_name name models)

abbrev pub source_columns : List Decl → Name → Option (List Column)
source_columns sources name = option_map (λ (d : Decl). d.columns) (found name_cmp decl_name name sources)

abbrev pub or_else : {A : Type 0} → Option A → Option A → Option A
or_else None other = other
or_else (Some x) other = Some x

-- the columns of a model or a source, the models coming first
abbrev pub columns_named : Known → Name → Option (List Column)
columns_named known name = or_else (model_columns known.models name) (source_columns known.sources name)

-- `schema.model`, as it is printed
abbrev pub dotted : List ℕ → List ℕ → List ℕ
dotted schema name = schema ++ 46 ∷ name

abbrev pub or_unknown : ℕ → List ℕ → Option Found → Result Found ReadFault
or_unknown at name None = Err (unknown_relation at name)
or_unknown at name (Some found) = Ok found

abbrev pub found_relation : Name → List Column → Found
found_relation name columns = (Named name, columns)

abbrev pub two_part : Known → ℕ → List ℕ → List ℕ → Result Found ReadFault
two_part known at schema name =
    let full : Name = record { schema = schema; model = name } in
    or_unknown at (dotted schema name) (option_map (found_relation full) (columns_named known full))

-- what a name means: a model or a source by two parts, an earlier CTE by one
abbrev pub relation_by : Known → List Common → ℕ → Option (List ℕ) → List ℕ → Result Found ReadFault
relation_by known ctes at None name = or_unknown at name (cte_named 0 ctes name)
relation_by known ctes at (Some schema) name = two_part known at schema name

unfoldable pub relation : Known → List Common → SurfaceRel → Result Found ReadFault
relation known ctes r = relation_by known ctes r.at r.schema r.name

-- the name that a FROM item has: its alias, or the last part of the relation's name
abbrev pub name_in_from : Option (List ℕ) → List ℕ → List ℕ
name_in_from None name = name
name_in_from (Some alias) name = alias

-- a condition is a BOOL
unfoldable pub condition : Sight → OrExpr → Read
condition sight e = do
  t ← typed sight e
  provided (may_be Truth t.kind) t (mismatch t.at)

-- before the first FROM item
abbrev pub nothing_drawn : Known → Drawing
nothing_drawn known = record { sight = nothing_seen known.macros; drawn = [] }

-- what is in sight once this relation stands in FROM
abbrev pub seeing_relation : Sight → SurfaceRel → Found → Sight
seeing_relation sight r found = seeing sight (name_in_from r.alias r.name) found.1

-- a FROM item
abbrev pub item_drawn : Join → SurfaceRel → Rel → Option Typed → Drawn
item_drawn join r rel on = record { at = r.at; name = name_in_from r.alias r.name; join = join; rel = rel; on = on }

-- the FROM items so far, and one more
abbrev pub drawing : Drawing → Join → SurfaceRel → Found → Option Typed → Drawing
drawing f join r found on =
    record { sight = seeing_relation f.sight r found; drawn = f.drawn ++ item_drawn join r found.0 on ∷ [] }

abbrev pub unconditional : Known → List Common → Drawing → Join → SurfaceRel → Result Drawing ReadFault
unconditional known ctes f join r = do
  found ← relation known ctes r
  Ok (drawing f join r found None)

-- ON sees the items to its left and its own
abbrev pub conditional : Known → List Common → Drawing → Join → SurfaceRel → OrExpr → Result Drawing ReadFault
conditional known ctes f join r on = do
  found ← relation known ctes r
  t ← condition (seeing_relation f.sight r found) on
  Ok (drawing f join r found (Some t))

abbrev pub joined : Known → List Common → Drawing → SurfaceJoin → Result Drawing ReadFault
joined known ctes f (written.Comma at r) = unconditional known ctes f join.Cross r
joined known ctes f (written.Cross at r) = unconditional known ctes f join.Cross r
joined known ctes f (written.Inner at r on) = conditional known ctes f join.Inner r on
joined known ctes f (written.Left at r on) = conditional known ctes f join.Left r on

-- the FROM items from left to right
unfoldable pub drawn_from : Known → List Common → Option SurfaceFrom → Result Drawing ReadFault
drawn_from known ctes None = Ok (nothing_drawn known)
drawn_from known ctes (Some from) = do
  first ← unconditional known ctes (nothing_drawn known) join.First from.first
  along (joined known ctes) first from.joins
