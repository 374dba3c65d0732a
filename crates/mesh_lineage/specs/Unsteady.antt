-- The models of a project that aren't steady, each with the least name that breaks the rule.
use Rattle.std.specs.Prelude.{ℕ, suc, Bool, List, [], ◌∷◌, ◌++◌, map, filter, if◌then◌else◌, Some, None}
use Rattle.std.specs.List.{flat_map}
use Rattle.std.specs.declared.cmp.Ordering.{Ordering}
use Rattle.std.specs.declared.cmp.Ordering.TheVariants.{Less, Equal, Greater}
use Rattle.std.specs.declared.option.Option.{Option}
use Rattle.mesh_list.specs.Keyed.{placed}
use Rattle.mesh_base_values.specs.Kinds.{is_incremental}
use Rattle.mesh_base_values.specs.Names.{name_cmp}
use Rattle.mesh_base_values.specs.declared.kinds.Kind.{Kind}
use Rattle.mesh_base_values.specs.declared.kinds.Kind.TheVariants.{Full, View, Seed, Incremental}
use Rattle.mesh_base_values.specs.declared.values.Name.{Name}
use Rattle.mesh_base_values.specs.declared.values.Pair.{Pair}
use Rattle.mesh_base.specs.declared.definitions.Decl.{Decl}
use Rattle.mesh_base.specs.declared.definitions.Defn.{Defn}
use Rattle.mesh_base.specs.declared.definitions.Defn.TheVariants as defn
use Rattle.mesh_base.specs.declared.definitions.Own.{Own}
use Rattle.mesh_base.specs.declared.queries.FromItem.{FromItem}
use Rattle.mesh_base.specs.declared.queries.Rel.{Rel}
use Rattle.mesh_base.specs.declared.queries.Rel.TheVariants.{Named, Cte}
use Rattle.mesh_base.specs.declared.queries.Select.{Select}
use Rattle.mesh_spec_model.specs.Closures.{Closure, Closures, Model, Alone, With, own_of}
use Rattle.mesh_spec_changes.specs.steady.Steady.{is_relation_bound, is_timed_source, source_declared}

-- whether a FROM item at a place of a SELECT may read a relation as it does
abbrev pub Test : Type 0
Test = Select → ℕ → FromItem → Name → Bool

-- the relation of a FROM item that may not read it
abbrev pub item_breakers : Test → Select → ℕ → FromItem → Rel → List Name
item_breakers may s place f (Cte at) = []
item_breakers may s place f (Named name) = if may s place f name then [] else name ∷ []

abbrev pub items_breakers : Test → Select → ℕ → List FromItem → List Name
items_breakers may s place [] = []
items_breakers may s place (f ∷ fs) = item_breakers may s place f f.rel ++ items_breakers may s (suc place) fs

-- those of some SELECTs
abbrev pub select_breakers : Test → Select → List Name
select_breakers may s = items_breakers may s 0 s.from

abbrev pub selects_breakers : Test → List Select → List Name
selects_breakers may selects = flat_map (select_breakers may) selects

-- those of a query, and of its CTEs
abbrev pub defn_breakers : Test → Defn → List Name
defn_breakers may (defn.Seed columns rows) = []
defn_breakers may (defn.Sql q) = flat_map (selects_breakers may) q.ctes ++ selects_breakers may q.selects

-- as an incremental model may read its sources and parents
abbrev pub may_read : Own → Closures → Test
may_read own parents s place f name = is_relation_bound parents s place f name (source_declared own name)

abbrev pub decl_name : Decl → Name
decl_name d = d.name

-- the timed ones among some sources, and those that a model declares
abbrev pub timed_names_of : List Decl → List Name
timed_names_of sources = map decl_name (filter is_timed_source sources)

abbrev pub timed_names : Own → List Name
timed_names own = timed_names_of own.sources

-- the timed sources that a model, or some parents, reach other than through incremental models
abbrev mutual
  pub timed_reached : Closure → List Name
  timed_reached (Model own parents) = timed_names own ++ parents_reached parents

  pub parents_reached : Closures → List Name
  parents_reached Alone = []
  parents_reached (With c cs) = (if is_incremental (own_of c).kind then [] else timed_reached c) ++ parents_reached cs

abbrev pub breakers_as : Own → Closures → Kind → List Name
breakers_as own parents (Incremental time lookback) = defn_breakers (may_read own parents) own.defn
breakers_as own parents Full = timed_reached (Model own parents)
breakers_as own parents View = []
breakers_as own parents Seed = []

-- The names that break the rule: of an incremental model the relations of FROM items that may not be read as they
-- are, of a FULL one the timed sources that it reaches other than through incremental models.
abbrev pub breakers : Closure → List Name
breakers (Model own parents) = breakers_as own parents own.kind

abbrev pub lesser_by : Ordering → Name → Name → Name
lesser_by Less a b = a
lesser_by Equal a b = a
lesser_by Greater a b = b

abbrev pub lesser : Option Name → Option Name → Option Name
lesser None b = b
lesser (Some a) None = Some a
lesser (Some a) (Some b) = Some (lesser_by (name_cmp a b) a b)

abbrev pub least : List Name → Option Name
least [] = None
least (name ∷ names) = lesser (Some name) (least names)

-- a model that isn't steady, with the least name that breaks the rule
abbrev pub pair_with : Name → Option Name → List Pair
pair_with name None = []
pair_with name (Some breaker) = record { first = name; second = breaker } ∷ []

abbrev pub unsteady_pair : Closure → List Pair
unsteady_pair c = pair_with (own_of c).name (least (breakers c))

abbrev pub pair_name : Pair → Name
pair_name p = p.first

abbrev pub by_name : List Pair → List Pair
by_name [] = []
by_name (p ∷ ps) = placed name_cmp pair_name p (by_name ps)

-- such models of some closures, by name
abbrev pub unsteady : List Closure → List Pair
unsteady cs = by_name (flat_map unsteady_pair cs)
