-- What those that read a model need to know of it, one model at a time.
use Rattle.std.specs.Prelude.{ℕ, Bool, true, false, not, ◌&&◌, ◌||◌, List, [], ◌∷◌, map, if◌then◌else◌, Some, None}
use Rattle.std.specs.List.{flat_map, list_all, slice_get}
use Rattle.std.specs.Option.{option_to_list}
use Rattle.std.specs.declared.option.Option.{Option}
use Rattle.mesh_list.specs.Keyed.{found}
use Rattle.mesh_base_values.specs.Kinds.{is_incremental}
use Rattle.mesh_base_values.specs.Names.{name_cmp}
use Rattle.mesh_base_values.specs.declared.kinds.Kind.{Kind}
use Rattle.mesh_base_values.specs.declared.kinds.Kind.TheVariants.{Full, View, Seed, Incremental}
use Rattle.mesh_base_values.specs.declared.values.Name.{Name}
use Rattle.mesh_base.specs.declared.definitions.Decl.{Decl}
use Rattle.mesh_base.specs.declared.definitions.Own.{Own}
use Rattle.mesh_base.specs.declared.expressions.Expr.{Expr}
use Rattle.mesh_base.specs.declared.expressions.Expr.TheOpen.{Expr-F, Binary, Between}
use Rattle.mesh_base.specs.declared.expressions.When.{When}
use Rattle.mesh_base.specs.declared.queries.FromItem.{FromItem}
use Rattle.mesh_base.specs.declared.queries.Select.{Select}
use Rattle.mesh_base.specs.declared.snapshots.Node.{Node}
use Rattle.mesh_base_values.specs.declared.values.Pair.{Pair}
use Rattle.mesh_spec_model.specs.Closures.{Closure, own_of}
use Rattle.mesh_spec_changes.specs.steady.Steady.{are_ends, bounds, has_timed_source, is_and, is_bound, is_column, is_timeless}
use Rattle.mesh_lineage.specs.declared.reaches.Bound.{Bound}
use Rattle.mesh_lineage.specs.declared.reaches.Bound.TheVariants.{Free, Never, By}
use Rattle.mesh_lineage.specs.declared.reaches.Link.{Link}
use Rattle.mesh_lineage.specs.declared.reaches.Near.{Near}
use Rattle.mesh_lineage.specs.declared.reaches.Reach.{Reach}
use Rattle.mesh_lineage.specs.Unsteady.{Test, defn_breakers, least, lesser, pair_with, timed_names, timed_reached}

-- a source, as an incremental model may read it
abbrev pub source_bound : Option (List ℕ) → Bound
source_bound None = Free
source_bound (Some time) = By time

abbrev pub source_link : Decl → Link
source_link d = record { name = d.name; bound = source_bound d.time }

-- a parent, which may be timeless
abbrev pub model_bound : Bool → Kind → Bound
model_bound timeless Seed = Free
model_bound timeless Full = if timeless then Free else Never
model_bound timeless View = if timeless then Free else Never
model_bound timeless (Incremental time lookback) = By time

abbrev pub model_link : Bool → Own → Link
model_link timeless own = record { name = own.name; bound = model_bound timeless own.kind }

-- the least timed source that is reached through a model
abbrev pub timed_through : Closure → Option Name
timed_through c = if is_incremental (own_of c).kind then None else least (timed_reached c)

abbrev pub reach : Closure → Reach
reach c = record { link = model_link (is_timeless c) (own_of c); timeless = is_timeless c; timed = timed_through c }

-- those at these places
abbrev pub reaches_at : List Reach → List ℕ → List Reach
reaches_at reaches places = flat_map (λ i. option_to_list (slice_get reaches i)) places

abbrev pub are_timeless : List Reach → Bool
are_timeless rs = list_all (λ (r : Reach). r.timeless) rs

abbrev pub least_reached : List Reach → Option Name
least_reached [] = None
least_reached (r ∷ rs) = lesser r.timed (least_reached rs)

-- what is to be known of a model, from what is known of its parents
abbrev pub timeless_over : Own → List Reach → Bool
timeless_over own rs = (not (has_timed_source own) && not (is_incremental own.kind)) && are_timeless rs

abbrev pub timed_over : Own → List Reach → Option Name
timed_over own rs = if is_incremental own.kind then None else lesser (least (timed_names own)) (least_reached rs)

abbrev pub reach_over : Own → List Reach → Reach
reach_over own rs = record { link = model_link (timeless_over own rs) own; timeless = timeless_over own rs; timed = timed_over own rs }

-- a condition has a conjunct at its top that binds a column to the unit: the same of a node
abbrev pub bounds_parts : ℕ → List ℕ → Expr-F Expr When → Bool
bounds_parts item time (Binary op left right) = is_and op && (bounds item time left || bounds item time right)
bounds_parts item time (Between value low high) = is_column item time value && are_ends low high
bounds_parts item time other = false

-- a FROM item may read a relation so
abbrev pub bound_test : Select → ℕ → FromItem → Bound → Bool
bound_test s place f Free = true
bound_test s place f Never = false
bound_test s place f (By time) = is_bound s place f time

abbrev pub link_test : Select → ℕ → FromItem → Option Link → Bool
link_test s place f None = false
link_test s place f (Some l) = bound_test s place f l.bound

abbrev pub link_name : Link → Name
link_name l = l.name

abbrev pub link_named : List Link → Name → Option Link
link_named links name = found name_cmp link_name name links

-- links that lie elsewhere
abbrev pub near_link : Near → Link
near_link n = n.link.now

abbrev pub near_links : List Near → List Link
near_links ns = map near_link ns

-- a source, or else a parent
abbrev pub or_link : Option Link → Option Link → Option Link
or_link None other = other
or_link (Some l) other = Some l

abbrev pub may_read_links : List Link → List Link → Test
may_read_links sources parents s place f name = link_test s place f (or_link (link_named sources name) (link_named parents name))

abbrev pub parent_links : List Reach → List Link
parent_links rs = map (λ (r : Reach). r.link) rs

-- the least name that breaks the rule of an incremental model
abbrev pub incremental_breaker : Own → List Reach → Option Name
incremental_breaker own rs = least (defn_breakers (may_read_links (map source_link own.sources) (parent_links rs)) own.defn)

-- the least name that breaks the rule, where this is the least timed source that is reached through the model
abbrev pub breaker_as : Own → List Reach → Option Name → Kind → Option Name
breaker_as own rs timed (Incremental time lookback) = least (defn_breakers (may_read_links (map source_link own.sources) (parent_links rs)) own.defn)
breaker_as own rs timed Full = timed
breaker_as own rs timed View = None
breaker_as own rs timed Seed = None

-- one node, from what is known of those before it
abbrev pub node_reach : List Reach → Node → Reach
node_reach reaches n = reach_over n.own (reaches_at reaches n.parents)

abbrev pub node_breaker : Own → List Reach → Option Name
node_breaker own rs = breaker_as own rs (timed_over own rs) own.kind

abbrev pub node_pair : List Reach → Node → List Pair
node_pair reaches n = pair_with n.own.name (node_breaker n.own (reaches_at reaches n.parents))
