-- Models whose computed rows don't change as time goes on, whatever arrives in timed sources later: each timed
-- relation that an incremental model reads is bound to the unit, and a FULL model reads timed sources through
-- incremental models alone.
use Rattle.std.specs.Prelude.{ℕ, suc, Bool, true, false, not, ◌&&◌, ◌||◌, nat_eq, List, [], ◌∷◌}
use Rattle.std.specs.List.{find, list_all, list_any}
use Rattle.std.specs.Option.{is_some}
use Rattle.std.specs.Ordering.{is_eq}
use Rattle.std.specs.declared.option.Option.{Option}
use Rattle.std.specs.declared.option.Option.TheVariants.{None, Some}
use Rattle.mesh_base_values.specs.Kinds.{is_incremental}
use Rattle.mesh_base_values.specs.Names.{name_cmp}
use Rattle.mesh_base_values.specs.Picked.{same_text}
use Rattle.mesh_base_values.specs.declared.kinds.Kind.{Kind}
use Rattle.mesh_base_values.specs.declared.kinds.Kind.TheVariants.{Full, View, Seed, Incremental}
use Rattle.mesh_base_values.specs.declared.values.Name.{Name}
use Rattle.mesh_base.specs.declared.definitions.Decl.{Decl}
use Rattle.mesh_base.specs.declared.definitions.Defn.{Defn}
use Rattle.mesh_base.specs.declared.definitions.Defn.TheVariants as defn
use Rattle.mesh_base.specs.declared.definitions.Own.{Own}
use Rattle.mesh_base.specs.declared.expressions.Expr.{Expr, out-Expr, para-Expr}
use Rattle.mesh_base.specs.declared.expressions.Expr.TheOpen.{Expr-F, When-F, Col, Macro, Binary, Between}
use Rattle.mesh_base.specs.declared.expressions.Op.{Op}
use Rattle.mesh_base.specs.declared.expressions.Op.TheVariants.{And}
use Rattle.mesh_base.specs.declared.expressions.Var.{Var}
use Rattle.mesh_base.specs.declared.expressions.Var.TheVariants.{StartDate, EndDate, StartDs, EndDs, StartEpoch, EndEpoch}
use Rattle.mesh_base.specs.declared.expressions.When.{When}
use Rattle.mesh_base.specs.declared.queries.FromItem.{FromItem}
use Rattle.mesh_base.specs.declared.queries.Join.{Join}
use Rattle.mesh_base.specs.declared.queries.Join.TheVariants.{First, Inner, Left, Cross}
use Rattle.mesh_base.specs.declared.queries.Rel.{Rel}
use Rattle.mesh_base.specs.declared.queries.Rel.TheVariants.{Named, Cte}
use Rattle.mesh_base.specs.declared.queries.Select.{Select}
use Rattle.mesh_spec_model.specs.Closures.{Closure, Closures, Model, Alone, With, own_of, each_of, standing}

abbrev pub is_and : Op → Bool
is_and And = true
is_and other = false

-- an expression is this column of a FROM item
abbrev pub is_column_here : ℕ → List ℕ → Expr-F Expr When → Bool
is_column_here item name (Col i n) = nat_eq i item && same_text n name
is_column_here item name other = false

abbrev pub is_column : ℕ → List ℕ → Expr → Bool
is_column item name e = is_column_here item name (out-Expr e)

-- the two macros are the start and the end of the unit, both in one form
abbrev pub are_ends_by : Var → Var → Bool
are_ends_by StartDate EndDate = true
are_ends_by StartDs EndDs = true
are_ends_by StartEpoch EndEpoch = true
are_ends_by other var = false

abbrev pub is_end_of : Var → Expr-F Expr When → Bool
is_end_of start (Macro end) = are_ends_by start end
is_end_of start other = false

abbrev pub are_ends_here : Expr-F Expr When → Expr-F Expr When → Bool
are_ends_here (Macro start) high = is_end_of start high
are_ends_here other high = false

abbrev pub are_ends : Expr → Expr → Bool
are_ends low high = are_ends_here (out-Expr low) (out-Expr high)

-- one node: `x.c BETWEEN` the start `AND` the end of the unit, or an AND with a side that has it at its top
abbrev pub bounds_here : ℕ → List ℕ → Expr-F (Expr × Bool) (When × Bool) → Bool
bounds_here item time (Binary op left right) = is_and op && (left.1 || right.1)
bounds_here item time (Between value low high) = is_column item time value.0 && are_ends low.0 high.0
bounds_here item time other = false

abbrev pub when_bounds : When-F (Expr × Bool) (When × Bool) → Bool
when_bounds w = false

-- a condition has, among the conjuncts at its top, one that binds the FROM item's time column to the unit
abbrev pub bounds : ℕ → List ℕ → Expr → Bool
bounds item time = para-Expr Bool Bool (bounds_here item time) when_bounds

abbrev pub bounds_in : ℕ → List ℕ → Option Expr → Bool
bounds_in item time None = false
bounds_in item time (Some e) = bounds item time e

-- Where that conjunct may stand: in WHERE; for the right side of an inner join in ON instead; for the right side of a
-- LEFT JOIN in ON alone.
abbrev pub bounds_by : Join → ℕ → List ℕ → Option Expr → Option Expr → Bool
bounds_by First item time on filter = bounds_in item time filter
bounds_by Cross item time on filter = bounds_in item time filter
bounds_by Inner item time on filter = bounds_in item time filter || bounds_in item time on
bounds_by Left item time on filter = bounds_in item time on

-- the FROM item at a place of a SELECT is bound to the unit by that column
abbrev pub is_bound : Select → ℕ → FromItem → List ℕ → Bool
is_bound s place f time = bounds_by f.join place time f.on s.filter

abbrev pub is_timed_source : Decl → Bool
is_timed_source d = is_some d.time

abbrev pub has_timed_source : Own → Bool
has_timed_source own = list_any is_timed_source own.sources

-- a model and all that it stands on have no timed source, and none of them is incremental
abbrev pub is_timeless : Closure → Bool
is_timeless c = list_all (λ s. not (has_timed_source (own_of s)) && not (is_incremental (own_of s).kind)) (standing c)

-- a source may be read by an incremental model: a static one as it is, a timed one bound to the unit
abbrev pub is_source_bound : Select → ℕ → FromItem → Option (List ℕ) → Bool
is_source_bound s place f None = true
is_source_bound s place f (Some time) = is_bound s place f time

-- so may a parent: a seed, a timeless view or FULL model as it is, an incremental one bound to the unit
abbrev pub is_parent_bound : Select → ℕ → FromItem → Closure → Kind → Bool
is_parent_bound s place f c Seed = true
is_parent_bound s place f c Full = is_timeless c
is_parent_bound s place f c View = is_timeless c
is_parent_bound s place f c (Incremental time lookback) = is_bound s place f time

-- the parent of that name
abbrev pub parent_named : Closures → Name → Option Closure
parent_named parents name = find (λ c. is_eq (name_cmp (own_of c).name name)) (each_of parents)

abbrev pub source_declared : Own → Name → Option Decl
source_declared own name = find (λ (d : Decl). is_eq (name_cmp d.name name)) own.sources

abbrev pub is_found_parent_bound : Select → ℕ → FromItem → Option Closure → Bool
is_found_parent_bound s place f None = false
is_found_parent_bound s place f (Some c) = is_parent_bound s place f c (own_of c).kind

-- a declared source, or else a parent
abbrev pub is_relation_bound : Closures → Select → ℕ → FromItem → Name → Option Decl → Bool
is_relation_bound parents s place f name (Some d) = is_source_bound s place f d.time
is_relation_bound parents s place f name None = is_found_parent_bound s place f (parent_named parents name)

-- what a FROM item reads may be read; a CTE always may, since its own FROM items are asked
abbrev pub is_item_bound : Own → Closures → Select → ℕ → FromItem → Rel → Bool
is_item_bound own parents s place f (Cte at) = true
is_item_bound own parents s place f (Named name) = is_relation_bound parents s place f name (source_declared own name)

abbrev pub are_items_bound : Own → Closures → Select → ℕ → List FromItem → Bool
are_items_bound own parents s place [] = true
are_items_bound own parents s place (f ∷ fs) = is_item_bound own parents s place f f.rel && are_items_bound own parents s (suc place) fs

-- each FROM item of some SELECTs
abbrev pub are_selects_bound : Own → Closures → List Select → Bool
are_selects_bound own parents selects = list_all (λ (s : Select). are_items_bound own parents s 0 s.from) selects

-- each FROM item of a query, and of its CTEs
abbrev pub is_defn_bound : Own → Closures → Defn → Bool
is_defn_bound own parents (defn.Seed columns rows) = true
is_defn_bound own parents (defn.Sql q) = list_all (are_selects_bound own parents) q.ctes && are_selects_bound own parents q.selects

-- a model, or some parents, reach a timed source other than through incremental models
abbrev mutual
  pub reaches_timed : Closure → Bool
  reaches_timed (Model own parents) = has_timed_source own || parents_reach_timed parents

  pub parents_reach_timed : Closures → Bool
  parents_reach_timed Alone = false
  parents_reach_timed (With c cs) = (not (is_incremental (own_of c).kind) && reaches_timed c) || parents_reach_timed cs

abbrev pub is_steady_as : Own → Closures → Kind → Bool
is_steady_as own parents (Incremental time lookback) = is_defn_bound own parents own.defn
is_steady_as own parents Full = not (reaches_timed (Model own parents))
is_steady_as own parents View = true
is_steady_as own parents Seed = true

-- a model is steady; nothing is asked of views and seeds, which are read through
abbrev pub is_steady : Closure → Bool
is_steady (Model own parents) = is_steady_as own parents own.kind
