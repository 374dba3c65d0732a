-- Steady and unsteady models, and those whose units can be computed as one, worked out by hand.
use Rattle.std.proofs.Common.{◌≡◌, ℕ, pos, Bool, true, false, not, cond, ◌&&◌, ◌||◌, List, [], ◌∷◌, ◌++◌, refl, ap, ap₂, ◌∙◌}
use Rattle.std.specs.Prelude.{codes, nat_eq}
use Rattle.std.specs.declared.option.Option.TheVariants.{Some, None}
use Rattle.mesh_base_values.specs.Crons.{CronSets}
use Rattle.mesh_base_values.specs.declared.kinds.Kind.{Kind}
use Rattle.mesh_base_values.specs.declared.kinds.Kind.TheVariants as kind
use Rattle.mesh_base_values.specs.declared.times.Unit.TheVariants as unit
use Rattle.mesh_base_values.specs.declared.values.ColType.TheVariants as type
use Rattle.mesh_base_values.specs.declared.values.Name.{Name}
use Rattle.mesh_base.specs.declared.definitions.Decl.{Decl}
use Rattle.mesh_base.specs.declared.definitions.Defn.TheVariants as defn
use Rattle.mesh_base.specs.declared.definitions.Own.{Own}
use Rattle.mesh_base.specs.declared.expressions.Expr.{Expr, fold-roll-Expr, out-roll-Expr, roll-Expr}
use Rattle.mesh_base.specs.declared.expressions.Expr as expr
use Rattle.mesh_base.specs.declared.expressions.Expr.TheOpen.{Between, Col, Macro, Binary}
use Rattle.mesh_base.specs.declared.expressions.Op.TheVariants as op
use Rattle.mesh_base.specs.declared.expressions.Var.TheVariants as var
use Rattle.mesh_base.specs.declared.queries.FromItem.{FromItem}
use Rattle.mesh_base.specs.declared.queries.Join.{Join}
use Rattle.mesh_base.specs.declared.queries.Join.TheVariants as join
use Rattle.mesh_base.specs.declared.queries.Rel.TheVariants as rel
use Rattle.mesh_base.specs.declared.queries.Select.{Select}
use Rattle.mesh_spec_model.specs.Closures.{Closure, Model, Alone, With}
use Rattle.mesh_spec_changes.specs.steady.Steady.{are_ends, are_ends_here, bounds, is_column, is_column_here}
use Rattle.mesh_lineage.specs.Joinable.{binds, binds_parts, has_macro, is_bound_here, is_joinable, macro_here, when_macro}
use Rattle.mesh_lineage.specs.Reaches.{bounds_parts}
use Rattle.mesh_lineage.specs.Unsteady.{breakers, unsteady}
use Rattle.mesh_lineage.proofs.Bindings.{binds_out}
use Rattle.mesh_lineage.proofs.Tops.{bounds_out}

abbrev every_day : CronSets
every_day = record { minute = 1; hour = 1; dom = 0xffff_fffe; month = 0x1ffe; dow = 0x7f; dom_star = true; dow_star = true }

abbrev shop : List ℕ → Name
shop model = record { schema = codes "shop"; model = model }

abbrev orders_name : Name
orders_name = record { schema = codes "raw"; model = codes "orders" }

abbrev day : List ℕ
day = codes "day"

abbrev orders : Decl
orders = record { name = orders_name; columns = []; time = Some day }

abbrev own : List ℕ → Kind → List Decl → List Select → Own
own model kind sources selects = record { name = shop model; kind = kind; cron = every_day; unit = unit.Day; start = Some (pos 0); sources = sources; defn = defn.Sql (record { ctes = []; selects = selects }) }

abbrev by_day : Kind
by_day = kind.Incremental day 0

-- a FULL model that reads a timed source
abbrev late : Closure
late = Model (own (codes "late") kind.Full (orders ∷ []) []) Alone

late_is_unsteady : unsteady (late ∷ []) ≡ record { first = shop (codes "late"); second = orders_name } ∷ []
late_is_unsteady = refl

-- through a view it is reached too, and through an incremental model it isn't
abbrev over : Kind → Closure → Closure
over k c = Model (own (codes "over") k [] []) (With c Alone)

over_a_view : breakers (over kind.Full (over kind.View late)) ≡ orders_name ∷ []
over_a_view = refl

over_an_incremental : breakers (over kind.Full (over by_day late)) ≡ []
over_an_incremental = refl

-- `x.day BETWEEN @start_ds AND @end_ds`, and `d.id = o.id`
abbrev within : ℕ → Expr
within item = expr.Between (expr.Col item day) (expr.Macro var.StartDs) (expr.Macro var.EndDs)

abbrev same_id : Expr
same_id = expr.Binary op.Eq (expr.Col 0 (codes "id")) (expr.Col 1 (codes "id"))

-- FROM shop.daily AS d LEFT JOIN raw.orders AS o ON .. WHERE ..
abbrev from : Join → Expr → List FromItem
from j on = record { join = join.First; rel = rel.Named (shop (codes "daily")); on = None } ∷ record { join = j; rel = rel.Named orders_name; on = Some on } ∷ []

abbrev joined : Join → Expr → Expr → Closure
joined j on filter =
    Model (own (codes "joined") by_day (orders ∷ []) (record { distinct = false; grouped = false; items = []; from = from j on; filter = Some filter; keys = []; having = None } ∷ []))
    (With (Model (own (codes "daily") by_day [] []) Alone) Alone)

column_at : (item place : ℕ) → is_column place day (expr.Col item day) ≡ (nat_eq item place && true)
unfolding roll-Expr denote.Hole.Carrier.roll
column_at item place = ap (is_column_here place day) (out-roll-Expr (Col item day))

ends_of : are_ends (expr.Macro var.StartDs) (expr.Macro var.EndDs) ≡ true
unfolding roll-Expr denote.Hole.Carrier.roll
ends_of = ap₂ are_ends_here (out-roll-Expr (Macro var.StartDs)) (out-roll-Expr (Macro var.EndDs))

bounds_within : (item place : ℕ) → bounds place day (within item) ≡ ((nat_eq item place && true) && true)
unfolding roll-Expr denote.Hole.Carrier.roll
bounds_within item place = bounds_out place day (within item) ∙ ap (bounds_parts place day) (out-roll-Expr (Between (expr.Col item day) (expr.Macro var.StartDs) (expr.Macro var.EndDs))) ∙ ap₂ (λ a b. a && b) (column_at item place) ends_of

bounds_both : (place : ℕ) (a b : Expr) → bounds place day (expr.Binary op.And a b) ≡ (bounds place day a || bounds place day b)
unfolding roll-Expr denote.Hole.Carrier.roll
bounds_both place a b = bounds_out place day (expr.Binary op.And a b) ∙ ap (bounds_parts place day) (out-roll-Expr (Binary op.And a b))

bounds_same_id : (place : ℕ) → bounds place day same_id ≡ false
unfolding roll-Expr denote.Hole.Carrier.roll
bounds_same_id place = bounds_out place day same_id ∙ ap (bounds_parts place day) (out-roll-Expr (Binary op.Eq (expr.Col 0 (codes "id")) (expr.Col 1 (codes "id"))))

abbrev named : Bool → Bool → List Name
named daily orders = cond daily [] (shop (codes "daily") ∷ []) ++ (cond orders [] (orders_name ∷ []) ++ []) ++ []

-- both conjuncts in WHERE: the right side of a LEFT JOIN isn't bound by it
in_where : breakers (joined join.Left same_id (expr.Binary op.And (within 0) (within 1))) ≡ orders_name ∷ []
in_where = ap₂ named (bounds_both 0 (within 0) (within 1) ∙ ap₂ (λ a b. a || b) (bounds_within 0 0) (bounds_within 1 0)) (bounds_same_id 1)

-- the second one in ON
in_on : breakers (joined join.Left (expr.Binary op.And same_id (within 1)) (within 0)) ≡ []
in_on = ap₂ named (bounds_within 0 0) (bounds_both 1 same_id (within 1) ∙ ap₂ (λ a b. a || b) (bounds_same_id 1) (bounds_within 1 1))

-- an inner join is bound by both
in_where_of_a_join : breakers (joined join.Inner same_id (expr.Binary op.And (within 0) (within 1))) ≡ []
in_where_of_a_join =
    ap₂ named (bounds_both 0 (within 0) (within 1) ∙ ap₂ (λ a b. a || b) (bounds_within 0 0) (bounds_within 1 0))
    (ap₂ (λ a b. a || b) (bounds_both 1 (within 0) (within 1) ∙ ap₂ (λ a b. a || b) (bounds_within 0 1) (bounds_within 1 1)) (bounds_same_id 1))

-- SELECT day FROM raw.orders WHERE ..
abbrev picked : Expr → Own
picked filter =
    own (codes "picked") by_day (orders ∷ []) (record {
      distinct = false;
      grouped = false;
      items = record { name = day; kind = type.Text; expr = expr.Col 0 day } ∷ [];
      from = record { join = join.First; rel = rel.Named orders_name; on = None } ∷ [];
      filter = Some filter;
      keys = [];
      having = None;
    } ∷ [])

column_has_none : (item : ℕ) (name : List ℕ) → has_macro (expr.Col item name) ≡ false
unfolding roll-Expr denote.Hole.Carrier.roll
column_has_none item name = fold-roll-Expr Bool Bool macro_here when_macro (Col item name)

picked_is : (filter : Expr) → is_joinable (picked filter) ≡ binds 0 day filter
unfolding roll-Expr denote.Hole.Carrier.roll
picked_is filter = ap₂ (λ a b. not ((a || false) || false) && b) (column_has_none 0 day) (ap (is_bound_here (Some filter)) (out-roll-Expr (Col 0 day)))

binds_within : binds 0 day (within 0) ≡ true
unfolding roll-Expr denote.Hole.Carrier.roll
binds_within = binds_out 0 day (within 0) ∙ ap (binds_parts 0 day) (out-roll-Expr (Between (expr.Col 0 day) (expr.Macro var.StartDs) (expr.Macro var.EndDs))) ∙ ap₂ (λ a b. a && b) (column_at 0 0) ends_of

one_conjunct : is_joinable (picked (within 0)) ≡ true
one_conjunct = picked_is (within 0) ∙ binds_within

-- a macro in another conjunct
abbrev other : Expr
other = expr.Binary op.Eq (expr.Col 0 (codes "id")) (expr.Macro var.StartEpoch)

other_has_one : has_macro other ≡ true
unfolding roll-Expr denote.Hole.Carrier.roll
other_has_one =
    fold-roll-Expr Bool Bool macro_here when_macro (Binary op.Eq (expr.Col 0 (codes "id")) (expr.Macro var.StartEpoch))
    ∙ ap₂ (λ a b. a || b) (column_has_none 0 (codes "id")) (fold-roll-Expr Bool Bool macro_here when_macro (Macro var.StartEpoch))

two_conjuncts : is_joinable (picked (expr.Binary op.And (within 0) other)) ≡ false
unfolding roll-Expr denote.Hole.Carrier.roll
two_conjuncts =
    picked_is (expr.Binary op.And (within 0) other) ∙ binds_out 0 day (expr.Binary op.And (within 0) other) ∙ ap (binds_parts 0 day) (out-roll-Expr (Binary op.And (within 0) other))
    ∙ ap (λ b. cond b (binds 0 day other && not (has_macro (within 0))) (binds 0 day (within 0))) other_has_one
    ∙ ap (λ b. b && not (has_macro (within 0))) (binds_out 0 day other ∙ ap (binds_parts 0 day) (out-roll-Expr (Binary op.Eq (expr.Col 0 (codes "id")) (expr.Macro var.StartEpoch))))
