-- A shop, worked out by hand: a model by days gains a column, and what stands on it, also behind a view, stays a twin.
use Rattle.std.proofs.Common.{◌≡◌, ℕ, ℤ, pos, Bool, true, false, ◌&&◌, inl, inr, List, [], ◌∷◌, ◌++◌, refl, ap, ◌∙◌, arith}
use Rattle.std.specs.Prelude.{codes}
use Rattle.std.specs.declared.option.Option.{Option}
use Rattle.std.specs.declared.option.Option.TheVariants.{None, Some}
use Rattle.mesh_base_values.specs.declared.kinds.Kind.{Kind}
use Rattle.mesh_base_values.specs.declared.kinds.Kind.TheVariants as kind
use Rattle.mesh_base_values.specs.declared.times.Unit.TheVariants as unit
use Rattle.mesh_base_values.specs.declared.values.Cell.TheVariants as cell
use Rattle.mesh_base_values.specs.declared.values.ColType.{ColType}
use Rattle.mesh_base_values.specs.declared.values.ColType.TheVariants as type
use Rattle.mesh_base_values.specs.declared.values.Column.{Column}
use Rattle.mesh_base_values.specs.declared.values.Name.{Name}
use Rattle.mesh_base.specs.declared.definitions.Decl.{Decl}
use Rattle.mesh_base.specs.declared.definitions.Defn.TheVariants as defn
use Rattle.mesh_base.specs.declared.definitions.Own.{Own}
use Rattle.mesh_base.specs.declared.expressions.AggKind.TheVariants as agg
use Rattle.mesh_base.specs.declared.expressions.Expr.{Expr, roll-Expr, fold-roll-Expr}
use Rattle.mesh_base.specs.declared.expressions.Expr as expr
use Rattle.mesh_base.specs.declared.expressions.Expr.TheOpen.{Agg, Between, Binary, CountAll, Literal, Macro}
use Rattle.mesh_base.specs.declared.expressions.Op.TheVariants as op
use Rattle.mesh_base.specs.declared.expressions.Var.{Var}
use Rattle.mesh_base.specs.declared.expressions.Var.TheVariants as var
use Rattle.mesh_base.specs.declared.plans.Category.TheVariants.{NonBreaking, IndirectNonBreaking}
use Rattle.mesh_base.specs.declared.queries.Item.{Item}
use Rattle.mesh_base.specs.declared.queries.Join.TheVariants as join
use Rattle.mesh_base.specs.declared.queries.Rel.TheVariants as rel
use Rattle.mesh_base.specs.declared.queries.Select.{Select}
use Rattle.mesh_base.specs.rules.Seen.{column_at, is_select_seen, select_sees, sees, sees_here, when_sees}
use Rattle.mesh_spec_model.specs.Closures.{Closure, Model, Alone, With, own_of}
use Rattle.mesh_spec_changes.specs.reuse.Categories.{HasCategory}
use Rattle.mesh_spec_changes.specs.reuse.Compatible.{IsAdditive, IsCompatible, keep, no_more, skip}
use Rattle.mesh_spec_changes.specs.reuse.Cores.{IsTwin}
use Rattle.mesh_spec_changes.specs.due.Versions.{stays}
use Rattle.mesh_law_reuse.specs.Well.{AreWell}
use Rattle.mesh_law_reuse.proofs.Examples.{a_column_is_seen, above, at, defn_items, every_day, it_is_read, over, well_over}
use Rattle.mesh_law_reuse.proofs.Fit.{well_twins}
use Rattle.mesh_law_reuse.proofs.Staying.{staying_twins}

abbrev shop : List ℕ → Name
shop model = record { schema = codes "shop"; model = model }

abbrev day : List ℕ
day = codes "day"

abbrev qty : List ℕ
qty = codes "qty"

-- a timed source
abbrev orders : Decl
orders = record { name = record { schema = codes "raw"; model = codes "orders" }; columns = record { name = codes "id"; kind = type.Int } ∷ record { name = day; kind = type.Date } ∷ record { name = qty; kind = type.Int } ∷ []; time = Some day }

-- a column; day BETWEEN @start_ds AND @end_ds; qty * 2; SUM(qty); COUNT(*)
pub column : List ℕ → Expr
column name = expr.Col 0 name

pub within : Expr
within = expr.Between (expr.Col 0 day) (expr.Macro var.StartDs) (expr.Macro var.EndDs)

pub doubled : Expr
doubled = expr.Binary op.Mul (expr.Col 0 qty) (expr.Literal (cell.Int (pos 2)))

pub sum : Expr
sum = expr.Agg agg.Sum (expr.Col 0 qty)

pub number : Expr
number = roll-Expr CountAll

column_is_seen : (tables : List (List Column)) (name : List ℕ) → sees tables (column name) ≡ column_at tables 0 name
unfolding column
column_is_seen tables name = a_column_is_seen tables 0 name

macro_is_seen : (tables : List (List Column)) (m : Var) → sees tables (expr.Macro m) ≡ true
unfolding roll-Expr denote.Hole.Carrier.roll
macro_is_seen tables m = fold-roll-Expr Bool Bool (sees_here tables) when_sees (Macro m)

literal_is_seen : (tables : List (List Column)) (n : ℕ) → sees tables (expr.Literal (cell.Int (pos n))) ≡ true
unfolding roll-Expr denote.Hole.Carrier.roll
literal_is_seen tables n = fold-roll-Expr Bool Bool (sees_here tables) when_sees (Literal (cell.Int (pos n)))

within_is_seen : (tables : List (List Column)) → sees tables within ≡ (column_at tables 0 day && true && true)
unfolding within roll-Expr denote.Hole.Carrier.roll
within_is_seen tables =
    fold-roll-Expr Bool Bool (sees_here tables) when_sees (Between (expr.Col 0 day) (expr.Macro var.StartDs) (expr.Macro var.EndDs))
    ∙ (λ i. a_column_is_seen tables 0 day i && macro_is_seen tables var.StartDs i && macro_is_seen tables var.EndDs i)

doubled_is_seen : (tables : List (List Column)) → sees tables doubled ≡ (column_at tables 0 qty && true)
unfolding doubled roll-Expr denote.Hole.Carrier.roll
doubled_is_seen tables =
    fold-roll-Expr Bool Bool (sees_here tables) when_sees (Binary op.Mul (expr.Col 0 qty) (expr.Literal (cell.Int (pos 2))))
    ∙ (λ i. a_column_is_seen tables 0 qty i && literal_is_seen tables 2 i)

sum_is_seen : (tables : List (List Column)) → sees tables sum ≡ column_at tables 0 qty
unfolding sum roll-Expr denote.Hole.Carrier.roll
sum_is_seen tables = fold-roll-Expr Bool Bool (sees_here tables) when_sees (Agg agg.Sum (expr.Col 0 qty)) ∙ a_column_is_seen tables 0 qty

number_is_seen : (tables : List (List Column)) → sees tables number ≡ true
unfolding number
number_is_seen tables = fold-roll-Expr Bool Bool (sees_here tables) when_sees CountAll

abbrev item : List ℕ → ColType → Expr → Item
item name kind e = record { name = name; kind = kind; expr = e }

abbrev shown : List ℕ → ColType → Item
shown name kind = item name kind (column name)

abbrev twice : Item
twice = item (codes "twice") type.Int doubled

-- SELECT these FROM this WHERE .. GROUP BY ..
abbrev select : List Item → Name → Option Expr → Bool → List Expr → Select
select items from filter grouped keys = record { distinct = false; grouped = grouped; items = items; from = record { join = join.First; rel = rel.Named from; on = None } ∷ []; filter = filter; keys = keys; having = None }

abbrev own : List ℕ → Kind → Option ℤ → List Decl → Select → Own
own model kind start sources s = record { name = shop model; kind = kind; cron = every_day; unit = unit.Day; start = start; sources = sources; defn = defn.Sql (record { ctes = []; selects = s ∷ [] }) }

-- a model by days from 2024-01-01 on, which is day 19,723, and the same with one column more
abbrev id_day_qty : List Item
id_day_qty = shown (codes "id") type.Int ∷ shown day type.Date ∷ shown qty type.Int ∷ []

abbrev daily_of : List Item → Own
daily_of items = own (codes "daily") (kind.Incremental day 0) (Some (pos 19_723)) (orders ∷ []) (select items orders.name (Some within) false [])

abbrev pub daily : Closure
daily = Model (daily_of id_day_qty) Alone

abbrev pub more_daily : Closure
more_daily = Model (daily_of (id_day_qty ++ twice ∷ [])) Alone

-- the model of three columns is well formed
pub daily_is_well : AreWell daily
unfolding is_select_seen select_sees
daily_is_well = well_over (own_of daily) Alone (simp (it_is_read, column_is_seen, within_is_seen) refl) tt

-- so is the one of four
pub more_daily_is_well : AreWell more_daily
unfolding is_select_seen select_sees
more_daily_is_well = well_over (own_of more_daily) Alone (simp (it_is_read, column_is_seen, within_is_seen, doubled_is_seen) refl) tt

-- the second only adds a column to the first
pub daily_adds : IsCompatible daily more_daily
daily_adds =
    let more : IsAdditive (own_of daily) (own_of more_daily) =
    record { ctes = []; select = select id_day_qty orders.name (Some within) false []; items = id_day_qty ++ twice ∷ []; plain = refl; was = refl; more = keep (keep (keep (skip no_more))); is = refl } in
    (inr more, tt)

they_differ : ¬ (own_of daily ≡ own_of more_daily)
they_differ e = let n : 3 ≡ 4 = ap (λ o. defn_items o.defn) e in absurd (omega (arith, n))

-- so its category is non-breaking, at any two fingerprints
pub daily_is_non_breaking : (f g : List ℕ) → ¬ (f ≡ g) → HasCategory (Some (at f daily)) (at g more_daily) NonBreaking
daily_is_non_breaking f g differ = (λ e. absurd (differ e), λ d. (they_differ, daily_adds))

-- the totals of each day stand on it, and read two of its columns
abbrev pub totals : Own
totals = own (codes "totals") kind.Full None [] (select (shown day type.Date ∷ item (codes "total") type.Int sum ∷ item (codes "n") type.Int number ∷ []) (shop (codes "daily")) None true (column day ∷ []))

-- they are well formed, before and after
pub totals_are_well : AreWell (over totals daily) × AreWell (over totals more_daily)
unfolding is_select_seen select_sees
totals_are_well = (
  well_over totals (With daily Alone) (simp (it_is_read, column_is_seen, sum_is_seen, number_is_seen) refl) (daily_is_well, tt),
  well_over totals (With more_daily Alone) (simp (it_is_read, column_is_seen, sum_is_seen, number_is_seen) refl) (more_daily_is_well, tt),
)

-- they are no one closure
pub totals_differ : ¬ (over totals daily ≡ over totals more_daily)
totals_differ e = let n : 3 ≡ 4 = ap above e in absurd (omega (arith, n))

-- nothing but a column was added above them, so that they have the category of what keeps its table
pub totals_are_indirect : (f g : List ℕ) → ¬ (f ≡ g) → HasCategory (Some (at f (over totals daily))) (at g (over totals more_daily)) IndirectNonBreaking
totals_are_indirect f g differ = (λ e. absurd (differ e), λ d. (refl, (inl refl, (refl, daily_adds, tt))))

-- so they are twins, by the law of tables that stay
pub totals_are_twins : (f g : List ℕ) → ¬ (f ≡ g) → IsTwin (over totals daily) (over totals more_daily)
totals_are_twins f g differ = staying_twins (at f (over totals daily)) (at g (over totals more_daily)) IndirectNonBreaking kind.Full (totals_are_indirect f g differ) refl totals_are_well.0 totals_are_well.1

-- a view of two columns, and a sum over the view
abbrev pub recent : Own
recent = own (codes "recent") kind.View None [] (select (shown day type.Date ∷ shown qty type.Int ∷ []) (shop (codes "daily")) None false [])

abbrev pub sums : Own
sums = own (codes "sums") kind.Full None [] (select (item (codes "s") type.Int sum ∷ []) (shop (codes "recent")) None true [])

-- the view is well formed, before and after
pub recent_is_well : AreWell (over recent daily) × AreWell (over recent more_daily)
unfolding is_select_seen select_sees
recent_is_well = (
  well_over recent (With daily Alone) (simp (it_is_read, column_is_seen) refl) (daily_is_well, tt),
  well_over recent (With more_daily Alone) (simp (it_is_read, column_is_seen) refl) (more_daily_is_well, tt),
)

-- so is the sum
pub sums_are_well : AreWell (over sums (over recent daily)) × AreWell (over sums (over recent more_daily))
unfolding is_select_seen select_sees
sums_are_well = (
  well_over sums (With (over recent daily) Alone) (simp (it_is_read, sum_is_seen) refl) (recent_is_well.0, tt),
  well_over sums (With (over recent more_daily) Alone) (simp (it_is_read, sum_is_seen) refl) (recent_is_well.1, tt),
)

-- nothing but a column was added above the view
pub recent_is_indirect : (f g : List ℕ) → ¬ (f ≡ g) → HasCategory (Some (at f (over recent daily))) (at g (over recent more_daily)) IndirectNonBreaking
recent_is_indirect f g differ = (λ e. absurd (differ e), λ d. (refl, (inl refl, (refl, daily_adds, tt))))

-- a view doesn't keep its object even so
pub recent_does_not_stay : stays IndirectNonBreaking recent.kind ≡ false
recent_does_not_stay = refl

-- and yet it is a twin, by the law of additions
pub recent_are_twins : IsTwin (over recent daily) (over recent more_daily)
recent_are_twins = well_twins (over recent daily) (over recent more_daily) (inl refl, (refl, daily_adds, tt)) refl recent_is_well.0 recent_is_well.1

-- the sum behind the view has the category of what keeps its table
pub sums_are_indirect : (f g : List ℕ) → ¬ (f ≡ g) → HasCategory (Some (at f (over sums (over recent daily)))) (at g (over sums (over recent more_daily))) IndirectNonBreaking
sums_are_indirect f g differ = (λ e. absurd (differ e), λ d. (refl, (inl refl, (refl, (inl refl, (refl, daily_adds, tt)), tt))))

-- so it is a twin, by the law of tables that stay
pub sums_are_twins : (f g : List ℕ) → ¬ (f ≡ g) → IsTwin (over sums (over recent daily)) (over sums (over recent more_daily))
sums_are_twins f g differ = staying_twins (at f (over sums (over recent daily))) (at g (over sums (over recent more_daily))) IndirectNonBreaking kind.Full (sums_are_indirect f g differ) refl sums_are_well.0 sums_are_well.1
