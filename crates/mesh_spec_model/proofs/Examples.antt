-- Small models and what they have, worked out by hand.
use Rattle.std.proofs.Common.{◌≡◌, ◌≢◌, ℕ, ◌*◌, ◌^◌, ◌<◌, ◌==◌, not, ◌&&◌, IsTrue, arith, ℤ, pos, Bool, true, false, cond, List, [], ◌∷◌, map, length, refl, ap, ◌∙◌}
use Rattle.std.specs.Prelude.{codes}
use Rattle.std.specs.declared.option.Option.TheVariants.{None, Some}
use Rattle.std.specs.List.{position}
use Rattle.std.proofs.lemmas.Bool.{eqb-true}
use Rattle.std.specs.Ordering.{is_eq, is_lt}
use Rattle.mesh_base_values.specs.declared.values.Cell.{Cell}
use Rattle.mesh_base_values.specs.declared.values.Cell.TheVariants as cell
use Rattle.mesh_base_values.specs.declared.values.ColType.TheVariants as type
use Rattle.mesh_base_values.specs.declared.values.Column.{Column}
use Rattle.mesh_base_values.specs.declared.values.Name.{Name}
use Rattle.mesh_base_values.specs.declared.times.Bounds.{Bounds}
use Rattle.mesh_base_values.specs.declared.times.Unit.TheVariants as unit
use Rattle.mesh_base.specs.declared.definitions.Decl.{Decl}
use Rattle.mesh_base.specs.declared.definitions.Defn.TheVariants as defn
use Rattle.mesh_base_values.specs.declared.kinds.Kind.TheVariants as kind
use Rattle.mesh_base.specs.declared.definitions.Own.{Own}
use Rattle.mesh_base.specs.declared.expressions.Expr.{Expr, roll-Expr, out-roll-Expr}
use Rattle.mesh_base.specs.declared.expressions.Expr as expr
use Rattle.mesh_base.specs.declared.expressions.Expr.TheOpen.{Literal, Col, Binary, Between, Macro}
use Rattle.mesh_base.specs.declared.expressions.Op.TheVariants as op
use Rattle.mesh_base.specs.declared.expressions.AggKind.TheVariants as agg
use Rattle.mesh_base.specs.declared.expressions.Var.{Var}
use Rattle.mesh_base.specs.declared.expressions.Var.TheVariants as var
use Rattle.mesh_base.specs.declared.jobs.Input.{Input}
use Rattle.mesh_base.specs.declared.queries.Query.{Query}
use Rattle.mesh_base.specs.declared.queries.Rel.TheVariants as rel
use Rattle.mesh_base.specs.declared.queries.Join.TheVariants as join
use Rattle.jiff_core.specs.declared.civil.date.Date.{Date}
use Rattle.jiff_core.specs.Date.{epoch_day}
use Rattle.jiff_core.specs.Calendar.{days_from_civil, day_count, days_of_years, days_of_months, weekday_number}
use Rattle.jiff_core.proofs.SignedLemmas.{signed_arith}
use Rattle.mesh_base_values.specs.Crons.{CronSets, count_below, has, has_date, has_day, is_cron, is_set, some_below}
use Rattle.mesh_time_days.specs.Moments.{moment, day_number}
use Rattle.mesh_time.specs.Ticks.{date_matches, minute_matches, weekday, IsFloor, IsTickDay}
use Rattle.mesh_time.proofs.SetLaws.{some_from}
use Rattle.mesh_time.proofs.TickLaws.{floor_on, floor_over, is_day_number, moment_far, next_day, quiet_minutes, tick_day}
use Rattle.mesh_spec_query.specs.Cells.{compared, between}
use Rattle.mesh_spec_query.specs.Macros.{macro_value}
use Rattle.mesh_spec_query.specs.Ev.{Ev, Ev_node, Seen, Scope, at_row, key_or, same_expr, over_group, node_value, valued}
use Rattle.mesh_spec_query.proofs.Nodes.{Ev_out, Ev_agg}
use Rattle.mesh_spec_query.specs.Aggregates.{agg_value}
use Rattle.mesh_spec_model.specs.Closures.{Closure, Model, Alone, With}
use Rattle.mesh_spec_model.specs.Horizons.{Clock, Shows, floored, horizon, last_tick, schedule}
use Rattle.mesh_spec_model.specs.Sources.{declared}
use Rattle.mesh_time_days.specs.seconds.Times.{lies_in}
use Rattle.mesh_spec_model.specs.Scratch.{from_scratch}
use Rattle.mesh_spec_model.proofs.Moments.{one_floor}
use Rattle.mesh_spec_model.proofs.Rows.{full_over_seed, incrementals}

-- a weekly model, and a daily one over it
abbrev midnight : Bool → CronSets
midnight each_day = record { minute = 1; hour = 1; dom = 0xffff_fffe; month = 0x1ffe; dow = cond each_day 0x7f 1; dom_star = true; dow_star = each_day }

abbrev model : List ℕ → Bool → ℤ → Own
model name each_day start = record {
  name = record { schema = codes "a"; model = name };
  kind = kind.Incremental (codes "t") 0;
  cron = midnight each_day;
  unit = unit.Day;
  start = Some start;
  sources = [];
  defn = defn.Sql (record { ctes = []; selects = [] });
}

-- from 2024-02-25 on
abbrev weekly : Closure
weekly = Model (model (codes "w") false (pos 19_778)) Alone

-- from 2024-03-01 on
abbrev daily : Closure
daily = Model (model (codes "d") true (pos 19_783)) (With weekly Alone)

-- on 2024-03-05 the last Sunday was 2024-03-03
abbrev on_tuesday : Clock
on_tuesday cron = pos (cond cron.dow_star 19_787 19_785 * 86_400)

weekly_horizon : horizon on_tuesday weekly ≡ pos (19_785 * 86_400)
weekly_horizon = refl

daily_horizon : horizon on_tuesday daily ≡ pos (19_785 * 86_400)
daily_horizon = refl

weekly_units : length (schedule on_tuesday weekly) ≡ 7
weekly_units = refl

daily_units : length (schedule on_tuesday daily) ≡ 2
daily_units = refl

-- 30 6 * * *
abbrev half_past_six : CronSets
half_past_six = record { minute = 2 ^ 30; hour = 2 ^ 6; dom = 0xffff_fffe; month = 0x1ffe; dow = 0x7f; dom_star = true; dow_star = true }

its_only_minute : some_below (λ k. minute_matches half_past_six k && not (k == 390)) 1440 ≡ false
unfolding some_below minute_matches has
its_only_minute = refl

no_other_minute : (k : ℕ) → k < 1440 → k ≢ 390 → minute_matches half_past_six k ≡ false
no_other_minute k short other = go (minute_matches half_past_six k) (k == 390) refl refl
  where
    go : (b c : Bool) → minute_matches half_past_six k ≡ b → (k == 390) ≡ c → minute_matches half_past_six k ≡ false
    go false c e f = e
    go true true e f = absurd (other (eqb-true k 390 f))
    go true false e f = let found = some_from (λ k. minute_matches half_past_six k && not (k == 390)) 1440 k short (rw (e, f) refl) in let none = its_only_minute in absurd (cc)

-- days are counted from 0001-01-01: 2024-01-03 is day 738,887
third_of_january : Date
third_of_january = record { year = pos 2024; month = 1; day = 3; year_in = (omega (arith, signed_arith), omega (arith, signed_arith)); month_in = (omega arith, omega arith); day_in = (omega arith, omega arith) }

its_number : epoch_day third_of_january ≡ pos 19_725
unfolding third_of_january days_from_civil day_count days_of_years days_of_months
its_number = refl

it_matches : date_matches half_past_six third_of_january ≡ true
unfolding date_matches third_of_january has weekday_number
it_matches = ap (λ day. has 0x1ffe 1 && (has 0xffff_fffe 3 && has 0x7f (weekday day))) its_number

it_has_a_tick : IsTickDay half_past_six (day_number 738_887)
unfolding day_number
it_has_a_tick = (tick_day half_past_six (day_number 738_887) third_of_january (is_day_number 738_887 (omega arith)) its_number).0 it_matches

its_minute : IsTrue (minute_matches half_past_six 390)
unfolding minute_matches has
its_minute = refl

it_can_be_read : IsTrue (is_cron half_past_six)
unfolding is_cron is_set some_below has count_below has_date has_day
it_can_be_read = refl

-- on 2024-01-04 at 05:00 the last tick was on 2024-01-03 at 06:30
the_day_before : IsFloor half_past_six (moment 738_888 18_000) (moment 738_887 23_400)
the_day_before =
    floor_over half_past_six (moment 738_887 86_399) (moment 738_888 0) (moment 738_888 18_000) (moment 738_887 23_400)
    (floor_on half_past_six 738_887 86_399 390 (omega arith) it_has_a_tick its_minute (omega arith) (λ n above below. no_other_minute n (omega arith) (λ e. omega (arith, e))))
    (quiet_minutes half_past_six 738_888 18_000 (omega arith) (λ n below. no_other_minute n (omega arith) (λ e. omega (arith, e))))
    (next_day 738_887 738_888 refl) (moment_far 738_887 738_888 86_399 18_000 (omega arith) (omega arith))

in_seconds : IsFloor half_past_six (pos 1_704_344_400) (pos 1_704_263_400)
unfolding moment day_number
in_seconds = the_day_before

-- a model by days has the last tick 2024-01-03T00:00 then, whichever clock it is
by_days : (clock : Clock) → Shows clock (pos 1_704_344_400) → last_tick clock (record (model (codes "m") true (pos 19_723)) { cron = half_past_six }) ≡ pos 1_704_240_000
by_days clock shows = ap (floored unit.Day) (one_floor half_past_six (pos 1_704_344_400) (clock half_past_six) (pos 1_704_263_400) (shows half_past_six it_can_be_read) in_seconds)

-- a source with more columns than are declared, in another order
abbrev orders : List ℕ → Decl
orders column = record {
  name = record { schema = codes "raw"; model = codes "orders" };
  columns = record { name = codes "id"; kind = type.Int } ∷ record { name = column; kind = type.Int } ∷ [];
  time = None;
}

abbrev loaded : List Input
loaded =
    record {
      name = record { schema = codes "raw"; model = codes "orders" };
      columns = record { name = codes "qty"; kind = type.Int } ∷ record { name = codes "note"; kind = type.Text } ∷ record { name = codes "id"; kind = type.Int } ∷ [];
      rows = (cell.Int (pos 5) ∷ cell.Null ∷ cell.Int (pos 1) ∷ []) ∷ (cell.Null ∷ cell.Text (codes "x") ∷ cell.Int (pos 2) ∷ []) ∷ [];
    } ∷ []

cut_as_declared : (declared loaded (orders (codes "qty"))).rows ≡ (cell.Int (pos 1) ∷ cell.Int (pos 5) ∷ []) ∷ (cell.Int (pos 2) ∷ cell.Null ∷ []) ∷ []
cut_as_declared = refl

-- `note` is there with another type, `price` isn't there, and without a load there is no source
of_another_type : (declared loaded (orders (codes "note"))).rows ≡ []
of_another_type = refl

without_a_column : (declared loaded (orders (codes "price"))).rows ≡ []
without_a_column = refl

not_loaded : (declared [] (orders (codes "qty"))).rows ≡ []
not_loaded = refl

-- a row at the start of a unit lies in it, one at its end doesn't, and one without a time doesn't
abbrev stamped : Cell → List Cell
stamped t = cell.Null ∷ t ∷ []

abbrev lies : Cell → Bool
lies t = lies_in (record { name = codes "id"; kind = type.Int } ∷ record { name = codes "t"; kind = type.Int } ∷ []) (codes "t") (record { start = pos 86_400; end = pos 172_800 }) (stamped t)

at_its_start : lies (cell.Int (pos 86_400)) ≡ true
at_its_start = refl

at_its_last_second : lies (cell.Int (pos 172_799)) ≡ true
at_its_last_second = refl

at_its_end : lies (cell.Int (pos 172_800)) ≡ false
at_its_end = refl

on_its_day : lies (cell.Date (pos 1)) ≡ true
on_its_day = refl

on_the_next_day : lies (cell.Date (pos 2)) ≡ false
on_the_next_day = refl

without_a_time : lies cell.Null ≡ false
without_a_time = refl

of_truth_value : lies (cell.Bool true) ≡ false
of_truth_value = refl

-- a seed, and a FULL model that joins it to itself on a column with NULLs
abbrev k : List ℕ
k = codes "k"

abbrev v : List ℕ
v = codes "v"

abbrev seed_name : Name
seed_name = record { schema = codes "a"; model = codes "s" }

abbrev seed_columns : List Column
seed_columns = record { name = k; kind = type.Text } ∷ record { name = v; kind = type.Int } ∷ []

abbrev seed_rows : List (List Cell)
seed_rows = (cell.Null ∷ cell.Int (pos 9_223_372_036_854_775_807) ∷ []) ∷ (cell.Null ∷ cell.Int (pos 1) ∷ []) ∷ (cell.Text (codes "b") ∷ cell.Int (pos 2) ∷ []) ∷ []

abbrev seed : Own
seed = record { name = seed_name; kind = kind.Seed; cron = midnight true; unit = unit.Day; start = None; sources = []; defn = defn.Seed seed_columns seed_rows }

same_key : Expr
same_key = expr.Binary op.Eq (expr.Col 0 k) (expr.Col 1 k)

left_key : Expr
left_key = expr.Col 0 k

right_value : Expr
right_value = expr.Col 1 v

-- SELECT x.k, y.v FROM a.s AS x LEFT JOIN a.s AS y ON x.k = y.k
abbrev self_join : Query
self_join = record {
  ctes = [];
  selects = record {
    distinct = false;
    grouped = false;
    items = record { name = k; kind = type.Text; expr = left_key } ∷ record { name = v; kind = type.Int; expr = right_value } ∷ [];
    from = record { join = join.First; rel = rel.Named seed_name; on = None } ∷ record { join = join.Left; rel = rel.Named seed_name; on = Some same_key } ∷ [];
    filter = None;
    keys = [];
    having = None;
  } ∷ [];
}

abbrev joined : Own
joined = record { name = record { schema = codes "a"; model = codes "j" }; kind = kind.Full; cron = midnight true; unit = unit.Day; start = None; sources = []; defn = defn.Sql self_join }

column_is : (item : ℕ) (name : List ℕ) (u : Bounds) (row : Seen) → Ev (expr.Col item name) (at_row u row) ≡ row item name
unfolding roll-Expr denote.Hole.Carrier.roll
column_is item name u row = Ev_out (expr.Col item name) (at_row u row) ∙ ap (λ d. node_value (valued d) (at_row u row)) (out-roll-Expr (Col item name))

left_key_is : (u : Bounds) (row : Seen) → Ev left_key (at_row u row) ≡ row 0 k
unfolding left_key
left_key_is u row = column_is 0 k u row

right_value_is : (u : Bounds) (row : Seen) → Ev right_value (at_row u row) ≡ row 1 v
unfolding right_value
right_value_is u row = column_is 1 v u row

same_key_is : (u : Bounds) (row : Seen) → Ev same_key (at_row u row) ≡ compared is_eq (row 0 k) (row 1 k)
unfolding same_key roll-Expr denote.Hole.Carrier.roll
same_key_is u row =
    Ev_out (expr.Binary op.Eq (expr.Col 0 k) (expr.Col 1 k)) (at_row u row)
    ∙ ap (λ d. node_value (valued d) (at_row u row)) (out-roll-Expr (Binary op.Eq (expr.Col 0 k) (expr.Col 1 k)))
    ∙ (λ i. compared is_eq (column_is 0 k u row i) (column_is 1 k u row i))

-- NULL pairs with nothing: the two rows without a key stand once each, with NULLs beside them
joined_rows : (sources : List Input) (clock : Clock) → from_scratch sources clock (Model joined (With (Model seed Alone) Alone)) ≡ (cell.Null ∷ cell.Null ∷ []) ∷ (cell.Null ∷ cell.Null ∷ []) ∷ (cell.Text (codes "b") ∷ cell.Int (pos 2) ∷ []) ∷ []
joined_rows sources clock =
    full_over_seed sources clock joined seed self_join seed_columns seed_rows refl refl refl refl refl
    ∙ simp (same_key_is, left_key_is, right_value_is) refl

-- an incremental model over a source
abbrev day : List ℕ
day = codes "day"

abbrev orders_columns : List Column
orders_columns = record { name = codes "id"; kind = type.Int } ∷ record { name = day; kind = type.Date } ∷ []

abbrev order : ℕ → ℕ → List Cell
order id on = cell.Int (pos id) ∷ cell.Date (pos on) ∷ []

-- 2024-01-01 is day 19,723
abbrev dated : List Input
dated = record { name = record { schema = codes "raw"; model = codes "orders" }; columns = orders_columns; rows = order 1 19_723 ∷ order 2 19_723 ∷ order 3 19_724 ∷ order 4 19_725 ∷ [] } ∷ []

within : Expr
within = expr.Between (expr.Col 0 day) (expr.Macro var.StartDate) (expr.Macro var.EndDate)

its_id : Expr
its_id = expr.Col 0 (codes "id")

its_day : Expr
its_day = expr.Col 0 day

-- SELECT id, day FROM raw.orders WHERE day BETWEEN @start_date AND @end_date
abbrev of_the_unit : Query
of_the_unit = record {
  ctes = [];
  selects = record {
    distinct = false;
    grouped = false;
    items = record { name = codes "id"; kind = type.Int; expr = its_id } ∷ record { name = day; kind = type.Date; expr = its_day } ∷ [];
    from = record { join = join.First; rel = rel.Named (record { schema = codes "raw"; model = codes "orders" }); on = None } ∷ [];
    filter = Some within;
    keys = [];
    having = None;
  } ∷ [];
}

-- from 2024-01-01 on
abbrev by_day : Own
by_day = record {
  name = record { schema = codes "shop"; model = codes "daily" };
  kind = kind.Incremental day 0;
  cron = midnight true;
  unit = unit.Day;
  start = Some (pos 19_723);
  sources = record { name = record { schema = codes "raw"; model = codes "orders" }; columns = orders_columns; time = Some day } ∷ [];
  defn = defn.Sql of_the_unit;
}

its_id_is : (u : Bounds) (row : Seen) → Ev its_id (at_row u row) ≡ row 0 (codes "id")
unfolding its_id
its_id_is u row = column_is 0 (codes "id") u row

its_day_is : (u : Bounds) (row : Seen) → Ev its_day (at_row u row) ≡ row 0 day
unfolding its_day
its_day_is u row = column_is 0 day u row

macro_is : (m : Var) (u : Bounds) (row : Seen) → Ev (expr.Macro m) (at_row u row) ≡ macro_value m u
unfolding roll-Expr denote.Hole.Carrier.roll
macro_is m u row = Ev_out (expr.Macro m) (at_row u row) ∙ ap (λ d. node_value (valued d) (at_row u row)) (out-roll-Expr (Macro m))

within_is : (u : Bounds) (row : Seen) → Ev within (at_row u row) ≡ between (row 0 day) (macro_value var.StartDate u) (macro_value var.EndDate u)
unfolding within roll-Expr denote.Hole.Carrier.roll
within_is u row =
    Ev_out (expr.Between (expr.Col 0 day) (expr.Macro var.StartDate) (expr.Macro var.EndDate)) (at_row u row)
    ∙ ap (λ d. node_value (valued d) (at_row u row)) (out-roll-Expr (Between (expr.Col 0 day) (expr.Macro var.StartDate) (expr.Macro var.EndDate)))
    ∙ (λ i. between (column_is 0 day u row i) (macro_is var.StartDate u row i) (macro_is var.EndDate u row i))

-- on 2024-01-03 the third day isn't over, so its order isn't there yet
on_wednesday : from_scratch dated (λ cron. pos (19_725 * 86_400)) (Model by_day Alone) ≡ order 1 19_723 ∷ order 2 19_723 ∷ order 3 19_724 ∷ []
on_wednesday =
    incrementals dated (λ cron. pos (19_725 * 86_400)) by_day Alone day refl
    ∙ simp (within_is, its_id_is, its_day_is) refl

-- a sum of no rows
below_zero : Expr
below_zero = expr.Binary op.Lt (expr.Col 0 v) (expr.Literal (cell.Int (pos 0)))

sum_of_v : Expr
sum_of_v = expr.Agg agg.Sum (expr.Col 0 v)

-- SELECT SUM(v) AS s FROM a.s WHERE v < 0
abbrev nothing_to_add : Query
nothing_to_add = record {
  ctes = [];
  selects = record {
    distinct = false;
    grouped = true;
    items = record { name = codes "s"; kind = type.Int; expr = sum_of_v } ∷ [];
    from = record { join = join.First; rel = rel.Named seed_name; on = None } ∷ [];
    filter = Some below_zero;
    keys = [];
    having = None;
  } ∷ [];
}

abbrev summed : Own
summed = record { name = record { schema = codes "a"; model = codes "t" }; kind = kind.Full; cron = midnight true; unit = unit.Day; start = None; sources = []; defn = defn.Sql nothing_to_add }

literal_is : (c : Cell) (u : Bounds) (row : Seen) → Ev (expr.Literal c) (at_row u row) ≡ c
unfolding roll-Expr denote.Hole.Carrier.roll
literal_is c u row = Ev_out (expr.Literal c) (at_row u row) ∙ ap (λ d. node_value (valued d) (at_row u row)) (out-roll-Expr (Literal c))

below_zero_is : (u : Bounds) (row : Seen) → Ev below_zero (at_row u row) ≡ compared is_lt (row 0 v) (cell.Int (pos 0))
unfolding below_zero roll-Expr denote.Hole.Carrier.roll
below_zero_is u row =
    Ev_out (expr.Binary op.Lt (expr.Col 0 v) (expr.Literal (cell.Int (pos 0)))) (at_row u row)
    ∙ ap (λ d. node_value (valued d) (at_row u row)) (out-roll-Expr (Binary op.Lt (expr.Col 0 v) (expr.Literal (cell.Int (pos 0)))))
    ∙ (λ i. compared is_lt (column_is 0 v u row i) (literal_is (cell.Int (pos 0)) u row i))

sum_of_v_is : (s : Scope) → s.keys ≡ [] → s.group ≡ Some [] → Ev sum_of_v s ≡ cell.Null
unfolding sum_of_v
sum_of_v_is s none empty =
    Ev_out (expr.Agg agg.Sum (expr.Col 0 v)) s
    ∙ ap (λ keys. key_or s (position (λ key. same_expr key (expr.Agg agg.Sum (expr.Col 0 v))) keys) (Ev_node (expr.Agg agg.Sum (expr.Col 0 v)) s)) none
    ∙ Ev_agg agg.Sum (expr.Col 0 v) s
    ∙ ap (over_group (λ rows. agg_value agg.Sum (map (λ row. Ev (expr.Col 0 v) (at_row s.bounds row)) rows))) empty

-- without keys there is one group, also where no row is left
sum_of_nothing : (sources : List Input) (clock : Clock) → from_scratch sources clock (Model summed (With (Model seed Alone) Alone)) ≡ (cell.Null ∷ []) ∷ []
sum_of_nothing sources clock =
    full_over_seed sources clock summed seed nothing_to_add seed_columns seed_rows refl refl refl refl refl
    ∙ simp below_zero_is (ap (λ c. (c ∷ []) ∷ []) (sum_of_v_is _ refl refl))
