-- Three models of which one by hours stands on one by days, and that on one by hours. Each is steady, there are no
-- sources, and yet an hour of the last gets other rows as time goes on: its day isn't computed yet while the first
-- model's horizon is within the day, but the horizon of the last model is there too. So evenness is asked.
use Rattle.std.proofs.Common.{◌≡◌, ℕ, ℤ, pos, ◌≤ℤ◌, Bool, true, false, cond, ◌&&◌, nat_eq, inl, List, [], ◌∷◌, ◌++◌, map, refl, sym, ap, ap₂, ◌∙◌, subst, arith}
use Rattle.std.specs.Prelude.{codes}
use Rattle.std.specs.List.{Contains, filter, flat_map}
use Rattle.std.specs.declared.option.Option.{Option}
use Rattle.std.specs.declared.option.Option.TheVariants.{None, Some}
use Rattle.std.specs.Int.Signed.{le_z}
use Rattle.std.proofs.lemmas.List.Elements.{All-nil}
use Rattle.mesh_base_values.specs.Bag.{IsSameBag, times}
use Rattle.mesh_base_values.specs.Crons.{CronSets}
use Rattle.mesh_base_values.specs.Picked.{cell_of}
use Rattle.mesh_base_values.specs.declared.kinds.Kind.TheVariants as kind
use Rattle.mesh_base_values.specs.declared.times.Bounds.{Bounds}
use Rattle.mesh_base_values.specs.declared.times.Unit.{Unit as TimeUnit}
use Rattle.mesh_base_values.specs.declared.times.Unit.TheVariants as unit
use Rattle.mesh_base_values.specs.declared.values.Cell.{Cell}
use Rattle.mesh_base_values.specs.declared.values.Cell.TheVariants as cell
use Rattle.mesh_base_values.specs.declared.values.ColType.TheVariants as type
use Rattle.mesh_base_values.specs.declared.values.Column.{Column}
use Rattle.mesh_base_values.specs.declared.values.Name.{Name}
use Rattle.mesh_base.specs.declared.definitions.Defn.TheVariants as defn
use Rattle.mesh_base.specs.declared.definitions.Own.{Own}
use Rattle.mesh_base.specs.declared.expressions.Expr.{Expr, map-Expr, out-roll-Expr, para-roll-Expr, roll-Expr}
use Rattle.mesh_base.specs.declared.expressions.Expr as expr
use Rattle.mesh_base.specs.declared.expressions.Expr.TheOpen.{Between, Col, Macro}
use Rattle.mesh_base.specs.declared.expressions.Var.{Var}
use Rattle.mesh_base.specs.declared.expressions.Var.TheVariants as var
use Rattle.mesh_base.specs.declared.jobs.Input.{Input}
use Rattle.mesh_base.specs.declared.queries.FromItem.{FromItem}
use Rattle.mesh_base.specs.declared.queries.Join.TheVariants as join
use Rattle.mesh_base.specs.declared.queries.Rel.TheVariants as rel
use Rattle.mesh_base.specs.declared.queries.Select.{Select}
use Rattle.mesh_base_values.specs.Kinds.{is_incremental}
use Rattle.mesh_base_values.proofs.Tests.{le_says}
use Rattle.mesh_spec_query.specs.Cells.{between, is_true}
use Rattle.mesh_spec_query.specs.Ev.{Ev, Seen, at_row, node_value, seen, valued}
use Rattle.mesh_spec_query.specs.Macros.{macro_value}
use Rattle.mesh_spec_query.specs.Sel.{partners, plain_rows, row_holds}
use Rattle.mesh_spec_query.proofs.Nodes.{Ev_out}
use Rattle.mesh_spec_model.specs.Closures.{Closure, Model, Alone, With, own_of, standing}
use Rattle.mesh_spec_model.specs.Horizons.{Clock, Shows, horizon, schedule}
use Rattle.mesh_spec_model.specs.Scratch.{is_of_unit, piece, piece_over, table_of}
use Rattle.mesh_spec_model.proofs.Clocks.{shown}
use Rattle.mesh_spec_model.proofs.Moments.{one_floor}
use Rattle.mesh_law_query.proofs.Has.{Has_to}
use Rattle.mesh_spec_changes.specs.steady.Arrives.{KeepsUnits, StaysStatic}
use Rattle.mesh_spec_changes.specs.steady.Even.{is_even}
use Rattle.mesh_spec_changes.specs.steady.Steady.{are_ends, are_ends_here, bounds, bounds_here, is_column, is_column_here, when_bounds}
use Rattle.mesh_law_steady.specs.Kept.{AreKept, IsKept}
use Rattle.mesh_law_steady.proofs.Both.{all_of}
use Rattle.mesh_law_steady.proofs.Ticks.{at_midnight, at_six, each_hour, hour_is_read, hour_later, hour_then, is_later, is_then, midnight_is_read, midnight_later, midnight_then, six_before, six_is_read, six_later}

abbrev pub name : List ℕ → Name
name model = record { schema = codes "s"; model = model }

abbrev pub t : List ℕ
t = codes "t"

abbrev t_alone : List Column
t_alone = record { name = t; kind = type.Int } ∷ []

-- SELECT this AS t
abbrev select : Expr → List FromItem → Option Expr → Select
select e from filter = record { distinct = false; grouped = false; items = record { name = t; kind = type.Int; expr = e } ∷ []; from = from; filter = filter; keys = []; having = None }

-- an incremental model from 1970-01-01 on
abbrev model : List ℕ → CronSets → TimeUnit → Select → Own
model its_name cron size select = record {
  name = name its_name;
  kind = kind.Incremental t 0;
  cron = cron;
  unit = size;
  start = Some (pos 0);
  sources = [];
  defn = defn.Sql (record { ctes = []; selects = select ∷ [] });
}

unfoldable pub start_epoch : Expr
start_epoch = expr.Macro var.StartEpoch

unfoldable pub column_t : Expr
column_t = expr.Col 0 t

unfoldable pub within : Expr
within = expr.Between (expr.Col 0 t) (expr.Macro var.StartEpoch) (expr.Macro var.EndEpoch)

-- SELECT @start_epoch AS t, at 06:00 of each day
abbrev pub first : Own
first = model (codes "a") at_six unit.Hour (select start_epoch [] None)

-- SELECT t FROM .. WHERE t BETWEEN @start_epoch AND @end_epoch
abbrev picking : List ℕ → Select
picking from = select column_t (record { join = join.First; rel = rel.Named (name from); on = None } ∷ []) (Some within)

abbrev pub second : Own
second = model (codes "b") at_midnight unit.Day (picking (codes "a"))

abbrev pub third : Own
third = model (codes "c") each_hour unit.Hour (picking (codes "b"))

abbrev pub hours : Closure
hours = Model first Alone

abbrev pub days : Closure
days = Model second (With hours Alone)

abbrev pub hours_again : Closure
hours_again = Model third (With days Alone)

-- a clock of these last ticks: at 06:00, at midnight, and each hour
abbrev of_ticks : ℤ → ℤ → ℤ → Clock
of_ticks six midnight hour cron = cond (nat_eq cron.hour 64) six (cond (nat_eq cron.hour 1) midnight hour)

-- on 1970-01-02 at midnight they are those of 06:00 the day before, and of midnight; six hours later those of 06:00, of
-- midnight, and of 06:00
abbrev then_ : Clock
then_ = of_ticks (pos 21_600) (pos 86_400) (pos 86_400)

abbrev now : Clock
now = of_ticks (pos 108_000) (pos 86_400) (pos 108_000)

-- the first hour of 1970-01-01
abbrev pub hour : Bounds
hour = record { start = pos 0; end = pos 3600 }

-- the values of the expressions
column_is : (u : Bounds) (row : Seen) → Ev (expr.Col 0 t) (at_row u row) ≡ row 0 t
unfolding roll-Expr denote.Hole.Carrier.roll
column_is u row = Ev_out (expr.Col 0 t) (at_row u row) ∙ ap (λ d. node_value (valued d) (at_row u row)) (out-roll-Expr (Col 0 t))

macro_is : (m : Var) (u : Bounds) (row : Seen) → Ev (expr.Macro m) (at_row u row) ≡ macro_value m u
unfolding roll-Expr denote.Hole.Carrier.roll
macro_is m u row = Ev_out (expr.Macro m) (at_row u row) ∙ ap (λ d. node_value (valued d) (at_row u row)) (out-roll-Expr (Macro m))

start_epoch_is : (u : Bounds) (row : Seen) → Ev start_epoch (at_row u row) ≡ cell.Int u.start
unfolding start_epoch
start_epoch_is u row = macro_is var.StartEpoch u row

column_t_is : (u : Bounds) (row : Seen) → Ev column_t (at_row u row) ≡ row 0 t
unfolding column_t
column_t_is u row = column_is u row

within_is : (u : Bounds) (row : Seen) → Ev within (at_row u row) ≡ between (row 0 t) (cell.Int u.start) (macro_value var.EndEpoch u)
unfolding within roll-Expr denote.Hole.Carrier.roll
within_is u row =
    Ev_out (expr.Between (expr.Col 0 t) (expr.Macro var.StartEpoch) (expr.Macro var.EndEpoch)) (at_row u row)
    ∙ ap (λ d. node_value (valued d) (at_row u row)) (out-roll-Expr (Between (expr.Col 0 t) (expr.Macro var.StartEpoch) (expr.Macro var.EndEpoch)))
    ∙ (λ i. between (column_is u row i) (macro_is var.StartEpoch u row i) (macro_is var.EndEpoch u row i))

-- the conjunct binds t
is_t : is_column 0 t (expr.Col 0 t) ≡ true
unfolding roll-Expr denote.Hole.Carrier.roll
is_t = ap (is_column_here 0 t) (out-roll-Expr (Col 0 t))

are_its_ends : are_ends (expr.Macro var.StartEpoch) (expr.Macro var.EndEpoch) ≡ true
unfolding roll-Expr denote.Hole.Carrier.roll
are_its_ends = ap₂ are_ends_here (out-roll-Expr (Macro var.StartEpoch)) (out-roll-Expr (Macro var.EndEpoch))

pub it_binds : bounds 0 t within ≡ true
unfolding within roll-Expr denote.Hole.Carrier.roll
it_binds = para-roll-Expr Bool Bool (bounds_here 0 t) when_bounds (Between (expr.Col 0 t) (expr.Macro var.StartEpoch) (expr.Macro var.EndEpoch)) ∙ ap₂ (λ a b. a && b) is_t are_its_ends

-- the rows of the first model for some units
abbrev start_row : Bounds → List (List Cell)
start_row u = (cell.Int u.start ∷ []) ∷ []

abbrev started : Bounds → List (List Cell)
started u = filter (is_of_unit first u) (start_row u)

first_piece : (sources : List Input) (u : Bounds) → piece_over first sources u ≡ started u
first_piece sources u = ap (λ c. filter (is_of_unit first u) ((c ∷ []) ∷ [])) (start_epoch_is u (seen [] []))

first_rows : (sources : List Input) (us : List Bounds) → flat_map (piece_over first sources) us ≡ flat_map started us
first_rows sources [] = refl
first_rows sources (u ∷ us) = λ i. first_piece sources u i ++ first_rows sources us i

-- what is picked of a table with these rows
abbrev Rows : Type 0
Rows = List (List Cell)

abbrev passes : Bounds → List Cell → Bool
passes u row = is_true (between (cell_of t_alone row t) (cell.Int u.start) (macro_value var.EndEpoch u))

abbrev picked : Bounds → Rows → Rows
picked u rows = map (λ row. cell_of t_alone row t ∷ []) (filter (passes u) rows)

abbrev columns : List (List Column)
columns = t_alone ∷ []

all_pick : (u : Bounds) (from : List ℕ) (rows : Rows) → plain_rows u columns (picking from) (filter (row_holds u columns (Some within)) (partners u columns None [] rows ++ [])) ≡ picked u rows
all_pick u from [] = refl
all_pick u from (row ∷ rows) = go (row_holds u columns (Some within) (row ∷ [])) (ap is_true (within_is u (seen columns (row ∷ [])))) (all_pick u from rows)
  where
    go : (b : Bool) → b ≡ passes u row → plain_rows u columns (picking from) (filter (row_holds u columns (Some within)) (partners u columns None [] rows ++ [])) ≡ picked u rows
        → plain_rows u columns (picking from) (cond b ((row ∷ []) ∷ filter (row_holds u columns (Some within)) (partners u columns None [] rows ++ [])) (filter (row_holds u columns (Some within)) (partners u columns None [] rows ++ [])))
        ≡ map (λ row. cell_of t_alone row t ∷ []) (cond (passes u row) (row ∷ filter (passes u) rows) (filter (passes u) rows))
    go true e ih = (λ i. (column_t_is u (seen columns (row ∷ [])) i ∷ []) ∷ ih i) ∙ ap (λ b. map (λ row. cell_of t_alone row t ∷ []) (cond b (row ∷ filter (passes u) rows) (filter (passes u) rows))) e
    go false e ih = ih ∙ ap (λ b. map (λ row. cell_of t_alone row t ∷ []) (cond b (row ∷ filter (passes u) rows) (filter (passes u) rows))) e

second_piece : (rows : Rows) (u : Bounds) → piece_over second (table_of first rows ∷ []) u ≡ filter (is_of_unit second u) (picked u rows ++ [])
second_piece rows u = ap (λ l. filter (is_of_unit second u) (l ++ [])) (all_pick u (codes "a") rows)

third_piece : (rows : Rows) (u : Bounds) → piece_over third (table_of second rows ∷ []) u ≡ filter (is_of_unit third u) (picked u rows ++ [])
third_piece rows u = ap (λ l. filter (is_of_unit third u) (l ++ [])) (all_pick u (codes "b") rows)

second_rows : (rows : Rows) (us : List Bounds) → flat_map (piece_over second (table_of first rows ∷ [])) us ≡ flat_map (λ u. filter (is_of_unit second u) (picked u rows ++ [])) us
second_rows rows [] = refl
second_rows rows (u ∷ us) = λ i. second_piece rows u i ++ second_rows rows us i

-- at midnight the day isn't computed yet, and the hour has no row
before_noon : piece [] then_ hours_again hour ≡ []
before_noon = refl

-- at six there is one
later_on : piece [] now hours_again hour ≡ (cell.Int (pos 0) ∷ []) ∷ []
later_on =
    ap (λ rows. piece_over third (table_of second (flat_map (piece_over second (table_of first rows ∷ [])) (schedule now days)) ∷ []) hour) (first_rows [] (schedule now hours))
    ∙ ap (λ rows. piece_over third (table_of second rows ∷ []) hour) (second_rows (flat_map started (schedule now hours)) (schedule now days))
    ∙ third_piece (flat_map (λ u. filter (is_of_unit second u) (picked u (flat_map started (schedule now hours)) ++ [])) (schedule now days)) hour

-- the second and the third model are steady as their conjunct binds t, but the third isn't even
pub bound_by : (b : Bool) → b ≡ true → ((b && true) && true) ≡ true
bound_by b e = ap (λ c. (c && true) && true) e

not_even : is_even hours_again ≡ false
not_even = refl

-- the last ticks of a clock that shows one of these moments
pub record HasTicks (clock : Clock) (six midnight hour : ℤ) : Type 0 where
  pub six_is : clock at_six ≡ six
  pub midnight_is : clock at_midnight ≡ midnight
  pub hour_is : clock each_hour ≡ hour

module _ (clock : Clock) (x y z : ℤ) (ticks : HasTicks clock x y z) where
  -- what is made of a clock by way of the three models
  by_ticks : {R : Type 0} (f : ℤ → ℤ → ℤ → R) → f (clock at_six) (clock at_midnight) (clock each_hour) ≡ f x y z
  by_ticks f = λ i. f (ticks.six_is i) (ticks.midnight_is i) (ticks.hour_is i)

  piece_is : piece [] clock hours_again hour ≡ piece [] (of_ticks x y z) hours_again hour
  piece_is = by_ticks (λ a b c. piece [] (of_ticks a b c) hours_again hour)

  units_are : schedule clock hours_again ≡ schedule (of_ticks x y z) hours_again
  units_are = by_ticks (λ a b c. schedule (of_ticks a b c) hours_again)

  hours_go : horizon clock hours ≡ horizon (of_ticks x y z) hours
  hours_go = by_ticks (λ a b c. horizon (of_ticks a b c) hours)

  days_go : horizon clock days ≡ horizon (of_ticks x y z) days
  days_go = by_ticks (λ a b c. horizon (of_ticks a b c) days)

  hours_again_go : horizon clock hours_again ≡ horizon (of_ticks x y z) hours_again
  hours_again_go = by_ticks (λ a b c. horizon (of_ticks a b c) hours_again)

grows : (a b : ℤ) {s t : ℤ} → a ≡ s → b ≡ t → le_z s t ≡ true → a ≤ℤ b
grows a b {s} {t} e f h = le_says a b (ap₂ le_z e f ∙ h)

module _ (clock later : Clock) (at_then : HasTicks clock (pos 21_600) (pos 86_400) (pos 86_400)) (at_now : HasTicks later (pos 108_000) (pos 86_400) (pos 108_000)) where
  lowest : IsKept [] [] clock later hours
  lowest = record {
    body = refl;
    steady = refl;
    static = All-nil (StaysStatic [] []);
    timed = λ timed. All-nil (KeepsUnits [] [] (schedule clock hours));
    no_earlier = grows (horizon clock hours) (horizon later hours) (hours_go clock (pos 21_600) (pos 86_400) (pos 86_400) at_then) (hours_go later (pos 108_000) (pos 86_400) (pos 108_000) at_now) refl;
  }

  middle : IsKept [] [] clock later days
  middle = record {
    body = refl;
    steady = bound_by (bounds 0 t within) it_binds;
    static = All-nil (StaysStatic [] []);
    timed = λ timed. All-nil (KeepsUnits [] [] (schedule clock days));
    no_earlier = grows (horizon clock days) (horizon later days) (days_go clock (pos 21_600) (pos 86_400) (pos 86_400) at_then) (days_go later (pos 108_000) (pos 86_400) (pos 108_000) at_now) refl;
  }

  highest : IsKept [] [] clock later hours_again
  highest = record {
    body = refl;
    steady = bound_by (bounds 0 t within) it_binds;
    static = All-nil (StaysStatic [] []);
    timed = λ timed. All-nil (KeepsUnits [] [] (schedule clock hours_again));
    no_earlier = grows (horizon clock hours_again) (horizon later hours_again) (hours_again_go clock (pos 21_600) (pos 86_400) (pos 86_400) at_then) (hours_again_go later (pos 108_000) (pos 86_400) (pos 108_000) at_now) refl;
  }

  all_kept : AreKept [] [] clock later hours_again
  all_kept = all_of (IsKept [] [] clock later) (standing hours_again) (highest, (middle, (lowest, tt)))

  pub first_hour : Contains (schedule clock hours_again) hour
  first_hour = subst (λ us. Contains us hour) (sym (units_are clock (pos 21_600) (pos 86_400) (pos 86_400) at_then)) (Has_to (schedule then_ hours_again) hour (inl refl))

  pub it_moves : ¬ IsSameBag (piece [] clock hours_again hour) (piece [] later hours_again hour)
  it_moves same =
      let row : List Cell = cell.Int (pos 0) ∷ [] in
      let was : piece [] clock hours_again hour ≡ [] = piece_is clock (pos 21_600) (pos 86_400) (pos 86_400) at_then ∙ before_noon in
      let is : piece [] later hours_again hour ≡ row ∷ [] = piece_is later (pos 108_000) (pos 86_400) (pos 108_000) at_now ∙ later_on in
      let clash : 0 ≡ 1 = sym (ap (times row) was) ∙ same row ∙ ap (times row) is in
      absurd (omega (arith, clash))

pub ticks_then : (clock : Clock) → Shows clock (pos 86_400) → HasTicks clock (pos 21_600) (pos 86_400) (pos 86_400)
ticks_then clock shows = record {
  six_is = one_floor at_six (pos 86_400) (clock at_six) (pos 21_600) (shows at_six six_is_read) six_before;
  midnight_is = one_floor at_midnight (pos 86_400) (clock at_midnight) (pos 86_400) (shows at_midnight midnight_is_read) midnight_then;
  hour_is = one_floor each_hour (pos 86_400) (clock each_hour) (pos 86_400) (shows each_hour hour_is_read) hour_then;
}

pub ticks_now : (clock : Clock) → Shows clock (pos 108_000) → HasTicks clock (pos 108_000) (pos 86_400) (pos 108_000)
ticks_now clock shows = record {
  six_is = one_floor at_six (pos 108_000) (clock at_six) (pos 108_000) (shows at_six six_is_read) six_later;
  midnight_is = one_floor at_midnight (pos 108_000) (clock at_midnight) (pos 86_400) (shows at_midnight midnight_is_read) midnight_later;
  hour_is = one_floor each_hour (pos 108_000) (clock each_hour) (pos 108_000) (shows each_hour hour_is_read) hour_later;
}

pub hours_over_days_over_hours_move :
    ¬ ((before after : List Input) (t u : ℤ) → t ≤ℤ u → (clock later : Clock) → Shows clock t → Shows later u → (c : Closure) → AreKept before after clock later c → is_incremental (own_of c).kind ≡ true
    → (v : Bounds) → Contains (schedule clock c) v → IsSameBag (piece before clock c v) (piece after later c v))
hours_over_days_over_hours_move law =
    let clock = shown (pos 86_400) is_then in
    let later = shown (pos 108_000) is_later in
    let at_then = ticks_then clock.0 clock.1 in
    let at_now = ticks_now later.0 later.1 in
    it_moves clock.0 later.0 at_then at_now
    (law [] [] (pos 86_400) (pos 108_000) (le_says (pos 86_400) (pos 108_000) refl) clock.0 later.0 clock.1 later.1 hours_again (all_kept clock.0 later.0 at_then at_now) refl hour (first_hour clock.0 later.0 at_then at_now))
