-- The units of a schedule that isn't too long lie in the days from the year 1 to the year 9999.
use Rattle.std.proofs.Common.{◌≡◌, ℕ, zero, suc, ◌+◌, ◌*◌, ◌/◌, ◌<◌, ◌≤◌, ℤ, pos, negsuc, ◌+ℤ◌, ◌*ℤ◌, ◌<ℤ◌, ◌≤ℤ◌, Bool, true, false, cond, nat_lt, List, [], ◌∷◌, ◌++◌, length, map, IsTrue, arith}
use Rattle.std.specs.List.{AllByRecursion, range_with_len}
use Rattle.std.specs.Int.{int_gap, int_min}
use Rattle.std.specs.declared.option.Option.{Option}
use Rattle.std.specs.declared.option.Option.TheVariants.{None, Some}
use Rattle.std.proofs.lemmas.Int.{ints}
use Rattle.std.proofs.lemmas.Bool.Decides.{nat_tests}
use Rattle.std.proofs.lemmas.List.Elements.{recursion_from_All}
use Rattle.mesh_base_values.specs.Crons.{is_cron}
use Rattle.mesh_base_values.specs.Kinds.{is_incremental}
use Rattle.mesh_base_values.specs.declared.times.Bounds.{Bounds}
use Rattle.mesh_base_values.specs.declared.times.Schedule.{Schedule}
use Rattle.mesh_base_values.specs.declared.times.Unit.{Unit as TimeUnit}
use Rattle.mesh_base_values.specs.declared.times.Unit.TheVariants.{Hour, Day}
use Rattle.mesh_time_days.specs.Moments.{IsMoment}
use Rattle.mesh_time.specs.Ranges.{unit_size, unit_at, unit_count, units}
use Rattle.mesh_time.proofs.Units.{unit_listed}
use Rattle.mesh_base.specs.declared.definitions.Own.{Own}
use Rattle.mesh_spec_model.specs.Closures.{Closure, Closures, Model, Alone, With, own_of, standing, ancestors}
use Rattle.mesh_spec_model.specs.Horizons.{Clock, HasCrons, Shows, floored, last_tick, least_of, horizon, horizon_under, horizons_from, horizons_of, with_horizon, schedule, units_from}
use Rattle.mesh_spec_model.proofs.Floors.{in_its_unit}
use Rattle.mesh_plan_due.specs.Long.{is_too_long}
use Rattle.mesh_plan_due.proofs.Ticks.{not_long_before, not_after}
use Rattle.mesh_plan_due.proofs.Units.{units_counted}

-- a second near enough to the moments
abbrev pub IsNear : ℤ → Type 0
IsNear s = (negsuc 399_999_999 ≤ℤ s) × (s ≤ℤ pos 253_402_300_799)

near_floor : (unit : TimeUnit) (t : ℤ) → negsuc 299_999_999 ≤ℤ t → t ≤ℤ pos 253_402_300_799 → IsNear (floored unit t)
near_floor unit t low high = at unit (in_its_unit unit t)
  where
    at : (u : TimeUnit) → (floored u t ≤ℤ t) × (t <ℤ (floored u t +ℤ pos (unit_size u))) → IsNear (floored u t)
    at Hour h = (omega (arith, ints, low, h.1), omega (arith, ints, high, h.0))
    at Day h = (omega (arith, ints, low, h.1), omega (arith, ints, high, h.0))

lesser_near : (x y : ℤ) → IsNear x → IsNear y → IsNear (int_min x y)
lesser_near x y a b = grind (arith, ints)

least_near : (t : ℤ) (ts : List ℤ) → IsNear t → AllByRecursion IsNear ts → IsNear (least_of t ts)
least_near t [] h hs = h
least_near t (x ∷ xs) h hs = least_near (int_min t x) xs (lesser_near t x h hs.0) hs.1

near_append : (xs ys : List ℤ) → AllByRecursion IsNear xs → AllByRecursion IsNear ys → AllByRecursion IsNear (xs ++ ys)
near_append [] ys h k = k
near_append (x ∷ xs) ys h k = (h.0, near_append xs ys h.1 k)

-- each of some closures has a cron that reading can give
abbrev Crons : List Closure → Type 0
Crons cs = AllByRecursion (λ s. IsTrue (is_cron (own_of s).cron)) cs

crons_left : (xs ys : List Closure) → Crons (xs ++ ys) → Crons xs
crons_left [] ys h = tt
crons_left (x ∷ xs) ys h = (h.0, crons_left xs ys h.1)

crons_right : (xs ys : List Closure) → Crons (xs ++ ys) → Crons ys
crons_right [] ys h = h
crons_right (x ∷ xs) ys h = crons_right xs ys h.1

module _ (t : ℤ) (is : IsMoment t) (clock : Clock) (shows : Shows clock t) where
  near_tick : (own : Own) → IsTrue (is_cron own.cron) → IsNear (last_tick clock own)
  near_tick own h =
      near_floor own.unit (clock own.cron) (not_long_before own.cron t (clock own.cron) (shows own.cron h) h is) (not_after own.cron t (clock own.cron) (shows own.cron h) is)

  near_under : (own : Own) (hs : List ℤ) → IsTrue (is_cron own.cron) → AllByRecursion IsNear hs → IsNear (horizon_under clock own hs)
  near_under own hs h ns = at (is_incremental own.kind)
    where
      at : (b : Bool) → IsNear (cond b (least_of (last_tick clock own) hs) (last_tick clock own))
      at true = least_near (last_tick clock own) hs (near_tick own h) ns
      at false = near_tick own h

  near_with : (own : Own) (hs : List ℤ) → IsTrue (is_cron own.cron) → AllByRecursion IsNear hs → AllByRecursion IsNear (with_horizon clock own hs)
  near_with own hs h ns = at (is_incremental own.kind)
    where
      at : (b : Bool) → AllByRecursion IsNear (cond b (horizon_under clock own hs ∷ hs) hs)
      at true = (near_under own hs h ns, ns)
      at false = ns

  mutual
    near_from : (c : Closure) → Crons (standing c) → AllByRecursion IsNear (horizons_from clock c)
    near_from (Model own parents) h = near_with own (horizons_of clock parents) h.0 (near_of parents h.1)

    near_of : (cs : Closures) → Crons (ancestors cs) → AllByRecursion IsNear (horizons_of clock cs)
    near_of Alone h = tt
    near_of (With c cs) h =
        near_append (horizons_from clock c) (horizons_of clock cs) (near_from c (crons_left (standing c) (ancestors cs) h)) (near_of cs (crons_right (standing c) (ancestors cs) h))

  near_horizon : (c : Closure) → Crons (standing c) → IsNear (horizon clock c)
  near_horizon (Model own parents) h = near_under own (horizons_of clock parents) h.0 (near_of parents h.1)

-- a unit begins below its end, and both lie in the days
pub record IsInDays (u : Bounds) : Type 0 where
  pub some_ : u.start <ℤ u.end
  pub low : negsuc 62_135_596_799 ≤ℤ u.start
  pub high : u.end ≤ℤ pos 253_402_300_799

module _ (s : Schedule) (near : IsNear s.end) (few : unit_count s ≤ 200_000) where
  start_low : (unit : TimeUnit) → (int_gap s.start s.end / unit_size unit) ≤ 200_000 → negsuc 62_135_596_799 ≤ℤ s.start
  start_low Hour h = grind (arith, ints)
  start_low Day h = grind (arith, ints)

  one_in_days : (k : ℕ) → k < unit_count s → IsInDays (unit_at s k)
  one_in_days k h = record {
    some_ = below s.unit;
    low = omega (arith, ints, start_low s.unit few);
    high = let l = (unit_listed s k).0 h in omega (arith, ints, l, near.1);
  }
    where
      below : (unit : TimeUnit) → (s.start +ℤ pos (k * unit_size unit)) <ℤ (s.start +ℤ pos ((k + 1) * unit_size unit))
      below Hour = omega (arith, ints)
      below Day = omega (arith, ints)

  from_in_days : (a n : ℕ) → a + n ≤ unit_count s → AllByRecursion IsInDays (map (unit_at s) (range_with_len a n))
  from_in_days a zero h = tt
  from_in_days a (suc n) h = (one_in_days a (omega (arith, h)), from_in_days (a + 1) n (omega (arith, h)))

  pub units_in_days : AllByRecursion IsInDays (units s)
  units_in_days = from_in_days 0 (unit_count s) (omega arith)

from_units_in_days : (start : Option ℤ) (unit : TimeUnit) (last : ℤ) → IsNear last → nat_lt 200_000 (length (units_from start unit last)) ≡ false → AllByRecursion IsInDays (units_from start unit last)
from_units_in_days None unit last near short = tt
from_units_in_days (Some day) unit last near short =
    let s : Schedule = record { start = day *ℤ pos 86_400; end = last; unit = unit } in
    let many = units_counted s in
    units_in_days s near (few (length (units s)) (unit_count s) many short)
  where
    few : (a b : ℕ) → a ≡ b → nat_lt 200_000 a ≡ false → b ≤ 200_000
    few a b e h = grind (arith, nat_tests)

-- the units of a schedule that isn't too long
pub schedule_in_days : (t : ℤ) → IsMoment t → (clock : Clock) → Shows clock t → (c : Closure) → HasCrons c → is_too_long clock c ≡ false → AllByRecursion IsInDays (schedule clock c)
schedule_in_days t is clock shows c crons short =
    from_units_in_days (own_of c).start (own_of c).unit (horizon clock c) (near_horizon t is clock shows c (recursion_from_All (λ s. IsTrue (is_cron (own_of s).cron)) (standing c) crons)) short
