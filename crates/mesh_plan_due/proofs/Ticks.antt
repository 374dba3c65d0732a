-- The last tick of a cron is not long before the moment.
use Rattle.std.proofs.Common.{◌≡◌, ℕ, ◌+◌, ◌-◌, ◌/◌, ◌≤◌, ℤ, pos, negsuc, ◌≤ℤ◌, IsTrue, unsigned_abs, ap, arith, ◌∙◌}
use Rattle.std.proofs.lemmas.Int.{ints, by_lt_z}
use Rattle.jiff_core.proofs.SignedLemmas.{signed_arith, unsigned_abs-parts, one_part}
use Rattle.mesh_base_values.specs.Crons.{CronSets, is_cron}
use Rattle.mesh_time_days.specs.Moments.{IsMoment, moment, day_number}
use Rattle.mesh_time.specs.Ticks.{IsFloor, IsQuiet}
use Rattle.mesh_time.proofs.Meets.{never_quiet}
use Rattle.mesh_spec_model.proofs.Moments.{one_floor}
use Rattle.mesh_base.specs.declared.definitions.Own.{Own}
use Rattle.mesh_spec_model.specs.Horizons.{Clock, Shows, floored, last_tick}

-- a cron ticks in nine years
pub not_long_before : (c : CronSets) (t tick : ℤ) → IsFloor c t tick → IsTrue (is_cron c) → IsMoment t → negsuc 299_999_999 ≤ℤ tick
unfolding IsFloor IsQuiet moment day_number
not_long_before c t tick f h is =
    let n : ℕ = unsigned_abs t in
    let e : t ≡ pos n = omega (arith, signed_arith, unsigned_abs-parts t, one_part t, is.0) in
    let most : n ≤ 253_402_300_799 = omega (arith, signed_arith, is.1, e) in
    let day : ℕ = n / 86_400 + 719_162 in
    by_lt_z tick (moment (day - 3294) 0)
    (λ l. absurd (never_quiet c day (day - 3294) h (omega arith) (omega arith) (omega arith) (λ u low high k. f.2 u (omega (arith, ints)) (omega (arith, ints)) k)))
    (λ ge. omega (arith, ints))

pub not_after : (c : CronSets) (t tick : ℤ) → IsFloor c t tick → IsMoment t → tick ≤ℤ pos 253_402_300_799
unfolding IsFloor
not_after c t tick f is = omega (arith, ints, f.1, is.1)

pub its_last_tick : (clock : Clock) (own : Own) (t tick second : ℤ) → IsTrue (is_cron own.cron) → IsFloor own.cron t tick → second ≡ floored own.unit tick → Shows clock t → second ≡ last_tick clock own
its_last_tick clock own t tick second k f e s = e ∙ ap (floored own.unit) (one_floor own.cron t tick (clock own.cron) f (s own.cron k))
