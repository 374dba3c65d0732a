-- Last ticks of crons that fire at minute 0 of some hours of each day, worked out by hand: on the first days of 1970,
-- and on 2024-01-03.
use Rattle.std.proofs.Common.{◌≡◌, ◌≢◌, ℕ, ◌<◌, ◌==◌, not, ◌&&◌, IsTrue, pos, Bool, true, false, refl, ap, arith}
use Rattle.std.proofs.lemmas.Bool.{eqb-true}
use Rattle.jiff_core.specs.declared.civil.date.Date.{Date}
use Rattle.jiff_core.specs.Date.{epoch_day}
use Rattle.jiff_core.specs.Calendar.{days_from_civil, day_count, days_of_years, days_of_months, weekday_number}
use Rattle.jiff_core.proofs.SignedLemmas.{signed_arith}
use Rattle.mesh_base_values.specs.Crons.{CronSets, count_below, has, has_date, has_day, is_cron, is_set, some_below}
use Rattle.mesh_time_days.specs.Moments.{IsMoment, moment, day_number}
use Rattle.mesh_time.specs.Ticks.{date_matches, minute_matches, weekday, IsFloor, IsTickDay}
use Rattle.mesh_time.proofs.SetLaws.{some_from}
use Rattle.mesh_time.proofs.TickLaws.{floor_on, floor_over, is_day_number, moment_far, next_day, quiet_minutes, tick_day}

-- minute 0 of these hours of each day
abbrev pub at_hours : ℕ → CronSets
at_hours hours = record { minute = 1; hour = hours; dom = 0xffff_fffe; month = 0x1ffe; dow = 0x7f; dom_star = true; dow_star = true }

-- at 06:00, at midnight, and each hour
abbrev pub at_six : CronSets
at_six = at_hours 64

abbrev pub at_midnight : CronSets
at_midnight = at_hours 1

abbrev pub each_hour : CronSets
each_hour = at_hours 0xff_ffff

-- just one minute of each day
just : (c : CronSets) (m : ℕ) → some_below (λ k. minute_matches c k && not (k == m)) 1440 ≡ false → (k : ℕ) → k < 1440 → k ≢ m → minute_matches c k ≡ false
just c m none k short other = go (minute_matches c k) (k == m) refl refl
  where
    go : (a b : Bool) → minute_matches c k ≡ a → (k == m) ≡ b → minute_matches c k ≡ false
    go false b e f = e
    go true true e f = absurd (other (eqb-true k m f))
    go true false e f = let found = some_from (λ k. minute_matches c k && not (k == m)) 1440 k short (rw (e, f) refl) in absurd (cc)

only_six : some_below (λ k. minute_matches at_six k && not (k == 360)) 1440 ≡ false
unfolding some_below minute_matches has
only_six = refl

only_midnight : some_below (λ k. minute_matches at_midnight k && not (k == 0)) 1440 ≡ false
unfolding some_below minute_matches has
only_midnight = refl

at_360 : IsTrue (minute_matches at_six 360)
unfolding minute_matches has
at_360 = refl

at_0 : IsTrue (minute_matches at_midnight 0)
unfolding minute_matches has
at_0 = refl

hourly_at_0 : IsTrue (minute_matches each_hour 0)
unfolding minute_matches has
hourly_at_0 = refl

hourly_at_360 : IsTrue (minute_matches each_hour 360)
unfolding minute_matches has
hourly_at_360 = refl

-- days are counted from 0001-01-01: 1970-01-01 is day 719,162, and 2024-01-03 day 738,887
first_of_1970 : Date
first_of_1970 = record { year = pos 1970; month = 1; day = 1; year_in = (omega (arith, signed_arith), omega (arith, signed_arith)); month_in = (omega arith, omega arith); day_in = (omega arith, omega arith) }

second_of_1970 : Date
second_of_1970 = record { year = pos 1970; month = 1; day = 2; year_in = (omega (arith, signed_arith), omega (arith, signed_arith)); month_in = (omega arith, omega arith); day_in = (omega arith, omega arith) }

third_of_2024 : Date
third_of_2024 = record { year = pos 2024; month = 1; day = 3; year_in = (omega (arith, signed_arith), omega (arith, signed_arith)); month_in = (omega arith, omega arith); day_in = (omega arith, omega arith) }

first_number : epoch_day first_of_1970 ≡ pos 0
unfolding first_of_1970 days_from_civil day_count days_of_years days_of_months
first_number = refl

second_number : epoch_day second_of_1970 ≡ pos 1
unfolding second_of_1970 days_from_civil day_count days_of_years days_of_months
second_number = refl

third_number : epoch_day third_of_2024 ≡ pos 19_725
unfolding third_of_2024 days_from_civil day_count days_of_years days_of_months
third_number = refl

first_matches : (hours : ℕ) → date_matches (at_hours hours) first_of_1970 ≡ true
unfolding date_matches first_of_1970 has weekday_number
first_matches hours = ap (λ day. has 0x1ffe 1 && (has 0xffff_fffe 1 && has 0x7f (weekday day))) first_number

second_matches : (hours : ℕ) → date_matches (at_hours hours) second_of_1970 ≡ true
unfolding date_matches second_of_1970 has weekday_number
second_matches hours = ap (λ day. has 0x1ffe 1 && (has 0xffff_fffe 2 && has 0x7f (weekday day))) second_number

third_matches : (hours : ℕ) → date_matches (at_hours hours) third_of_2024 ≡ true
unfolding date_matches third_of_2024 has weekday_number
third_matches hours = ap (λ day. has 0x1ffe 1 && (has 0xffff_fffe 3 && has 0x7f (weekday day))) third_number

first_ticks : (hours : ℕ) → IsTickDay (at_hours hours) (day_number 719_162)
unfolding day_number
first_ticks hours = (tick_day (at_hours hours) (day_number 719_162) first_of_1970 (is_day_number 719_162 (omega arith)) first_number).0 (first_matches hours)

second_ticks : (hours : ℕ) → IsTickDay (at_hours hours) (day_number 719_163)
unfolding day_number
second_ticks hours = (tick_day (at_hours hours) (day_number 719_163) second_of_1970 (is_day_number 719_163 (omega arith)) second_number).0 (second_matches hours)

third_ticks : (hours : ℕ) → IsTickDay (at_hours hours) (day_number 738_887)
unfolding day_number
third_ticks hours = (tick_day (at_hours hours) (day_number 738_887) third_of_2024 (is_day_number 738_887 (omega arith)) third_number).0 (third_matches hours)

-- on 1970-01-02 at midnight the last 06:00 was the day before
six_the_day_before : IsFloor at_six (moment 719_163 0) (moment 719_162 21_600)
six_the_day_before =
    floor_over at_six (moment 719_162 86_399) (moment 719_163 0) (moment 719_163 0) (moment 719_162 21_600)
    (floor_on at_six 719_162 86_399 360 (omega arith) (first_ticks 64) at_360 (omega arith) (λ n above below. just at_six 360 only_six n (omega arith) (λ e. omega (arith, e))))
    (quiet_minutes at_six 719_163 0 (omega arith) (λ n below. just at_six 360 only_six n (omega arith) (λ e. omega (arith, e))))
    (next_day 719_162 719_163 refl) (moment_far 719_162 719_163 86_399 0 (omega arith) (omega arith))

pub six_before : IsFloor at_six (pos 86_400) (pos 21_600)
unfolding moment day_number
six_before = six_the_day_before

midnight_itself : IsFloor at_midnight (moment 719_163 0) (moment 719_163 0)
midnight_itself = floor_on at_midnight 719_163 0 0 (omega arith) (second_ticks 1) at_0 (omega arith) (λ n above below. absurd (omega arith))

pub midnight_then : IsFloor at_midnight (pos 86_400) (pos 86_400)
unfolding moment day_number
midnight_then = midnight_itself

hour_itself : IsFloor each_hour (moment 719_163 0) (moment 719_163 0)
hour_itself = floor_on each_hour 719_163 0 0 (omega arith) (second_ticks 0xff_ffff) hourly_at_0 (omega arith) (λ n above below. absurd (omega arith))

pub hour_then : IsFloor each_hour (pos 86_400) (pos 86_400)
unfolding moment day_number
hour_then = hour_itself

-- and six hours later all but the last midnight are then
six_itself : IsFloor at_six (moment 719_163 21_600) (moment 719_163 21_600)
six_itself = floor_on at_six 719_163 21_600 360 (omega arith) (second_ticks 64) at_360 (omega arith) (λ n above below. absurd (omega arith))

pub six_later : IsFloor at_six (pos 108_000) (pos 108_000)
unfolding moment day_number
six_later = six_itself

midnight_before : IsFloor at_midnight (moment 719_163 21_600) (moment 719_163 0)
midnight_before = floor_on at_midnight 719_163 21_600 0 (omega arith) (second_ticks 1) at_0 (omega arith) (λ n above below. just at_midnight 0 only_midnight n (omega arith) (λ e. omega (arith, e)))

pub midnight_later : IsFloor at_midnight (pos 108_000) (pos 86_400)
unfolding moment day_number
midnight_later = midnight_before

six_hourly : IsFloor each_hour (moment 719_163 21_600) (moment 719_163 21_600)
six_hourly = floor_on each_hour 719_163 21_600 360 (omega arith) (second_ticks 0xff_ffff) hourly_at_360 (omega arith) (λ n above below. absurd (omega arith))

pub hour_later : IsFloor each_hour (pos 108_000) (pos 108_000)
unfolding moment day_number
hour_later = six_hourly

-- on 2024-01-03 at midnight the last midnight is then
in_2024 : IsFloor at_midnight (moment 738_887 0) (moment 738_887 0)
in_2024 = floor_on at_midnight 738_887 0 0 (omega arith) (third_ticks 1) at_0 (omega arith) (λ n above below. absurd (omega arith))

pub midnight_in_2024 : IsFloor at_midnight (pos 1_704_240_000) (pos 1_704_240_000)
unfolding moment day_number
midnight_in_2024 = in_2024

-- they are crons that reading can give, at moments of the calendar
pub six_is_read : IsTrue (is_cron at_six)
unfolding is_cron is_set some_below has count_below has_date has_day
six_is_read = refl

pub midnight_is_read : IsTrue (is_cron at_midnight)
unfolding is_cron is_set some_below has count_below has_date has_day
midnight_is_read = refl

pub hour_is_read : IsTrue (is_cron each_hour)
unfolding is_cron is_set some_below has count_below has_date has_day
hour_is_read = refl

pub is_then : IsMoment (pos 86_400)
is_then = (omega (arith, signed_arith), omega (arith, signed_arith))

pub is_later : IsMoment (pos 108_000)
is_later = (omega (arith, signed_arith), omega (arith, signed_arith))
