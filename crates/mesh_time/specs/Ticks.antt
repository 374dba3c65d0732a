-- The ticks of a cron, by the rules of POSIX crontab, for every whole number of seconds since 1970-01-01T00:00:00.
use Rattle.std.specs.Prelude.{◌≡◌, ℕ, ◌+◌, ◌/◌, ◌%◌, Bool, ◌&&◌, ◌||◌, if◌then◌else◌, IsTrue, ℤ, pos, negsuc, ◌+ℤ◌, ◌-ℤ◌, ◌<ℤ◌, ◌≤ℤ◌, int_le}
use Rattle.std.specs.Int.{int_rem_euclid}
use Rattle.jiff_core.specs.declared.civil.date.Date.{Date}
use Rattle.jiff_core.specs.Calendar.{weekday_number}
use Rattle.jiff_core.specs.Date.{epoch_day}
use Rattle.mesh_time_days.specs.Moments.{day_at, second_at}
use Rattle.mesh_base_values.specs.Crons.{CronSets, has, count_below}

-- The day itself where its year is 1 to 9999. Any other day has the month and the day of the month of one of the years
-- 2000 to 2399, since the calendar repeats every 146,097 days.
unfoldable pub calendar_day : ℤ → ℤ
calendar_day day =
    if int_le (negsuc 719_161) day && int_le day (pos 2_932_896) then day
    else pos 10_957 +ℤ int_rem_euclid (day -ℤ pos 10_957) (pos 146_097)

-- the day of the week, from 0 for Sunday
abbrev pub weekday : ℤ → ℕ
weekday day = (weekday_number day + 1) % 7

-- with a `*` among the two day fields both have to hold the day; without one, the day is in one of them
abbrev pub day_matches : CronSets → ℕ → ℕ → Bool
day_matches c dom dow =
    if c.dom_star || c.dow_star then has c.dom dom && has c.dow dow else has c.dom dom || has c.dow dow

-- the month matches, and the day
unfoldable pub date_matches : CronSets → Date → Bool
date_matches c d = has c.month d.month && day_matches c d.day (weekday (epoch_day d))

-- the date of the day matches
unfoldable pub IsTickDay : CronSets → ℤ → Type 0
IsTickDay c day =
    (d : Date) × (epoch_day d ≡ calendar_day day)
    × IsTrue (has c.month d.month && day_matches c d.day (weekday day))

-- the hour and the minute match, of a minute counted from the beginning of its day
unfoldable pub minute_matches : CronSets → ℕ → Bool
minute_matches c minute = has c.hour (minute / 60) && has c.minute (minute % 60)

-- the moment is the first second of a minute that matches, on a day that matches
unfoldable pub IsTick : CronSets → ℤ → Type 0
IsTick c t = (second_at t % 60 ≡ 0) × IsTrue (minute_matches c (second_at t / 60)) × IsTickDay c (day_at t)

-- no moment from the first to the last is a tick
unfoldable pub IsQuiet : CronSets → ℤ → ℤ → Type 0
IsQuiet c first last = (t : ℤ) → first ≤ℤ t → t ≤ℤ last → ¬ IsTick c t

-- a tick, not above t, and no tick lies between
unfoldable pub IsFloor : CronSets → ℤ → ℤ → Type 0
IsFloor c t tick = IsTick c tick × (tick ≤ℤ t) × ((later : ℤ) → tick <ℤ later → later ≤ℤ t → ¬ IsTick c later)

-- the hour field matches one value and no other
abbrev pub IsDaily : CronSets → Type 0
IsDaily c = count_below (has c.hour) 24 ≡ 1
