-- Days of the proleptic Gregorian calendar, counted from 1970-01-01, and their texts `YYYY-MM-DD`.
use Rattle.std.specs.Prelude.{ℕ, zero, suc, ◌+◌, ◌-◌, ◌*◌, ◌/◌, ◌%◌, Bool, ◌&&◌, nat_lt, List, [], ◌∷◌, ◌++◌, slice_index, Some, None, ℤ, pos, negsuc, ◌+ℤ◌, unsigned_abs, if◌then◌else◌}
use Rattle.std.specs.declared.option.Option.{Option}
use Rattle.std.specs.Int.Signed.{le_z}
use Rattle.jiff_core.specs.Calendar.{days_in_month, days_from_civil}
use Rattle.mesh_base_values.specs.Picked.{same_text}
use Rattle.mesh_time_days.specs.Moments.{two_digits}

-- the days from 0001-01-01 to 9999-12-31
abbrev pub is_day_number : ℤ → Bool
is_day_number day = le_z (negsuc 719_161) day && le_z day (pos 2_932_896)

-- a year, a month and a day of the month
pub record Civil : Type 0 where
  pub year : ℕ
  pub month : ℕ
  pub day : ℕ

-- the day after a day
abbrev pub next_day : Civil → Civil
next_day d =
    if nat_lt d.day (days_in_month (pos d.year) d.month) then record { year = d.year; month = d.month; day = d.day + 1 }
    else (if nat_lt d.month 12 then record { year = d.year; month = d.month + 1; day = 1 }
    else record { year = d.year + 1; month = 1; day = 1 })

-- the day that so many days after 0001-01-01 is
unfoldable pub day_after : ℕ → Civil
day_after zero = record { year = 1; month = 1; day = 1 }
day_after (suc n) = next_day (day_after n)

-- YYYY-MM-DD
abbrev pub day_form : ℕ → ℕ → ℕ → List ℕ
day_form y m d = two_digits (y / 100) ++ (two_digits (y % 100) ++ (45 ∷ two_digits m ++ (45 ∷ two_digits d)))

abbrev pub civil_text : Civil → List ℕ
civil_text d = day_form d.year d.month d.day

-- the text of a day, and the empty text for a number that is no day's
abbrev pub day_text : ℤ → List ℕ
day_text day = if is_day_number day then civil_text (day_after (unsigned_abs (day +ℤ pos 719_162))) else []

-- the number that the two digits at a place of a text spell
abbrev pub number_at : List ℕ → ℕ → ℕ
number_at text i = (slice_index text i - 48) * 10 + (slice_index text (i + 1) - 48)

-- whether the calendar has this day, in a year from 1 to 9999
abbrev pub is_day : ℕ → ℕ → ℕ → Bool
is_day y m d =
    (nat_lt 0 y && nat_lt y 10_000)
    && ((nat_lt 0 m && nat_lt m 13) && (nat_lt 0 d && nat_lt d (days_in_month (pos y) m + 1)))

-- the number of a day where the text is its
abbrev pub day_if : List ℕ → ℕ → ℕ → ℕ → Option ℤ
day_if text y m d = if is_day y m d && same_text text (day_form y m d) then Some (days_from_civil (pos y) m d) else None

-- the number of the day that a text is
abbrev pub day_named : List ℕ → Option ℤ
day_named text = day_if text (number_at text 0 * 100 + number_at text 2) (number_at text 5) (number_at text 8)
