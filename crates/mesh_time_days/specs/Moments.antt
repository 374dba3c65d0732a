-- Days and moments, and their texts.
use Rattle.std.specs.Prelude.{◌≡◌, ℕ, ◌+◌, ◌/◌, ◌%◌, ◌⊎◌, List, [], ◌∷◌, ◌++◌, codes, ℤ, pos, negsuc, ◌+ℤ◌, ◌-ℤ◌, ◌*ℤ◌, ◌≤ℤ◌, unsigned_abs}
use Rattle.std.specs.Int.{int_div_euclid, int_rem_euclid}
use Rattle.jiff_core.specs.declared.civil.date.Date.{Date}
use Rattle.jiff_core.specs.Calendar.{IsBetween}
use Rattle.jiff_core.specs.Date.{epoch_day}
use Rattle.mesh_base_values.specs.declared.values.Cell.{Cell}
use Rattle.mesh_base_values.specs.declared.values.Cell.TheVariants.{Null, Int, Text, Date as Day, Bool}

-- a day number from 0001-01-01 to 9999-12-31
abbrev pub IsDayNumber : ℤ → Type 0
IsDayNumber day = IsBetween (negsuc 719_161) (pos 2_932_896) day

-- a moment from 1970-01-01T00:00:00 to 9999-12-31T23:59:59
abbrev pub IsMoment : ℤ → Type 0
IsMoment t = IsBetween (pos 0) (pos 253_402_300_799) t

-- the day number of a day that is counted from 0001-01-01, which is 0
unfoldable pub day_number : ℕ → ℤ
day_number count = pos count -ℤ pos 719_162

-- the moment at a second of a day that is counted from 0001-01-01
unfoldable pub moment : ℕ → ℕ → ℤ
moment count second = day_number count *ℤ pos 86_400 +ℤ pos second

-- the day of a moment
abbrev pub day_at : ℤ → ℤ
day_at t = int_div_euclid t (pos 86_400)

-- how many seconds of its day have passed at a moment
abbrev pub second_at : ℤ → ℕ
second_at t = unsigned_abs (int_rem_euclid t (pos 86_400))

-- a number below 100 as two digits
abbrev pub two_digits : ℕ → List ℕ
two_digits n = (48 + n / 10) ∷ (48 + n % 10) ∷ []

-- a date as YYYY-MM-DD
unfoldable pub date_text : Date → List ℕ
date_text d =
    two_digits (unsigned_abs d.year / 100) ++ (two_digits (unsigned_abs d.year % 100)
    ++ (45 ∷ two_digits d.month ++ (45 ∷ two_digits d.day)))

-- the text of a day, by the proleptic Gregorian calendar from the year 1 on
unfoldable pub IsDayText : ℤ → List ℕ → Type 0
IsDayText day text = (d : Date) × (pos 1 ≤ℤ d.year) × (epoch_day d ≡ day) × (text ≡ date_text d)

-- a second of a day as THH:MM
unfoldable pub minute_text : ℕ → List ℕ
minute_text second = 84 ∷ two_digits (second / 3600) ++ (58 ∷ two_digits (second / 60 % 60))

-- a second of a day as THH:MM:SS
unfoldable pub second_text : ℕ → List ℕ
second_text second = minute_text second ++ (58 ∷ two_digits (second % 60))

-- the text, or the text and a Z
unfoldable pub IsZoned : List ℕ → List ℕ → Type 0
IsZoned form text = (text ≡ form) ⊎ (text ≡ form ++ codes "Z")

-- what may stand after the day for a second of it: nothing, THH:MM or THH:MM:SS, and a Z
unfoldable pub IsTimeText : ℕ → List ℕ → Type 0
IsTimeText second text =
    ((second ≡ 0) × IsZoned [] text)
    ⊎ (((second % 60 ≡ 0) × IsZoned (minute_text second) text) ⊎ IsZoned (second_text second) text)

-- the text of a moment
unfoldable pub IsMomentText : ℤ → List ℕ → Type 0
IsMomentText t text =
    IsMoment t × ((date time : List ℕ) × IsDayText (day_at t) date × IsTimeText (second_at t) time × (text ≡ date ++ time))

-- the whole text of a second: YYYY-MM-DDTHH:MM:SS
unfoldable pub IsSecondText : ℤ → List ℕ → Type 0
IsSecondText t text = (date : List ℕ) × IsDayText (day_at t) date × (text ≡ date ++ second_text (second_at t))

-- the moment that a cell stands for
abbrev pub IsTimeValue : Cell → ℤ → Type 0
IsTimeValue Null t = ⊥
IsTimeValue (Int n) t = t ≡ n
IsTimeValue (Text text) t = (day : ℤ) × IsDayText day text × (t ≡ day *ℤ pos 86_400)
IsTimeValue (Day day) t = t ≡ day *ℤ pos 86_400
IsTimeValue (Bool b) t = ⊥
