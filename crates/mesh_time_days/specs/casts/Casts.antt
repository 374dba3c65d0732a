-- CAST: a cell as another type. What has no value there is NULL.
use Rattle.std.specs.Prelude.{ℕ, zero, suc, ◌+◌, ◌-◌, ◌*◌, ◌^◌, ℤ, pos, negsuc, Bool, true, false, nat_le, ◌==◌, List, [], ◌∷◌, map, codes, Some, None, if◌then◌else◌}
use Rattle.std.specs.Char.{is_ascii_digit, to_ascii_lowercase}
use Rattle.std.specs.Fmt.{signed_decimal}
use Rattle.std.specs.Option.{option_map}
use Rattle.std.specs.declared.option.Option.{Option}
use Rattle.mesh_base_values.specs.Picked.{same_text}
use Rattle.mesh_base_values.specs.declared.values.Cell.{Cell}
use Rattle.mesh_base_values.specs.declared.values.Cell.TheVariants.{Null, Int, Text, Date, Bool as Truth}
use Rattle.mesh_base_values.specs.declared.values.ColType.{ColType}
use Rattle.mesh_base_values.specs.declared.values.ColType.TheVariants as type
use Rattle.mesh_time_days.specs.casts.Dates.{day_named, day_text}

-- the number that decimal digits say, behind digits that say n
unfoldable pub digits_after : ℕ → List ℕ → Option ℕ
digits_after n [] = Some n
digits_after n (b ∷ bs) = if is_ascii_digit b then digits_after (n * 10 + (b - 48)) bs else None

-- a number, if it is no more than most
abbrev pub at_most : ℕ → Option ℕ → Option ℕ
at_most most None = None
at_most most (Some n) = if nat_le n most then Some n else None

-- the number of one digit or more, if it is no more than most
abbrev pub digits_up_to : ℕ → List ℕ → Option ℕ
digits_up_to most [] = None
digits_up_to most (b ∷ bs) = at_most most (digits_after 0 (b ∷ bs))

-- the number n below zero
abbrev pub below_zero : ℕ → ℤ
below_zero zero = pos 0
below_zero (suc n) = negsuc n

-- a number of 64 bits with a sign: decimal digits, behind a minus sign or none
abbrev pub number_named : List ℕ → Option ℤ
number_named [] = None
number_named (b ∷ bs) =
    if b == 45 then option_map below_zero (digits_up_to (2 ^ 63) bs)
    else option_map pos (digits_up_to (2 ^ 63 - 1) (b ∷ bs))

abbrev pub truth_text : Bool → List ℕ
truth_text true = codes "true"
truth_text false = codes "false"

-- true or false in small letters
abbrev pub truth_of_small : List ℕ → Option Bool
truth_of_small text = if same_text text (codes "true") then Some true else (if same_text text (codes "false") then Some false else None)

-- true or false in letters of any case
abbrev pub truth_named : List ℕ → Option Bool
truth_named text = truth_of_small (map to_ascii_lowercase text)

abbrev pub or_null : {A : Type 0} → (A → Cell) → Option A → Cell
or_null cell None = Null
or_null cell (Some x) = cell x

abbrev pub is_not_zero : ℤ → Bool
is_not_zero (pos zero) = false
is_not_zero _ = true

abbrev pub cast_to_int : Cell → Cell
cast_to_int (Int n) = Int n
cast_to_int (Text t) = or_null Int (number_named t)
cast_to_int (Truth b) = Int (pos (if b then 1 else 0))
cast_to_int _ = Null

abbrev pub cast_to_text : Cell → Cell
cast_to_text (Int n) = Text (signed_decimal n)
cast_to_text (Text t) = Text t
cast_to_text (Date d) = Text (day_text d)
cast_to_text (Truth b) = Text (truth_text b)
cast_to_text Null = Null

abbrev pub cast_to_date : Cell → Cell
cast_to_date (Text t) = or_null Date (day_named t)
cast_to_date (Date d) = Date d
cast_to_date _ = Null

abbrev pub cast_to_bool : Cell → Cell
cast_to_bool (Int n) = Truth (is_not_zero n)
cast_to_bool (Text t) = or_null Truth (truth_named t)
cast_to_bool (Truth b) = Truth b
cast_to_bool _ = Null

abbrev pub cast_value : ColType → Cell → Cell
cast_value type.Int x = cast_to_int x
cast_value type.Text x = cast_to_text x
cast_value type.Date x = cast_to_date x
cast_value type.Bool x = cast_to_bool x
