-- The values of operators and functions whose operands are cells. Where an operand isn't of the type that a form takes,
-- the value is NULL too.
use Rattle.std.specs.Prelude.{ℕ, zero, ℤ, pos, negsuc, ◌^◌, ◌+ℤ◌, ◌-ℤ◌, ◌*ℤ◌, neg_ℤ, nat_lt, Bool, true, false, not, ◌&&◌, ◌||◌, if◌then◌else◌, List, [], ◌∷◌, ◌++◌, map, unsigned_abs, int_div, int_rem}
use Rattle.std.specs.Option.{unwrap_or}
use Rattle.std.specs.Char.{to_ascii_uppercase, to_ascii_lowercase}
use Rattle.std.specs.List.{fold, count_by}
use Rattle.std.specs.Ordering.{nat_cmp, int_cmp, bool_cmp, is_eq, is_ne, is_lt, is_le, is_gt, is_ge}
use Rattle.std.specs.Cmp.Lexicographic.{slice_cmp}
use Rattle.std.specs.declared.cmp.Ordering.{Ordering}
use Rattle.std.specs.declared.option.Option.{Option}
use Rattle.std.specs.declared.option.Option.TheVariants.{None, Some}
use Rattle.mesh_base_values.specs.declared.values.Cell.{Cell}
use Rattle.mesh_base_values.specs.declared.values.Cell.TheVariants.{Null, Int, Text, Date, Bool as Truth}
use Rattle.mesh_base.specs.declared.expressions.Op.{Op}
use Rattle.mesh_base.specs.declared.expressions.Op.TheVariants as op
use Rattle.mesh_base.specs.declared.expressions.Func.{Func}
use Rattle.mesh_base.specs.declared.expressions.Func.TheVariants as func
use Rattle.mesh_time_days.specs.casts.Dates.{is_day_number}

abbrev pub is_null : Cell → Bool
is_null Null = true
is_null _ = false

-- whether a condition is true
abbrev pub is_true : Cell → Bool
is_true (Truth b) = b
is_true _ = false

-- whether a number has at most 63 bits beside its sign
abbrev pub fits : ℤ → Bool
fits (pos n) = nat_lt n (2 ^ 63)
fits (negsuc n) = nat_lt n (2 ^ 63)

-- a number of 64 bits, else NULL
abbrev pub number : ℤ → Cell
number n = if fits n then Int n else Null

-- a day from 0001-01-01 to 9999-12-31, else NULL
abbrev pub day : ℤ → Cell
day n = if is_day_number n then Date n else Null

abbrev pub plus : Cell → Cell → Cell
plus (Int a) (Int b) = number (a +ℤ b)
plus (Date d) (Int n) = day (d +ℤ n)
plus _ _ = Null

abbrev pub minus : Cell → Cell → Cell
minus (Int a) (Int b) = number (a -ℤ b)
minus (Date d) (Int n) = day (d -ℤ n)
minus (Date d) (Date e) = Int (d -ℤ e)
minus _ _ = Null

abbrev pub product : Cell → Cell → Cell
product (Int a) (Int b) = number (a *ℤ b)
product _ _ = Null

-- towards zero
abbrev pub quotient : Cell → Cell → Cell
quotient (Int a) (Int (pos zero)) = Null
quotient (Int a) (Int b) = number (int_div a b)
quotient _ _ = Null

-- with the sign of the dividend
abbrev pub remainder : Cell → Cell → Cell
remainder (Int a) (Int (pos zero)) = Null
remainder (Int a) (Int b) = number (int_rem a b)
remainder _ _ = Null

abbrev pub joined : Cell → Cell → Cell
joined (Text s) (Text t) = Text (s ++ t)
joined _ _ = Null

-- how two cells of one type compare
abbrev pub comparison : Cell → Cell → Option Ordering
comparison (Int m) (Int n) = Some (int_cmp m n)
comparison (Text s) (Text t) = Some (slice_cmp nat_cmp s t)
comparison (Date d) (Date e) = Some (int_cmp d e)
comparison (Truth a) (Truth b) = Some (bool_cmp a b)
comparison _ _ = None

abbrev pub answer : (Ordering → Bool) → Option Ordering → Cell
answer test (Some order) = Truth (test order)
answer test None = Null

abbrev pub compared : (Ordering → Bool) → Cell → Cell → Cell
compared test x y = answer test (comparison x y)

-- Kleene's tables, where NULL is the unknown
abbrev pub both : Cell → Cell → Cell
both (Truth a) (Truth b) = Truth (a && b)
both (Truth false) Null = Truth false
both Null (Truth false) = Truth false
both _ _ = Null

abbrev pub either : Cell → Cell → Cell
either (Truth a) (Truth b) = Truth (a || b)
either (Truth true) Null = Truth true
either Null (Truth true) = Truth true
either _ _ = Null

abbrev pub opposite : Cell → Cell
opposite (Truth b) = Truth (not b)
opposite _ = Null

abbrev pub negative : Cell → Cell
negative (Int n) = number (neg_ℤ n)
negative _ = Null

-- a comparison sign
abbrev pub test_of : Op → Ordering → Bool
test_of op.Eq = is_eq
test_of op.Ne = is_ne
test_of op.Lt = is_lt
test_of op.Le = is_le
test_of op.Gt = is_gt
test_of _ = is_ge

abbrev pub compared_by : Op → Cell → Cell → Cell
compared_by sign x y = compared (test_of sign) x y

abbrev pub op_value : Op → Cell → Cell → Cell
op_value op.Add x y = plus x y
op_value op.Sub x y = minus x y
op_value op.Mul x y = product x y
op_value op.Div x y = quotient x y
op_value op.Rem x y = remainder x y
op_value op.Cat x y = joined x y
op_value op.And x y = both x y
op_value op.Or x y = either x y
op_value sign x y = compared_by sign x y

abbrev pub between : Cell → Cell → Cell → Cell
between x low high = both (compared is_ge x low) (compared is_le x high)

-- x equals one of the cells
abbrev pub one_of : Cell → List Cell → Cell
one_of x cells = fold (λ found c. either found (compared is_eq x c)) (Truth false) cells

-- the first that isn't NULL
abbrev pub first_of : Cell → Cell → Cell
first_of x y = if is_null x then y else x

abbrev pub coalesce : List Cell → Cell
coalesce cells = fold first_of Null cells

-- the value of the first WHEN that is true
abbrev pub chosen : Option Cell → Cell × Cell → Option Cell
chosen None (test, value) = if is_true test then Some value else None
chosen (Some v) w = Some v

abbrev pub case_value : List (Cell × Cell) → Cell → Cell
case_value whens otherwise = unwrap_or (fold chosen None whens) otherwise

abbrev pub starts_character : ℕ → Bool
starts_character byte = nat_lt byte 128 || nat_lt 191 byte

abbrev pub func_value : Func → List Cell → Cell
func_value func.Abs (Int n ∷ []) = number (pos (unsigned_abs n))
func_value func.Length (Text t ∷ []) = Int (pos (count_by starts_character t))
func_value func.Upper (Text t ∷ []) = Text (map to_ascii_uppercase t)
func_value func.Lower (Text t ∷ []) = Text (map to_ascii_lowercase t)
func_value func.Nullif (x ∷ y ∷ []) = if is_true (compared is_eq x y) then Null else x
func_value func.Coalesce cells = coalesce cells
func_value _ _ = Null
