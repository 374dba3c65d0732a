-- What a demonstration prints of each answer.
use Rattle.std.specs.Prelude.{ℕ, zero, suc, ◌-◌, ◌==◌, ℤ, pos, ◌+ℤ◌, if◌then◌else◌, List, [], ◌∷◌, length, take, drop, slice_index_or, codes}
use Rattle.std.specs.Fmt.{decimal, signed_decimal}
use Rattle.mesh_cli_print.specs.faults.Lines.{◌·◌}
use Rattle.mesh_base_values.specs.declared.values.Cell.{Cell}
use Rattle.mesh_base_values.specs.declared.values.Cell.TheVariants.{Int}

-- where the line begins that ends in front of a place: behind the last line feed before it, or at the front
abbrev pub line_start : List ℕ → ℕ → ℕ
line_start text zero = 0
line_start text (suc k) = if slice_index_or text k 0 == 10 then suc k else line_start text k

-- where the last line begins
abbrev pub last_start : List ℕ → ℕ
last_start text = line_start text (length text - 1)

-- where the one in front of it begins
abbrev pub units_start : List ℕ → ℕ
units_start text = line_start text (last_start text - 1)

-- the line in front of the last, which in the text of an apply or a run tells how many units were due
abbrev pub units_line : List ℕ → List ℕ
units_line text = take (last_start text - units_start text) (drop (units_start text) text)

abbrev pub head_line : ℕ → List ℕ
head_line n = codes "demo " · decimal n · codes "\n"

-- the total of a day: the second cell, where that is a number
abbrev pub total_in : List Cell → ℤ
total_in (first ∷ Int total ∷ cells) = total
total_in cells = pos 0

abbrev pub sum_of : List (List Cell) → ℤ
sum_of [] = pos 0
sum_of (row ∷ rows) = total_in row +ℤ sum_of rows

abbrev pub totals_text : List (List Cell) → List ℕ
totals_text rows = codes "totals " · decimal (length rows) · codes " rows\nsum " · signed_decimal (sum_of rows) · codes "\n"
