-- When rows fit columns, and when a column's cells are numbers.
use Rattle.std.specs.Prelude.{ℕ, Bool, true, false, ◌&&◌, List, [], ◌∷◌, slice_get, slice_index_or}
use Rattle.std.specs.List.{list_all, list_any}
use Rattle.std.specs.Option.{option_map}
use Rattle.std.specs.declared.option.Option.{Option}
use Rattle.mesh_base_values.specs.declared.values.Cell.{Cell}
use Rattle.mesh_base_values.specs.declared.values.Cell.TheVariants.{Null, Int as Number, Text as Words, Date as Day, Bool as Truth}
use Rattle.mesh_base_values.specs.declared.values.Column.{Column}
use Rattle.mesh_base_values.specs.declared.values.ColType.{ColType}
use Rattle.mesh_base_values.specs.declared.values.ColType.TheVariants.{Int, Text, Date, Bool as Logical}

-- a cell is NULL or of a type
abbrev pub is_of : ColType → Cell → Bool
is_of kind Null = true
is_of Int (Number n) = true
is_of Text (Words t) = true
is_of Date (Day d) = true
is_of Logical (Truth b) = true
is_of _ _ = false

-- a row has a cell of each column's type, and no more
abbrev pub fits : List Column → List Cell → Bool
fits [] [] = true
fits [] (x ∷ xs) = false
fits (c ∷ cs) [] = false
fits (c ∷ cs) (x ∷ xs) = is_of c.kind x && fits cs xs

-- the type of the column at a place
abbrev pub kind_at : ℕ → List Column → Option ColType
kind_at c columns = option_map (λ column. column.kind) (slice_get columns c)

-- the cell at a place of a row, and NULL where it has none
abbrev pub cell_at : ℕ → List Cell → Cell
cell_at c row = slice_index_or row c Null

abbrev pub is_number : Cell → Bool
is_number (Number n) = true
is_number _ = false

-- a row has a number at a place, and each row has a number or NULL there
abbrev pub are_numbers : ℕ → List (List Cell) → Bool
are_numbers c rows = list_any (λ row. is_number (cell_at c row)) rows && list_all (λ row. is_of Int (cell_at c row)) rows
