-- The columns that a query picks of a table: a table is its columns and its rows, and a row is read by a column's name.
use Rattle.std.specs.Prelude.{ℕ, Bool, List, [], ◌∷◌, map, if◌then◌else◌}
use Rattle.std.specs.Ordering.{is_eq}
use Rattle.mesh_base_values.specs.declared.values.Cell.{Cell}
use Rattle.mesh_base_values.specs.declared.values.Cell.TheVariants.{Null}
use Rattle.mesh_base_values.specs.declared.values.ColType.{ColType}
use Rattle.mesh_base_values.specs.declared.values.ColType.TheVariants.{Text}
use Rattle.mesh_base_values.specs.declared.values.Column.{Column}
use Rattle.mesh_base_values.specs.Names.{text_cmp}

-- two texts are one
abbrev pub same_text : List ℕ → List ℕ → Bool
same_text a b = is_eq (text_cmp a b)

-- a row's cell in the column of that name, and NULL where there is none
abbrev pub cell_of : List Column → List Cell → List ℕ → Cell
cell_of [] row name = Null
cell_of (c ∷ cs) [] name = Null
cell_of (c ∷ cs) (x ∷ xs) name = if same_text c.name name then x else cell_of cs xs name

-- the type of the column of that name, and TEXT where there is none
abbrev pub kind_of : List Column → List ℕ → ColType
kind_of [] name = Text
kind_of (c ∷ cs) name = if same_text c.name name then c.kind else kind_of cs name

abbrev pub picked_row : List (List ℕ) → List Column → List Cell → List Cell
picked_row names columns row = map (cell_of columns row) names

-- a row of the picked columns for each row of the table
abbrev pub picked_rows : List (List ℕ) → List Column → List (List Cell) → List (List Cell)
picked_rows names columns rows = map (picked_row names columns) rows

-- the picked columns themselves
abbrev pub picked_columns : List (List ℕ) → List Column → List Column
picked_columns names columns = map (λ name. record { name = name; kind = kind_of columns name }) names
