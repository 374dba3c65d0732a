-- Rows as a CSV file has them (RFC 4180), with a line feed behind each record.
use Rattle.std.specs.Prelude.{ℕ, List, [], ◌∷◌, map}
use Rattle.std.specs.List.{flat_map}
use Rattle.std.specs.Fmt.{signed_decimal}
use Rattle.csv.specs.Writing.{default_writer, row_text}
use Rattle.mesh_base_values.specs.declared.values.Cell.{Cell}
use Rattle.mesh_base_values.specs.declared.values.Cell.TheVariants.{Null, Int, Text, Date, Bool}
use Rattle.mesh_base_values.specs.declared.values.Column.{Column}
use Rattle.mesh_time_days.specs.casts.Dates.{day_text}
use Rattle.mesh_time_days.specs.casts.Casts.{truth_text}

-- a cell as a field: NULL is an empty one, and so is a day that the calendar doesn't have
abbrev pub field : Cell → List ℕ
field Null = []
field (Int n) = signed_decimal n
field (Text text) = text
field (Date day) = day_text day
field (Bool b) = truth_text b

abbrev pub column_name : Column → List ℕ
column_name c = c.name

-- the columns' names, and then each row
abbrev pub records : List Column → List (List Cell) → List (List (List ℕ))
records columns rows = map column_name columns ∷ map (map field) rows

-- the text of these records
abbrev pub rows_text : List Column → List (List Cell) → List ℕ
rows_text columns rows = flat_map (row_text default_writer) (records columns rows)
