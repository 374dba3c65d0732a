-- The rows of a table that lie in a range of seconds.
use Rattle.std.specs.Prelude.{ℕ, Bool, true, not, List, ◌++◌, filter, Some, None, ℤ, slice_get}
use Rattle.std.specs.Int.Signed.{lt_z}
use Rattle.std.specs.List.{list_all}
use Rattle.std.specs.declared.option.Option.{Option}
use Rattle.mesh_base_values.specs.declared.values.Cell.{Cell}
use Rattle.mesh_base_values.specs.declared.values.Cell.TheVariants.{Null}
use Rattle.mesh_base_values.specs.declared.values.Column.{Column}
use Rattle.mesh_base_values.specs.Names.{text_cmp}
use Rattle.mesh_base_values.specs.Picked.{cell_of}
use Rattle.mesh_list.specs.Keyed.{first_at}
use Rattle.mesh_time_days.specs.seconds.Times.{time_of, lies_in}

-- a cell, and NULL where there is none
abbrev pub or_null : Option Cell → Cell
or_null None = Null
or_null (Some cell) = cell

-- whether a row lies in a range of seconds, by its column of that name
abbrev pub lies_within : List Column → List ℕ → ℤ → ℤ → List Cell → Bool
lies_within columns time start end row = lies_in columns time (record { start = start; end = end }) row

-- the rows that don't lie in the range, and then these
abbrev pub rewritten : List Column → List ℕ → ℤ → ℤ → List (List Cell) → List (List Cell) → List (List Cell)
rewritten columns time start end rows old = filter (λ row. not (lies_within columns time start end row)) old ++ rows

-- columns are looked up by their names
abbrev pub column_name : Column → List ℕ
column_name c = c.name

-- where the column of that name stands, the first where there are two
abbrev pub column_at : List Column → List ℕ → Option ℕ
column_at columns name = first_at text_cmp column_name name columns

-- a row's cell at a place, and NULL where there is none
abbrev pub cell_at : Option ℕ → List Cell → Cell
cell_at None row = Null
cell_at (Some i) row = or_null (slice_get row i)

-- a second, where there is one, is before this one
abbrev pub is_before : ℤ → Option ℤ → Bool
is_before end None = true
is_before end (Some t) = lt_z t end

-- no second of a row's cell at a place is at or after this one
abbrev pub are_by : Option ℕ → ℤ → List (List Cell) → Bool
are_by place end rows = list_all (λ row. is_before end (time_of (cell_at place row))) rows

-- no row's second by the column of that name is at or after this one
abbrev pub are_before : List Column → List ℕ → ℤ → List (List Cell) → Bool
are_before columns time end rows = list_all (λ row. is_before end (time_of (cell_of columns row time))) rows
