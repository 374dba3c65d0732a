-- The second that a cell stands for, and the rows that lie in a unit.
use Rattle.std.specs.Prelude.{ℕ, ℤ, pos, ◌*ℤ◌, Bool, false, ◌&&◌, List}
use Rattle.std.specs.Int.Signed.{le_z, lt_z}
use Rattle.std.specs.Option.{option_map}
use Rattle.std.specs.declared.option.Option.{Option}
use Rattle.std.specs.declared.option.Option.TheVariants.{None, Some}
use Rattle.mesh_base_values.specs.declared.times.Bounds.{Bounds}
use Rattle.mesh_base_values.specs.declared.values.Cell.{Cell}
use Rattle.mesh_base_values.specs.declared.values.Cell.TheVariants.{Null, Int, Text, Date, Bool as Truth}
use Rattle.mesh_base_values.specs.declared.values.Column.{Column}
use Rattle.mesh_base_values.specs.Picked.{cell_of}
use Rattle.mesh_time_days.specs.casts.Dates.{day_named}

-- the first second of a day
abbrev pub first_second : ℤ → ℤ
first_second day = day *ℤ pos 86_400

-- a number is its own second, and a day stands for its first
abbrev pub time_of : Cell → Option ℤ
time_of Null = None
time_of (Int n) = Some n
time_of (Text t) = option_map first_second (day_named t)
time_of (Date day) = Some (first_second day)
time_of (Truth b) = None

-- there is a second, and it is at least the start and below the end
abbrev pub is_within : Bounds → Option ℤ → Bool
is_within u None = false
is_within u (Some t) = le_z u.start t && lt_z t u.end

-- whether a row lies in a unit, by its time column
abbrev pub lies_in : List Column → List ℕ → Bounds → List Cell → Bool
lies_in columns time u row = is_within u (time_of (cell_of columns row time))
