-- The macros that stand for the ends of the interval that a query is evaluated for. Both are within it: the interval's
-- own end is the first second after it.
use Rattle.std.specs.Prelude.{ℤ, pos, ◌-ℤ◌}
use Rattle.std.specs.Int.{int_div_euclid}
use Rattle.mesh_base_values.specs.declared.times.Bounds.{Bounds}
use Rattle.mesh_base_values.specs.declared.values.Cell.{Cell}
use Rattle.mesh_base_values.specs.declared.values.Cell.TheVariants.{Int}
use Rattle.mesh_base.specs.declared.expressions.Var.{Var}
use Rattle.mesh_base.specs.declared.expressions.Var.TheVariants.{StartDate, EndDate, StartDs, EndDs, StartEpoch, EndEpoch}
use Rattle.mesh_spec_query.specs.Cells.{number, day}
use Rattle.mesh_time_days.specs.casts.Casts.{cast_to_text}

-- the last second of the interval
abbrev pub last_second : Bounds → ℤ
last_second u = u.end -ℤ pos 1

-- the day that a second lies in
abbrev pub day_of_second : ℤ → Cell
day_of_second t = day (int_div_euclid t (pos 86_400))

-- DATE, that date as text, and the second itself
abbrev pub macro_value : Var → Bounds → Cell
macro_value StartDate u = day_of_second u.start
macro_value EndDate u = day_of_second (last_second u)
macro_value StartDs u = cast_to_text (day_of_second u.start)
macro_value EndDs u = cast_to_text (day_of_second (last_second u))
macro_value StartEpoch u = Int u.start
macro_value EndEpoch u = number (last_second u)
