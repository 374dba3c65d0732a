-- Units that lie within one day.
use Rattle.std.specs.Prelude.{pos, ◌+ℤ◌, ◌*ℤ◌, ◌<ℤ◌, ◌≤ℤ◌}
use Rattle.std.specs.Int.{int_div_euclid}
use Rattle.mesh_base_values.specs.declared.times.Bounds.{Bounds}

-- an interval that begins below its end, which is at most the end of the day that it begins on
pub record IsOfDay (u : Bounds) : Type 0 where
  pub below : u.start <ℤ u.end
  pub ends : u.end ≤ℤ (int_div_euclid u.start (pos 86_400) *ℤ pos 86_400 +ℤ pos 86_400)
