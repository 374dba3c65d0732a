-- The units of a schedule, counted.
use Rattle.std.proofs.Common.{◌≡◌, ℕ, ◌<◌, length, get_or, arith}
use Rattle.std.proofs.lemmas.List.FromFn.{get_or-map-range_with_len, length-map-range_with_len}
use Rattle.mesh_base_values.specs.declared.times.Bounds.{Bounds}
use Rattle.mesh_base_values.specs.declared.times.Schedule.{Schedule}
use Rattle.mesh_time.specs.Ranges.{unit_at, unit_count, units}

pub units_counted : (s : Schedule) → length (units s) ≡ unit_count s
units_counted s = length-map-range_with_len (unit_at s) 0 (unit_count s)

pub unit_there : (s : Schedule) (k : ℕ) (d : Bounds) → k < unit_count s → get_or (units s) k d ≡ unit_at s k
unit_there s k d h = get_or-map-range_with_len (unit_at s) 0 (unit_count s) k k d h (omega arith)
