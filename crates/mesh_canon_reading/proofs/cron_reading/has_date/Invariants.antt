use Rattle.std.proofs.Common.{◌≡◌, ◌&&◌, false}
use Rattle.mesh_base_values.specs.Crons.{has, has_day, some_below}
use Rattle.mesh_canon_reading.proofs.cron_reading.has_date.Given as goal

abbrev pub invariant-loop-month : goal.invariant-loop-month
invariant-loop-month l = some_below (λ month. has l.months month && has_day l.days month) l.month ≡ false
