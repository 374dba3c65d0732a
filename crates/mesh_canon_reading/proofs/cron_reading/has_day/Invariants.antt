use Rattle.std.proofs.Common.{◌≡◌, ◌+◌, ◌&&◌, false}
use Rattle.std.specs.Prelude.{nat_lt}
use Rattle.mesh_base_values.specs.Crons.{has, longest, some_below}
use Rattle.mesh_canon_reading.proofs.cron_reading.has_day.Given as goal

abbrev pub invariant-loop-day : goal.invariant-loop-day
invariant-loop-day l = some_below (λ day. has l.days day && nat_lt day (longest l.month + 1)) l.day ≡ false
