use Rattle.std.proofs.Common.{◌≡◌, false}
use Rattle.mesh_base_values.specs.Crons.{has, some_below}
use Rattle.mesh_canon_reading.proofs.cron_reading.has_some.Given as goal

abbrev pub invariant-loop-value : goal.invariant-loop-value
invariant-loop-value l = some_below (has l.set) l.value ≡ false
