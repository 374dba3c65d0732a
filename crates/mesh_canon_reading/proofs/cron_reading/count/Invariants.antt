use Rattle.std.proofs.Common.{◌≡◌, ◌≤◌}
use Rattle.mesh_base_values.specs.Crons.{count_below, has}
use Rattle.mesh_canon_reading.proofs.cron_reading.count.Given as goal

abbrev pub invariant-loop-value : goal.invariant-loop-value
invariant-loop-value l = (l.found ≡ count_below (has l.set) l.value) × (l.found ≤ l.value)
