use Rattle.std.proofs.Common.{◌-◌}
use Rattle.mesh_time_days.specs.Moments.{moment}
use Rattle.mesh_time.specs.Ticks.{IsQuiet}
use Rattle.mesh_time.proofs.ticks.last_before.Given as goal

abbrev pub invariant-loop-back : goal.invariant-loop-back
invariant-loop-back l = IsQuiet l.c (moment (l.day - l.back) 0) (moment (l.day - 1) 86_399)
