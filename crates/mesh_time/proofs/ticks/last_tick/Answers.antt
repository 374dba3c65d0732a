use Rattle.std.proofs.Common.{arith}
use Rattle.mesh_time.proofs.TickLaws.{floor_over, next_day, moment_far}
use Rattle.mesh_time.proofs.ticks.last_tick.Goals as goal

pub returns-in-None-clause-floor : goal.returns-in-None-clause-floor
returns-in-None-clause-floor c = floor_over _ _ _ _ _ c.last_before.ensures.floor c.in-None.ensures.last (next_day _ _ (omega arith)) (moment_far _ _ _ _ (omega arith) (omega arith))
