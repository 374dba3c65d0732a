use Rattle.std.proofs.Common.{◌+◌, ◌-◌, arith}
use Rattle.mesh_time.proofs.TickLaws.{quiet_nowhere, quiet_more, floor_over, next_day, moment_le}
use Rattle.mesh_time.proofs.Meets.{never_quiet}
use Rattle.mesh_time.proofs.ticks.last_before.Goals as goal

pub loop-back-init : goal.loop-back-init
loop-back-init c = quiet_nowhere c.args.c.now c.args.day (c.args.day - 0) (omega arith) (omega arith)

pub returns-in-Some-clause-floor : goal.returns-in-Some-clause-floor
returns-in-Some-clause-floor c =
    floor_over _ _ _ _ _ c.in-Some.ensures.last c.loop-back.invariant (next_day _ _ (omega arith)) (moment_le _ _ _ (omega arith))

pub loop-back-preserved : goal.loop-back-preserved
loop-back-preserved c =
    quiet_more c.args.c.now (c.args.day - 1 - c.loop-back.back) (c.args.day - c.loop-back.back) (c.args.day - (c.loop-back.back + 1)) _ c.in_default.ensures.last c.loop-back.invariant (omega arith) (omega arith)

pub unreachable-requires : goal.unreachable-requires
unreachable-requires c = never_quiet c.args.c.now c.args.day (c.args.day - c.loop-back.back) c.rule.ensures c.requires.0 c.requires.1 (omega arith) c.loop-back.invariant
