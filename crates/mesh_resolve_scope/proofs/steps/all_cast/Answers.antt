use Rattle.mesh_resolve_scope.specs.Expressions.{one_cast}
use Rattle.mesh_resolve_scope.proofs.Loops.{nothing_yet, stopped, one_more_plain, fault_plain}
use Rattle.mesh_resolve_scope.proofs.steps.all_cast.Goals as goal

pub loop-to-init : goal.loop-to-init
loop-to-init c = nothing_yet (one_cast c.args.at) c.in_ok-t.t

pub returns-in_err-t-2 : goal.returns-in_err-t-2
returns-in_err-t-2 c =
    rw c.in_ok-t.was (stopped _ _ c.in_err-t-2.field-0.0 c.from_residual-in_err-t-2.ensures.1 (fault_plain (one_cast c.args.at) c.in_ok-t.t c.loop-to.t c.args.casts.now c.loop-to.to-index _ c.in_err-t-2.field-0.0 c.loop-to-test.true c.loop-to.invariant c.in_err-t-2.ensures))

pub loop-to-preserved : goal.loop-to-preserved
loop-to-preserved c = one_more_plain (one_cast c.args.at) c.in_ok-t.t c.loop-to.t c.in_ok-t-2.t c.args.casts.now c.loop-to.to-index _ c.loop-to-test.true c.loop-to.invariant c.in_ok-t-2.ensures
