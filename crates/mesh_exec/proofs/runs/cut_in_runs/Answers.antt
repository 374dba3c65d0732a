use Rattle.std.proofs.Common.{List, refl, sym, subst, arith}
use Rattle.mesh_exec.specs.declared.runs.Run.{Run}
use Rattle.mesh_exec.proofs.Running.{SoFar, ahead_has, all_come, begun, one_more}
use Rattle.mesh_exec.proofs.runs.cut_in_runs.Goals as goal

pub loop-rest-init : goal.loop-rest-init
loop-rest-init c = subst (λ (l : List Run). SoFar c.args.joins c.args.dues.now l c.args.dues.now) (sym c.new-runs.ensures) (begun c.args.joins c.args.dues.now)

pub loop-rest-smaller : goal.loop-rest-smaller
loop-rest-smaller c =
    let some = ahead_has c.args.joins c.loop-rest.rest.now c.count_run.result (omega (arith, c.loop-rest-test.true)) c.count_run.ensures.front in
    omega (arith, some, c.split_at.ensures.back_len, c.loop-rest-test.true)

pub loop-rest-preserved : goal.loop-rest-preserved
loop-rest-preserved c =
    one_more c.args.joins c.args.dues.now c.loop-rest.rest.now c.split_at.result.0.now c.split_at.result.1.now c.loop-rest.runs _ _ c.count_run.result c.loop-rest.invariant (omega (arith, c.loop-rest-test.true)) c.count_run.ensures.front c.split_at.ensures.front c.split_at.ensures.back refl c.in_ok-push.ensures.ok

pub returns : goal.returns
returns c = all_come c.args.joins c.args.dues.now c.loop-rest.rest.now c.loop-rest.runs c.loop-rest.invariant (omega (arith, c.loop-rest-test.false))
