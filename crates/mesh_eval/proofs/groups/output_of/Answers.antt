use Rattle.std.proofs.Common.{IfOk, subst}
use Rattle.mesh_eval.specs.Placed.{AreItems, IsCondition}
use Rattle.mesh_eval.proofs.Placed.{output-is}
use Rattle.mesh_eval.proofs.groups.output_of.Goals as goal

pub returns : goal.returns
returns c =
    let u = c.args.u in
    let columns = c.args.columns.now in
    let q = c.args.q.now in
    let keys = c.as_slice-keys.result.now in
    let own = c.as_slice.result.now in
    let made = c.in_ok-having in
    output-is u columns q keys own made.having made.items c.as_slice-keys.ensures c.as_slice.ensures
    (subst (λ r. IfOk r (IsCondition u columns keys q.having)) made.ensures.0 c.bind_condition.ensures)
    (subst (λ r. IfOk r (AreItems u columns keys own)) made.ensures.1 c.bind_items.ensures)
