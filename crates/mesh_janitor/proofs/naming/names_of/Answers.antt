use Rattle.std.proofs.Common.{[]}
use Rattle.mesh_base.specs.Keys.{ref_name}
use Rattle.mesh_janitor.proofs.naming.Pushed.{one_more_made}
use Rattle.mesh_janitor.proofs.naming.names_of.Goals as goal

pub loop-r-preserved : goal.loop-r-preserved
loop-r-preserved c =
    one_more_made ref_name [] c.args.refs.now c.loop-r.r-index c.r-item.result _ _ c.copy.result c.loop-r-test.true c.r-item.is c.loop-r.invariant c.copy.ensures
    c.in_ok-push_made.ensures
