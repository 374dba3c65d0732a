use Rattle.mesh_janitor.specs.janitor.Walk.{forgets}
use Rattle.mesh_janitor.proofs.naming.Pushed.{one_more_made}
use Rattle.mesh_janitor.proofs.janitor.changes.push_forgets.Goals as goal

pub loop-name-preserved : goal.loop-name-preserved
loop-name-preserved c =
    one_more_made forgets c.args.changes.now c.args.names.now c.loop-name.name-index c.name-item.result _ _ c.forgetting.result c.loop-name-test.true c.name-item.is c.loop-name.invariant c.forgetting.ensures
    c.in_ok-push_made.ensures
