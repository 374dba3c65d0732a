use Rattle.mesh_spec_changes.specs.Changes.{drops}
use Rattle.mesh_janitor.proofs.naming.Pushed.{one_more_made}
use Rattle.mesh_janitor.proofs.promote.changes.push_drops.Goals as goal

pub loop-name-preserved : goal.loop-name-preserved
loop-name-preserved c =
    one_more_made (drops c.args.env.now) c.args.changes.now c.args.names.now c.loop-name.name-index c.name-item.result _ _ c.dropping.result c.loop-name-test.true c.name-item.is c.loop-name.invariant c.dropping.ensures
    c.in_ok-push_made.ensures
