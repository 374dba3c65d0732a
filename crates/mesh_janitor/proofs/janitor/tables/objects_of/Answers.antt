use Rattle.std.proofs.Common.{[]}
use Rattle.mesh_house_book.specs.Changes.{version_object}
use Rattle.mesh_janitor.proofs.naming.Pushed.{one_more_made}
use Rattle.mesh_janitor.proofs.janitor.tables.objects_of.Goals as goal

pub loop-version-preserved : goal.loop-version-preserved
loop-version-preserved c =
    one_more_made version_object [] c.args.versions.now c.loop-version.version-index c.version-item.result _ _ c.copy.result c.loop-version-test.true c.version-item.is c.loop-version.invariant c.copy.ensures
    c.in_ok-push_made.ensures
