use Rattle.std.proofs.Common.{refl}
use Rattle.mesh_project.proofs.order.Answering.{named_more}
use Rattle.mesh_project.proofs.order.cycles.cyclic.Goals as goal

pub loop-at-preserved : goal.loop-at-preserved
loop-at-preserved c =
    named_more c.args.models.now c.args.links.now c.args.rest.now c.requires.by_name c.loop-at.at-index _ c.loop-at.names c.add_cyclic.new.names c.loop-at-test.true refl c.loop-at.invariant
    c.in_ok-add_cyclic.ensures
