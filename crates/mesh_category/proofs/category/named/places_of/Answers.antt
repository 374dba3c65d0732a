use Rattle.mesh_category.proofs.category.Places.{one_more_place}
use Rattle.mesh_category.proofs.category.named.places_of.Goals as goal

pub loop-at-preserved : goal.loop-at-preserved
loop-at-preserved c =
    one_more_place c.args.nodes.now c.loop-at.at c.index-nodes-at.result c.loop-at-test.true c.index-nodes-at.is c.in_ok-name.name c.loop-at.places c.insert.new.self c.in_ok-name.ensures
    c.in_ok-insert.ensures.updates c.loop-at.invariant
