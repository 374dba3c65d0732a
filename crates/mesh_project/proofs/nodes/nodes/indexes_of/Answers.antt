use Rattle.std.proofs.Common.{map, ap, ◌∙◌}
use Rattle.std.proofs.lemmas.List.{take_all}
use Rattle.mesh_project.specs.nodes.Earlier.{place_at}
use Rattle.mesh_project.proofs.nodes.Loops.{one_more_made}
use Rattle.mesh_project.proofs.nodes.nodes.indexes_of.Goals as goal

pub loop-place-preserved : goal.loop-place-preserved
loop-place-preserved c =
    one_more_made place_at c.loop-place.indexes c.push.new.self c.args.places.now c.loop-place.place-index c.place-item.result
    c.loop-place-test.true c.place-item.is c.loop-place.invariant c.in_ok-push.ensures.ok

pub returns : goal.returns
returns c = c.loop-place.invariant ∙ ap (map place_at) (take_all c.loop-place.place-index c.args.places.now c.loop-place-test.false)
