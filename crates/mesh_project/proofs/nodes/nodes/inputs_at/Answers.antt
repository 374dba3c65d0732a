use Rattle.std.proofs.Common.{◌++◌, ap, ◌∙◌}
use Rattle.std.specs.List.{slice_get}
use Rattle.mesh_project.specs.declared.nodes.earlier.Place.{Place}
use Rattle.mesh_project.specs.nodes.Nodes.{input_at}
use Rattle.mesh_project.proofs.nodes.Loops.{one_more_of}
use Rattle.mesh_project.proofs.nodes.nodes.inputs_at.Goals as goal

pub loop-place-preserved : goal.loop-place-preserved
loop-place-preserved c =
    one_more_of (λ (p : Place). input_at (slice_get c.args.nodes.now p.at)) c.loop-place.inputs c.add_input.new.inputs c.args.places.now c.loop-place.place-index c.place-item.result
    c.loop-place-test.true c.place-item.is c.loop-place.invariant (c.in_ok-add_input.ensures ∙ ap (λ o. c.loop-place.inputs ++ input_at o) c.node_at.ensures)
