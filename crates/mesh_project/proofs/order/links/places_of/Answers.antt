use Rattle.std.proofs.Common.{◌∙◌, [], ap}
use Rattle.std.proofs.lemmas.List.{get_or_default}
use Rattle.mesh_project.specs.declared.order.readers.Reader.{Reader}
use Rattle.mesh_project.proofs.order.Places.{one_more_place}
use Rattle.mesh_project.proofs.order.links.places_of.Goals as goal

pub loop-at-preserved : goal.loop-at-preserved
loop-at-preserved c =
    let models = c.args.models.now in
    let found = c.index-models-at in
    one_more_place models c.loop-at.at c.in_ok-name.name c.loop-at.places c.insert.new.self
    (c.in_ok-name.ensures ∙ ap (λ (r : Reader). r.name) (found.is ∙ get_or_default models c.loop-at.at found.result (record { name = record { schema = []; model = [] }; reads = [] }) c.loop-at-test.true))
    c.in_ok-insert.ensures.updates c.loop-at.invariant
