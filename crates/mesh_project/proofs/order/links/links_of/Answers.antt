use Rattle.std.proofs.Common.{[], ◌∷◌, ◌++◌, ◌∙◌, ap, map, List, ℕ}
use Rattle.std.specs.List.{filter_map}
use Rattle.std.specs.BTreeMap.{get}
use Rattle.std.proofs.lemmas.List.{take_all}
use Rattle.mesh_base_values.specs.Names.{name_cmp}
use Rattle.mesh_project.specs.declared.order.readers.Reader.{Reader}
use Rattle.mesh_project.proofs.nodes.Loops.{one_more_made}
use Rattle.mesh_project.proofs.order.Places.{are_links}
use Rattle.mesh_project.proofs.order.links.links_of.Goals as goal

pub returns : goal.returns
returns c =
    let models = c.args.models.now in
    are_links models c.requires.apart c.args.places.now c.requires.places c.loop-model.made
    (c.loop-model.invariant ∙ ap (map (λ (r : Reader). filter_map (get name_cmp c.args.places.now) r.reads)) (take_all c.loop-model.model-index models c.loop-model-test.false))

pub loop-model-preserved : goal.loop-model-preserved
loop-model-preserved c =
    let h = get name_cmp c.args.places.now in
    one_more_made (λ (r : Reader). filter_map h r.reads) c.loop-model.made c.push.new.self c.args.models.now c.loop-model.model-index c.model-item.result
    c.loop-model-test.true c.model-item.is c.loop-model.invariant
    (c.in_ok-push.ensures.ok ∙ ap (λ (l : List ℕ). c.loop-model.made ++ l ∷ []) (c.in_ok-links_of_one.ensures ∙ ap (filter_map h) c.as_slice.ensures))
