use Rattle.std.proofs.Common.{◌≡◌, ℕ, List, map, ap, ◌∙◌}
use Rattle.mesh_house.specs.declared.world.Change.TheVariants.{MakeView}
use Rattle.mesh_spec_changes.specs.Changes.{target_of}
use Rattle.mesh_exec_works.specs.Plain.{parents_at, plain_models}
use Rattle.mesh_exec_works.proofs.changes.view_change.Goals as goal

pub returns : goal.returns
returns c =
    let all = plain_models c.args.nodes.now c.args.entries.now in
    let targets : c.in_ok-targets.targets ≡ map target_of (parents_at all c.args.node.now.parents) = c.in_ok-targets.ensures ∙ ap (λ (ks : List ℕ). map target_of (parents_at all ks)) c.as_slice.ensures in
    λ i. MakeView ((c.in_ok-object.ensures i).0) (c.in_ok-columns.ensures i) ((c.in_ok-object.ensures i).1) (targets i)
