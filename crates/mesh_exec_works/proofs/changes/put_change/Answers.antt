use Rattle.std.proofs.Common.{◌≡◌, ℤ, FitsSigned, w64, to_z, of_z, ap, ◌∙◌}
use Rattle.std.proofs.lemmas.Int.{to_z-of_z}
use Rattle.mesh_house.specs.declared.world.Change.TheVariants.{PutSnapshot}
use Rattle.mesh_spec_changes.specs.Changes.{snapshot_of}
use Rattle.mesh_exec_works.specs.Plain.{model_of, plain_models}
use Rattle.mesh_exec_works.proofs.changes.put_change.Goals as goal

pub returns : goal.returns
returns c =
    let fits : FitsSigned w64 c.args.t = c.ranges.t in
    let same : to_z w64 (of_z w64 c.args.t) ≡ c.args.t = simp to_z-of_z in
    ap PutSnapshot (c.in_ok-snapshot.ensures ∙ ap (λ (t : ℤ). snapshot_of t (plain_models c.args.nodes.now c.args.entries.now) (model_of c.args.node.now c.args.entry.now)) same)
