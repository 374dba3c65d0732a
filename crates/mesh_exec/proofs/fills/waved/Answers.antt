use Rattle.std.proofs.Common.{◌++◌, List, ap, ◌∙◌}
use Rattle.mesh_house.specs.declared.world.Change.{Change}
use Rattle.mesh_exec_works.specs.Plain.{model_of}
use Rattle.mesh_exec.proofs.Filling.{zip_fills}
use Rattle.mesh_exec.specs.Fills.{zipped}
use Rattle.mesh_exec.proofs.fills.waved.Goals as goal

pub returns : goal.returns
returns g c =
    let m = model_of c.args.node.now c.args.entry.now in
    c.in_ok-push_zipped.ensures
    ∙ ap (λ (l : List Change). l ++ zipped m c.args.runs.now c.as_slice.result.now) c.new-changes.ensures
    ∙ ap (zipped m c.args.runs.now) (c.as_slice.ensures ∙ c.in_ok-made.ensures c.args.entry.now)
    ∙ zip_fills c.args.node.now c.args.entry.now c.args.pools.now 0 c.args.runs.now c.requires.fit
