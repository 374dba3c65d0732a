use Rattle.std.proofs.Common.{◌++◌, ◌∙◌}
use Rattle.mesh_exec_works.specs.Plain.{model_of}
use Rattle.mesh_exec.specs.Fills.{each_with}
use Rattle.mesh_exec.proofs.fills.viewed.Goals as goal

pub returns : goal.returns
returns c = c.in_ok-push_each.ensures ∙ (λ i. c.new-changes.ensures i ++ each_with (model_of c.args.node.now c.args.entry.now) c.args.dues.now (c.new.ensures i))
