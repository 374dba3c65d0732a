use Rattle.std.proofs.Common.{[], fold, ap, ◌∙◌}
use Rattle.std.proofs.lemmas.List.{take_all}
use Rattle.mesh_project.specs.nodes.Earlier.{noted}
use Rattle.mesh_project.proofs.nodes.Loops.{one_more_step}
use Rattle.mesh_project.proofs.nodes.earlier.named.Goals as goal

pub loop-name-preserved : goal.loop-name-preserved
loop-name-preserved c =
    one_more_step (noted c.args.earlier.now) [] c.loop-name.made c.note.new.made c.args.names.now c.loop-name.name-index c.name-item.result
    c.loop-name-test.true c.name-item.is c.loop-name.invariant c.in_ok-note.ensures

pub returns : goal.returns
returns c = c.loop-name.invariant ∙ ap (fold (noted c.args.earlier.now) []) (take_all c.loop-name.name-index c.args.names.now c.loop-name-test.false)
