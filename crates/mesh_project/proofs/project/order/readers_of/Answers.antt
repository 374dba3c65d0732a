use Rattle.std.proofs.Common.{[], ◌∷◌, ◌++◌, map, ap, ◌∙◌}
use Rattle.std.proofs.lemmas.List.{take_all}
use Rattle.mesh_project.specs.project.Project.{reader_of}
use Rattle.mesh_project.proofs.nodes.Loops.{one_more_made}
use Rattle.mesh_project.proofs.project.order.readers_of.Goals as goal

pub loop-file-preserved : goal.loop-file-preserved
loop-file-preserved c =
    one_more_made reader_of c.loop-file.readers c.push.new.self c.args.files.now c.loop-file.file-index c.file-item.result
    c.loop-file-test.true c.file-item.is c.loop-file.invariant (c.in_ok-push.ensures.ok ∙ ap (λ r. c.loop-file.readers ++ r ∷ []) c.in_ok-reader_of.ensures)

pub returns : goal.returns
returns c = c.loop-file.invariant ∙ ap (map reader_of) (take_all c.loop-file.file-index c.args.files.now c.loop-file-test.false)
