use Rattle.std.proofs.lemmas.Result.{err_from_is_err_and}
use Rattle.mesh_project.specs.nodes.Apart.{names_of, with_model_name}
use Rattle.mesh_project.proofs.nodes.Steps.{all_along, none_along, one_more, stops}
use Rattle.mesh_project.proofs.nodes.apart.take_names.Goals as goal

pub returns-in_err-take_name-clause-leads : goal.returns-in_err-take_name-clause-leads
returns-in_err-take_name-clause-leads c =
    let p = err_from_is_err_and c.from_residual.result c.from_residual.ensures.1 in
    rw (p.1, p.2) (stops with_model_name (names_of c.args.taken.now) (names_of c.loop-file.taken) c.args.files.now c.loop-file.file-index c.file-item.result c.in_err-take_name.field-0.0
    c.loop-file-test.true c.file-item.is c.loop-file.invariant c.in_err-take_name.ensures.leads)

pub loop-file-init : goal.loop-file-init
loop-file-init c = none_along with_model_name (names_of c.args.taken.now)

pub loop-file-preserved : goal.loop-file-preserved
loop-file-preserved c =
    one_more with_model_name (names_of c.args.taken.now) (names_of c.loop-file.taken) (names_of c.take_name.new.taken) c.args.files.now c.loop-file.file-index c.file-item.result
    c.loop-file-test.true c.file-item.is c.loop-file.invariant c.in_ok-take_name.ensures.leads

pub returns-clause-leads : goal.returns-clause-leads
returns-clause-leads c =
    all_along with_model_name (names_of c.args.taken.now) (names_of c.loop-file.taken) c.args.files.now c.loop-file.file-index c.loop-file-test.false c.loop-file.invariant
