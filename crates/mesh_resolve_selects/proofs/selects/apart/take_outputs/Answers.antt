use Rattle.std.proofs.lemmas.Result.{err_from_is_err_and}
use Rattle.mesh_resolve_selects.specs.selects.Apart.{names_of, new_output}
use Rattle.mesh_resolve_selects.proofs.outputs.Steps.{all_along, none_along, one_more, stops}
use Rattle.mesh_resolve_selects.proofs.selects.apart.take_outputs.Goals as goal

pub returns-in_err-take_name : goal.returns-in_err-take_name
returns-in_err-take_name c =
    let p = err_from_is_err_and c.from_residual.result c.from_residual.ensures.1 in
    rw (p.1, p.2) (stops new_output (names_of c.args.taken.now) (names_of c.loop-o.taken) c.args.outputs.now c.loop-o.o-index c.o-item.result c.in_err-take_name.field-0.0
    c.loop-o-test.true c.o-item.is c.loop-o.invariant c.in_err-take_name.ensures)

pub loop-o-init : goal.loop-o-init
loop-o-init c = none_along (new_output) (names_of c.args.taken.now)

pub loop-o-preserved : goal.loop-o-preserved
loop-o-preserved c =
    one_more (new_output) (names_of c.args.taken.now) (names_of c.loop-o.taken) (names_of c.take_name.new.taken) c.args.outputs.now c.loop-o.o-index c.o-item.result c.loop-o-test.true c.o-item.is c.loop-o.invariant c.in_ok-take_name.ensures

pub returns : goal.returns
returns c = all_along (new_output) (names_of c.args.taken.now) (names_of c.loop-o.taken) c.args.outputs.now c.loop-o.o-index c.loop-o-test.false c.loop-o.invariant
