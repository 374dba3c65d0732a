use Rattle.std.proofs.lemmas.Result.{err_from_is_err_and}
use Rattle.mesh_resolve_selects.specs.selects.Apart.{names_of, new_item}
use Rattle.mesh_resolve_selects.proofs.outputs.Steps.{all_along, none_along, one_more, stops}
use Rattle.mesh_resolve_selects.proofs.selects.apart.take_items.Goals as goal

pub returns-in_err-take_name : goal.returns-in_err-take_name
returns-in_err-take_name c =
    let p = err_from_is_err_and c.from_residual.result c.from_residual.ensures.1 in
    rw (p.1, p.2) (stops new_item (names_of c.args.taken.now) (names_of c.loop-d.taken) c.args.from.now c.loop-d.d-index c.d-item.result c.in_err-take_name.field-0.0
    c.loop-d-test.true c.d-item.is c.loop-d.invariant c.in_err-take_name.ensures)

pub loop-d-init : goal.loop-d-init
loop-d-init c = none_along (new_item) (names_of c.args.taken.now)

pub loop-d-preserved : goal.loop-d-preserved
loop-d-preserved c =
    one_more (new_item) (names_of c.args.taken.now) (names_of c.loop-d.taken) (names_of c.take_name.new.taken) c.args.from.now c.loop-d.d-index c.d-item.result c.loop-d-test.true c.d-item.is c.loop-d.invariant c.in_ok-take_name.ensures

pub returns : goal.returns
returns c = all_along (new_item) (names_of c.args.taken.now) (names_of c.loop-d.taken) c.args.from.now c.loop-d.d-index c.loop-d-test.false c.loop-d.invariant
