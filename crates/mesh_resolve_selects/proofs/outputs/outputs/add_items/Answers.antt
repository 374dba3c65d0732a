use Rattle.std.proofs.lemmas.Result.{err_from_is_err_and}
use Rattle.mesh_resolve_selects.specs.outputs.Outputs.{item}
use Rattle.mesh_resolve_selects.proofs.outputs.Steps.{all_along, none_along, one_more, stops}
use Rattle.mesh_resolve_selects.proofs.outputs.outputs.add_items.Goals as goal

pub returns-in_err-item : goal.returns-in_err-item
returns-in_err-item c =
    let p = err_from_is_err_and c.from_residual.result c.from_residual.ensures.1 in
    rw (p.1, p.2) (stops (item c.args.sight.now) c.args.done.now c.loop-written.done c.args.all.now c.loop-written.written-index c.written-item.result c.in_err-item.field-0.0
    c.loop-written-test.true c.written-item.is c.loop-written.invariant c.in_err-item.ensures)

pub loop-written-init : goal.loop-written-init
loop-written-init c = none_along (item c.args.sight.now) c.args.done.now

pub loop-written-preserved : goal.loop-written-preserved
loop-written-preserved c =
    one_more (item c.args.sight.now) c.args.done.now c.loop-written.done c.item.new.done c.args.all.now c.loop-written.written-index c.written-item.result c.loop-written-test.true c.written-item.is c.loop-written.invariant c.in_ok-item.ensures

pub returns : goal.returns
returns c = all_along (item c.args.sight.now) c.args.done.now c.loop-written.done c.args.all.now c.loop-written.written-index c.loop-written-test.false c.loop-written.invariant
