use Rattle.std.proofs.lemmas.Result.{err_from_is_err_and}
use Rattle.mesh_resolve_selects.specs.outputs.Keys.{one_key}
use Rattle.mesh_resolve_selects.proofs.outputs.Steps.{all_along, none_along, one_more, stops}
use Rattle.mesh_resolve_selects.proofs.outputs.keys.add_keys.Goals as goal

pub returns-in_err-one_key : goal.returns-in_err-one_key
returns-in_err-one_key c =
    let p = err_from_is_err_and c.from_residual.result c.from_residual.ensures.1 in
    rw (p.1, p.2) (stops (one_key c.args.sight.now c.args.outputs.now) c.args.done.now c.loop-e.done c.args.es.now c.loop-e.e-index c.e-item.result c.in_err-one_key.field-0.0
    c.loop-e-test.true c.e-item.is c.loop-e.invariant c.in_err-one_key.ensures)

pub loop-e-init : goal.loop-e-init
loop-e-init c = none_along (one_key c.args.sight.now c.args.outputs.now) c.args.done.now

pub loop-e-preserved : goal.loop-e-preserved
loop-e-preserved c =
    one_more (one_key c.args.sight.now c.args.outputs.now) c.args.done.now c.loop-e.done c.one_key.new.done c.args.es.now c.loop-e.e-index c.e-item.result c.loop-e-test.true c.e-item.is c.loop-e.invariant c.in_ok-one_key.ensures

pub returns : goal.returns
returns c = all_along (one_key c.args.sight.now c.args.outputs.now) c.args.done.now c.loop-e.done c.args.es.now c.loop-e.e-index c.loop-e-test.false c.loop-e.invariant
