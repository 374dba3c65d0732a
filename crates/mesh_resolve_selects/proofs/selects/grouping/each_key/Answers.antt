use Rattle.std.proofs.lemmas.Result.{err_from_is_err_and}
use Rattle.mesh_resolve_selects.specs.selects.Standing.{is_right_key}
use Rattle.mesh_resolve_selects.proofs.outputs.Steps.{all_along, none_along, one_more, stops}
use Rattle.mesh_resolve_selects.proofs.selects.grouping.each_key.Goals as goal

pub returns-in_err-is_right_key : goal.returns-in_err-is_right_key
returns-in_err-is_right_key c =
    let p = err_from_is_err_and c.from_residual.result c.from_residual.ensures.1 in
    rw (p.1, p.2) (stops (λ so_far k. is_right_key k) tt tt c.args.keys.now c.loop-k.k-index c.k-item.result c.in_err-is_right_key.field-0.0
    c.loop-k-test.true c.k-item.is c.loop-k.invariant c.in_err-is_right_key.ensures)

pub loop-k-init : goal.loop-k-init
loop-k-init c = none_along (λ so_far k. is_right_key k) tt

pub loop-k-preserved : goal.loop-k-preserved
loop-k-preserved c =
    one_more (λ so_far k. is_right_key k) tt tt tt c.args.keys.now c.loop-k.k-index c.k-item.result c.loop-k-test.true c.k-item.is c.loop-k.invariant c.in_ok-is_right_key.ensures

pub returns : goal.returns
returns c = all_along (λ so_far k. is_right_key k) tt tt c.args.keys.now c.loop-k.k-index c.loop-k-test.false c.loop-k.invariant
