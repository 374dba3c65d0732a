use Rattle.std.proofs.lemmas.Result.{err_from_is_err_and}
use Rattle.mesh_resolve_selects.specs.selects.Standing.{on_without_aggregates}
use Rattle.mesh_resolve_selects.proofs.outputs.Steps.{all_along, none_along, one_more, stops}
use Rattle.mesh_resolve_selects.proofs.selects.grouping.each_on.Goals as goal

pub returns-in_err-some_without_aggregates : goal.returns-in_err-some_without_aggregates
returns-in_err-some_without_aggregates c =
    let p = err_from_is_err_and c.from_residual.result c.from_residual.ensures.1 in
    rw (p.1, p.2) (stops (λ so_far d. on_without_aggregates d) tt tt c.args.from.now c.loop-d.d-index c.d-item.result c.in_err-some_without_aggregates.field-0.0
    c.loop-d-test.true c.d-item.is c.loop-d.invariant c.in_err-some_without_aggregates.ensures)

pub loop-d-init : goal.loop-d-init
loop-d-init c = none_along (λ so_far d. on_without_aggregates d) tt

pub loop-d-preserved : goal.loop-d-preserved
loop-d-preserved c =
    one_more (λ so_far d. on_without_aggregates d) tt tt tt c.args.from.now c.loop-d.d-index c.d-item.result c.loop-d-test.true c.d-item.is c.loop-d.invariant c.in_ok-some_without_aggregates.ensures

pub returns : goal.returns
returns c = all_along (λ so_far d. on_without_aggregates d) tt tt c.args.from.now c.loop-d.d-index c.loop-d-test.false c.loop-d.invariant
