use Rattle.std.proofs.lemmas.Result.{err_from_is_err_and}
use Rattle.mesh_resolve_selects.specs.selects.Standing.{output_well_grouped}
use Rattle.mesh_resolve_selects.proofs.outputs.Steps.{all_along, none_along, one_more, stops}
use Rattle.mesh_resolve_selects.proofs.selects.grouping.each_output.Goals as goal

pub returns-in_err-well_grouped : goal.returns-in_err-well_grouped
returns-in_err-well_grouped c =
    let p = err_from_is_err_and c.from_residual.result c.from_residual.ensures.1 in
    rw (p.1, p.2) (stops (λ so_far o. output_well_grouped c.args.grouped c.args.keys.now o) tt tt c.args.outputs.now c.loop-o.o-index c.o-item.result c.in_err-well_grouped.field-0.0
    c.loop-o-test.true c.o-item.is c.loop-o.invariant c.in_err-well_grouped.ensures)

pub loop-o-init : goal.loop-o-init
loop-o-init c = none_along (λ so_far o. output_well_grouped c.args.grouped c.args.keys.now o) tt

pub loop-o-preserved : goal.loop-o-preserved
loop-o-preserved c =
    one_more (λ so_far o. output_well_grouped c.args.grouped c.args.keys.now o) tt tt tt c.args.outputs.now c.loop-o.o-index c.o-item.result c.loop-o-test.true c.o-item.is c.loop-o.invariant c.in_ok-well_grouped.ensures

pub returns : goal.returns
returns c = all_along (λ so_far o. output_well_grouped c.args.grouped c.args.keys.now o) tt tt c.args.outputs.now c.loop-o.o-index c.loop-o-test.false c.loop-o.invariant
