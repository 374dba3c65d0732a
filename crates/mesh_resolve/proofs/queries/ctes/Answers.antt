use Rattle.std.proofs.Common.{[]}
use Rattle.std.proofs.lemmas.Result.{err_from_is_err_and}
use Rattle.mesh_resolve.specs.Queries.{cte}
use Rattle.mesh_resolve_selects.proofs.outputs.Steps.{one_more, stops}
use Rattle.mesh_resolve.proofs.queries.ctes.Goals as goal

pub returns-in_err-cte : goal.returns-in_err-cte
returns-in_err-cte c =
    let p = err_from_is_err_and c.from_residual.result c.from_residual.ensures.1 in
    rw (p.1, p.2) (stops (cte c.args.known.now) [] c.loop-c.done c.args.all.now c.loop-c.c-index c.c-item.result c.in_err-cte.field-0.0
    c.loop-c-test.true c.c-item.is c.loop-c.invariant c.in_err-cte.ensures)

pub loop-c-preserved : goal.loop-c-preserved
loop-c-preserved c =
    one_more (cte c.args.known.now) [] c.loop-c.done c.cte.new.done c.args.all.now c.loop-c.c-index c.c-item.result c.loop-c-test.true c.c-item.is c.loop-c.invariant c.in_ok-cte.ensures
