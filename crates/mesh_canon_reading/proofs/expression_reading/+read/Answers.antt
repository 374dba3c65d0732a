use Rattle.std.proofs.Common.{length}
use Rattle.std.proofs.lemmas.Result.{err_from_is_err_and}
use Rattle.mesh_canon_reading.proofs.Loop.{closes, ends, goes_on, runs_out, stops}
use Rattle.mesh_canon_reading.specs.Reading.{expr_at, when_at}
use Rattle.mesh_canon_reading.proofs.expression_reading.+read.Goals as goal

pub more_exprs-returns-in-Some : goal.more_exprs-returns-in-Some
more_exprs-returns-in-Some t c = closes (expr_at c.args.depth) c.loop.made (length c.args.bytes.now) c.loop.counter c.loop.rest.now c.in-Some.behind.now _ c.loop-test.true c.in-Some.ensures c.loop.invariant

pub more_exprs-returns-in_err-behind : goal.more_exprs-returns-in_err-behind
more_exprs-returns-in_err-behind t c =
    let p = err_from_is_err_and c.from_residual.result c.from_residual.ensures.1 in
    rw (p.1, p.2) (stops (expr_at c.args.depth) c.in_err-behind.field-0.0 c.loop.made (length c.args.bytes.now) c.loop.counter c.loop.rest.now _ c.loop-test.true c.in-None.ensures c.in_err-behind.ensures c.loop.invariant)

pub more_exprs-returns-in_err-item : goal.more_exprs-returns-in_err-item
more_exprs-returns-in_err-item t c =
    let p = err_from_is_err_and c.from_residual-in_err-item.result c.from_residual-in_err-item.ensures.1 in
    rw (p.1, p.2) (ends (expr_at c.args.depth) c.in_err-item.field-0.0 c.loop.made (length c.args.bytes.now) c.loop.counter c.loop.rest.now c.in_ok-behind.behind.now _ c.loop-test.true c.in-None.ensures c.in_ok-behind.ensures c.in_err-item.ensures c.loop.invariant)

pub more_exprs-loop-preserved : goal.more_exprs-loop-preserved
more_exprs-loop-preserved t c =
    rw c.in_ok-push.ensures.ok (goes_on (expr_at c.args.depth) c.loop.made (length c.args.bytes.now) c.loop.counter c.loop.rest.now c.in_ok-behind.behind.now c.in_ok-item.left.now c.in_ok-item.item _ c.loop-test.true c.in-None.ensures c.in_ok-behind.ensures c.in_ok-item.ensures c.loop.invariant)

pub more_exprs-returns : goal.more_exprs-returns
more_exprs-returns t c = runs_out (expr_at c.args.depth) c.loop.made (length c.args.bytes.now) c.loop.counter c.loop.rest.now _ c.loop-test.false c.loop.invariant

pub more_whens-returns-in-Some : goal.more_whens-returns-in-Some
more_whens-returns-in-Some t c = closes (when_at (expr_at c.args.depth)) c.loop.made (length c.args.bytes.now) c.loop.counter c.loop.rest.now c.in-Some.behind.now _ c.loop-test.true c.in-Some.ensures c.loop.invariant

pub more_whens-returns-in_err-behind : goal.more_whens-returns-in_err-behind
more_whens-returns-in_err-behind t c =
    let p = err_from_is_err_and c.from_residual.result c.from_residual.ensures.1 in
    rw (p.1, p.2) (stops (when_at (expr_at c.args.depth)) c.in_err-behind.field-0.0 c.loop.made (length c.args.bytes.now) c.loop.counter c.loop.rest.now _ c.loop-test.true c.in-None.ensures c.in_err-behind.ensures c.loop.invariant)

pub more_whens-returns-in_err-item : goal.more_whens-returns-in_err-item
more_whens-returns-in_err-item t c =
    let p = err_from_is_err_and c.from_residual-in_err-item.result c.from_residual-in_err-item.ensures.1 in
    rw (p.1, p.2) (ends (when_at (expr_at c.args.depth)) c.in_err-item.field-0.0 c.loop.made (length c.args.bytes.now) c.loop.counter c.loop.rest.now c.in_ok-behind.behind.now _ c.loop-test.true c.in-None.ensures c.in_ok-behind.ensures c.in_err-item.ensures c.loop.invariant)

pub more_whens-loop-preserved : goal.more_whens-loop-preserved
more_whens-loop-preserved t c =
    rw c.in_ok-push.ensures.ok (goes_on (when_at (expr_at c.args.depth)) c.loop.made (length c.args.bytes.now) c.loop.counter c.loop.rest.now c.in_ok-behind.behind.now c.in_ok-item.left.now c.in_ok-item.item _ c.loop-test.true c.in-None.ensures c.in_ok-behind.ensures c.in_ok-item.ensures c.loop.invariant)

pub more_whens-returns : goal.more_whens-returns
more_whens-returns t c = runs_out (when_at (expr_at c.args.depth)) c.loop.made (length c.args.bytes.now) c.loop.counter c.loop.rest.now _ c.loop-test.false c.loop.invariant
