use Rattle.std.proofs.Common.{length}
use Rattle.std.proofs.lemmas.Result.{err_from_is_err_and}
use Rattle.mesh_canon_reading.proofs.Loop.{closes, ends, goes_on, runs_out, stops}
use Rattle.mesh_canon_reading.proofs.read.more.Goals as goal

pub returns-in-Some : goal.returns-in-Some
returns-in-Some g c = closes g.T.Readable.reading c.loop.made (length c.args.bytes.now) c.loop.counter c.loop.rest.now c.in-Some.behind.now _ c.loop-test.true c.in-Some.ensures c.loop.invariant

pub returns-in_err-behind : goal.returns-in_err-behind
returns-in_err-behind g c =
    let p = err_from_is_err_and c.from_residual.result c.from_residual.ensures.1 in
    rw (p.1, p.2) (stops g.T.Readable.reading c.in_err-behind.field-0.0 c.loop.made (length c.args.bytes.now) c.loop.counter c.loop.rest.now _ c.loop-test.true c.in-None.ensures c.in_err-behind.ensures c.loop.invariant)

pub returns-in_err-item : goal.returns-in_err-item
returns-in_err-item g c =
    let p = err_from_is_err_and c.from_residual-in_err-item.result c.from_residual-in_err-item.ensures.1 in
    rw (p.1, p.2) (ends g.T.Readable.reading c.in_err-item.field-0.0 c.loop.made (length c.args.bytes.now) c.loop.counter c.loop.rest.now c.in_ok-behind.behind.now _ c.loop-test.true c.in-None.ensures c.in_ok-behind.ensures c.in_err-item.ensures c.loop.invariant)

pub loop-preserved : goal.loop-preserved
loop-preserved g c =
    rw c.in_ok-push.ensures.ok (goes_on g.T.Readable.reading c.loop.made (length c.args.bytes.now) c.loop.counter c.loop.rest.now c.in_ok-behind.behind.now c.in_ok-item.left.now c.in_ok-item.item _ c.loop-test.true c.in-None.ensures c.in_ok-behind.ensures c.in_ok-item.ensures c.loop.invariant)

pub returns : goal.returns
returns g c = runs_out g.T.Readable.reading c.loop.made (length c.args.bytes.now) c.loop.counter c.loop.rest.now _ c.loop-test.false c.loop.invariant
