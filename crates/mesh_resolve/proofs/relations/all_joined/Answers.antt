use Rattle.std.proofs.lemmas.Result.{err_from_is_err_and}
use Rattle.mesh_resolve.specs.Relations.{joined}
use Rattle.mesh_resolve_selects.proofs.outputs.Steps.{one_more, stops}
use Rattle.mesh_resolve.proofs.relations.all_joined.Goals as goal

pub returns-in_err-joined : goal.returns-in_err-joined
returns-in_err-joined c =
    let p = err_from_is_err_and c.from_residual.result c.from_residual.ensures.1 in
    rw (p.1, p.2) (stops (joined c.args.known.now c.args.ctes.now) c.args.f.now c.loop-j.f c.args.joins.now c.loop-j.j-index c.j-item.result c.in_err-joined.field-0.0
    c.loop-j-test.true c.j-item.is c.loop-j.invariant c.in_err-joined.ensures)

pub loop-j-preserved : goal.loop-j-preserved
loop-j-preserved c =
    one_more (joined c.args.known.now c.args.ctes.now) c.args.f.now c.loop-j.f c.joined.new.f c.args.joins.now c.loop-j.j-index c.j-item.result c.loop-j-test.true c.j-item.is c.loop-j.invariant c.in_ok-joined.ensures
