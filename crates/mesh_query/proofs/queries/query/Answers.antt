use Rattle.std.proofs.Common.{codes, arith, sym, ◌∙◌}
use Rattle.mesh_query.proofs.Steps.{started, noted, past_sign, without, has_read, is_done}
use Rattle.mesh_query.proofs.Descent.{told, fails_in}
use Rattle.mesh_query.proofs.queries.query.Goals as goal

pub returns-in_err-ctes : goal.returns-in_err-ctes
returns-in_err-ctes c = told _ _ c.from_residual.result c.from_residual.ensures (fails_in _ c.args.tokens.now _ (noted started) c.in_err-ctes.ensures)

pub returns-in_err-body : goal.returns-in_err-body
returns-in_err-body c =
    let ctes = c.in_ok-ctes.ensures in
    told _ _ c.from_residual-in_err-body.result c.from_residual-in_err-body.ensures (fails_in _ c.args.tokens.now _ (has_read c.in_ok-ctes.ctes (noted started) ctes.1) c.in_err-body.ensures)

pub returns-then-is_sign : goal.returns-then-is_sign
returns-then-is_sign c =
    let ctes = c.in_ok-ctes.ensures in
    let body = c.in_ok-body.ensures in
    rw c.place.ensures (omega (arith, ctes.0, body.0), is_done (past_sign (codes ";") (has_read c.in_ok-body.body (has_read c.in_ok-ctes.ctes (noted started) ctes.1) body.1) (c.is_sign.ensures.taken c.if-is_sign.true).2))

pub returns : goal.returns
returns c =
    let ctes = c.in_ok-ctes.ensures in
    let body = c.in_ok-body.ensures in
    rw c.place.ensures (omega (arith, ctes.0, body.0), is_done (without (has_read c.in_ok-body.body (has_read c.in_ok-ctes.ctes (noted started) ctes.1) body.1) (sym c.is_sign.ensures.seen ∙ c.if-is_sign.false)))
