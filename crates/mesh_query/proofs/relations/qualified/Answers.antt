use Rattle.std.proofs.Common.{◌+◌, codes, Some, None, arith, sym, ◌∙◌}
use Rattle.mesh_query_grammar.specs.Plans.{accept, take, done, said, is_sign, is_name}
use Rattle.mesh_query.proofs.Steps.{started, past_sign, past_name, without, is_done}
use Rattle.mesh_query.proofs.Descent.{told, lacks}
use Rattle.mesh_query.proofs.relations.qualified.Goals as goal

pub returns-in_err-first : goal.returns-in_err-first
returns-in_err-first c = λ n z.
    told _ _ c.from_residual.result c.from_residual.ensures (lacks c.args.tokens.now c.args.from _ started c.in_err-first.ensures)

pub returns-in_err-second : goal.returns-in_err-second
returns-in_err-second c = λ n z.
    let first = c.in_ok-first.ensures in
    let dot = c.is_sign.ensures.taken c.if-is_sign.true in
    told _ _ c.from_residual-in_err-second.result c.from_residual-in_err-second.ensures (lacks c.args.tokens.now (c.in_ok-first.next + 1) _ (past_sign (codes ".") (past_name (λ x. accept (is_sign (codes ".")) (λ j. take is_name (λ i. done (Some x, said i))) (done (None, x))) started first.2) dot.2) c.in_err-second.ensures)

pub returns-then-is_sign : goal.returns-then-is_sign
returns-then-is_sign c = λ n z.
    let first = c.in_ok-first.ensures in
    let dot = c.is_sign.ensures.taken c.if-is_sign.true in
    let second = c.in_ok-second.ensures in
    (omega (arith, first.0, second.0), is_done (past_name (λ y. done (Some c.in_ok-first.first, y)) (past_sign (codes ".") (past_name (λ x. accept (is_sign (codes ".")) (λ j. take is_name (λ i. done (Some x, said i))) (done (None, x))) started first.2) dot.2) second.2))

pub returns : goal.returns
returns c = λ n z.
    let first = c.in_ok-first.ensures in
    (omega (arith, first.0), is_done (without (past_name (λ x. accept (is_sign (codes ".")) (λ j. take is_name (λ i. done (Some x, said i))) (done (None, x))) started first.2) (sym c.is_sign.ensures.seen ∙ c.if-is_sign.false)))
