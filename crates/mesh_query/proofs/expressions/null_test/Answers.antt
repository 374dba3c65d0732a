use Rattle.std.proofs.Common.{◌+◌, codes, arith, sym, ◌∙◌}
use Rattle.mesh_query.proofs.Steps.{past_word, without, is_done}
use Rattle.mesh_query.proofs.Descent.{told, lacks}
use Rattle.mesh_query.proofs.expressions.null_test.Goals as goal

pub returns-in_err-at : goal.returns-in_err-at
returns-in_err-at c = λ n z s b I.
    let first = c.is_word.ensures.taken c.if-is_word.true in
    told _ _ c.from_residual.result c.from_residual.ensures (lacks c.args.tokens.now (c.args.from + 1) _ (past_word (codes "not") I first.2) c.in_err-at.ensures)

pub returns-then-is_word : goal.returns-then-is_word
returns-then-is_word c = λ n z s b I.
    let first = c.is_word.ensures.taken c.if-is_word.true in
    let second = c.in_ok-at.ensures in
    (omega (arith, second.0), is_done (past_word (codes "null") (past_word (codes "not") I first.2) second.2))

pub returns-in_err-at-2 : goal.returns-in_err-at-2
returns-in_err-at-2 c = λ n z s b I.
    told _ _ c.from_residual-in_err-at-2.result c.from_residual-in_err-at-2.ensures (lacks c.args.tokens.now c.args.from _ (without I (sym c.is_word.ensures.seen ∙ c.if-is_word.false)) c.in_err-at-2.ensures)

pub returns : goal.returns
returns c = λ n z s b I.
    let only = c.in_ok-at-2.ensures in
    (omega (arith, only.0), is_done (past_word (codes "null") (without I (sym c.is_word.ensures.seen ∙ c.if-is_word.false)) only.2))
