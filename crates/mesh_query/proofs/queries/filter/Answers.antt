use Rattle.std.proofs.Common.{codes, arith, sym, ◌∙◌}
use Rattle.mesh_query.proofs.Steps.{started, past_word, without, has_read, is_done, read_from}
use Rattle.mesh_query.proofs.Descent.{told, fails_in, failed_from}
use Rattle.mesh_query.proofs.queries.filter.Goals as goal

pub returns-in_err-filter : goal.returns-in_err-filter
returns-in_err-filter c =
    let word = c.is_word.ensures.taken c.if-is_word.true in
    told _ _ c.from_residual.result c.from_residual.ensures (fails_in _ c.args.tokens.now _ (past_word (codes "where") started word.2) (failed_from _ _ _ _ _ _ _ c.begin.ensures c.in_err-filter.ensures))

pub returns-then-is_word : goal.returns-then-is_word
returns-then-is_word c =
    let word = c.is_word.ensures.taken c.if-is_word.true in
    let value = c.in_ok-filter.ensures in
    (omega (arith, value.0), is_done (has_read c.in_ok-filter.filter (past_word (codes "where") started word.2) (read_from c.begin.ensures value.1)))

pub returns : goal.returns
returns c = (omega arith, is_done (without started (sym c.is_word.ensures.seen ∙ c.if-is_word.false)))
