use Rattle.std.proofs.Common.{codes, arith, sym, ◌∙◌}
use Rattle.mesh_query.proofs.Steps.{started, past_word, without, has_read, is_done}
use Rattle.mesh_query.proofs.Descent.{told, fails_in}
use Rattle.mesh_query.proofs.relations.source.Goals as goal

pub returns-in_err-source : goal.returns-in_err-source
returns-in_err-source c =
    let word = c.is_word.ensures.taken c.if-is_word.true in
    told _ _ c.from_residual.result c.from_residual.ensures (fails_in _ c.args.tokens.now _ (past_word (codes "from") started word.2) c.in_err-source.ensures)

pub returns-then-is_word : goal.returns-then-is_word
returns-then-is_word c =
    let word = c.is_word.ensures.taken c.if-is_word.true in
    let source = c.in_ok-source.ensures in
    (omega (arith, source.0), is_done (has_read c.in_ok-source.source (past_word (codes "from") started word.2) source.1))

pub returns : goal.returns
returns c = (omega arith, is_done (without started (sym c.is_word.ensures.seen ∙ c.if-is_word.false)))
