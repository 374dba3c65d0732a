use Rattle.std.proofs.Common.{sym, ◌∙◌}
use Rattle.mesh_query.proofs.Steps.{past_word, without}
use Rattle.mesh_query.proofs.relations.past.Goals as goal

pub returns-then-is_word-clause-left : goal.returns-then-is_word-clause-left
returns-then-is_word-clause-left c = λ n b d s q I.
    past_word c.args.word.now I (c.is_word.ensures.taken c.if-is_word.true).2

pub returns-else-is_word-clause-left : goal.returns-else-is_word-clause-left
returns-else-is_word-clause-left c = λ n b d s q I.
    without I (sym c.is_word.ensures.seen ∙ c.if-is_word.false)
