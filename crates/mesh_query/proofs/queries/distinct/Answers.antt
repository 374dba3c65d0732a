use Rattle.std.proofs.Common.{codes, sym, ◌∙◌}
use Rattle.mesh_query.proofs.Steps.{past_word, without}
use Rattle.mesh_query.proofs.queries.distinct.Goals as goal

pub returns-then-is_word-clause-left : goal.returns-then-is_word-clause-left
returns-then-is_word-clause-left c = λ n b d s f I.
    past_word (codes "distinct") I (c.is_word.ensures.taken c.if-is_word.true).2

pub returns-else-is_word-clause-left : goal.returns-else-is_word-clause-left
returns-else-is_word-clause-left c = λ n b d s f I.
    without I (sym c.is_word.ensures.seen ∙ c.if-is_word.false)
