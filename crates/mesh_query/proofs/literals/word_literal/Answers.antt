use Rattle.std.proofs.Common.{codes, arith, sym, ◌∙◌}
use Rattle.mesh_query.proofs.Steps.{past_word, without, is_done, counted}
use Rattle.mesh_query.proofs.Descent.{stuck_here, unworded}
use Rattle.mesh_query.proofs.literals.word_literal.Goals as goal

pub overflow_add-result : goal.overflow_add-result
overflow_add-result c =
    let word = c.is_word.ensures.taken c.if-is_word.true in
    omega (arith, word.1)

pub returns-then-is_word : goal.returns-then-is_word
returns-then-is_word c = λ n s b I. rw c.place-at.ensures (omega arith, is_done (counted c.meet.ensures (past_word (codes "true") I (c.is_word.ensures.taken c.if-is_word.true).2)))

pub overflow_add-result-then-is_word-2 : goal.overflow_add-result-then-is_word-2
overflow_add-result-then-is_word-2 c =
    let word = c.is_word-else-is_word.ensures.taken c.if-is_word-2.true in
    omega (arith, word.1)

pub returns-then-is_word-2 : goal.returns-then-is_word-2
returns-then-is_word-2 c = λ n s b I.
    let J = without I (sym c.is_word.ensures.seen ∙ c.if-is_word.false) in
    rw c.place-at.ensures (omega arith, is_done (counted c.meet-then-is_word-2.ensures (past_word (codes "false") J (c.is_word-else-is_word.ensures.taken c.if-is_word-2.true).2)))

pub overflow_add-result-then-is_word-3 : goal.overflow_add-result-then-is_word-3
overflow_add-result-then-is_word-3 c =
    let word = c.is_word-else-is_word-2.ensures.taken c.if-is_word-3.true in
    omega (arith, word.1)

pub returns-then-is_word-3 : goal.returns-then-is_word-3
returns-then-is_word-3 c = λ n s b I.
    let J = without (without I (sym c.is_word.ensures.seen ∙ c.if-is_word.false)) (sym c.is_word-else-is_word.ensures.seen ∙ c.if-is_word-2.false) in
    rw c.place-at.ensures (omega arith, is_done (counted c.meet-then-is_word-3.ensures (past_word (codes "null") J (c.is_word-else-is_word-2.ensures.taken c.if-is_word-3.true).2)))

pub returns-else-is_word-3 : goal.returns-else-is_word-3
returns-else-is_word-3 c = λ n s b I.
    stuck_here c.args.tokens.now c.args.from
    (unworded I (sym c.is_word.ensures.seen ∙ c.if-is_word.false) (sym c.is_word-else-is_word.ensures.seen ∙ c.if-is_word-2.false) (sym c.is_word-else-is_word-2.ensures.seen ∙ c.if-is_word-3.false))
