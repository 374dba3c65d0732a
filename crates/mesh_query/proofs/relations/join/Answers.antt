use Rattle.std.proofs.Common.{◌+◌, codes, drop, arith, sym, ◌∙◌}
use Rattle.mesh_query.proofs.Steps.{started, noted, past_word, past_sign, without, has_read, is_done}
use Rattle.mesh_query.proofs.Descent.{told, lacks, fails_in}
use Rattle.mesh_query.proofs.relations.join.Goals as goal

pub overflow_add-from : goal.overflow_add-from
overflow_add-from c =
    let word = c.is_sign.ensures.taken c.if-is_sign.true in
    omega (arith, word.1)

pub returns-in_err-rel-clause-answers : goal.returns-in_err-rel-clause-answers
returns-in_err-rel-clause-answers c =
    let sign = c.is_sign.ensures.taken c.if-is_sign.true in
    told _ _ c.from_residual.result c.from_residual.ensures (fails_in _ c.args.tokens.now _ (past_sign (codes ",") (noted started) sign.2) (c.in_err-rel.ensures c.args.depth _))

pub returns-in_err-rel-clause-on : goal.returns-in_err-rel-clause-on
returns-in_err-rel-clause-on c = told _ _ c.from_residual.result c.from_residual.ensures tt

pub returns-then-is_sign-clause-answers : goal.returns-then-is_sign-clause-answers
returns-then-is_sign-clause-answers c =
    let sign = c.is_sign.ensures.taken c.if-is_sign.true in
    let rel = c.in_ok-rel.ensures c.args.depth _ in
    rw c.place-at.ensures (omega (arith, rel.0), is_done (has_read c.in_ok-rel.rel (past_sign (codes ",") (noted started) sign.2) rel.1))

pub returns-then-is_sign-clause-on : goal.returns-then-is_sign-clause-on
returns-then-is_sign-clause-on c =
    let rel = c.in_ok-rel.ensures c.args.depth 0 in
    omega (arith, rel.0)

pub overflow_add-from-then-is_word : goal.overflow_add-from-then-is_word
overflow_add-from-then-is_word c =
    let word = c.is_word.ensures.taken c.if-is_word.true in
    omega (arith, word.1)

pub returns-in_err-next-clause-answers : goal.returns-in_err-next-clause-answers
returns-in_err-next-clause-answers c =
    let word = c.is_word.ensures.taken c.if-is_word.true in
    told _ _ c.from_residual-in_err-next.result c.from_residual-in_err-next.ensures (lacks c.args.tokens.now (c.args.from + 1) _ (past_word (codes "cross") (without (noted started) (sym c.is_sign.ensures.seen ∙ c.if-is_sign.false)) word.2) c.in_err-next.ensures)

pub returns-in_err-next-clause-on : goal.returns-in_err-next-clause-on
returns-in_err-next-clause-on c = told _ _ c.from_residual-in_err-next.result c.from_residual-in_err-next.ensures tt

pub returns-in_err-rel-2-clause-answers : goal.returns-in_err-rel-2-clause-answers
returns-in_err-rel-2-clause-answers c =
    let word = c.is_word.ensures.taken c.if-is_word.true in
    let join = c.in_ok-next.ensures in
    told _ _ c.from_residual-in_err-rel-2.result c.from_residual-in_err-rel-2.ensures (fails_in _ c.args.tokens.now _ (past_word (codes "join") (past_word (codes "cross") (without (noted started) (sym c.is_sign.ensures.seen ∙ c.if-is_sign.false)) word.2) join.2) (c.in_err-rel-2.ensures c.args.depth _))

pub returns-in_err-rel-2-clause-on : goal.returns-in_err-rel-2-clause-on
returns-in_err-rel-2-clause-on c = told _ _ c.from_residual-in_err-rel-2.result c.from_residual-in_err-rel-2.ensures tt

pub returns-then-is_word-clause-answers : goal.returns-then-is_word-clause-answers
returns-then-is_word-clause-answers c =
    let word = c.is_word.ensures.taken c.if-is_word.true in
    let join = c.in_ok-next.ensures in
    let rel = c.in_ok-rel-2.ensures c.args.depth _ in
    rw c.place-at.ensures (omega (arith, join.0, rel.0), is_done (has_read c.in_ok-rel-2.rel (past_word (codes "join") (past_word (codes "cross") (without (noted started) (sym c.is_sign.ensures.seen ∙ c.if-is_sign.false)) word.2) join.2) rel.1))

pub returns-then-is_word-clause-on : goal.returns-then-is_word-clause-on
returns-then-is_word-clause-on c =
    let join = c.in_ok-next.ensures in
    let rel = c.in_ok-rel-2.ensures c.args.depth 0 in
    omega (arith, join.0, rel.0)

pub overflow_add-from-then-is_word-2 : goal.overflow_add-from-then-is_word-2
overflow_add-from-then-is_word-2 c =
    let word = c.is_word-2.ensures.taken c.if-is_word-2.true in
    omega (arith, word.1)

pub returns-in_err-next-2-clause-answers : goal.returns-in_err-next-2-clause-answers
returns-in_err-next-2-clause-answers c =
    let word = c.is_word-2.ensures.taken c.if-is_word-2.true in
    let I = c.past-next.ensures.left c.args.depth _ _ (drop c.args.from c.args.tokens.now) _ (past_word (codes "left") (without (without (noted started) (sym c.is_sign.ensures.seen ∙ c.if-is_sign.false)) (sym c.is_word.ensures.seen ∙ c.if-is_word.false)) word.2) in
    told _ _ c.from_residual-in_err-next-2.result c.from_residual-in_err-next-2.ensures (lacks c.args.tokens.now c.past-next.result _ I c.in_err-next-2.ensures)

pub returns-in_err-next-2-clause-on : goal.returns-in_err-next-2-clause-on
returns-in_err-next-2-clause-on c = told _ _ c.from_residual-in_err-next-2.result c.from_residual-in_err-next-2.ensures tt

pub returns-in_err-rel-3-clause-answers : goal.returns-in_err-rel-3-clause-answers
returns-in_err-rel-3-clause-answers c =
    let word = c.is_word-2.ensures.taken c.if-is_word-2.true in
    let I = c.past-next.ensures.left c.args.depth _ _ (drop c.args.from c.args.tokens.now) _ (past_word (codes "left") (without (without (noted started) (sym c.is_sign.ensures.seen ∙ c.if-is_sign.false)) (sym c.is_word.ensures.seen ∙ c.if-is_word.false)) word.2) in
    let join_ = c.in_ok-next-2.ensures in
    told _ _ c.from_residual-in_err-rel-3.result c.from_residual-in_err-rel-3.ensures (fails_in _ c.args.tokens.now _ (past_word (codes "join") I join_.2) c.in_err-rel-3.ensures)

pub returns-in_err-rel-3-clause-on : goal.returns-in_err-rel-3-clause-on
returns-in_err-rel-3-clause-on c = told _ _ c.from_residual-in_err-rel-3.result c.from_residual-in_err-rel-3.ensures tt

pub returns-then-is_word-2-clause-answers : goal.returns-then-is_word-2-clause-answers
returns-then-is_word-2-clause-answers c =
    let word = c.is_word-2.ensures.taken c.if-is_word-2.true in
    let I = c.past-next.ensures.left c.args.depth _ _ (drop c.args.from c.args.tokens.now) _ (past_word (codes "left") (without (without (noted started) (sym c.is_sign.ensures.seen ∙ c.if-is_sign.false)) (sym c.is_word.ensures.seen ∙ c.if-is_word.false)) word.2) in
    let join_ = c.in_ok-next-2.ensures in
    let rel = c.in_ok-rel-3.ensures in
    rw c.place-at.ensures (omega (arith, c.past-next.ensures.on, join_.0, rel.0), is_done (has_read (c.in_ok-rel-3.rel, c.in_ok-rel-3.on) (past_word (codes "join") I join_.2) rel.1))

pub returns-then-is_word-2-clause-on : goal.returns-then-is_word-2-clause-on
returns-then-is_word-2-clause-on c =
    let join_ = c.in_ok-next-2.ensures in
    let rel = c.in_ok-rel-3.ensures in
    omega (arith, c.past-next.ensures.on, join_.0, rel.0)

pub returns-in_err-next-3-clause-answers : goal.returns-in_err-next-3-clause-answers
returns-in_err-next-3-clause-answers c =
    let I = c.past-next-2.ensures.left c.args.depth _ _ (drop c.args.from c.args.tokens.now) _ (without (without (without (noted started) (sym c.is_sign.ensures.seen ∙ c.if-is_sign.false)) (sym c.is_word.ensures.seen ∙ c.if-is_word.false)) (sym c.is_word-2.ensures.seen ∙ c.if-is_word-2.false)) in
    told _ _ c.from_residual-in_err-next-3.result c.from_residual-in_err-next-3.ensures (lacks c.args.tokens.now c.past-next-2.result _ I c.in_err-next-3.ensures)

pub returns-in_err-next-3-clause-on : goal.returns-in_err-next-3-clause-on
returns-in_err-next-3-clause-on c = told _ _ c.from_residual-in_err-next-3.result c.from_residual-in_err-next-3.ensures tt

pub returns-in_err-rel-4-clause-answers : goal.returns-in_err-rel-4-clause-answers
returns-in_err-rel-4-clause-answers c =
    let I = c.past-next-2.ensures.left c.args.depth _ _ (drop c.args.from c.args.tokens.now) _ (without (without (without (noted started) (sym c.is_sign.ensures.seen ∙ c.if-is_sign.false)) (sym c.is_word.ensures.seen ∙ c.if-is_word.false)) (sym c.is_word-2.ensures.seen ∙ c.if-is_word-2.false)) in
    let join_ = c.in_ok-next-3.ensures in
    told _ _ c.from_residual-in_err-rel-4.result c.from_residual-in_err-rel-4.ensures (fails_in _ c.args.tokens.now _ (past_word (codes "join") I join_.2) c.in_err-rel-4.ensures)

pub returns-in_err-rel-4-clause-on : goal.returns-in_err-rel-4-clause-on
returns-in_err-rel-4-clause-on c = told _ _ c.from_residual-in_err-rel-4.result c.from_residual-in_err-rel-4.ensures tt

pub returns-clause-answers : goal.returns-clause-answers
returns-clause-answers c =
    let I = c.past-next-2.ensures.left c.args.depth _ _ (drop c.args.from c.args.tokens.now) _ (without (without (without (noted started) (sym c.is_sign.ensures.seen ∙ c.if-is_sign.false)) (sym c.is_word.ensures.seen ∙ c.if-is_word.false)) (sym c.is_word-2.ensures.seen ∙ c.if-is_word-2.false)) in
    let join_ = c.in_ok-next-3.ensures in
    let rel = c.in_ok-rel-4.ensures in
    rw c.place-at.ensures (omega (arith, c.past-next-2.ensures.on, join_.0, rel.0), is_done (has_read (c.in_ok-rel-4.rel, c.in_ok-rel-4.on) (past_word (codes "join") I join_.2) rel.1))

pub returns-clause-on : goal.returns-clause-on
returns-clause-on c =
    let join_ = c.in_ok-next-3.ensures in
    let rel = c.in_ok-rel-4.ensures in
    omega (arith, c.past-next-2.ensures.on, join_.0, rel.0)
