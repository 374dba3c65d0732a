use Rattle.std.proofs.Common.{refl, ◌+◌, codes, arith, sym, ◌∙◌}
use Rattle.mesh_query.proofs.Steps.{started, noted, past_word, without, has_read, is_done}
use Rattle.mesh_query.proofs.Made.{with_read, unread, nearer}
use Rattle.mesh_query.proofs.Descent.{told, lacks, fails_in, closed, goes_on}
use Rattle.mesh_query.proofs.queries.union.Goals as goal

pub returns-in_err-selects : goal.returns-in_err-selects
returns-in_err-selects c = told _ _ c.from_residual.result c.from_residual.ensures (fails_in _ c.args.tokens.now _ (noted started) (unread _ _ c.select-first.result c.in_err-selects.ensures c.select-first.ensures tt))

pub unions-init : goal.unions-init
unions-init c = with_read _ _ _ c.select-first.result c.in_ok-selects.ensures c.select-first.ensures (λ x q p. rw (q.0, q.1) (p.0, has_read x.0 (noted started) p.1))

pub returns-in_err-behind : goal.returns-in_err-behind
returns-in_err-behind c =
    let before = c.unions.invariant in
    let word = c.is_word.ensures.taken c.unions-test.true in
    told _ _ c.from_residual-in_err-behind.result c.from_residual-in_err-behind.ensures (fails_in _ c.args.tokens.now _ before.1 (lacks c.args.tokens.now (c.unions.at + 1) _ (past_word (codes "union") started word.2) c.in_err-behind.ensures))

pub unions-smaller : goal.unions-smaller
unions-smaller c =
    let word = c.is_word.ensures.taken c.unions-test.true in
    let all = c.in_ok-behind.ensures in
    with_read _ _ _ c.select-more.result c.in_ok-next.ensures c.select-more.ensures (λ x q p. nearer _ word.1 q.1 (omega (arith, all.0, p.0)))

pub returns-in_err-next : goal.returns-in_err-next
returns-in_err-next c =
    let before = c.unions.invariant in
    let sign = c.is_word.ensures.taken c.unions-test.true in
    let all = c.in_ok-behind.ensures in
    told _ _ c.from_residual-in_err-next.result c.from_residual-in_err-next.ensures (fails_in _ c.args.tokens.now _ before.1 (fails_in _ c.args.tokens.now _ (past_word (codes "all") (past_word (codes "union") started sign.2) all.2) (unread _ _ c.select-more.result c.in_err-next.ensures c.select-more.ensures tt)))

pub unions-preserved : goal.unions-preserved
unions-preserved c =
    let before = c.unions.invariant in
    let sign = c.is_word.ensures.taken c.unions-test.true in
    let all = c.in_ok-behind.ensures in
    with_read _ _ _ c.select-more.result c.in_ok-next.ensures c.select-more.ensures (λ x q p. rw (q.0, q.1) (omega (arith, before.0, all.0, p.0), goes_on (λ x. x) (refl, λ z. refl) before.1 (has_read x.0 (past_word (codes "all") (past_word (codes "union") started sign.2) all.2) p.1)))

pub returns : goal.returns
returns c =
    let before = c.unions.invariant in
    rw c.place.ensures (before.0, is_done (closed before.1 (without started (sym c.is_word.ensures.seen ∙ c.unions-test.false))))
