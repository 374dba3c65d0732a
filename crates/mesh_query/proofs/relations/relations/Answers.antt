use Rattle.std.proofs.Common.{refl, arith, sym, ◌∙◌}
use Rattle.mesh_query.proofs.Steps.{started, noted, saw, missed, has_read, is_done}
use Rattle.mesh_query.proofs.Made.{with_read, unread, nearer}
use Rattle.mesh_query.proofs.Descent.{told, fails_in, closed, goes_on}
use Rattle.mesh_query.proofs.relations.relations.Goals as goal

pub returns-in_err-first : goal.returns-in_err-first
returns-in_err-first c = told _ _ c.from_residual.result c.from_residual.ensures (fails_in _ c.args.tokens.now _ (noted started) (c.in_err-first.ensures c.args.depth _))

pub joins-init : goal.joins-init
joins-init c =
    let first = c.in_ok-first.ensures c.args.depth _ in
    rw c.new-joins.ensures (first.0, has_read c.in_ok-first.first (noted started) first.1)

pub joins-preserved : goal.joins-preserved
joins-preserved c =
    let before = c.joins.invariant in
    with_read _ _ _ c.join-more.result c.in_ok-next.ensures c.join-more.ensures.answers (λ x q p. rw (q.0, q.1) (omega (arith, before.0, p.0), goes_on (λ x. x) (refl, λ z. refl) before.1 (has_read x.0 (saw started (sym c.begins_join.ensures.seen ∙ c.joins-test.true)) p.1)))

pub joins-smaller : goal.joins-smaller
joins-smaller c =
    let within = c.begins_join.ensures.within c.joins-test.true in
    with_read _ _ _ c.join-more.result c.in_ok-next.ensures c.join-more.ensures.on (λ x q p. nearer _ (omega (arith, within)) q.1 (omega (arith, p)))

pub returns-in_err-next : goal.returns-in_err-next
returns-in_err-next c =
    let before = c.joins.invariant in
    told _ _ c.from_residual-in_err-next.result c.from_residual-in_err-next.ensures (fails_in _ c.args.tokens.now _ before.1 (fails_in _ c.args.tokens.now _ (saw started (sym c.begins_join.ensures.seen ∙ c.joins-test.true)) (unread _ _ c.join-more.result c.in_err-next.ensures c.join-more.ensures.answers tt)))

pub returns : goal.returns
returns c =
    let before = c.joins.invariant in
    rw c.place.ensures (before.0, is_done (closed before.1 (missed started (sym c.begins_join.ensures.seen ∙ c.joins-test.false))))
