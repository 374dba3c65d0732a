use Rattle.std.proofs.Common.{refl, codes, arith, sym, ◌∙◌}
use Rattle.mesh_query.proofs.Steps.{started, past_sign, without, has_read, is_done}
use Rattle.mesh_query.proofs.Made.{with_read, unread, nearer}
use Rattle.mesh_query.proofs.Descent.{told, fails_in, closed, goes_on, items_over, items_left}
use Rattle.mesh_query.proofs.queries.items.Goals as goal

pub returns-in_err-list : goal.returns-in_err-list
returns-in_err-list c = told _ _ c.from_residual.result c.from_residual.ensures (fails_in _ c.args.tokens.now _ started (unread _ _ c.item-first.result c.in_err-list.ensures c.item-first.ensures tt))

pub commas-init : goal.commas-init
commas-init c = with_read _ _ _ c.item-first.result c.in_ok-list.ensures c.item-first.ensures (λ x q p. rw (q.0, q.1) (p.0, has_read x.0 started p.1))

pub returns-then-are_items_over : goal.returns-then-are_items_over
returns-then-are_items_over c =
    let before = c.commas.invariant in
    let sign = c.is_sign.ensures.taken c.commas-test.true in
    (omega (arith, before.0), is_done (closed before.1 (items_over (past_sign (codes ",") started sign.2) (sym c.are_items_over.ensures ∙ c.if-are_items_over.true))))

pub commas-smaller : goal.commas-smaller
commas-smaller c =
    let sign = c.is_sign.ensures.taken c.commas-test.true in
    with_read _ _ _ c.item-more.result c.in_ok-next.ensures c.item-more.ensures (λ x q p. nearer _ sign.1 q.1 p.0)

pub returns-in_err-next : goal.returns-in_err-next
returns-in_err-next c =
    let before = c.commas.invariant in
    let sign = c.is_sign.ensures.taken c.commas-test.true in
    told _ _ c.from_residual-in_err-next.result c.from_residual-in_err-next.ensures (fails_in _ c.args.tokens.now _ before.1 (fails_in _ c.args.tokens.now _ (items_left (past_sign (codes ",") started sign.2) (sym c.are_items_over.ensures ∙ c.if-are_items_over.false)) (unread _ _ c.item-more.result c.in_err-next.ensures c.item-more.ensures tt)))

pub commas-preserved : goal.commas-preserved
commas-preserved c =
    let before = c.commas.invariant in
    let sign = c.is_sign.ensures.taken c.commas-test.true in
    with_read _ _ _ c.item-more.result c.in_ok-next.ensures c.item-more.ensures (λ x q p. rw (q.0, q.1) (omega (arith, before.0, p.0), goes_on (λ x. x) (refl, λ z. refl) before.1 (has_read x.0 (items_left (past_sign (codes ",") started sign.2) (sym c.are_items_over.ensures ∙ c.if-are_items_over.false)) p.1)))

pub returns : goal.returns
returns c =
    let before = c.commas.invariant in
    (before.0, is_done (closed before.1 (without started (sym c.is_sign.ensures.seen ∙ c.commas-test.false))))
