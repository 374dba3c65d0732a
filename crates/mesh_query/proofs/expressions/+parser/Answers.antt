use Rattle.std.proofs.Common.{refl, ◌+◌, codes, None, Some, drop, arith, sym, ◌∙◌}
use Rattle.mesh_query_grammar.specs.declared.surface.signs.Function.TheVariants.{Count}
use Rattle.mesh_query_grammar.specs.declared.surface.expressions.Test.TheVariants as the_test
use Rattle.mesh_query_grammar.specs.declared.surface.expressions.Primary.TheVariants as the_primary
use Rattle.mesh_query_grammar.specs.Signs.{place}
use Rattle.mesh_query_grammar.specs.Rules.{tested, cat, value, named}
use Rattle.mesh_query_grammar.specs.Plans.{done, read, take, is_sign}
use Rattle.mesh_query_grammar.specs.declared.lookahead.fault.Fault.TheVariants.{Syntax}
use Rattle.mesh_query.proofs.Steps.{started, noted, past_word, past_sign, past_name, past_type, past_cmp, without, saw, missed, has_read, has_nested, is_done, counted, read_from}
use Rattle.mesh_query.proofs.Made.{with_read, unread, kept, unclosed, untyped, shut_out, nearer}
use Rattle.mesh_query.proofs.Descent.{handed, told, stuck_here, lacks, fails_in, fails_nested, too_deep, closed, closed_by, goes_on, alone, name_here, call_left, sum_begun, sum_on, product_begun, product_on, cast_on, failed_from}
use Rattle.mesh_query.proofs.expressions.+parser.Goals as goal

pub expr-returns-in_err-parts : goal.expr-returns-in_err-parts
expr-returns-in_err-parts t c = told _ _ c.from_residual.result c.from_residual.ensures (fails_in _ c.args.tokens.now _ (noted started) (unread _ _ c.conjunction-first.result c.in_err-parts.ensures c.conjunction-first.ensures tt))

pub expr-ors-init : goal.expr-ors-init
expr-ors-init t c = with_read _ _ _ c.conjunction-first.result c.in_ok-parts.ensures c.conjunction-first.ensures (λ x q p. rw (q.0, q.1) (p.0, has_read x.0 (noted started) p.1))

pub expr-ors-preserved : goal.expr-ors-preserved
expr-ors-preserved t c =
    let before = c.ors.invariant in
    let sign = c.is_word.ensures.taken c.ors-test.true in
    with_read _ _ _ c.conjunction-part.result c.in_ok-next.ensures c.conjunction-part.ensures (λ x q p. rw (q.0, q.1) (omega (arith, before.0, p.0), goes_on (λ x. x) (refl, λ z. refl) before.1 (has_read x.0 (past_word (codes "or") started sign.2) (read_from c.meet.ensures p.1))))

pub expr-overflow_add-at : goal.expr-overflow_add-at
expr-overflow_add-at t c =
    let sign = c.is_word.ensures.taken c.ors-test.true in
    omega (arith, sign.1)

pub expr-ors-smaller : goal.expr-ors-smaller
expr-ors-smaller t c =
    let sign = c.is_word.ensures.taken c.ors-test.true in
    with_read _ _ _ c.conjunction-part.result c.in_ok-next.ensures c.conjunction-part.ensures (λ x q p. nearer _ sign.1 q.1 p.0)

pub expr-returns-in_err-next : goal.expr-returns-in_err-next
expr-returns-in_err-next t c =
    let before = c.ors.invariant in
    let sign = c.is_word.ensures.taken c.ors-test.true in
    told _ _ c.from_residual-in_err-next.result c.from_residual-in_err-next.ensures (fails_in _ c.args.tokens.now _ before.1 (fails_in _ c.args.tokens.now _ (past_word (codes "or") started sign.2) (failed_from _ _ _ _ _ _ _ c.meet.ensures (unread _ _ c.conjunction-part.result c.in_err-next.ensures c.conjunction-part.ensures tt))))

pub expr-returns : goal.expr-returns
expr-returns t c =
    let before = c.ors.invariant in
    rw c.place.ensures (before.0, is_done (closed before.1 (without started (sym c.is_word.ensures.seen ∙ c.ors-test.false))))

pub conjunction-returns-in_err-parts : goal.conjunction-returns-in_err-parts
conjunction-returns-in_err-parts t c = told _ _ c.from_residual.result c.from_residual.ensures (fails_in _ c.args.tokens.now _ (noted started) (unread _ _ c.negation-first.result c.in_err-parts.ensures c.negation-first.ensures tt))

pub conjunction-ands-init : goal.conjunction-ands-init
conjunction-ands-init t c = with_read _ _ _ c.negation-first.result c.in_ok-parts.ensures c.negation-first.ensures (λ x q p. rw (q.0, q.1) (p.0, has_read x.0 (noted started) p.1))

pub conjunction-ands-preserved : goal.conjunction-ands-preserved
conjunction-ands-preserved t c =
    let before = c.ands.invariant in
    let sign = c.is_word.ensures.taken c.ands-test.true in
    with_read _ _ _ c.negation-part.result c.in_ok-next.ensures c.negation-part.ensures (λ x q p. rw (q.0, q.1) (omega (arith, before.0, p.0), goes_on (λ x. x) (refl, λ z. refl) before.1 (has_read x.0 (past_word (codes "and") started sign.2) (read_from c.meet.ensures p.1))))

pub conjunction-overflow_add-at : goal.conjunction-overflow_add-at
conjunction-overflow_add-at t c =
    let sign = c.is_word.ensures.taken c.ands-test.true in
    omega (arith, sign.1)

pub conjunction-ands-smaller : goal.conjunction-ands-smaller
conjunction-ands-smaller t c =
    let sign = c.is_word.ensures.taken c.ands-test.true in
    with_read _ _ _ c.negation-part.result c.in_ok-next.ensures c.negation-part.ensures (λ x q p. nearer _ sign.1 q.1 p.0)

pub conjunction-returns-in_err-next : goal.conjunction-returns-in_err-next
conjunction-returns-in_err-next t c =
    let before = c.ands.invariant in
    let sign = c.is_word.ensures.taken c.ands-test.true in
    told _ _ c.from_residual-in_err-next.result c.from_residual-in_err-next.ensures (fails_in _ c.args.tokens.now _ before.1 (fails_in _ c.args.tokens.now _ (past_word (codes "and") started sign.2) (failed_from _ _ _ _ _ _ _ c.meet.ensures (unread _ _ c.negation-part.result c.in_err-next.ensures c.negation-part.ensures tt))))

pub conjunction-returns : goal.conjunction-returns
conjunction-returns t c =
    let before = c.ands.invariant in
    rw c.place.ensures (before.0, is_done (closed before.1 (without started (sym c.is_word.ensures.seen ∙ c.ands-test.false))))

pub cat-returns-in_err-parts : goal.cat-returns-in_err-parts
cat-returns-in_err-parts t c = told _ _ c.from_residual.result c.from_residual.ensures (fails_in _ c.args.tokens.now _ (noted started) (unread _ _ c.sum-first.result c.in_err-parts.ensures c.sum-first.ensures tt))

pub cat-cats-init : goal.cat-cats-init
cat-cats-init t c = with_read _ _ _ c.sum-first.result c.in_ok-parts.ensures c.sum-first.ensures (λ x q p. rw (q.0, q.1) (p.0, has_read x.0 (noted started) p.1))

pub cat-cats-preserved : goal.cat-cats-preserved
cat-cats-preserved t c =
    let before = c.cats.invariant in
    let sign = c.is_sign.ensures.taken c.cats-test.true in
    with_read _ _ _ c.sum-part.result c.in_ok-next.ensures c.sum-part.ensures (λ x q p. rw (q.0, q.1) (omega (arith, before.0, p.0), goes_on (λ x. x) (refl, λ z. refl) before.1 (has_read x.0 (past_sign (codes "||") started sign.2) (read_from c.meet.ensures p.1))))

pub cat-overflow_add-at : goal.cat-overflow_add-at
cat-overflow_add-at t c =
    let sign = c.is_sign.ensures.taken c.cats-test.true in
    omega (arith, sign.1)

pub cat-cats-smaller : goal.cat-cats-smaller
cat-cats-smaller t c =
    let sign = c.is_sign.ensures.taken c.cats-test.true in
    with_read _ _ _ c.sum-part.result c.in_ok-next.ensures c.sum-part.ensures (λ x q p. nearer _ sign.1 q.1 p.0)

pub cat-returns-in_err-next : goal.cat-returns-in_err-next
cat-returns-in_err-next t c =
    let before = c.cats.invariant in
    let sign = c.is_sign.ensures.taken c.cats-test.true in
    told _ _ c.from_residual-in_err-next.result c.from_residual-in_err-next.ensures (fails_in _ c.args.tokens.now _ before.1 (fails_in _ c.args.tokens.now _ (past_sign (codes "||") started sign.2) (failed_from _ _ _ _ _ _ _ c.meet.ensures (unread _ _ c.sum-part.result c.in_err-next.ensures c.sum-part.ensures tt))))

pub cat-returns : goal.cat-returns
cat-returns t c =
    let before = c.cats.invariant in
    rw c.place.ensures (before.0, is_done (closed before.1 (without started (sym c.is_sign.ensures.seen ∙ c.cats-test.false))))

pub exprs-returns-in_err-list : goal.exprs-returns-in_err-list
exprs-returns-in_err-list t c = told _ _ c.from_residual.result c.from_residual.ensures (fails_in _ c.args.tokens.now _ started (unread _ _ c.expr-first.result c.in_err-list.ensures c.expr-first.ensures tt))

pub exprs-commas-init : goal.exprs-commas-init
exprs-commas-init t c = with_read _ _ _ c.expr-first.result c.in_ok-list.ensures c.expr-first.ensures (λ x q p. rw (q.0, q.1) (p.0, has_read x.0 started p.1))

pub exprs-commas-preserved : goal.exprs-commas-preserved
exprs-commas-preserved t c =
    let before = c.commas.invariant in
    let sign = c.is_sign.ensures.taken c.commas-test.true in
    with_read _ _ _ c.expr-more.result c.in_ok-next.ensures c.expr-more.ensures (λ x q p. rw (q.0, q.1) (omega (arith, before.0, p.0), goes_on (λ x. x) (refl, λ z. refl) before.1 (has_read x.0 (past_sign (codes ",") started sign.2) p.1)))

pub exprs-overflow_add-at : goal.exprs-overflow_add-at
exprs-overflow_add-at t c =
    let sign = c.is_sign.ensures.taken c.commas-test.true in
    omega (arith, sign.1)

pub exprs-commas-smaller : goal.exprs-commas-smaller
exprs-commas-smaller t c =
    let sign = c.is_sign.ensures.taken c.commas-test.true in
    with_read _ _ _ c.expr-more.result c.in_ok-next.ensures c.expr-more.ensures (λ x q p. nearer _ sign.1 q.1 p.0)

pub exprs-returns-in_err-next : goal.exprs-returns-in_err-next
exprs-returns-in_err-next t c =
    let before = c.commas.invariant in
    let sign = c.is_sign.ensures.taken c.commas-test.true in
    told _ _ c.from_residual-in_err-next.result c.from_residual-in_err-next.ensures (fails_in _ c.args.tokens.now _ before.1 (fails_in _ c.args.tokens.now _ (past_sign (codes ",") started sign.2) (unread _ _ c.expr-more.result c.in_err-next.ensures c.expr-more.ensures tt)))

pub exprs-returns : goal.exprs-returns
exprs-returns t c =
    let before = c.commas.invariant in
    (before.0, is_done (closed before.1 (without started (sym c.is_sign.ensures.seen ∙ c.commas-test.false))))

pub sum-returns-in_err-first : goal.sum-returns-in_err-first
sum-returns-in_err-first t c = told _ _ c.from_residual.result c.from_residual.ensures (fails_in _ c.args.tokens.now _ (noted started) c.in_err-first.ensures)

pub sum-sums-init : goal.sum-sums-init
sum-sums-init t c =
    let first = c.in_ok-first.ensures in
    rw c.new-rest.ensures (first.0, has_read c.in_ok-first.first (noted started) first.1)

pub sum-sums-preserved : goal.sum-sums-preserved
sum-sums-preserved t c =
    let before = c.sums.invariant in
    let sign = c.in-Some.ensures in
    with_read _ _ _ c.product-part.result c.in-Ok.ensures c.product-part.ensures (λ x q p. rw (q.0, q.1, c.place.ensures) (omega (arith, before.0, p.0), goes_on (λ x. x) (refl, λ z. refl) before.1 (sum_on c.in-Some.sign x.0 sign.2 (read_from c.meet.ensures p.1))))

pub sum-overflow_add-at : goal.sum-overflow_add-at
sum-overflow_add-at t c =
    let sign = c.in-Some.ensures in
    omega (arith, sign.1)

pub sum-sums-smaller : goal.sum-sums-smaller
sum-sums-smaller t c =
    let sign = c.in-Some.ensures in
    with_read _ _ _ c.product-part.result c.in-Ok.ensures c.product-part.ensures (λ x q p. nearer _ sign.1 q.1 p.0)

pub sum-returns-in-Err : goal.sum-returns-in-Err
sum-returns-in-Err t c =
    let before = c.sums.invariant in
    let sign = c.in-Some.ensures in
    rw c.given_up.ensures (fails_in _ c.args.tokens.now _ before.1 (fails_in _ c.args.tokens.now _ (sum_begun c.in-Some.sign sign.2) (failed_from _ _ _ _ _ _ _ c.meet.ensures (unread _ _ c.product-part.result c.in-Err.ensures c.product-part.ensures tt))))

pub sum-returns : goal.sum-returns
sum-returns t c =
    let before = c.sums.invariant in
    rw c.place-2.ensures (before.0, is_done (closed before.1 (without started c.in_default.ensures)))

pub product-returns-in_err-first : goal.product-returns-in_err-first
product-returns-in_err-first t c = told _ _ c.from_residual.result c.from_residual.ensures (fails_in _ c.args.tokens.now _ (noted started) c.in_err-first.ensures)

pub product-products-init : goal.product-products-init
product-products-init t c =
    let first = c.in_ok-first.ensures in
    rw c.new-rest.ensures (first.0, has_read c.in_ok-first.first (noted started) first.1)

pub product-products-preserved : goal.product-products-preserved
product-products-preserved t c =
    let before = c.products.invariant in
    let sign = c.in-Some.ensures in
    with_read _ _ _ c.unary-part.result c.in-Ok.ensures c.unary-part.ensures (λ x q p. rw (q.0, q.1, c.place.ensures) (omega (arith, before.0, p.0), goes_on (λ x. x) (refl, λ z. refl) before.1 (product_on c.in-Some.sign x.0 sign.2 (read_from c.meet.ensures p.1))))

pub product-overflow_add-at : goal.product-overflow_add-at
product-overflow_add-at t c =
    let sign = c.in-Some.ensures in
    omega (arith, sign.1)

pub product-products-smaller : goal.product-products-smaller
product-products-smaller t c =
    let sign = c.in-Some.ensures in
    with_read _ _ _ c.unary-part.result c.in-Ok.ensures c.unary-part.ensures (λ x q p. nearer _ sign.1 q.1 p.0)

pub product-returns-in-Err : goal.product-returns-in-Err
product-returns-in-Err t c =
    let before = c.products.invariant in
    let sign = c.in-Some.ensures in
    rw c.given_up.ensures (fails_in _ c.args.tokens.now _ before.1 (fails_in _ c.args.tokens.now _ (product_begun c.in-Some.sign sign.2) (failed_from _ _ _ _ _ _ _ c.meet.ensures (unread _ _ c.unary-part.result c.in-Err.ensures c.unary-part.ensures tt))))

pub product-returns : goal.product-returns
product-returns t c =
    let before = c.products.invariant in
    rw c.place-2.ensures (before.0, is_done (closed before.1 (without started c.in_default.ensures)))

pub post-returns-in_err-value : goal.post-returns-in_err-value
post-returns-in_err-value t c = told _ _ c.from_residual.result c.from_residual.ensures (fails_in _ c.args.tokens.now _ (noted started) c.in_err-value.ensures)

pub post-casts-init : goal.post-casts-init
post-casts-init t c =
    let value = c.in_ok-value.ensures in
    rw c.new-casts.ensures (value.0, has_read c.in_ok-value.value (noted started) value.1)

pub post-casts-preserved : goal.post-casts-preserved
post-casts-preserved t c =
    let before = c.casts.invariant in
    let sign = c.is_sign.ensures.taken c.casts-test.true in
    with_read _ _ _ c.column_type-kind.result c.in-Ok.ensures c.column_type-kind.ensures (λ x q p. rw (q.0, q.1) (omega (arith, before.0, p.0), goes_on (λ x. x) (refl, λ z. refl) before.1 (counted c.meet.ensures (cast_on sign.2 p.2))))

pub post-overflow_add-at : goal.post-overflow_add-at
post-overflow_add-at t c =
    let sign = c.is_sign.ensures.taken c.casts-test.true in
    omega (arith, sign.1)

pub post-casts-smaller : goal.post-casts-smaller
post-casts-smaller t c =
    let sign = c.is_sign.ensures.taken c.casts-test.true in
    with_read _ _ _ c.column_type-kind.result c.in-Ok.ensures c.column_type-kind.ensures (λ x q p. nearer _ sign.1 q.1 (omega (arith, p.0)))

pub post-returns-in-Err : goal.post-returns-in-Err
post-returns-in-Err t c =
    let before = c.casts.invariant in
    let sign = c.is_sign.ensures.taken c.casts-test.true in
    rw c.given_up.ensures (fails_in _ c.args.tokens.now _ before.1 (lacks c.args.tokens.now (c.casts.at + 1) _ (counted c.meet.ensures (past_sign (codes "::") started sign.2)) (unread _ _ c.column_type-kind.result c.in-Err.ensures c.column_type-kind.ensures tt)))

pub post-returns : goal.post-returns
post-returns t c =
    let before = c.casts.invariant in
    rw c.place.ensures (before.0, is_done (closed before.1 (without started (sym c.is_sign.ensures.seen ∙ c.casts-test.false))))

pub arms-returns-in_err-arms : goal.arms-returns-in_err-arms
arms-returns-in_err-arms t c = told _ _ c.from_residual.result c.from_residual.ensures (fails_in _ c.args.tokens.now _ started (unread _ _ c.arm-first.result c.in_err-arms.ensures c.arm-first.ensures.answers tt))

pub arms-whens-init : goal.arms-whens-init
arms-whens-init t c = with_read _ _ _ c.arm-first.result c.in_ok-arms.ensures c.arm-first.ensures.answers (λ x q p. rw (q.0, q.1) (p.0, has_read x.0 started p.1))

pub arms-whens-preserved : goal.arms-whens-preserved
arms-whens-preserved t c =
    let before = c.whens.invariant in
    with_read _ _ _ c.arm-more.result c.in_ok-next.ensures c.arm-more.ensures.answers (λ x q p. rw (q.0, q.1) (omega (arith, before.0, p.0), goes_on (λ x. x) (refl, λ z. refl) before.1 (has_read x.0 (saw started (sym c.is_word.ensures.seen ∙ c.whens-test.true)) p.1)))

pub arms-whens-smaller : goal.arms-whens-smaller
arms-whens-smaller t c =
    let word = c.is_word.ensures.taken c.whens-test.true in
    with_read _ _ _ c.arm-more.result c.in_ok-next.ensures c.arm-more.ensures.on (λ x q p. nearer _ word.1 q.1 (omega (arith, p)))

pub arms-returns-in_err-next : goal.arms-returns-in_err-next
arms-returns-in_err-next t c =
    let before = c.whens.invariant in
    told _ _ c.from_residual-in_err-next.result c.from_residual-in_err-next.ensures (fails_in _ c.args.tokens.now _ before.1 (fails_in _ c.args.tokens.now _ (saw started (sym c.is_word.ensures.seen ∙ c.whens-test.true)) (unread _ _ c.arm-more.result c.in_err-next.ensures c.arm-more.ensures.answers tt)))

pub arms-returns : goal.arms-returns
arms-returns t c =
    let before = c.whens.invariant in
    (before.0, is_done (closed before.1 (missed started (sym c.is_word.ensures.seen ∙ c.whens-test.false))))

pub negation-returns-in_err-deeper : goal.negation-returns-in_err-deeper
negation-returns-in_err-deeper t c =
    let first = c.is_word.ensures.taken c.if-is_word.true in
    told _ _ c.from_residual.result c.from_residual.ensures (too_deep c.args.tokens.now _ (past_word (codes "not") (noted started) first.2) c.in_err-deeper.ensures)

pub negation-overflow_add-from : goal.negation-overflow_add-from
negation-overflow_add-from t c =
    let sign = c.is_word.ensures.taken c.if-is_word.true in
    omega (arith, sign.1)

pub negation-returns-in_err-inner : goal.negation-returns-in_err-inner
negation-returns-in_err-inner t c =
    let first = c.is_word.ensures.taken c.if-is_word.true in
    told _ _ c.from_residual-in_err-inner.result c.from_residual-in_err-inner.ensures (fails_nested _ c.in_ok-deeper.deeper c.args.tokens.now _ (past_word (codes "not") (noted started) first.2) c.in_ok-deeper.ensures (failed_from _ _ _ _ _ _ _ c.meet.ensures (unread _ _ c.negation-inner.result c.in_err-inner.ensures c.negation-inner.ensures tt)))

pub negation-returns-then-is_word : goal.negation-returns-then-is_word
negation-returns-then-is_word t c =
    let first = c.is_word.ensures.taken c.if-is_word.true in
    with_read _ _ _ c.negation-inner.result c.in_ok-inner.ensures c.negation-inner.ensures (λ x q p. rw (c.place-at.ensures, q.0, q.1) (omega (arith, p.0), is_done (has_nested x.0 (past_word (codes "not") (noted started) first.2) c.in_ok-deeper.ensures (read_from c.meet.ensures p.1))))

pub negation-returns-in_err-pred : goal.negation-returns-in_err-pred
negation-returns-in_err-pred t c = told _ _ c.from_residual-in_err-pred.result c.from_residual-in_err-pred.ensures (fails_in _ c.args.tokens.now _ (without (noted started) (sym c.is_word.ensures.seen ∙ c.if-is_word.false)) c.in_err-pred.ensures)

pub negation-returns : goal.negation-returns
negation-returns t c =
    let plain = c.in_ok-pred.ensures in
    rw c.place-at.ensures (plain.0, is_done (has_read c.in_ok-pred.pred (without (noted started) (sym c.is_word.ensures.seen ∙ c.if-is_word.false)) plain.1))

pub unary-returns-in_err-deeper : goal.unary-returns-in_err-deeper
unary-returns-in_err-deeper t c =
    let first = c.is_sign.ensures.taken c.if-is_sign.true in
    told _ _ c.from_residual.result c.from_residual.ensures (too_deep c.args.tokens.now _ (past_sign (codes "-") (noted started) first.2) c.in_err-deeper.ensures)

pub unary-overflow_add-from : goal.unary-overflow_add-from
unary-overflow_add-from t c =
    let sign = c.is_sign.ensures.taken c.if-is_sign.true in
    omega (arith, sign.1)

pub unary-returns-in_err-inner : goal.unary-returns-in_err-inner
unary-returns-in_err-inner t c =
    let first = c.is_sign.ensures.taken c.if-is_sign.true in
    told _ _ c.from_residual-in_err-inner.result c.from_residual-in_err-inner.ensures (fails_nested _ c.in_ok-deeper.deeper c.args.tokens.now _ (past_sign (codes "-") (noted started) first.2) c.in_ok-deeper.ensures (failed_from _ _ _ _ _ _ _ c.meet.ensures (unread _ _ c.unary-inner.result c.in_err-inner.ensures c.unary-inner.ensures tt)))

pub unary-returns-then-is_sign : goal.unary-returns-then-is_sign
unary-returns-then-is_sign t c =
    let first = c.is_sign.ensures.taken c.if-is_sign.true in
    with_read _ _ _ c.unary-inner.result c.in_ok-inner.ensures c.unary-inner.ensures (λ x q p. rw (c.place-at.ensures, q.0, q.1) (omega (arith, p.0), is_done (has_nested x.0 (past_sign (codes "-") (noted started) first.2) c.in_ok-deeper.ensures (read_from c.meet.ensures p.1))))

pub unary-returns-in_err-post : goal.unary-returns-in_err-post
unary-returns-in_err-post t c = told _ _ c.from_residual-in_err-post.result c.from_residual-in_err-post.ensures (fails_in _ c.args.tokens.now _ (without (noted started) (sym c.is_sign.ensures.seen ∙ c.if-is_sign.false)) c.in_err-post.ensures)

pub unary-returns : goal.unary-returns
unary-returns t c =
    let plain = c.in_ok-post.ensures in
    rw c.place-at.ensures (plain.0, is_done (has_read c.in_ok-post.post (without (noted started) (sym c.is_sign.ensures.seen ∙ c.if-is_sign.false)) plain.1))

pub pred-returns-in_err-left : goal.pred-returns-in_err-left
pred-returns-in_err-left t c = told _ _ c.from_residual.result c.from_residual.ensures (fails_in _ c.args.tokens.now _ (noted started) c.in_err-left.ensures)

pub pred-returns-in_err-test : goal.pred-returns-in_err-test
pred-returns-in_err-test t c =
    let left = c.in_ok-left.ensures in
    told _ _ c.from_residual-in_err-test.result c.from_residual-in_err-test.ensures (fails_in _ c.args.tokens.now _ (has_read c.in_ok-left.left (noted started) left.1) c.in_err-test.ensures)

pub pred-returns : goal.pred-returns
pred-returns t c =
    let left = c.in_ok-left.ensures in
    let test = c.in_ok-test.ensures in
    rw c.place.ensures (omega (arith, left.0, test.0), is_done (has_read c.in_ok-test.test (has_read c.in_ok-left.left (noted started) left.1) test.1))

pub test-overflow_add-from : goal.test-overflow_add-from
test-overflow_add-from t c =
    let sign = c.is_word.ensures.taken c.if-is_word.true in
    omega (arith, sign.1)

pub test-returns-then-is_word : goal.test-returns-then-is_word
test-returns-then-is_word t c =
    let word = c.is_word.ensures.taken c.if-is_word.true in
    handed _ _ _ _ c.null_test.result (c.null_test.ensures c.args.depth _ (drop c.args.from c.args.tokens.now) _ (counted c.meet.ensures (past_word (codes "is") started word.2))) (λ x h. (omega (arith, h.0), h.1)) (λ e h. h)

pub test-overflow_add-from-then-is_word-2 : goal.test-overflow_add-from-then-is_word-2
test-overflow_add-from-then-is_word-2 t c =
    let sign = c.is_word-2.ensures.taken c.if-is_word-2.true in
    omega (arith, sign.1)

pub test-returns-then-is_word-2 : goal.test-returns-then-is_word-2
test-returns-then-is_word-2 t c =
    let word = c.is_word-2.ensures.taken c.if-is_word-2.true in
    let I = past_word (codes "not") (without (started {n = c.args.depth} {r = tested} {s = (drop c.args.from c.args.tokens.now)}) (sym c.is_word.ensures.seen ∙ c.if-is_word.false)) word.2 in
    handed _ _ _ _ c.range_test.result c.range_test.ensures (λ x h. (omega (arith, h.0), is_done (closed_by x.0 I h.1))) (λ e h. fails_in _ c.args.tokens.now e I h)

pub test-returns-then-is_range : goal.test-returns-then-is_range
test-returns-then-is_range t c =
    let I = saw (without (without (started {n = c.args.depth} {r = tested} {s = (drop c.args.from c.args.tokens.now)}) (sym c.is_word.ensures.seen ∙ c.if-is_word.false)) (sym c.is_word-2.ensures.seen ∙ c.if-is_word-2.false)) (sym c.is_range.ensures ∙ c.if-is_range.true) in
    handed _ _ _ _ c.range_test-then-is_range.result c.range_test-then-is_range.ensures (λ x h. (h.0, is_done (closed_by x.0 I h.1))) (λ e h. fails_in _ c.args.tokens.now e I h)

pub test-returns-in_err-right-in-Some : goal.test-returns-in_err-right-in-Some
test-returns-in_err-right-in-Some t c =
    let J = past_cmp c.in-Some.cmp (λ o. read cat (λ r. done (the_test.Compare o r))) (missed (without (without (started {n = c.args.depth} {r = tested} {s = (drop c.args.from c.args.tokens.now)}) (sym c.is_word.ensures.seen ∙ c.if-is_word.false)) (sym c.is_word-2.ensures.seen ∙ c.if-is_word-2.false)) (sym c.is_range.ensures ∙ c.if-is_range.false)) c.in-Some.ensures.2 in
    told _ _ c.from_residual.result c.from_residual.ensures (fails_in _ c.args.tokens.now _ J (failed_from _ _ _ _ _ _ _ c.meet-in-Some.ensures c.in_err-right-in-Some.ensures))

pub test-returns-in_ok-right-in-Some : goal.test-returns-in_ok-right-in-Some
test-returns-in_ok-right-in-Some t c =
    let right = c.in_ok-right-in-Some.ensures in
    let J = past_cmp c.in-Some.cmp (λ o. read cat (λ r. done (the_test.Compare o r))) (missed (without (without (started {n = c.args.depth} {r = tested} {s = (drop c.args.from c.args.tokens.now)}) (sym c.is_word.ensures.seen ∙ c.if-is_word.false)) (sym c.is_word-2.ensures.seen ∙ c.if-is_word-2.false)) (sym c.is_range.ensures ∙ c.if-is_range.false)) c.in-Some.ensures.2 in
    (omega (arith, right.0), is_done (has_read c.in_ok-right-in-Some.right J (read_from c.meet-in-Some.ensures right.1)))

pub test-returns-in-None : goal.test-returns-in-None
test-returns-in-None t c = (omega arith, is_done (without (missed (without (without (started {n = c.args.depth} {r = tested} {s = (drop c.args.from c.args.tokens.now)}) (sym c.is_word.ensures.seen ∙ c.if-is_word.false)) (sym c.is_word-2.ensures.seen ∙ c.if-is_word-2.false)) (sym c.is_range.ensures ∙ c.if-is_range.false)) c.in-None.ensures))

pub range_test-overflow_add-from : goal.range_test-overflow_add-from
range_test-overflow_add-from t c =
    let sign = c.is_word.ensures.taken c.if-is_word.true in
    omega (arith, sign.1)

pub range_test-returns-then-is_word : goal.range_test-returns-then-is_word
range_test-returns-then-is_word t c =
    let word = c.is_word.ensures.taken c.if-is_word.true in
    handed _ _ _ _ c.between.result (c.between.ensures (drop c.args.from c.args.tokens.now) _ (counted c.meet.ensures (past_word (codes "between") started word.2))) (λ x h. (omega (arith, h.0), h.1)) (λ e h. h)

pub range_test-returns-in_err-at : goal.range_test-returns-in_err-at
range_test-returns-in_err-at t c = told _ _ c.from_residual.result c.from_residual.ensures (lacks c.args.tokens.now c.args.from _ (without started (sym c.is_word.ensures.seen ∙ c.if-is_word.false)) c.in_err-at.ensures)

pub range_test-returns : goal.range_test-returns
range_test-returns t c =
    let word = c.in_ok-at.ensures in
    handed _ _ _ _ c.one_of.result (c.one_of.ensures (drop c.args.from c.args.tokens.now) _ (counted c.meet-2.ensures (past_word (codes "in") (without started (sym c.is_word.ensures.seen ∙ c.if-is_word.false)) word.2))) (λ x h. (omega (arith, word.0, h.0), h.1)) (λ e h. h)

pub between-returns-in_err-low : goal.between-returns-in_err-low
between-returns-in_err-low t c = λ s b I.
    told _ _ c.from_residual.result c.from_residual.ensures (fails_in _ c.args.tokens.now _ I c.in_err-low.ensures)

pub between-returns-in_err-at : goal.between-returns-in_err-at
between-returns-in_err-at t c = λ s b I.
    let low = c.in_ok-low.ensures in
    told _ _ c.from_residual-in_err-at.result c.from_residual-in_err-at.ensures (lacks c.args.tokens.now c.in_ok-low.at _ (has_read c.in_ok-low.low I low.1) c.in_err-at.ensures)

pub between-returns-in_err-high : goal.between-returns-in_err-high
between-returns-in_err-high t c = λ s b I.
    let low = c.in_ok-low.ensures in
    let word = c.in_ok-at.ensures in
    told _ _ c.from_residual-in_err-high.result c.from_residual-in_err-high.ensures (fails_in _ c.args.tokens.now _ (past_word (codes "and") (has_read c.in_ok-low.low I low.1) word.2) c.in_err-high.ensures)

pub between-returns : goal.between-returns
between-returns t c = λ s b I.
    let low = c.in_ok-low.ensures in
    let word = c.in_ok-at.ensures in
    let high = c.in_ok-high.ensures in
    (omega (arith, low.0, word.0, high.0), is_done (has_read c.in_ok-high.high (past_word (codes "and") (has_read c.in_ok-low.low I low.1) word.2) high.1))

pub one_of-returns-in_err-deeper : goal.one_of-returns-in_err-deeper
one_of-returns-in_err-deeper t c = λ s b I.
    told _ _ c.from_residual.result c.from_residual.ensures (shut_out c.args.tokens.now c.args.from _ refl I c.in_err-deeper.ensures)

pub one_of-returns-in_err-of : goal.one_of-returns-in_err-of
one_of-returns-in_err-of t c = λ s b I.
    let open_ = c.in_ok-deeper.ensures in
    told _ _ c.from_residual-in_err-of.result c.from_residual-in_err-of.ensures (unclosed _ _ _ c.args.tokens.now _ (past_sign (codes "(") I open_.0.2) open_.1 c.exprs-of.result c.in_err-of.ensures c.exprs-of.ensures)

pub one_of-returns : goal.one_of-returns
one_of-returns t c = λ s b I.
    let open_ = c.in_ok-deeper.ensures in
    with_read _ _ _ c.exprs-of.result c.in_ok-of.ensures c.exprs-of.ensures (λ x q p.
    rw q.0 (omega (arith, open_.0.0, p.0, q.1.0), is_done (past_sign (codes ")") (has_nested x.0 (past_sign (codes "(") I open_.0.2) open_.1 p.1) q.1.2)))

pub primary-returns-then-is_sign : goal.primary-returns-then-is_sign
primary-returns-then-is_sign t c =
    let I = saw (noted (started {n = c.args.depth} {r = value} {s = (drop c.args.from c.args.tokens.now)})) (sym c.is_sign.ensures.seen ∙ c.if-is_sign.true) in
    handed _ _ _ _ c.group.result c.group.ensures (λ x h. (h.0, is_done (closed_by x.0 I h.1))) (λ e h. fails_in _ c.args.tokens.now e I h)

pub primary-returns-then-is_word : goal.primary-returns-then-is_word
primary-returns-then-is_word t c =
    let I = saw (missed (noted (started {n = c.args.depth} {r = value} {s = (drop c.args.from c.args.tokens.now)})) (sym c.is_sign.ensures.seen ∙ c.if-is_sign.false)) (sym c.is_word.ensures.seen ∙ c.if-is_word.true) in
    handed _ _ _ _ c.case.result c.case.ensures (λ x h. (h.0, is_done (closed_by x.0 I h.1))) (λ e h. fails_in _ c.args.tokens.now e I h)

pub primary-returns-then-is_word-2 : goal.primary-returns-then-is_word-2
primary-returns-then-is_word-2 t c =
    let I = saw (missed (missed (noted (started {n = c.args.depth} {r = value} {s = (drop c.args.from c.args.tokens.now)})) (sym c.is_sign.ensures.seen ∙ c.if-is_sign.false)) (sym c.is_word.ensures.seen ∙ c.if-is_word.false)) (sym c.is_word-2.ensures.seen ∙ c.if-is_word-2.true) in
    handed _ _ _ _ c.cast.result c.cast.ensures (λ x h. (h.0, is_done (closed_by x.0 I (read_from c.meet.ensures h.1)))) (λ e h. fails_in _ c.args.tokens.now e I (failed_from _ _ _ _ _ _ _ c.meet.ensures h))

pub primary-returns-then-is_date : goal.primary-returns-then-is_date
primary-returns-then-is_date t c = c.date.ensures c.args.depth (drop c.args.from c.args.tokens.now) _ (missed (missed (missed (noted (started {n = c.args.depth} {r = value} {s = (drop c.args.from c.args.tokens.now)})) (sym c.is_sign.ensures.seen ∙ c.if-is_sign.false)) (sym c.is_word.ensures.seen ∙ c.if-is_word.false)) (sym c.is_word-2.ensures.seen ∙ c.if-is_word-2.false))

pub primary-returns : goal.primary-returns
primary-returns t c = c.literal.ensures c.args.depth (drop c.args.from c.args.tokens.now) _ (without (missed (missed (missed (noted (started {n = c.args.depth} {r = value} {s = (drop c.args.from c.args.tokens.now)})) (sym c.is_sign.ensures.seen ∙ c.if-is_sign.false)) (sym c.is_word.ensures.seen ∙ c.if-is_word.false)) (sym c.is_word-2.ensures.seen ∙ c.if-is_word-2.false)) (sym c.is_name.ensures.seen ∙ c.if-is_name.false))

pub primary-returns-then-is_sign-2 : goal.primary-returns-then-is_sign-2
primary-returns-then-is_sign-2 t c = c.call.ensures (drop c.args.from c.args.tokens.now) _ (missed (missed (missed (noted (started {n = c.args.depth} {r = value} {s = (drop c.args.from c.args.tokens.now)})) (sym c.is_sign.ensures.seen ∙ c.if-is_sign.false)) (sym c.is_word.ensures.seen ∙ c.if-is_word.false)) (sym c.is_word-2.ensures.seen ∙ c.if-is_word-2.false))

pub primary-returns-then-is_name : goal.primary-returns-then-is_name
primary-returns-then-is_name t c = c.column.ensures c.args.depth (drop c.args.from c.args.tokens.now) _ (missed (missed (missed (noted (started {n = c.args.depth} {r = value} {s = (drop c.args.from c.args.tokens.now)})) (sym c.is_sign.ensures.seen ∙ c.if-is_sign.false)) (sym c.is_word.ensures.seen ∙ c.if-is_word.false)) (sym c.is_word-2.ensures.seen ∙ c.if-is_word-2.false))

pub group-returns-in_err-deeper : goal.group-returns-in_err-deeper
group-returns-in_err-deeper t c = told _ _ c.from_residual.result c.from_residual.ensures (shut_out c.args.tokens.now c.args.from _ refl (noted started) c.in_err-deeper.ensures)

pub group-returns-in_err-inner : goal.group-returns-in_err-inner
group-returns-in_err-inner t c =
    let open_ = c.in_ok-deeper.ensures in
    told _ _ c.from_residual-in_err-inner.result c.from_residual-in_err-inner.ensures (unclosed _ _ _ c.args.tokens.now _ (past_sign (codes "(") (noted started) open_.0.2) open_.1 c.boxed-inner.result c.in_err-inner.ensures (kept _ _ c.expr-inner.result c.boxed-inner.result c.boxed-inner.ensures c.expr-inner.ensures tt))

pub group-returns : goal.group-returns
group-returns t c =
    let open_ = c.in_ok-deeper.ensures in
    with_read _ _ _ c.boxed-inner.result c.in_ok-inner.ensures (kept _ _ c.expr-inner.result c.boxed-inner.result c.boxed-inner.ensures c.expr-inner.ensures tt) (λ x q p.
    rw (c.place-at.ensures, q.0) (omega (arith, open_.0.0, p.0, q.1.0), is_done (past_sign (codes ")") (has_nested x.0 (past_sign (codes "(") (noted started) open_.0.2) open_.1 p.1) q.1.2)))

pub cast-returns-in_err-next : goal.cast-returns-in_err-next
cast-returns-in_err-next t c = told _ _ c.from_residual.result c.from_residual.ensures (lacks c.args.tokens.now c.args.from _ (noted started) c.in_err-next.ensures)

pub cast-returns-in_err-deeper : goal.cast-returns-in_err-deeper
cast-returns-in_err-deeper t c =
    let word = c.in_ok-next.ensures in
    told _ _ c.from_residual-in_err-deeper.result c.from_residual-in_err-deeper.ensures (shut_out c.args.tokens.now c.in_ok-next.next _ refl (past_word (codes "cast") (noted started) word.2) c.in_err-deeper.ensures)

pub cast-returns-in_err-value : goal.cast-returns-in_err-value
cast-returns-in_err-value t c =
    let word = c.in_ok-next.ensures in
    let open_ = c.in_ok-deeper.ensures in
    told _ _ c.from_residual-in_err-value.result c.from_residual-in_err-value.ensures (fails_nested _ c.in_ok-deeper.deeper c.args.tokens.now _ (past_sign (codes "(") (past_word (codes "cast") (noted started) word.2) open_.0.2) open_.1 (unread _ _ c.expr-value.result c.in_err-value.ensures c.expr-value.ensures tt))

pub cast-returns-in_err-next-2 : goal.cast-returns-in_err-next-2
cast-returns-in_err-next-2 t c =
    let word = c.in_ok-next.ensures in
    let open_ = c.in_ok-deeper.ensures in
    with_read _ _ _ c.expr-value.result c.in_ok-value.ensures c.expr-value.ensures (λ x q p.
    told _ _ c.from_residual-in_err-next-2.result c.from_residual-in_err-next-2.ensures (lacks c.args.tokens.now x.1 _ (has_nested x.0 (past_sign (codes "(") (past_word (codes "cast") (noted started) word.2) open_.0.2) open_.1 p.1) (rw q.1 at c.in_err-next-2.ensures)))

pub cast-returns-in_err-to : goal.cast-returns-in_err-to
cast-returns-in_err-to t c =
    let word = c.in_ok-next.ensures in
    let open_ = c.in_ok-deeper.ensures in
    let as_ = c.in_ok-next-2.ensures in
    with_read _ _ _ c.expr-value.result c.in_ok-value.ensures c.expr-value.ensures (λ x q p.
    told _ _ c.from_residual-in_err-to.result c.from_residual-in_err-to.ensures (untyped (λ k g. done (the_primary.Cast (place (drop c.args.from c.args.tokens.now)) x.0 k)) c.args.tokens.now c.in_ok-next-2.next _ (past_word (codes "as") (has_nested x.0 (past_sign (codes "(") (past_word (codes "cast") (noted started) word.2) open_.0.2) open_.1 p.1) (rw q.1 at as_.2)) c.column_type-to.result c.in_err-to.ensures c.column_type-to.ensures))

pub cast-returns : goal.cast-returns
cast-returns t c =
    let word = c.in_ok-next.ensures in
    let open_ = c.in_ok-deeper.ensures in
    let as_ = c.in_ok-next-2.ensures in
    with_read _ _ _ c.expr-value.result c.in_ok-value.ensures c.expr-value.ensures (λ x q p.
    with_read _ _ _ c.column_type-to.result c.in_ok-to.ensures c.column_type-to.ensures (λ y u v.
    rw (c.place-at.ensures, q.0, u.0) (omega (arith, word.0, open_.0.0, p.0, q.1, as_.0, v.0, u.1.0), is_done (past_sign (codes ")") (past_type (λ k. take (is_sign (codes ")")) (λ g. done (the_primary.Cast (place (drop c.args.from c.args.tokens.now)) x.0 k))) (past_word (codes "as") (has_nested x.0 (past_sign (codes "(") (past_word (codes "cast") (noted started) word.2) open_.0.2) open_.1 p.1) (rw q.1 at as_.2)) v.2) u.1.2))))

pub case-returns-in_err-next : goal.case-returns-in_err-next
case-returns-in_err-next t c = told _ _ c.from_residual.result c.from_residual.ensures (lacks c.args.tokens.now c.args.from _ (noted started) c.in_err-next.ensures)

pub case-returns-in_err-deeper : goal.case-returns-in_err-deeper
case-returns-in_err-deeper t c =
    let word = c.in_ok-next.ensures in
    told _ _ c.from_residual-in_err-deeper.result c.from_residual-in_err-deeper.ensures (too_deep c.args.tokens.now _ (past_word (codes "case") (noted started) word.2) c.in_err-deeper.ensures)

pub case-returns-in_err-operand : goal.case-returns-in_err-operand
case-returns-in_err-operand t c =
    let word = c.in_ok-next.ensures in
    told _ _ c.from_residual-in_err-operand.result c.from_residual-in_err-operand.ensures (fails_nested _ c.in_ok-deeper.deeper c.args.tokens.now _ (past_word (codes "case") (noted started) word.2) c.in_ok-deeper.ensures (failed_from _ _ _ _ _ _ _ c.meet.ensures c.in_err-operand.ensures))

pub case-returns-in_err-arms : goal.case-returns-in_err-arms
case-returns-in_err-arms t c =
    let word = c.in_ok-next.ensures in
    let operand = c.in_ok-operand.ensures in
    told _ _ c.from_residual-in_err-arms.result c.from_residual-in_err-arms.ensures (fails_nested _ c.in_ok-deeper.deeper c.args.tokens.now _ (has_nested c.in_ok-operand.operand (past_word (codes "case") (noted started) word.2) c.in_ok-deeper.ensures (read_from c.meet.ensures operand.1)) c.in_ok-deeper.ensures c.in_err-arms.ensures)

pub case-returns-in_err-otherwise : goal.case-returns-in_err-otherwise
case-returns-in_err-otherwise t c =
    let word = c.in_ok-next.ensures in
    let operand = c.in_ok-operand.ensures in
    let arms = c.in_ok-arms.ensures in
    told _ _ c.from_residual-in_err-otherwise.result c.from_residual-in_err-otherwise.ensures (fails_nested _ c.in_ok-deeper.deeper c.args.tokens.now _ (has_nested c.in_ok-arms.arms (has_nested c.in_ok-operand.operand (past_word (codes "case") (noted started) word.2) c.in_ok-deeper.ensures (read_from c.meet.ensures operand.1)) c.in_ok-deeper.ensures arms.1) c.in_ok-deeper.ensures c.in_err-otherwise.ensures)

pub case-returns-in_err-next-2 : goal.case-returns-in_err-next-2
case-returns-in_err-next-2 t c =
    let word = c.in_ok-next.ensures in
    let operand = c.in_ok-operand.ensures in
    let arms = c.in_ok-arms.ensures in
    let otherwise = c.in_ok-otherwise.ensures in
    told _ _ c.from_residual-in_err-next-2.result c.from_residual-in_err-next-2.ensures (lacks c.args.tokens.now c.in_ok-otherwise.next _ (has_nested c.in_ok-otherwise.otherwise (has_nested c.in_ok-arms.arms (has_nested c.in_ok-operand.operand (past_word (codes "case") (noted started) word.2) c.in_ok-deeper.ensures (read_from c.meet.ensures operand.1)) c.in_ok-deeper.ensures arms.1) c.in_ok-deeper.ensures otherwise.1) c.in_err-next-2.ensures)

pub case-returns : goal.case-returns
case-returns t c =
    let word = c.in_ok-next.ensures in
    let operand = c.in_ok-operand.ensures in
    let arms = c.in_ok-arms.ensures in
    let otherwise = c.in_ok-otherwise.ensures in
    let last = c.in_ok-next-2.ensures in
    rw c.place-at.ensures (omega (arith, word.0, operand.0, arms.0, otherwise.0, last.0), is_done (past_word (codes "end") (has_nested c.in_ok-otherwise.otherwise (has_nested c.in_ok-arms.arms (has_nested c.in_ok-operand.operand (past_word (codes "case") (noted started) word.2) c.in_ok-deeper.ensures (read_from c.meet.ensures operand.1)) c.in_ok-deeper.ensures arms.1) c.in_ok-deeper.ensures otherwise.1) last.2))

pub case_operand-returns-then-is_word : goal.case_operand-returns-then-is_word
case_operand-returns-then-is_word t c = (omega arith, is_done (saw started (sym c.is_word.ensures.seen ∙ c.if-is_word.true)))

pub case_operand-returns-in_err-operand : goal.case_operand-returns-in_err-operand
case_operand-returns-in_err-operand t c = told _ _ c.from_residual.result c.from_residual.ensures (fails_in _ c.args.tokens.now _ (missed started (sym c.is_word.ensures.seen ∙ c.if-is_word.false)) (unread _ _ c.expr-operand.result c.in_err-operand.ensures c.expr-operand.ensures tt))

pub case_operand-returns : goal.case_operand-returns
case_operand-returns t c = with_read _ _ _ c.expr-operand.result c.in_ok-operand.ensures c.expr-operand.ensures (λ x q p. rw (q.0, q.1) (p.0, is_done (has_read x.0 (missed started (sym c.is_word.ensures.seen ∙ c.if-is_word.false)) p.1)))

pub case_else-overflow_add-from : goal.case_else-overflow_add-from
case_else-overflow_add-from t c =
    let sign = c.is_word.ensures.taken c.if-is_word.true in
    omega (arith, sign.1)

pub case_else-returns-in_err-otherwise : goal.case_else-returns-in_err-otherwise
case_else-returns-in_err-otherwise t c =
    let word = c.is_word.ensures.taken c.if-is_word.true in
    told _ _ c.from_residual.result c.from_residual.ensures (fails_in _ c.args.tokens.now _ (past_word (codes "else") started word.2) (unread _ _ c.expr-otherwise.result c.in_err-otherwise.ensures c.expr-otherwise.ensures tt))

pub case_else-returns-then-is_word : goal.case_else-returns-then-is_word
case_else-returns-then-is_word t c =
    let word = c.is_word.ensures.taken c.if-is_word.true in
    with_read _ _ _ c.expr-otherwise.result c.in_ok-otherwise.ensures c.expr-otherwise.ensures (λ x q p. rw (q.0, q.1) (omega (arith, p.0), is_done (has_read x.0 (past_word (codes "else") started word.2) p.1)))

pub case_else-returns : goal.case_else-returns
case_else-returns t c = (omega arith, is_done (without started (sym c.is_word.ensures.seen ∙ c.if-is_word.false)))

pub arm-returns-in_err-next-clause-answers : goal.arm-returns-in_err-next-clause-answers
arm-returns-in_err-next-clause-answers t c = told _ _ c.from_residual.result c.from_residual.ensures (lacks c.args.tokens.now c.args.from _ (noted started) c.in_err-next.ensures)

pub arm-returns-in_err-test-clause-answers : goal.arm-returns-in_err-test-clause-answers
arm-returns-in_err-test-clause-answers t c =
    let word = c.in_ok-next.ensures in
    told _ _ c.from_residual-in_err-test.result c.from_residual-in_err-test.ensures (fails_in _ c.args.tokens.now _ (past_word (codes "when") (noted started) word.2) c.in_err-test.ensures)

pub arm-returns-in_err-next-2-clause-answers : goal.arm-returns-in_err-next-2-clause-answers
arm-returns-in_err-next-2-clause-answers t c =
    let word = c.in_ok-next.ensures in
    let test = c.in_ok-test.ensures in
    told _ _ c.from_residual-in_err-next-2.result c.from_residual-in_err-next-2.ensures (lacks c.args.tokens.now c.in_ok-test.next _ (has_read c.in_ok-test.test (past_word (codes "when") (noted started) word.2) test.1) c.in_err-next-2.ensures)

pub arm-returns-in_err-value-clause-answers : goal.arm-returns-in_err-value-clause-answers
arm-returns-in_err-value-clause-answers t c =
    let word = c.in_ok-next.ensures in
    let test = c.in_ok-test.ensures in
    let then_ = c.in_ok-next-2.ensures in
    told _ _ c.from_residual-in_err-value.result c.from_residual-in_err-value.ensures (fails_in _ c.args.tokens.now _ (past_word (codes "then") (has_read c.in_ok-test.test (past_word (codes "when") (noted started) word.2) test.1) then_.2) c.in_err-value.ensures)

pub arm-returns-clause-answers : goal.arm-returns-clause-answers
arm-returns-clause-answers t c =
    let word = c.in_ok-next.ensures in
    let test = c.in_ok-test.ensures in
    let then_ = c.in_ok-next-2.ensures in
    let value = c.in_ok-value.ensures in
    rw c.place.ensures (omega (arith, word.0, test.0, then_.0, value.0), is_done (has_read c.in_ok-value.value (past_word (codes "then") (has_read c.in_ok-test.test (past_word (codes "when") (noted started) word.2) test.1) then_.2) value.1))

pub arm-returns-in_err-next-clause-on : goal.arm-returns-in_err-next-clause-on
arm-returns-in_err-next-clause-on t c = told _ _ c.from_residual.result c.from_residual.ensures tt

pub arm-returns-in_err-test-clause-on : goal.arm-returns-in_err-test-clause-on
arm-returns-in_err-test-clause-on t c = told _ _ c.from_residual-in_err-test.result c.from_residual-in_err-test.ensures tt

pub arm-returns-in_err-next-2-clause-on : goal.arm-returns-in_err-next-2-clause-on
arm-returns-in_err-next-2-clause-on t c = told _ _ c.from_residual-in_err-next-2.result c.from_residual-in_err-next-2.ensures tt

pub arm-returns-in_err-value-clause-on : goal.arm-returns-in_err-value-clause-on
arm-returns-in_err-value-clause-on t c = told _ _ c.from_residual-in_err-value.result c.from_residual-in_err-value.ensures tt

pub arm-returns-clause-on : goal.arm-returns-clause-on
arm-returns-clause-on t c =
    let word = c.in_ok-next.ensures in
    let test = c.in_ok-test.ensures in
    let then_ = c.in_ok-next-2.ensures in
    let value = c.in_ok-value.ensures in
    omega (arith, word.0, test.0, then_.0, value.0)

pub args-returns-in-Count : goal.args-returns-in-Count
args-returns-in-Count t c = rw c.in-Count.is c.count_args.ensures

pub args-returns-in-Coalesce : goal.args-returns-in-Coalesce
args-returns-in-Coalesce t c = rw c.in-Coalesce.is c.coalesce_args.ensures

pub args-returns-in-Nullif : goal.args-returns-in-Nullif
args-returns-in-Nullif t c = rw c.in-Nullif.is c.nullif_args.ensures

pub args-returns-in_default : goal.args-returns-in_default
args-returns-in_default t c = c.one_arg.ensures c.args.function (drop c.args.from c.args.tokens.now) _ (alone c.args.function c.in_default.not-Count c.in_default.not-Coalesce c.in_default.not-Nullif)

pub count_args-overflow_add-result : goal.count_args-overflow_add-result
count_args-overflow_add-result t c =
    let sign = c.is_sign.ensures.taken c.if-is_sign.true in
    omega (arith, sign.1)

pub count_args-returns-then-is_sign : goal.count_args-returns-then-is_sign
count_args-returns-then-is_sign t c = rw c.place-at.ensures (omega arith, is_done (past_sign (codes "*") (noted started) (c.is_sign.ensures.taken c.if-is_sign.true).2))

pub count_args-overflow_add-from : goal.count_args-overflow_add-from
count_args-overflow_add-from t c =
    let sign = c.is_word.ensures.taken c.if-is_word.true in
    omega (arith, sign.1)

pub count_args-returns-in_err-value : goal.count_args-returns-in_err-value
count_args-returns-in_err-value t c =
    let word = c.is_word.ensures.taken c.if-is_word.true in
    told _ _ c.from_residual.result c.from_residual.ensures (fails_in _ c.args.tokens.now _ (past_word (codes "distinct") (without (noted started) (sym c.is_sign.ensures.seen ∙ c.if-is_sign.false)) word.2) (unread _ _ c.expr-value.result c.in_err-value.ensures c.expr-value.ensures tt))

pub count_args-returns-then-is_word : goal.count_args-returns-then-is_word
count_args-returns-then-is_word t c =
    let word = c.is_word.ensures.taken c.if-is_word.true in
    with_read _ _ _ c.expr-value.result c.in_ok-value.ensures c.expr-value.ensures (λ x q p. rw (c.place-at.ensures, q.0, q.1) (omega (arith, p.0), is_done (has_read x.0 (past_word (codes "distinct") (without (noted started) (sym c.is_sign.ensures.seen ∙ c.if-is_sign.false)) word.2) p.1)))

pub count_args-returns : goal.count_args-returns
count_args-returns t c = c.one_arg.ensures Count (drop c.args.from c.args.tokens.now) _ (without (without (noted started) (sym c.is_sign.ensures.seen ∙ c.if-is_sign.false)) (sym c.is_word.ensures.seen ∙ c.if-is_word.false))

pub one_arg-returns-in_err-values : goal.one_arg-returns-in_err-values
one_arg-returns-in_err-values t c = λ f s b I.
    told _ _ c.from_residual.result c.from_residual.ensures (fails_in _ c.args.tokens.now _ I (unread _ _ c.expr-value.result c.in_err-values.ensures c.expr-value.ensures tt))

pub one_arg-returns : goal.one_arg-returns
one_arg-returns t c = λ f s b I.
    with_read _ _ _ c.expr-value.result c.in_ok-values.ensures c.expr-value.ensures (λ x q p. rw (c.place-at.ensures, q.0, q.1) (p.0, is_done (has_read x.0 I p.1)))

pub coalesce_args-returns-in_err-values : goal.coalesce_args-returns-in_err-values
coalesce_args-returns-in_err-values t c = told _ _ c.from_residual.result c.from_residual.ensures (fails_in _ c.args.tokens.now _ (noted started) c.in_err-values.ensures)

pub coalesce_args-returns : goal.coalesce_args-returns
coalesce_args-returns t c =
    let values = c.in_ok-values.ensures in
    rw c.place-at.ensures (values.0, is_done (has_read c.in_ok-values.values (noted started) values.1))

pub nullif_args-returns-in_err-values : goal.nullif_args-returns-in_err-values
nullif_args-returns-in_err-values t c = told _ _ c.from_residual.result c.from_residual.ensures (fails_in _ c.args.tokens.now _ (noted started) (unread _ _ c.expr-first.result c.in_err-values.ensures c.expr-first.ensures tt))

pub nullif_args-returns-in_err-next : goal.nullif_args-returns-in_err-next
nullif_args-returns-in_err-next t c =
    with_read _ _ _ c.expr-first.result c.in_ok-values.ensures c.expr-first.ensures (λ x q p.
    told _ _ c.from_residual-in_err-next.result c.from_residual-in_err-next.ensures (lacks c.args.tokens.now x.1 _ (has_read x.0 (noted started) p.1) (rw q.1 at c.in_err-next.ensures)))

pub nullif_args-returns-in_err-next-2 : goal.nullif_args-returns-in_err-next-2
nullif_args-returns-in_err-next-2 t c =
    let comma = c.in_ok-next.ensures in
    with_read _ _ _ c.expr-first.result c.in_ok-values.ensures c.expr-first.ensures (λ x q p.
    told _ _ c.from_residual-in_err-next-2.result c.from_residual-in_err-next-2.ensures (fails_in _ c.args.tokens.now _ (past_sign (codes ",") (has_read x.0 (noted started) p.1) (rw q.1 at comma.2)) (unread _ _ c.expr-second.result c.in_err-next-2.ensures c.expr-second.ensures tt)))

pub nullif_args-returns : goal.nullif_args-returns
nullif_args-returns t c =
    let comma = c.in_ok-next.ensures in
    with_read _ _ _ c.expr-first.result c.in_ok-values.ensures c.expr-first.ensures (λ x q p.
    with_read _ _ _ c.expr-second.result c.in_ok-next-2.ensures c.expr-second.ensures (λ y u v.
    rw (c.place-at.ensures, u.0, q.0, u.1) (omega (arith, p.0, q.1, comma.0, v.0), is_done (has_read y.0 (past_sign (codes ",") (has_read x.0 (noted started) p.1) (rw q.1 at comma.2)) v.1))))

pub call-returns-in-None : goal.call-returns-in-None
call-returns-in-None t c = λ s b I.
    let name = name_here c.args.tokens.now c.args.from c.requires.name in
    let J = counted c.meet.ensures (past_name (λ x. read (named (place (drop c.args.from c.args.tokens.now)) x) done) I name.1) in
    let K = call_left {n = c.args.depth} {at = place (drop c.args.from c.args.tokens.now)} c.args.tokens.now c.args.from None c.in-None.ensures name.1 c.requires.undated c.requires.opened in
    fails_in _ c.args.tokens.now (Syntax (c.args.from + 1)) J (stuck_here c.args.tokens.now (c.args.from + 1) K)

pub call-returns-in_err-deeper-in-Some : goal.call-returns-in_err-deeper-in-Some
call-returns-in_err-deeper-in-Some t c = λ s b I.
    let name = name_here c.args.tokens.now c.args.from c.requires.name in
    let J = counted c.meet.ensures (past_name (λ x. read (named (place (drop c.args.from c.args.tokens.now)) x) done) I name.1) in
    let K = call_left {n = c.args.depth} {at = place (drop c.args.from c.args.tokens.now)} c.args.tokens.now c.args.from (Some c.in-Some.function) c.in-Some.ensures name.1 c.requires.undated c.requires.opened in
    told _ _ c.from_residual.result c.from_residual.ensures (fails_in _ c.args.tokens.now _ J (shut_out c.args.tokens.now (c.args.from + 1) _ refl K c.in_err-deeper-in-Some.ensures))

pub call-returns-in_err-args-in-Some : goal.call-returns-in_err-args-in-Some
call-returns-in_err-args-in-Some t c = λ s b I.
    let name = name_here c.args.tokens.now c.args.from c.requires.name in
    let J = counted c.meet.ensures (past_name (λ x. read (named (place (drop c.args.from c.args.tokens.now)) x) done) I name.1) in
    let K = call_left {n = c.args.depth} {at = place (drop c.args.from c.args.tokens.now)} c.args.tokens.now c.args.from (Some c.in-Some.function) c.in-Some.ensures name.1 c.requires.undated c.requires.opened in
    let open_ = c.in_ok-deeper-in-Some.ensures in
    told _ _ c.from_residual-in_err-args-in-Some.result c.from_residual-in_err-args-in-Some.ensures (fails_in _ c.args.tokens.now _ J (unclosed _ _ _ c.args.tokens.now _ (past_sign (codes "(") K open_.0.2) open_.1 c.args-args.result c.in_err-args-in-Some.ensures c.args-args.ensures))

pub call-returns-in_ok-args-in-Some : goal.call-returns-in_ok-args-in-Some
call-returns-in_ok-args-in-Some t c = λ s b I.
    let name = name_here c.args.tokens.now c.args.from c.requires.name in
    let J = counted c.meet.ensures (past_name (λ x. read (named (place (drop c.args.from c.args.tokens.now)) x) done) I name.1) in
    let K = call_left {n = c.args.depth} {at = place (drop c.args.from c.args.tokens.now)} c.args.tokens.now c.args.from (Some c.in-Some.function) c.in-Some.ensures name.1 c.requires.undated c.requires.opened in
    let open_ = c.in_ok-deeper-in-Some.ensures in
    with_read _ _ _ c.args-args.result c.in_ok-args-in-Some.ensures c.args-args.ensures (λ x q p.
    rw (c.place-at.ensures, q.0) (omega (arith, open_.0.0, p.0, q.1.0), is_done (closed J (past_sign (codes ")") (has_nested x.0 (past_sign (codes "(") K open_.0.2) open_.1 p.1) q.1.2))))
