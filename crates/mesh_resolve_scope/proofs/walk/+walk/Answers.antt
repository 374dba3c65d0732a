use Rattle.std.proofs.Common.{[], Ok, None, ap, sym, subst, ◌∙◌}
use Rattle.mesh_query_grammar.specs.declared.surface.expressions.OrExpr.{out-OrExpr}
use Rattle.mesh_query_grammar.specs.declared.surface.expressions.AndExpr.{out-AndExpr}
use Rattle.mesh_query_grammar.specs.declared.surface.expressions.CatExpr.{out-CatExpr}
use Rattle.mesh_query_grammar.specs.declared.surface.expressions.AddExpr.{out-AddExpr}
use Rattle.mesh_query_grammar.specs.declared.surface.expressions.AddStep.{out-AddStep}
use Rattle.mesh_query_grammar.specs.declared.surface.expressions.MulExpr.{out-MulExpr}
use Rattle.mesh_query_grammar.specs.declared.surface.expressions.MulStep.{out-MulStep}
use Rattle.mesh_query_grammar.specs.declared.surface.expressions.Pred.{out-Pred}
use Rattle.mesh_query_grammar.specs.declared.surface.expressions.Post.{out-Post}
use Rattle.mesh_query_tokens.specs.Gives.{◌>>=◌, Gives}
use Rattle.mesh_query_tokens.specs.Walk.{along}
use Rattle.mesh_resolve_types.specs.Forms.{either, both, joined, added, multiplied, compared, compare_op, between, one_of, turned, cast, denied, negated, distinct, called}
use Rattle.mesh_resolve_scope.specs.Expressions.{typed, and_typed, not_typed, sum_typed, add_typed, product_typed, mul_typed, unary_typed, arm_typed, cat_typed, test_typed, one_cast, one_step}
use Rattle.mesh_resolve_scope.specs.Steps.{next_part, with_last}
use Rattle.mesh_resolve_scope.proofs.Answered.{over_given, turn_then, turn_given, case_given}
use Rattle.mesh_resolve_scope.proofs.Layers.{or_layer, and_layer, cat_layer, sum_layer, add_layer, product_layer, mul_layer, arm_layer, case_layer, number_layer, text_layer, truth_layer, null_layer, macro_layer, column_layer, call_layer, group_layer, cast_layer, nothing_layer, compare_layer, is_null_layer, between_layer, one_of_layer, star_layer, distinct_layer, list_layer, not_layer, plain_layer, pred_layer, minus_layer, unsigned_layer, post_layer}
use Rattle.mesh_resolve_scope.proofs.Loops.{refused_by, nothing_yet, one_more_over, all_over, chain_ends, begun, one_more_step, steps_end}
use Rattle.mesh_resolve_scope.proofs.walk.+walk.Goals as goal

pub typed-loop-part-init : goal.typed-loop-part-init
typed-loop-part-init t c = nothing_yet _ None

pub typed-loop-part-preserved : goal.typed-loop-part-preserved
typed-loop-part-preserved t c =
    one_more_over (next_part (either (out-OrExpr c.args.e.now).at)) (and_typed c.args.sight.now) None c.loop-part.left c.next_part-left.result
    c.as_slice-part-items.result.now c.loop-part.part-index c.part-item.result c.and_typed-right.result
    c.loop-part-test.true c.part-item.is c.loop-part.invariant c.and_typed-right.ensures c.next_part-left.ensures

pub typed-returns : goal.typed-returns
typed-returns t c =
    chain_ends (out-OrExpr c.args.e.now).at (either (out-OrExpr c.args.e.now).at) (and_typed c.args.sight.now) _ _ (out-OrExpr c.args.e.now).parts (or_layer c.args.sight.now c.args.e.now)
    c.loop-part.left c.as_slice-part-items.result.now c.loop-part.part-index c.as_slice-part-items.ensures c.loop-part-test.false c.loop-part.invariant c.whole.ensures

pub and_typed-loop-part-init : goal.and_typed-loop-part-init
and_typed-loop-part-init t c = nothing_yet _ None

pub and_typed-loop-part-preserved : goal.and_typed-loop-part-preserved
and_typed-loop-part-preserved t c =
    one_more_over (next_part (both (out-AndExpr c.args.e.now).at)) (not_typed c.args.sight.now) None c.loop-part.left c.next_part-left.result
    c.as_slice-part-items.result.now c.loop-part.part-index c.part-item.result c.not_typed-right.result
    c.loop-part-test.true c.part-item.is c.loop-part.invariant c.not_typed-right.ensures c.next_part-left.ensures

pub and_typed-returns : goal.and_typed-returns
and_typed-returns t c =
    chain_ends (out-AndExpr c.args.e.now).at (both (out-AndExpr c.args.e.now).at) (not_typed c.args.sight.now) _ _ (out-AndExpr c.args.e.now).parts (and_layer c.args.sight.now c.args.e.now)
    c.loop-part.left c.as_slice-part-items.result.now c.loop-part.part-index c.as_slice-part-items.ensures c.loop-part-test.false c.loop-part.invariant c.whole.ensures

pub cat_typed-loop-part-init : goal.cat_typed-loop-part-init
cat_typed-loop-part-init t c = nothing_yet _ None

pub cat_typed-loop-part-preserved : goal.cat_typed-loop-part-preserved
cat_typed-loop-part-preserved t c =
    one_more_over (next_part (joined (out-CatExpr c.args.e.now).at)) (sum_typed c.args.sight.now) None c.loop-part.left c.next_part-left.result
    c.as_slice-part-items.result.now c.loop-part.part-index c.part-item.result c.sum_typed-right.result
    c.loop-part-test.true c.part-item.is c.loop-part.invariant c.sum_typed-right.ensures c.next_part-left.ensures

pub cat_typed-returns : goal.cat_typed-returns
cat_typed-returns t c =
    chain_ends (out-CatExpr c.args.e.now).at (joined (out-CatExpr c.args.e.now).at) (sum_typed c.args.sight.now) _ _ (out-CatExpr c.args.e.now).parts (cat_layer c.args.sight.now c.args.e.now)
    c.loop-part.left c.as_slice-part-items.result.now c.loop-part.part-index c.as_slice-part-items.ensures c.loop-part-test.false c.loop-part.invariant c.whole.ensures

pub sum_typed-loop-step-init : goal.sum_typed-loop-step-init
sum_typed-loop-step-init t c = begun (one_step (out-AddExpr c.args.e.now).at) c.product_typed-left.result (product_typed c.args.sight.now (out-AddExpr c.args.e.now).first) c.product_typed-left.ensures

pub sum_typed-loop-step-preserved : goal.sum_typed-loop-step-preserved
sum_typed-loop-step-preserved t c =
    one_more_step (out-AddExpr c.args.e.now).at (add_typed c.args.sight.now) (added (out-AddStep c.step-item.result).sign (out-AddExpr c.args.e.now).at) (product_typed c.args.sight.now (out-AddExpr c.args.e.now).first) c.loop-step.left c.next_term-left.result
    c.as_slice-step-items.result.now c.loop-step.step-index c.step-item.result (product_typed c.args.sight.now (out-AddStep c.step-item.result).part) c.product_typed-right.result
    c.loop-step-test.true c.step-item.is c.loop-step.invariant
    (add_layer c.args.sight.now c.step-item.result (out-AddExpr c.args.e.now).at) c.product_typed-right.ensures c.next_term-left.ensures

pub sum_typed-returns : goal.sum_typed-returns
sum_typed-returns t c =
    steps_end (out-AddExpr c.args.e.now).at (add_typed c.args.sight.now) (product_typed c.args.sight.now (out-AddExpr c.args.e.now).first) _ c.loop-step.left (out-AddExpr c.args.e.now).rest
    c.as_slice-step-items.result.now c.loop-step.step-index (sum_layer c.args.sight.now c.args.e.now) c.as_slice-step-items.ensures
    c.loop-step-test.false c.loop-step.invariant

pub product_typed-loop-step-init : goal.product_typed-loop-step-init
product_typed-loop-step-init t c = begun (one_step (out-MulExpr c.args.e.now).at) c.unary_typed-left.result (unary_typed c.args.sight.now (out-MulExpr c.args.e.now).first) c.unary_typed-left.ensures

pub product_typed-loop-step-preserved : goal.product_typed-loop-step-preserved
product_typed-loop-step-preserved t c =
    one_more_step (out-MulExpr c.args.e.now).at (mul_typed c.args.sight.now) (multiplied (out-MulStep c.step-item.result).sign (out-MulExpr c.args.e.now).at) (unary_typed c.args.sight.now (out-MulExpr c.args.e.now).first) c.loop-step.left c.next_factor-left.result
    c.as_slice-step-items.result.now c.loop-step.step-index c.step-item.result (unary_typed c.args.sight.now (out-MulStep c.step-item.result).part) c.unary_typed-right.result
    c.loop-step-test.true c.step-item.is c.loop-step.invariant
    (mul_layer c.args.sight.now c.step-item.result (out-MulExpr c.args.e.now).at) c.unary_typed-right.ensures c.next_factor-left.ensures

pub product_typed-returns : goal.product_typed-returns
product_typed-returns t c =
    steps_end (out-MulExpr c.args.e.now).at (mul_typed c.args.sight.now) (unary_typed c.args.sight.now (out-MulExpr c.args.e.now).first) _ c.loop-step.left (out-MulExpr c.args.e.now).rest
    c.as_slice-step-items.result.now c.loop-step.step-index (product_layer c.args.sight.now c.args.e.now) c.as_slice-step-items.ensures
    c.loop-step-test.false c.loop-step.invariant

pub all_typed-loop-e-init : goal.all_typed-loop-e-init
all_typed-loop-e-init t c = nothing_yet _ [] ∙ ap (λ l. Ok l) (sym c.new.ensures)

pub all_typed-loop-e-preserved : goal.all_typed-loop-e-preserved
all_typed-loop-e-preserved t c =
    one_more_over with_last (typed c.args.sight.now) [] c.loop-e.made c.pushed-made.result c.as_slice-e-items.result.now c.loop-e.e-index c.e-item.result c.typed.result
    c.loop-e-test.true c.e-item.is c.loop-e.invariant c.typed.ensures c.pushed-made.ensures

pub all_typed-returns : goal.all_typed-returns
all_typed-returns t c =
    all_over with_last (typed c.args.sight.now) [] c.loop-e.made c.as_slice-e-items.result.now c.args.all.now c.loop-e.e-index
    c.as_slice-e-items.ensures c.loop-e-test.false c.loop-e.invariant

pub arms_typed-loop-arm-init : goal.arms_typed-loop-arm-init
arms_typed-loop-arm-init t c = nothing_yet _ [] ∙ ap (λ l. Ok l) (sym c.new.ensures)

pub arms_typed-loop-arm-preserved : goal.arms_typed-loop-arm-preserved
arms_typed-loop-arm-preserved t c =
    one_more_over with_last (arm_typed c.args.sight.now) [] c.loop-arm.made c.pushed-made.result c.as_slice-arm-items.result.now c.loop-arm.arm-index c.arm-item.result c.in_turn.result
    c.loop-arm-test.true c.arm-item.is c.loop-arm.invariant
    (subst (λ r. Gives c.in_turn.result r) (sym (arm_layer c.args.sight.now c.arm-item.result))
    (turn_given c.typed-test.result _ c.typed.result _ c.in_turn.result c.typed-test.ensures c.typed.ensures c.in_turn.ensures)) c.pushed-made.ensures

pub arms_typed-returns : goal.arms_typed-returns
arms_typed-returns t c =
    all_over with_last (arm_typed c.args.sight.now) [] c.loop-arm.made c.as_slice-arm-items.result.now c.args.arms.now c.loop-arm.arm-index
    c.as_slice-arm-items.ensures c.loop-arm-test.false c.loop-arm.invariant

pub value_typed-returns-in-Case : goal.value_typed-returns-in-Case
value_typed-returns-in-Case t c =
    rw (c.in-Case.is, case_layer c.args.sight.now c.in-Case.at c.in-Case.operand c.in-Case.arms c.in-Case.otherwise)
    (case_given c.in-Case.at c.some_typed-operand.result _ c.arms_typed-arms.result _ c.some_typed-otherwise.result _ _
    c.some_typed-operand.ensures c.arms_typed-arms.ensures c.some_typed-otherwise.ensures c.case_over.ensures)

pub value_typed-returns-in-Number : goal.value_typed-returns-in-Number
value_typed-returns-in-Number t c = rw (c.in-Number.is, number_layer c.args.sight.now c.in-Number.at c.in-Number.value) c.number.ensures

pub value_typed-returns-in-Text : goal.value_typed-returns-in-Text
value_typed-returns-in-Text t c = rw (c.in-Text.is, text_layer c.args.sight.now c.in-Text.at c.in-Text.word) c.text.ensures

pub value_typed-returns-in-Truth : goal.value_typed-returns-in-Truth
value_typed-returns-in-Truth t c = rw (c.in-Truth.is, truth_layer c.args.sight.now c.in-Truth.at c.in-Truth.value) c.literal-in-Truth.ensures

pub value_typed-returns-in-Null : goal.value_typed-returns-in-Null
value_typed-returns-in-Null t c = rw (c.in-Null.is, null_layer c.args.sight.now c.in-Null.at) c.literal-in-Null.ensures

pub value_typed-returns-in-Macro : goal.value_typed-returns-in-Macro
value_typed-returns-in-Macro t c = rw (c.in-Macro.is, macro_layer c.args.sight.now c.in-Macro.at c.in-Macro.name) c.macro_typed.ensures

pub value_typed-returns-in-Column : goal.value_typed-returns-in-Column
value_typed-returns-in-Column t c = rw (c.in-Column.is, column_layer c.args.sight.now c.in-Column.at c.in-Column.item c.in-Column.name) c.column.ensures

pub value_typed-returns-in-Call : goal.value_typed-returns-in-Call
value_typed-returns-in-Call t c = rw (c.in-Call.is, call_layer c.args.sight.now c.in-Call.at c.in-Call.function c.in-Call.args) c.args_typed.ensures

pub value_typed-returns-in-Group : goal.value_typed-returns-in-Group
value_typed-returns-in-Group t c = rw (c.in-Group.is, group_layer c.args.sight.now c.in-Group.at c.in-Group.inner) (rw c.get.ensures at c.typed.ensures)

pub value_typed-returns-in-Cast : goal.value_typed-returns-in-Cast
value_typed-returns-in-Cast t c =
    rw (c.in-Cast.is, cast_layer c.args.sight.now c.in-Cast.at c.in-Cast.value c.in-Cast.to)
    (over_given (cast c.in-Cast.at c.in-Cast.to) c.typed-value.result _ c.cast_value.result (rw c.get-in-Cast.ensures at c.typed-value.ensures) c.cast_value.ensures)

pub test_typed-returns-in-Nothing : goal.test_typed-returns-in-Nothing
test_typed-returns-in-Nothing t c = rw c.in-Nothing.is (nothing_layer c.args.sight.now c.args.at c.args.left)

pub test_typed-returns-in-Compare : goal.test_typed-returns-in-Compare
test_typed-returns-in-Compare t c =
    rw (c.in-Compare.is, compare_layer c.args.sight.now c.in-Compare.cmp c.in-Compare.right c.args.at c.args.left)
    (over_given (compared (compare_op c.in-Compare.cmp) c.args.at c.args.left) c.cat_typed-right.result _ c.compared_with.result
    c.cat_typed-right.ensures (rw c.compare_op.ensures at c.compared_with.ensures))

pub test_typed-returns-in-IsNull : goal.test_typed-returns-in-IsNull
test_typed-returns-in-IsNull t c =
    rw (c.in-IsNull.is, is_null_layer c.args.sight.now c.in-IsNull.negated c.args.at c.args.left) c.without_value.ensures

pub test_typed-returns-in-Between : goal.test_typed-returns-in-Between
test_typed-returns-in-Between t c =
    rw (c.in-Between.is, between_layer c.args.sight.now c.in-Between.negated c.in-Between.low c.in-Between.high c.args.at c.args.left)
    (subst (λ r. Gives c.between_both.result r)
    (turn_then (cat_typed c.args.sight.now c.in-Between.low) (cat_typed c.args.sight.now c.in-Between.high) (λ low high. between c.args.at c.args.left low high >>= λ t. Ok (turned c.in-Between.negated t)))
    (over_given (λ ends. between c.args.at c.args.left ends.0 ends.1 >>= λ t. Ok (turned c.in-Between.negated t)) c.in_turn-ends.result _ c.between_both.result
    (turn_given c.cat_typed-low.result _ c.cat_typed.result _ c.in_turn-ends.result c.cat_typed-low.ensures c.cat_typed.ensures c.in_turn-ends.ensures)
    c.between_both.ensures))

pub test_typed-returns-in-OneOf : goal.test_typed-returns-in-OneOf
test_typed-returns-in-OneOf t c =
    rw (c.in-OneOf.is, one_of_layer c.args.sight.now c.in-OneOf.negated c.in-OneOf.of c.args.at c.args.left)
    (over_given (λ of. one_of c.args.at c.args.left of >>= λ t. Ok (turned c.in-OneOf.negated t)) c.all_typed-of.result _ c.among_all.result
    c.all_typed-of.ensures c.among_all.ensures)

pub args_typed-returns-in-Star : goal.args_typed-returns-in-Star
args_typed-returns-in-Star t c = rw (c.in-Star.is, star_layer c.args.sight.now c.in-Star.at c.args.at c.args.function) c.starred.ensures

pub args_typed-returns-in_err-t-in-Distinct : goal.args_typed-returns-in_err-t-in-Distinct
args_typed-returns-in_err-t-in-Distinct t c =
    rw (c.in-Distinct.is, distinct_layer c.args.sight.now c.in-Distinct.at c.in-Distinct.value c.args.at c.args.function, ← c.get.ensures)
    (refused_by c.in_err-t-in-Distinct.field-0.0 _ (distinct c.args.at c.args.function) _ c.in_err-t-in-Distinct.ensures c.from_residual.ensures.1)

pub args_typed-returns-in_ok-t-in-Distinct : goal.args_typed-returns-in_ok-t-in-Distinct
args_typed-returns-in_ok-t-in-Distinct t c =
    rw (c.in-Distinct.is, distinct_layer c.args.sight.now c.in-Distinct.at c.in-Distinct.value c.args.at c.args.function, ← c.get.ensures)
    (over_given (distinct c.args.at c.args.function) (Ok c.in_ok-t-in-Distinct.t) _ c.distinct.result c.in_ok-t-in-Distinct.ensures c.distinct.ensures)

pub args_typed-returns-in_err-ts-in-List : goal.args_typed-returns-in_err-ts-in-List
args_typed-returns-in_err-ts-in-List t c =
    rw (c.in-List.is, list_layer c.args.sight.now c.in-List.at c.in-List.values c.args.at c.args.function)
    (refused_by c.in_err-ts-in-List.field-0.0 _ (called c.args.at c.args.function) _ c.in_err-ts-in-List.ensures c.from_residual-in_err-ts-in-List.ensures.1)

pub args_typed-returns-in_ok-ts-in-List : goal.args_typed-returns-in_ok-ts-in-List
args_typed-returns-in_ok-ts-in-List t c =
    rw (c.in-List.is, list_layer c.args.sight.now c.in-List.at c.in-List.values c.args.at c.args.function)
    (over_given (called c.args.at c.args.function) (Ok c.in_ok-ts-in-List.ts) _ c.called.result c.in_ok-ts-in-List.ensures c.called.ensures)

pub not_typed-returns-in_err-t-in-Not : goal.not_typed-returns-in_err-t-in-Not
not_typed-returns-in_err-t-in-Not t c =
    rw (c.in-Not.is, not_layer c.args.sight.now c.in-Not.at c.in-Not.inner, ← c.get.ensures)
    (refused_by c.in_err-t-in-Not.field-0.0 _ (denied c.in-Not.at) _ c.in_err-t-in-Not.ensures c.from_residual.ensures.1)

pub not_typed-returns-in_ok-t-in-Not : goal.not_typed-returns-in_ok-t-in-Not
not_typed-returns-in_ok-t-in-Not t c =
    rw (c.in-Not.is, not_layer c.args.sight.now c.in-Not.at c.in-Not.inner, ← c.get.ensures)
    (over_given (denied c.in-Not.at) (Ok c.in_ok-t-in-Not.t) _ c.denied.result c.in_ok-t-in-Not.ensures c.denied.ensures)

pub not_typed-returns-in_err-left-in-Plain : goal.not_typed-returns-in_err-left-in-Plain
not_typed-returns-in_err-left-in-Plain t c =
    rw (c.in-Plain.is, plain_layer c.args.sight.now c.in-Plain.at c.in-Plain.pred, pred_layer c.args.sight.now c.in-Plain.pred)
    (refused_by c.in_err-left-in-Plain.field-0.0 _ (test_typed c.args.sight.now (out-Pred c.in-Plain.pred).test (out-Pred c.in-Plain.pred).at) _ c.in_err-left-in-Plain.ensures c.from_residual-in_err-left-in-Plain.ensures.1)

pub not_typed-returns-in_ok-left-in-Plain : goal.not_typed-returns-in_ok-left-in-Plain
not_typed-returns-in_ok-left-in-Plain t c =
    rw (c.in-Plain.is, plain_layer c.args.sight.now c.in-Plain.at c.in-Plain.pred, pred_layer c.args.sight.now c.in-Plain.pred)
    (over_given (test_typed c.args.sight.now (out-Pred c.in-Plain.pred).test (out-Pred c.in-Plain.pred).at) (Ok c.in_ok-left-in-Plain.left) _ c.test_typed.result c.in_ok-left-in-Plain.ensures c.test_typed.ensures)

pub unary_typed-returns-in_err-t-in-Minus : goal.unary_typed-returns-in_err-t-in-Minus
unary_typed-returns-in_err-t-in-Minus t c =
    rw (c.in-Minus.is, minus_layer c.args.sight.now c.in-Minus.at c.in-Minus.inner, ← c.get.ensures)
    (refused_by c.in_err-t-in-Minus.field-0.0 _ (negated c.in-Minus.at) _ c.in_err-t-in-Minus.ensures c.from_residual.ensures.1)

pub unary_typed-returns-in_ok-t-in-Minus : goal.unary_typed-returns-in_ok-t-in-Minus
unary_typed-returns-in_ok-t-in-Minus t c =
    rw (c.in-Minus.is, minus_layer c.args.sight.now c.in-Minus.at c.in-Minus.inner, ← c.get.ensures)
    (over_given (negated c.in-Minus.at) (Ok c.in_ok-t-in-Minus.t) _ c.negated.result c.in_ok-t-in-Minus.ensures c.negated.ensures)

pub unary_typed-returns-in-Plain : goal.unary_typed-returns-in-Plain
unary_typed-returns-in-Plain t c =
    rw (c.in-Plain.is, unsigned_layer c.args.sight.now c.in-Plain.at c.in-Plain.post, post_layer c.args.sight.now c.in-Plain.post)
    (over_given (λ t. along (one_cast (out-Post c.in-Plain.post).at) t (out-Post c.in-Plain.post).casts) c.value_typed-value.result _ c.all_cast.result
    c.value_typed-value.ensures (rw c.as_slice.ensures at c.all_cast.ensures))
