use Rattle.std.proofs.Common.{◌++◌, append_assoc, refl, sym, ◌∙◌}
use Rattle.mesh_canon_text.specs.Text.{expr_text, gap, members, when_text}
use Rattle.mesh_canon_text.proofs.Members.{one_more}
use Rattle.mesh_canon_text.proofs.Nodes.{wrote, wrote_behind, both_written, of-binary, of-neg, of-between, of-one_of, of-cast, of-call, of-case, of-agg}
use Rattle.mesh_canon_text.proofs.expression_text.+put.Goals as goal

pub put_exprs-loop-i-init : goal.put_exprs-loop-i-init
unfolding members
put_exprs-loop-i-init t c = c.in_ok-put.ensures

pub put_exprs-loop-i-preserved : goal.put_exprs-loop-i-preserved
put_exprs-loop-i-preserved t c =
    one_more expr_text c.args.out.now.items _ (c.loop-i.out.items ++ gap c.loop-i.i) _ c.args.all.now _ c.loop-i.i c.loop-i-test.true c.index-all-i.is c.loop-i.invariant refl
    ((rw c.gap.ensures at c.in_ok-put_behind.ensures) ∙ sym (append_assoc c.loop-i.out.items (gap c.loop-i.i) _))

pub put_whens-loop-i-init : goal.put_whens-loop-i-init
unfolding members
put_whens-loop-i-init t c = c.in_ok-put.ensures

pub put_whens-loop-i-preserved : goal.put_whens-loop-i-preserved
put_whens-loop-i-preserved t c =
    one_more when_text c.args.out.now.items _ _ _ c.args.all.now _ c.loop-i.i c.loop-i-test.true c.index-all-i.is c.loop-i.invariant (rw c.gap.ensures at c.in_ok-put-2.ensures) c.in_ok-put_when.ensures

pub put_expr-returns-in-Neg : goal.put_expr-returns-in-Neg
put_expr-returns-in-Neg t c =
    wrote c.put_last-in-Neg.result c.args.out.now.items c.put_last-in-Neg.new.out.items _ _ c.put_last-in-Neg.ensures
    (of-neg c.args.e.now c.in-Neg.value c.get-in-Neg.result.now c.in-Neg.is c.get-in-Neg.ensures)

pub put_expr-returns-in_ok-put_behind-in-Binary : goal.put_expr-returns-in_ok-put_behind-in-Binary
put_expr-returns-in_ok-put_behind-in-Binary t c =
    wrote_behind c.put_last.result c.args.out.now.items _ c.put_last.new.out.items _ _ _
    (both_written c.args.out.now.items _ _ _ _ c.in_ok-put_pair-in-Binary.ensures c.in_ok-put_behind-in-Binary.ensures) c.put_last.ensures
    (of-binary c.args.e.now c.in-Binary.left c.in-Binary.right c.get.result.now c.get-in-Binary.result.now c.in-Binary.op c.op_word.result.now c.in-Binary.is c.get.ensures c.get-in-Binary.ensures c.op_word.ensures)

pub put_expr-returns-in_ok-put_behind-in-Between-2 : goal.put_expr-returns-in_ok-put_behind-in-Between-2
put_expr-returns-in_ok-put_behind-in-Between-2 t c =
    wrote_behind c.put_last-in-Between.result c.args.out.now.items _ c.put_last-in-Between.new.out.items _ _ _
    (both_written c.args.out.now.items _ _ _ _ c.in_ok-put_behind-in-Between.ensures c.in_ok-put_behind-in-Between-2.ensures) c.put_last-in-Between.ensures
    (of-between c.args.e.now c.in-Between.value c.in-Between.low c.in-Between.high c.get-in-Between.result.now c.get-in-Between-2.result.now c.get-in-Between-3.result.now c.in-Between.is c.get-in-Between.ensures c.get-in-Between-2.ensures c.get-in-Between-3.ensures)

pub put_expr-returns-in_ok-put_behind-in-OneOf : goal.put_expr-returns-in_ok-put_behind-in-OneOf
put_expr-returns-in_ok-put_behind-in-OneOf t c =
    wrote_behind c.put_last_list.result c.args.out.now.items _ c.put_last_list.new.out.items _ _ _ c.in_ok-put_behind-in-OneOf.ensures c.put_last_list.ensures
    (of-one_of c.args.e.now c.in-OneOf.value c.get-in-OneOf.result.now c.in-OneOf.of c.as_slice.result.now c.in-OneOf.is c.get-in-OneOf.ensures c.as_slice.ensures)

pub put_expr-returns-in_ok-put_pair-in-Cast : goal.put_expr-returns-in_ok-put_pair-in-Cast
put_expr-returns-in_ok-put_pair-in-Cast t c =
    wrote_behind c.put_last-in-Cast.result c.args.out.now.items _ c.put_last-in-Cast.new.out.items _ _ _ c.in_ok-put_pair-in-Cast.ensures c.put_last-in-Cast.ensures
    (of-cast c.args.e.now c.in-Cast.value c.get-in-Cast.result.now c.in-Cast.to c.type_word.result.now c.in-Cast.is c.get-in-Cast.ensures c.type_word.ensures)

pub put_expr-returns-in_ok-put_pair-in-Call : goal.put_expr-returns-in_ok-put_pair-in-Call
put_expr-returns-in_ok-put_pair-in-Call t c =
    wrote_behind c.put_last_list-in-Call.result c.args.out.now.items _ c.put_last_list-in-Call.new.out.items _ _ _ c.in_ok-put_pair-in-Call.ensures c.put_last_list-in-Call.ensures
    (of-call c.args.e.now c.in-Call.args c.as_slice-in-Call.result.now c.in-Call.func c.func_word.result.now c.in-Call.is c.as_slice-in-Call.ensures c.func_word.ensures)

pub put_expr-returns-in_ok-put_case-in-Case : goal.put_expr-returns-in_ok-put_case-in-Case
put_expr-returns-in_ok-put_case-in-Case t c =
    wrote_behind c.put_last-in-Case.result c.args.out.now.items _ c.put_last-in-Case.new.out.items _ _ _ c.in_ok-put_case-in-Case.ensures c.put_last-in-Case.ensures
    (of-case c.args.e.now c.in-Case.otherwise c.get-in-Case.result.now c.in-Case.whens c.as_slice-in-Case.result.now c.in-Case.is c.as_slice-in-Case.ensures c.get-in-Case.ensures)

pub put_expr-returns-in_ok-put_pair-in-Agg : goal.put_expr-returns-in_ok-put_pair-in-Agg
put_expr-returns-in_ok-put_pair-in-Agg t c =
    wrote_behind c.put_last-in-Agg.result c.args.out.now.items _ c.put_last-in-Agg.new.out.items _ _ _ c.in_ok-put_pair-in-Agg.ensures c.put_last-in-Agg.ensures
    (of-agg c.args.e.now c.in-Agg.value c.get-in-Agg.result.now c.in-Agg.kind c.agg_word.result.now c.in-Agg.is c.get-in-Agg.ensures c.agg_word.ensures)
