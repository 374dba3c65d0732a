use Rattle.std.proofs.Common.{◌≡◌, ◌≤◌, ◌<◌, [], ◌∷◌, length, ap, ap₂, sym, ◌∙◌, arith}
use Rattle.std.specs.List.{fold}
use Rattle.std.specs.declared.option.Option.TheVariants.{None}
use Rattle.mesh_base_values.specs.declared.values.Cell.TheVariants as cell
use Rattle.mesh_base.specs.declared.expressions.Func.TheVariants as func
use Rattle.mesh_time_days.specs.casts.Casts.{cast_value}
use Rattle.mesh_spec_query.specs.Cells.{is_null, is_true, op_value, negative, opposite, between, one_of, func_value, chosen}
use Rattle.mesh_eval_expressions.specs.bound.Meaning.{bound_value, bound_each, bound_whens}
use Rattle.mesh_eval_rows.specs.Plain.{cell_of}
use Rattle.mesh_eval_expressions.specs.Frames.{given_of}
use Rattle.mesh_eval_expressions.proofs.Nodes.{of-binary, of-neg, of-not, of-is_null, of-between, of-one_of, of-cast, of-call, of-plain, one_arg, two_args}
use Rattle.mesh_eval_expressions.proofs.Plains.{same, found, first_true, one_more, taken}
use Rattle.mesh_eval_expressions.proofs.plain.+plain.Goals as goal

pub plain_of-returns-in-Binary : goal.plain_of-returns-in-Binary
plain_of-returns-in-Binary t c =
    let g = given_of c.args.f.now in
    let n = c.in-Binary in
    let l = c.get.result.now in
    let r = c.get-in-Binary.result.now in
    same c.operated.result (op_value n.op (bound_value l g) (bound_value r g)) (bound_value c.args.b.now g) (c.operated.ensures (bound_value l g) (bound_value r g) c.plain_of.ensures c.plain_of-in-Binary.ensures)
    (of-binary c.args.b.now n.op n.left n.right l r g n.is c.get.ensures c.get-in-Binary.ensures)

pub plain_node-returns-in-Plain : goal.plain_node-returns-in-Plain
plain_node-returns-in-Plain t c =
    let g = given_of c.args.f.now in
    let x = c.get.result.now in
    same c.plain_of.result (bound_value x g) (bound_value c.args.b.now g) c.plain_of.ensures (of-plain c.args.b.now c.in-Plain.value x g c.in-Plain.is c.get.ensures)

pub plain_node-returns-in-Neg : goal.plain_node-returns-in-Neg
plain_node-returns-in-Neg t c =
    let g = given_of c.args.f.now in
    let x = c.get-in-Neg.result.now in
    same c.negated.result (negative (bound_value x g)) (bound_value c.args.b.now g) (c.negated.ensures (bound_value x g) c.plain_of-in-Neg.ensures) (of-neg c.args.b.now c.in-Neg.value x g c.in-Neg.is c.get-in-Neg.ensures)

pub plain_node-returns-in-Not : goal.plain_node-returns-in-Not
plain_node-returns-in-Not t c =
    let g = given_of c.args.f.now in
    let x = c.get-in-Not.result.now in
    same c.opposed.result (opposite (bound_value x g)) (bound_value c.args.b.now g) (c.opposed.ensures (bound_value x g) c.plain_of-in-Not.ensures) (of-not c.args.b.now c.in-Not.value x g c.in-Not.is c.get-in-Not.ensures)

pub plain_node-returns-in-IsNull : goal.plain_node-returns-in-IsNull
plain_node-returns-in-IsNull t c =
    let g = given_of c.args.f.now in
    let x = c.get-in-IsNull.result.now in
    same c.null_test.result (cell.Bool (is_null (bound_value x g))) (bound_value c.args.b.now g) (c.null_test.ensures (bound_value x g) c.plain_of-in-IsNull.ensures) (of-is_null c.args.b.now c.in-IsNull.value x g c.in-IsNull.is c.get-in-IsNull.ensures)

pub plain_node-returns-in-Between : goal.plain_node-returns-in-Between
plain_node-returns-in-Between t c =
    let g = given_of c.args.f.now in
    let n = c.in-Between in
    let x = c.get-in-Between.result.now in
    let a = c.get-in-Between-2.result.now in
    let b = c.get-in-Between-3.result.now in
    same c.placed.result (between (bound_value x g) (bound_value a g) (bound_value b g)) (bound_value c.args.b.now g) (c.placed.ensures (bound_value x g) (bound_value a g) (bound_value b g) c.plain_of-in-Between.ensures c.plain_of-in-Between-2.ensures c.plain_of-in-Between-3.ensures)
    (of-between c.args.b.now n.value n.low n.high x a b g n.is c.get-in-Between.ensures c.get-in-Between-2.ensures c.get-in-Between-3.ensures)

pub plain_node-returns-in-Some : goal.plain_node-returns-in-Some
plain_node-returns-in-Some t c =
    let g = given_of c.args.f.now in
    let x = c.get-in-OneOf.result.now in
    let xs = c.as_slice.result.now in
    let v = c.in-Some.x in
    same c.one_equals.result (one_of (cell_of v) (bound_each xs g)) (bound_value c.args.b.now g) c.one_equals.ensures
    (ap (λ y. one_of y (bound_each xs g)) (found c.plain_of-in-OneOf.result v (bound_value x g) c.plain_of-in-OneOf.ensures c.in-Some.is)
    ∙ of-one_of c.args.b.now c.in-OneOf.value x c.in-OneOf.of xs g c.in-OneOf.is c.get-in-OneOf.ensures c.as_slice.ensures)

pub plain_node-returns-in-Cast : goal.plain_node-returns-in-Cast
plain_node-returns-in-Cast t c =
    let g = given_of c.args.f.now in
    let x = c.get-in-Cast.result.now in
    same c.converted.result (cast_value c.in-Cast.to (bound_value x g)) (bound_value c.args.b.now g) (c.converted.ensures (bound_value x g) c.plain_of-in-Cast.ensures) (of-cast c.args.b.now c.in-Cast.to c.in-Cast.value x g c.in-Cast.is c.get-in-Cast.ensures)

pub plain_node-returns-in-Call : goal.plain_node-returns-in-Call
plain_node-returns-in-Call t c =
    let g = given_of c.args.f.now in
    let xs = c.as_slice-in-Call.result.now in
    same c.called.result (func_value c.in-Call.func (bound_each xs g)) (bound_value c.args.b.now g) c.called.ensures (of-call c.args.b.now c.in-Call.func c.in-Call.args xs g c.in-Call.is c.as_slice-in-Call.ensures)

pub called-returns-in-len1 : goal.called-returns-in-len1
called-returns-in-len1 t c =
    let g = given_of c.args.f.now in
    let args = c.args.args.now in
    let x = c.x-item-then-args-lt2-2.result in
    let least : 1 ≤ length args = omega arith in
    let most : length args < 2 = omega arith in
    same c.called_one.result (func_value c.args.func (bound_value x g ∷ [])) (func_value c.args.func (bound_each args g)) (c.called_one.ensures (bound_value x g) c.plain_of-in-len1.ensures)
    (ap (func_value c.args.func) (sym (one_arg args x g least most c.x-item-then-args-lt2-2.is)))

pub called-returns-in-len2 : goal.called-returns-in-len2
called-returns-in-len2 t c =
    let g = given_of c.args.f.now in
    let args = c.args.args.now in
    let x = c.x-item.result in
    let y = c.y-item.result in
    let least : 2 ≤ length args = omega arith in
    let most : length args < 3 = omega arith in
    same c.null_if.result (func_value func.Nullif (bound_value x g ∷ bound_value y g ∷ [])) (func_value c.args.func (bound_each args g))
    (c.null_if.ensures (bound_value x g) (bound_value y g) c.plain_of.ensures c.plain_of-in-len2.ensures)
    (ap₂ func_value (sym c.in-Nullif.is) (sym (two_args args x y g least most c.x-item.is c.y-item.is)))

pub first_true-returns-then-is_true : goal.first_true-returns-then-is_true
first_true-returns-then-is_true t c =
    let g = given_of c.args.f.now in
    let whens = c.args.whens.now in
    let w = c.w-item.result in
    let test_is : cell_of c.in-Some.test ≡ bound_value w.test g = found c.plain_of.result c.in-Some.test (bound_value w.test g) c.plain_of.ensures c.in-Some.is in
    taken c.taken.result (bound_value w.value g) (fold chosen None (bound_whens whens g)) (c.taken.ensures (bound_value w.value g) c.plain_of-then-is_true.ensures)
    (first_true whens c.loop-w.w-index w g c.loop-w-test.true c.w-item.is c.loop-w.invariant (ap is_true (sym test_is) ∙ sym c.is_true.ensures ∙ c.if-is_true.true))

pub first_true-loop-w-preserved : goal.first_true-loop-w-preserved
first_true-loop-w-preserved t c =
    let g = given_of c.args.f.now in
    let w = c.w-item.result in
    let test_is : cell_of c.in-Some.test ≡ bound_value w.test g = found c.plain_of.result c.in-Some.test (bound_value w.test g) c.plain_of.ensures c.in-Some.is in
    one_more c.args.whens.now c.loop-w.w-index w g c.loop-w-test.true c.w-item.is c.loop-w.invariant (ap is_true (sym test_is) ∙ sym c.is_true.ensures ∙ c.if-is_true.false)
