use Rattle.std.proofs.Common.{◌≤◌, ◌<◌, [], ◌∷◌, length, ap, ap₂, sym, ◌∙◌, arith}
use Rattle.mesh_base_values.specs.declared.values.Cell.TheVariants as cell
use Rattle.mesh_base.specs.declared.expressions.Func.TheVariants as func
use Rattle.mesh_time_days.specs.casts.Casts.{cast_value}
use Rattle.mesh_spec_query.specs.Cells.{is_null, op_value, negative, opposite, between, one_of, func_value}
use Rattle.mesh_eval_expressions.specs.bound.Meaning.{bound_value, bound_each}
use Rattle.mesh_eval_expressions.specs.Frames.{given_of}
use Rattle.mesh_eval_expressions.proofs.Nodes.{named, of-binary, of-neg, of-not, of-is_null, of-between, of-one_of, of-cast, of-call, of-when, of-case, of-agg, one_arg, two_args}
use Rattle.mesh_eval_expressions.proofs.values.+values.Goals as goal

pub operator_value-returns-in-Binary : goal.operator_value-returns-in-Binary
operator_value-returns-in-Binary t c =
    let g = given_of c.args.f.now in
    let n = c.in-Binary in
    let l = c.get.result.now in
    let r = c.get-in-Binary.result.now in
    named c.operated.result (op_value n.op (bound_value l g) (bound_value r g)) (bound_value c.args.b.now g) (c.operated.ensures (bound_value l g) (bound_value r g) c.value_of.ensures c.value_of-in-Binary.ensures)
    (of-binary c.args.b.now n.op n.left n.right l r g n.is c.get.ensures c.get-in-Binary.ensures)

pub node_value-returns-in-Binary : goal.node_value-returns-in-Binary
node_value-returns-in-Binary t c =
    let g = given_of c.args.f.now in
    let n = c.in-Binary in
    let l = c.get.result.now in
    let r = c.get-in-Binary.result.now in
    named c.operated.result (op_value n.op (bound_value l g) (bound_value r g)) (bound_value c.args.b.now g) (c.operated.ensures (bound_value l g) (bound_value r g) c.value_of.ensures c.value_of-in-Binary.ensures)
    (of-binary c.args.b.now n.op n.left n.right l r g n.is c.get.ensures c.get-in-Binary.ensures)

pub node_value-returns-in-Neg : goal.node_value-returns-in-Neg
node_value-returns-in-Neg t c =
    let g = given_of c.args.f.now in
    let x = c.get-in-Neg.result.now in
    named c.negated.result (negative (bound_value x g)) (bound_value c.args.b.now g) (c.negated.ensures (bound_value x g) c.value_of-in-Neg.ensures) (of-neg c.args.b.now c.in-Neg.value x g c.in-Neg.is c.get-in-Neg.ensures)

pub node_value-returns-in-Not : goal.node_value-returns-in-Not
node_value-returns-in-Not t c =
    let g = given_of c.args.f.now in
    let x = c.get-in-Not.result.now in
    named c.opposed.result (opposite (bound_value x g)) (bound_value c.args.b.now g) (c.opposed.ensures (bound_value x g) c.value_of-in-Not.ensures) (of-not c.args.b.now c.in-Not.value x g c.in-Not.is c.get-in-Not.ensures)

pub node_value-returns-in-IsNull : goal.node_value-returns-in-IsNull
node_value-returns-in-IsNull t c =
    let g = given_of c.args.f.now in
    let x = c.get-in-IsNull.result.now in
    named c.null_test.result (cell.Bool (is_null (bound_value x g))) (bound_value c.args.b.now g) (c.null_test.ensures (bound_value x g) c.value_of-in-IsNull.ensures) (of-is_null c.args.b.now c.in-IsNull.value x g c.in-IsNull.is c.get-in-IsNull.ensures)

pub node_value-returns-in-Between : goal.node_value-returns-in-Between
node_value-returns-in-Between t c =
    let g = given_of c.args.f.now in
    let n = c.in-Between in
    let x = c.get-in-Between.result.now in
    let a = c.get-in-Between-2.result.now in
    let b = c.get-in-Between-3.result.now in
    named c.placed.result (between (bound_value x g) (bound_value a g) (bound_value b g)) (bound_value c.args.b.now g) (c.placed.ensures (bound_value x g) (bound_value a g) (bound_value b g) c.value_of-in-Between.ensures c.value_of-in-Between-2.ensures c.value_of-in-Between-3.ensures)
    (of-between c.args.b.now n.value n.low n.high x a b g n.is c.get-in-Between.ensures c.get-in-Between-2.ensures c.get-in-Between-3.ensures)

pub node_value-returns-in_ok-x-in-OneOf : goal.node_value-returns-in_ok-x-in-OneOf
node_value-returns-in_ok-x-in-OneOf t c =
    let g = given_of c.args.f.now in
    let x = c.get-in-OneOf.result.now in
    let xs = c.as_slice.result.now in
    let v = c.in_ok-x-in-OneOf in
    named c.one_equals-found.result (one_of v.x (bound_each xs g)) (bound_value c.args.b.now g) c.one_equals-found.ensures
    (ap (λ y. one_of y (bound_each xs g)) v.ensures ∙ of-one_of c.args.b.now c.in-OneOf.value x c.in-OneOf.of xs g c.in-OneOf.is c.get-in-OneOf.ensures c.as_slice.ensures)

pub node_value-returns-in-Cast : goal.node_value-returns-in-Cast
node_value-returns-in-Cast t c =
    let g = given_of c.args.f.now in
    let x = c.get-in-Cast.result.now in
    named c.converted.result (cast_value c.in-Cast.to (bound_value x g)) (bound_value c.args.b.now g) (c.converted.ensures (bound_value x g) c.value_of-in-Cast.ensures) (of-cast c.args.b.now c.in-Cast.to c.in-Cast.value x g c.in-Cast.is c.get-in-Cast.ensures)

pub node_value-returns-in-Call : goal.node_value-returns-in-Call
node_value-returns-in-Call t c =
    let g = given_of c.args.f.now in
    let xs = c.as_slice-in-Call.result.now in
    named c.over_args.result (func_value c.in-Call.func (bound_each xs g)) (bound_value c.args.b.now g) c.over_args.ensures (of-call c.args.b.now c.in-Call.func c.in-Call.args xs g c.in-Call.is c.as_slice-in-Call.ensures)

pub node_value-returns-in-Some : goal.node_value-returns-in-Some
node_value-returns-in-Some t c =
    let n = c.in-Case in
    of-when c.args.b.now n.otherwise n.whens c.as_slice-in-Case.result.now (given_of c.args.f.now) n.is c.as_slice-in-Case.ensures c.in_ok-found-in-Case.found c.in_ok-found-in-Case.ensures c.in-Some.v c.in-Some.is

pub node_value-returns-in-None : goal.node_value-returns-in-None
node_value-returns-in-None t c =
    let g = given_of c.args.f.now in
    let n = c.in-Case in
    let x = c.get-in-None.result.now in
    named c.value_of-in-None.result (bound_value x g) (bound_value c.args.b.now g) c.value_of-in-None.ensures
    (of-case c.args.b.now n.otherwise x n.whens c.as_slice-in-Case.result.now g n.is c.as_slice-in-Case.ensures c.get-in-None.ensures c.in_ok-found-in-Case.found c.in_ok-found-in-Case.ensures c.in-None.is)

pub node_value-returns-in-Agg : goal.node_value-returns-in-Agg
node_value-returns-in-Agg t c =
    let g = given_of c.args.f.now in
    let x = c.get-in-Agg.result.now in
    named c.over_group.result _ (bound_value c.args.b.now g) c.over_group.ensures (of-agg c.args.b.now c.in-Agg.kind c.in-Agg.value x g c.in-Agg.is c.get-in-Agg.ensures)

pub over_args-returns-in-len1 : goal.over_args-returns-in-len1
over_args-returns-in-len1 t c =
    let g = given_of c.args.f.now in
    let args = c.args.args.now in
    let x = c.x-item-then-args-lt2-2.result in
    let least : 1 ≤ length args = omega arith in
    let most : length args < 2 = omega arith in
    named c.called_one.result (func_value c.args.func (bound_value x g ∷ [])) (func_value c.args.func (bound_each args g)) (c.called_one.ensures (bound_value x g) c.value_of-in-len1.ensures)
    (ap (func_value c.args.func) (sym (one_arg args x g least most c.x-item-then-args-lt2-2.is)))

pub over_args-returns-in-len2 : goal.over_args-returns-in-len2
over_args-returns-in-len2 t c =
    let g = given_of c.args.f.now in
    let args = c.args.args.now in
    let x = c.x-item.result in
    let y = c.y-item.result in
    let least : 2 ≤ length args = omega arith in
    let most : length args < 3 = omega arith in
    named c.null_if.result (func_value func.Nullif (bound_value x g ∷ bound_value y g ∷ [])) (func_value c.args.func (bound_each args g))
    (c.null_if.ensures (bound_value x g) (bound_value y g) c.value_of.ensures c.value_of-in-len2.ensures)
    (ap₂ func_value (sym c.in-Nullif.is) (sym (two_args args x y g least most c.x-item.is c.y-item.is)))
