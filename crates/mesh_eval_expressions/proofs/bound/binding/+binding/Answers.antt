use Rattle.std.proofs.Common.{[], refl, sym, ◌∙◌}
use Rattle.mesh_spec_query.specs.Aggregates.{agg_value}
use Rattle.mesh_spec_query.specs.Ev.{Ev, Ev_each, Ev_whens, at_row}
use Rattle.mesh_eval_expressions.specs.bound.Meaning.{given_scope, row_alone}
use Rattle.mesh_eval_expressions.proofs.bound.Parts.{renamed, key_means, count_means, when_means, over-seen, of-binary, of-between, of-one_of, of-call, of-case, of-agg}
use Rattle.mesh_eval_expressions.proofs.bound.binding.+binding.Goals as goal

pub bind-returns : goal.bind-returns
bind-returns t c = c.settled.ensures (λ g. Ev c.args.e.now (given_scope c.args.u c.args.columns.now c.args.keys.now g)) c.bind_part.ensures

pub bind_part-returns-in-Some : goal.bind_part-returns-in-Some
bind_part-returns-in-Some t c = key_means c.args.u c.args.columns.now c.args.keys.now c.args.e.now c.in-Some.k (sym c.key_of.ensures ∙ c.in-Some.is)

pub bind_node-returns-in-Binary : goal.bind_node-returns-in-Binary
bind_node-returns-in-Binary t c =
    let s = given_scope c.args.u c.args.columns.now c.args.keys.now in
    let n = c.in-Binary in
    let l = c.get.result.now in
    let r = c.get-in-Binary.result.now in
    renamed c.binary.result _ _ (c.binary.ensures (λ g. Ev l (s g)) (λ g. Ev r (s g)) c.bind_side.ensures c.bind_side-in-Binary.ensures)
    (λ g. of-binary c.args.e.now n.op n.left n.right l r (s g) n.is c.get.ensures c.get-in-Binary.ensures)

pub bind_node-returns-in-Between : goal.bind_node-returns-in-Between
bind_node-returns-in-Between t c =
    let s = given_scope c.args.u c.args.columns.now c.args.keys.now in
    let n = c.in-Between in
    let x = c.get-in-Between.result.now in
    let a = c.get-in-Between-2.result.now in
    let b = c.get-in-Between-3.result.now in
    renamed c.placed.result _ _ (c.placed.ensures (λ g. Ev x (s g)) (λ g. Ev a (s g)) (λ g. Ev b (s g)) c.bind_part-in-Between.ensures c.bind_part-in-Between-2.ensures c.bind_part-in-Between-3.ensures)
    (λ g. of-between c.args.e.now n.value n.low n.high x a b (s g) n.is c.get-in-Between.ensures c.get-in-Between-2.ensures c.get-in-Between-3.ensures)

pub bind_node-returns-in-OneOf : goal.bind_node-returns-in-OneOf
bind_node-returns-in-OneOf t c =
    let s = given_scope c.args.u c.args.columns.now c.args.keys.now in
    let n = c.in-OneOf in
    let x = c.get-in-OneOf.result.now in
    let xs = c.as_slice.result.now in
    renamed c.listed.result _ _ (c.listed.ensures (λ g. Ev x (s g)) (λ g. Ev_each xs (s g)) c.bind_part-in-OneOf.ensures c.bind_each.ensures)
    (λ g. of-one_of c.args.e.now n.value x n.of xs (s g) n.is c.get-in-OneOf.ensures c.as_slice.ensures)

pub bind_node-returns-in-Call : goal.bind_node-returns-in-Call
bind_node-returns-in-Call t c =
    let s = given_scope c.args.u c.args.columns.now c.args.keys.now in
    let n = c.in-Call in
    let xs = c.as_slice-in-Call.result.now in
    renamed c.call.result _ _ (c.call.ensures (λ g. Ev_each xs (s g)) c.bind_each-in-Call.ensures)
    (λ g. of-call c.args.e.now n.func n.args xs (s g) n.is c.as_slice-in-Call.ensures)

pub bind_node-returns-in-Case : goal.bind_node-returns-in-Case
bind_node-returns-in-Case t c =
    let s = given_scope c.args.u c.args.columns.now c.args.keys.now in
    let n = c.in-Case in
    let ws = c.as_slice-in-Case.result.now in
    let x = c.get-in-Case.result.now in
    renamed c.case.result _ _ (c.case.ensures (λ g. Ev_whens ws (s g)) (λ g. Ev x (s g)) c.bind_whens.ensures c.bind.ensures)
    (λ g. of-case c.args.e.now n.otherwise x n.whens ws (s g) n.is c.as_slice-in-Case.ensures c.get-in-Case.ensures)

pub bind_node-returns-in-CountAll : goal.bind_node-returns-in-CountAll
bind_node-returns-in-CountAll t c = count_means c.args.u c.args.columns.now c.args.keys.now c.args.e.now c.in-CountAll.is

pub bind_node-returns-in-Agg : goal.bind_node-returns-in-Agg
bind_node-returns-in-Agg t c =
    let u = c.args.u in
    let columns = c.args.columns.now in
    let s = given_scope u columns c.args.keys.now in
    let n = c.in-Agg in
    let x = c.get-in-Agg.result.now in
    renamed c.aggregate.result _ _ (c.aggregate.ensures (λ g. Ev x (given_scope u columns [] g)) c.bind-in-Agg.ensures)
    (λ g. over-seen columns (agg_value n.kind) (λ row. Ev x (given_scope u columns [] (row_alone row))) (λ row. Ev x (at_row u row)) (λ row. refl) g.group
    ∙ of-agg c.args.e.now n.kind n.value x (s g) n.is c.get-in-Agg.ensures)

pub bind_when-returns : goal.bind_when-returns
bind_when-returns t c =
    when_means c.args.u c.args.columns.now c.args.keys.now c.args.w.now c.when.result
    (c.when.ensures (λ g. Ev c.args.w.now.test (given_scope c.args.u c.args.columns.now c.args.keys.now g)) (λ g. Ev c.args.w.now.value (given_scope c.args.u c.args.columns.now c.args.keys.now g)) c.bind.ensures c.bind-2.ensures)
