use Rattle.std.proofs.Common.{◌≡◌, ◌≤◌, length, ◌∙◌, true, map, sym, ap, subst, Ok}
use Rattle.std.proofs.lemmas.Result.{err_from_is_err_and}
use Rattle.mesh_base.specs.rules.Proper.{is_proper}
use Rattle.mesh_project.specs.order.Order.{AreApart, IsOrder}
use Rattle.mesh_project_files.specs.Loading.{Refuses}
use Rattle.mesh_project.specs.nodes.Nodes.{nodes_of}
use Rattle.mesh_project.specs.project.Project.{TellsCycle, reader_of}
use Rattle.mesh_project.proofs.project.Alone.{readers_apart}
use Rattle.mesh_project.proofs.project.Meant.{are_alone, are_few, not_checked, not_ordered, not_resolved, all_resolved}
use Rattle.mesh_project.proofs.project.Whole.{proper}
use Rattle.mesh_project.proofs.project.project.project_of.Goals as goal

pub returns-in_err-checked-clause-meant : goal.returns-in_err-checked-clause-meant
returns-in_err-checked-clause-meant c =
    let p = err_from_is_err_and c.from_residual.result c.from_residual.ensures.1 in
    rw (p.1, p.2) (not_checked c.args.files.now c.in_err-checked.field-0.0 c.in_err-checked.ensures.gives)

pub ordered-requires-clause-apart : goal.ordered-requires-clause-apart
ordered-requires-clause-apart c =
    subst (λ ms. AreApart (map reader_of ms)) (sym c.as_slice.ensures) (readers_apart c.args.files.now.sources c.args.files.now.models (are_alone c.args.files.now c.in_ok-checked.ensures.gives))

pub ordered-requires-clause-few : goal.ordered-requires-clause-few
ordered-requires-clause-few c = subst (λ ms. length ms ≤ 4096) (sym c.as_slice.ensures) (are_few c.args.files.now c.in_ok-checked.ensures.gives)

pub returns-in_err-order-clause-meant : goal.returns-in_err-order-clause-meant
returns-in_err-order-clause-meant c =
    let p = err_from_is_err_and c.from_residual-in_err-order.result c.from_residual-in_err-order.ensures.1 in
    rw (p.1, p.2) (not_ordered c.args.files.now c.in_ok-checked.ensures.gives c.in_err-order.field-0.0
    (subst (λ ms. TellsCycle (map reader_of ms) c.in_err-order.field-0.0) c.as_slice.ensures c.in_err-order.ensures))

pub returns-in_err-earlier-clause-meant : goal.returns-in_err-earlier-clause-meant
returns-in_err-earlier-clause-meant c =
    let p = err_from_is_err_and c.from_residual-in_err-earlier.result c.from_residual-in_err-earlier.ensures.1 in
    rw (p.1, p.2) (not_resolved c.args.files.now c.in_ok-checked.ensures.gives c.in_ok-order.order
    (subst (λ ms. IsOrder (map reader_of ms) c.in_ok-order.order) c.as_slice.ensures c.in_ok-order.ensures)
    c.in_err-earlier.field-0.0 (subst (λ order. Refuses c.in_err-earlier.field-0.0 (nodes_of c.args.files.now.sources c.args.files.now.models order)) c.as_slice-2.ensures c.in_err-earlier.ensures.gives))

pub invariant_of-result : goal.invariant_of-result
invariant_of-result c =
    let order : IsOrder (map reader_of c.args.files.now.models) c.in_ok-order.order = subst (λ ms. IsOrder (map reader_of ms) c.in_ok-order.order) c.as_slice.ensures c.in_ok-order.ensures in
    let nodes : nodes_of c.args.files.now.sources c.args.files.now.models c.in_ok-order.order ≡ Ok c.in_ok-earlier.earlier =
    ap (nodes_of c.args.files.now.sources c.args.files.now.models) (sym c.as_slice-2.ensures) ∙ c.in_ok-earlier.ensures.gives in
    let all : is_proper c.in_ok-earlier.earlier ≡ true =
    proper c.args.files.now c.in_ok-order.order c.requires (readers_apart c.args.files.now.sources c.args.files.now.models (are_alone c.args.files.now c.in_ok-checked.ensures.gives)) order c.in_ok-earlier.earlier nodes (are_few c.args.files.now c.in_ok-checked.ensures.gives) in
    ap is_proper c.into_nodes.ensures ∙ all

pub returns-clause-meant : goal.returns-clause-meant
returns-clause-meant c =
    let order : IsOrder (map reader_of c.args.files.now.models) c.in_ok-order.order = subst (λ ms. IsOrder (map reader_of ms) c.in_ok-order.order) c.as_slice.ensures c.in_ok-order.ensures in
    let nodes : nodes_of c.args.files.now.sources c.args.files.now.models c.in_ok-order.order ≡ Ok c.into_nodes.result =
    ap (nodes_of c.args.files.now.sources c.args.files.now.models) (sym c.as_slice-2.ensures) ∙ c.in_ok-earlier.ensures.gives ∙ ap (λ ns. Ok ns) (sym c.into_nodes.ensures) in
    all_resolved c.args.files.now c.in_ok-checked.ensures.gives c.in_ok-order.order order c.into_nodes.result nodes
