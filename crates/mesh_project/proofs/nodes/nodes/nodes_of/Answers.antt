use Rattle.std.proofs.Common.{[], get_or, ◌∙◌, sym, ap, subst}
use Rattle.std.proofs.lemmas.Result.{err_from_is_err_and}
use Rattle.mesh_project.specs.declared.order.readers.Ranked.{Ranked}
use Rattle.mesh_project_files.specs.Loading.{Refuses}
use Rattle.mesh_project.specs.nodes.Nodes.{with_model}
use Rattle.mesh_project.proofs.nodes.Steps.{one_more_at, stops_at}
use Rattle.mesh_project.proofs.nodes.nodes.nodes_of.Goals as goal

pub returns-in_err-add_model-clause-gives : goal.returns-in_err-add_model-clause-gives
returns-in_err-add_model-clause-gives c =
    let sources = c.args.files.now.sources in
    let models = c.args.files.now.models in
    let none : Ranked = record { at = 0; rank = 0 } in
    let next : Ranked = get_or c.args.order.now c.loop-next.next-index none in
    let fault = c.in_err-add_model.field-0.0 in
    let p = err_from_is_err_and c.from_residual-in_err-add_model.result c.from_residual-in_err-add_model.ensures.1 in
    rw (p.1, p.2) (stops_at (with_model sources models) [] c.loop-next.earlier c.args.order.now c.loop-next.next-index none fault c.loop-next-test.true c.loop-next.invariant.so_far
    (subst (λ ss. Refuses fault (with_model ss models c.loop-next.earlier next)) c.loop-next.invariant.sources
    (subst (λ ms. Refuses fault (with_model c.loop-next.known.sources ms c.loop-next.earlier next)) c.as_slice.ensures c.in_err-add_model.ensures.leads)))

pub loop-next-preserved : goal.loop-next-preserved
loop-next-preserved c =
    let sources = c.args.files.now.sources in
    let models = c.args.files.now.models in
    let none : Ranked = record { at = 0; rank = 0 } in
    let next : Ranked = get_or c.args.order.now c.loop-next.next-index none in
    record {
      sources = c.in_ok-add_model.ensures.sources ∙ c.loop-next.invariant.sources;
      so_far = one_more_at (with_model sources models) [] c.loop-next.earlier c.add_model.new.earlier c.args.order.now c.loop-next.next-index none c.loop-next-test.true c.loop-next.invariant.so_far
          (ap (λ ss. with_model ss models c.loop-next.earlier next) (sym c.loop-next.invariant.sources)
          ∙ ap (λ ms. with_model c.loop-next.known.sources ms c.loop-next.earlier next) (sym c.as_slice.ensures) ∙ c.in_ok-add_model.ensures.leads);
    }
