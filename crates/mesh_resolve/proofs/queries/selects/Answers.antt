use Rattle.std.proofs.Common.{[], ◌∷◌, ◌++◌, Ok, sym, ap, subst, ◌∙◌}
use Rattle.std.proofs.lemmas.Result.{err_from_is_err_and}
use Rattle.mesh_query_tokens.specs.Gives.{◌>>=◌, Refuses}
use Rattle.mesh_query_tokens.specs.Walk.{along}
use Rattle.mesh_resolve.specs.Queries.{one_select, selects}
use Rattle.mesh_resolve.specs.Selects.{select}
use Rattle.mesh_resolve_selects.proofs.outputs.Steps.{one_more, refused_on, stops}
use Rattle.mesh_resolve.proofs.queries.selects.Goals as goal

pub returns-in_err-side : goal.returns-in_err-side
unfolding selects
returns-in_err-side c =
    let step = one_select c.args.known.now c.args.ctes.now in
    let p = err_from_is_err_and c.from_residual.result c.from_residual.ensures.1 in
    rw (p.1, p.2) (subst (λ l. Refuses c.in_err-side.field-0.0 (along step [] l)) c.as_slice-s-items.ensures
    (stops step [] c.loop-s.done c.as_slice-s-items.result.now c.loop-s.s-index c.s-item.result c.in_err-side.field-0.0 c.loop-s-test.true c.s-item.is c.loop-s.invariant
    (refused_on c.in_err-side.field-0.0 (select c.args.known.now c.args.ctes.now c.s-item.result) (λ r. Ok (c.loop-s.done ++ r ∷ [])) c.in_err-side.ensures)))

pub loop-s-preserved : goal.loop-s-preserved
loop-s-preserved c =
    one_more (one_select c.args.known.now c.args.ctes.now) [] c.loop-s.done c.push.new.self c.as_slice-s-items.result.now c.loop-s.s-index c.s-item.result
    c.loop-s-test.true c.s-item.is c.loop-s.invariant
    (ap (λ r. r >>= λ side. Ok (c.loop-s.done ++ side ∷ [])) c.in_ok-side.ensures ∙ ap Ok (sym c.in_ok-push.ensures.ok))
