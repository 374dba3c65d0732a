use Rattle.std.proofs.Common.{take, map, sym, ap, subst, ◌∙◌, List, arith}
use Rattle.mesh_exec_works.specs.Plain.{plain_models}
use Rattle.mesh_exec_works.specs.Works.{are_fit}
use Rattle.mesh_exec.specs.Cuts.{AreCuts, count_runs, cut_part}
use Rattle.mesh_exec.specs.declared.ready.Cut.{Cut}
use Rattle.mesh_exec.proofs.Fronting.{count_taken, cuts_taken}
use Rattle.mesh_exec.proofs.Nexts.{cuts_fit, front_makes, front_stops, memory_first, models_few, pools_stop}
use Rattle.mesh_exec.proofs.making.make_next.Goals as goal

pub returns-in_err-cuts : goal.returns-in_err-cuts
returns-in_err-cuts g c = memory_first (plain_models c.args.nodes.now c.args.entries.now) c.args.works.now _ c.from_residual.result c.from_residual.ensures.1

pub returns-in_err-pooled : goal.returns-in_err-pooled
returns-in_err-pooled g c =
    pools_stop (plain_models c.args.nodes.now c.args.entries.now) c.args.works.now c.in_ok-cuts.cuts c.in_ok-cuts.ensures c.len.result _ _ _ c.from_residual-in_err-pooled.result c.in_err-pooled.ensures.finds c.from_residual-in_err-pooled.ensures.1

pub make_front-requires-clause-few : goal.make_front-requires-clause-few
make_front-requires-clause-few g c κs within =
    omega (arith, ap count_runs c.split_at.ensures.front, ap (λ (l : List Cut). count_runs (take c.len-models.result l)) c.as_slice.ensures, count_taken c.len-models.result c.in_ok-cuts.cuts, c.in_ok-cuts.ensures.runs)

pub make_front-requires-clause-each : goal.make_front-requires-clause-each
make_front-requires-clause-each g c κs within =
    subst AreCuts (sym (c.split_at.ensures.front ∙ ap (take c.len-models.result) c.as_slice.ensures)) (cuts_taken c.len-models.result c.in_ok-cuts.cuts c.in_ok-cuts.ensures.each)

pub make_front-requires-clause-fit : goal.make_front-requires-clause-fit
make_front-requires-clause-fit g c κs within =
    ap (λ (l : List Cut). are_fit (map cut_part l)) (c.split_at.ensures.front ∙ ap (take c.len-models.result) c.as_slice.ensures)
    ∙ cuts_fit (plain_models c.args.nodes.now c.args.entries.now) c.args.works.now c.in_ok-cuts.cuts c.in_ok-cuts.ensures c.len-models.result
    (omega (arith, models_few (plain_models c.args.nodes.now c.args.entries.now) c.args.works.now c.in_ok-cuts.cuts c.in_ok-cuts.ensures c.len.result c.len.ensures c.in_ok-pooled.pooled c.len-models.result c.len-models.ensures c.in_ok-pooled.ensures.few c.split_at.result.0.now (c.split_at.ensures.front ∙ ap (take c.len-models.result) c.as_slice.ensures) _ _ c.in_ok-pooled.ensures.finds, c.len.ensures))
    c.requires.fit

pub returns-in_err-changes : goal.returns-in_err-changes
returns-in_err-changes g c =
    front_stops (plain_models c.args.nodes.now c.args.entries.now) c.args.works.now c.in_ok-cuts.cuts c.in_ok-cuts.ensures c.len.result c.len.ensures c.in_ok-pooled.pooled c.len-models.result c.len-models.ensures c.in_ok-pooled.ensures.few c.split_at.result.0.now
    (c.split_at.ensures.front ∙ ap (take c.len-models.result) c.as_slice.ensures) _ _ c.in_ok-pooled.ensures.finds _ _ c.from_residual-in_err-changes.result c.in_err-changes.ensures.makes c.from_residual-in_err-changes.ensures.1

pub returns : goal.returns
returns g c =
    front_makes (plain_models c.args.nodes.now c.args.entries.now) c.args.works.now c.in_ok-cuts.cuts c.in_ok-cuts.ensures c.len.result c.len.ensures c.in_ok-pooled.pooled c.len-models.result c.len-models.ensures c.in_ok-pooled.ensures.few c.split_at.result.0.now
    (c.split_at.ensures.front ∙ ap (take c.len-models.result) c.as_slice.ensures) _ _ c.in_ok-pooled.ensures.finds _ c.in_ok-changes.changes c.in_ok-changes.ensures.makes c.in_ok-changes.ensures.number c.in_ok-changes.ensures.calls (omega (arith, c.if-models-eq0.false))
