use Rattle.std.proofs.Common.{Some, ap, ◌∙◌}
use Rattle.std.proofs.lemmas.Result.{err_from_is_err_and}
use Rattle.mesh_base_values.specs.declared.values.Cell.{Cell}
use Rattle.mesh_house.specs.declared.objects.Body.TheVariants.{Rows}
use Rattle.mesh_keep_records.proofs.Bodies.{rows_are}
use Rattle.mesh_keep_records.proofs.Refused.{mapped, still_refused}
use Rattle.std.proofs.Common.{List}
use Rattle.mesh_keep_records.proofs.world_records.take_rows.Goals as goal

pub returns-in_err-rows-clause-only : goal.returns-in_err-rows-clause-only
returns-in_err-rows-clause-only c = λ b fit is.
    let p = err_from_is_err_and c.from_residual.result c.from_residual.ensures.1 in
    let r = rows_are c.args.texts.now b fit is in
    rw (p.1, p.2) (still_refused c.in_err-rows.field-0.0 (r.0, tt) b (c.in_err-rows.ensures.only (r.0, tt) r.2 r.3))

pub returns-clause-only : goal.returns-clause-only
returns-clause-only c = λ b fit is.
    let r = rows_are c.args.texts.now b fit is in
    ap Some r.1 ∙ mapped (λ (f : List (List Cell) × Unit {0}). Rows f.0) {a = (r.0, tt)} (c.in_ok-rows.ensures.only (r.0, tt) r.2 r.3)
