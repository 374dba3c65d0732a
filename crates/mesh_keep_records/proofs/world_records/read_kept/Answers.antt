use Rattle.std.proofs.Common.{sym, ap, ◌∙◌}
use Rattle.std.proofs.lemmas.Result.{err_from_is_err_and}
use Rattle.std.proofs.lemmas.Result.{IfOk-weaker}
use Rattle.mesh_canon_text.specs.Text.{list_text}
use Rattle.mesh_canon_reading.proofs.Exact.{some_is}
use Rattle.mesh_keep_records.specs.Records.{body_parts}
use Rattle.mesh_keep_records.proofs.Refused.{still_refused}
use Rattle.mesh_keep_records.proofs.world_records.read_kept.Goals as goal

pub returns-in_err-parts-clause-only : goal.returns-in_err-parts-clause-only
returns-in_err-parts-clause-only c = λ b fit is.
    let p = err_from_is_err_and c.from_residual.result c.from_residual.ensures.1 in
    rw (p.1, p.2) (still_refused c.in_err-parts.field-0.0 (body_parts is.0 b) b (c.in_err-parts.ensures.only (body_parts is.0 b) is.2))

pub returns-clause-found : goal.returns-clause-found
returns-clause-found c =
    IfOk-weaker c.take_body.result _ _ (λ b h. (h.0, h.1, c.in_ok-parts.ensures.found ∙ ap list_text (sym c.as_slice.ensures ∙ h.2))) c.take_body.ensures.found

pub returns-clause-only : goal.returns-clause-only
returns-clause-only c = λ b fit is.
    c.take_body.ensures.only b fit (is.0, is.1, c.as_slice.ensures ∙ sym (some_is (body_parts is.0 b) c.in_ok-parts.parts (c.in_ok-parts.ensures.only (body_parts is.0 b) is.2)))
