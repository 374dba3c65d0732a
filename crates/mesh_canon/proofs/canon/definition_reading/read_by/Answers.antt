use Rattle.std.proofs.Common.{sym, ap, ◌∙◌}
use Rattle.std.proofs.lemmas.Result.{err_from_is_err_and}
use Rattle.mesh_canon_text.specs.Text.{own_by}
use Rattle.mesh_canon_reading.specs.Reading.{own_in}
use Rattle.mesh_canon_reading.proofs.Definitions.{own_is_read}
use Rattle.mesh_canon_reading.proofs.Exact.{differs, refused}
use Rattle.mesh_canon_reading.proofs.Forms.{own_said}
use Rattle.mesh_canon.proofs.canon.definition_reading.read_by.Goals as goal

pub returns-in_err-made-clause-only : goal.returns-in_err-made-clause-only
returns-in_err-made-clause-only c = λ m fits said is.
    let p = err_from_is_err_and c.from_residual.result c.from_residual.ensures.1 in
    rw (p.1, p.2) (refused c.in_err-made.field-0.0 (own_in c.args.form c.args.text.now) m c.in_err-made.ensures (ap (own_in c.args.form) is ∙ own_is_read c.args.form m fits said))

pub returns-then-is_same-clause-said : goal.returns-then-is_same-clause-said
returns-then-is_same-clause-said c = own_said c.args.form c.args.text.now c.in_ok-made.made c.in_ok-made.ensures

pub returns-then-is_same-clause-only : goal.returns-then-is_same-clause-only
returns-then-is_same-clause-only c = λ m fits said is. sym (ap (own_in c.args.form) is ∙ own_is_read c.args.form m fits said) ∙ c.in_ok-made.ensures

pub returns-in-Ok-clause-only : goal.returns-in-Ok-clause-only
returns-in-Ok-clause-only c = λ m fits said is.
    absurd (differs (own_by c.args.form) (own_in c.args.form) c.in_ok-made.made m c.args.text.now c.as_slice.result.now c.is_same.result (own_is_read c.args.form m fits said) is c.in_ok-made.ensures (c.as_slice.ensures ∙ c.in-Ok.ensures) c.is_same.ensures c.if-is_same.false)
