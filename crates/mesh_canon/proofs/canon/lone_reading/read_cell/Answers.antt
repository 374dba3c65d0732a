use Rattle.std.proofs.Common.{sym, ap, ◌∙◌}
use Rattle.std.proofs.lemmas.Result.{err_from_is_err_and}
use Rattle.mesh_canon_text.specs.Text.{cell_text}
use Rattle.mesh_canon_reading.specs.Reading.{cell_in}
use Rattle.mesh_canon_reading.proofs.Lone.{cell_is_read}
use Rattle.mesh_canon_reading.proofs.Exact.{differs, refused}
use Rattle.mesh_canon.proofs.canon.lone_reading.read_cell.Goals as goal

pub returns-in_err-made-clause-only : goal.returns-in_err-made-clause-only
returns-in_err-made-clause-only c = λ m fits is.
    let p = err_from_is_err_and c.from_residual.result c.from_residual.ensures.1 in
    rw (p.1, p.2) (refused c.in_err-made.field-0.0 (cell_in c.args.text.now) m c.in_err-made.ensures (ap cell_in is ∙ cell_is_read m fits))

pub returns-then-is_same-clause-only : goal.returns-then-is_same-clause-only
returns-then-is_same-clause-only c = λ m fits is. sym (ap cell_in is ∙ cell_is_read m fits) ∙ c.in_ok-made.ensures

pub returns-else-is_same-clause-only : goal.returns-else-is_same-clause-only
returns-else-is_same-clause-only c = λ m fits is.
    absurd (differs cell_text cell_in c.in_ok-made.made m c.args.text.now c.as_slice.result.now c.is_same.result (cell_is_read m fits) is c.in_ok-made.ensures (c.as_slice.ensures ∙ c.in_ok-again.ensures) c.is_same.ensures c.if-is_same.false)
