use Rattle.std.proofs.Common.{sym, ap, ◌∙◌}
use Rattle.hex.specs.Hex.{encode_lower}
use Rattle.std.proofs.lemmas.Result.{err_from_is_err_and}
use Rattle.mesh_canon_reading.proofs.Exact.{differs, refused}
use Rattle.mesh_keep_records.specs.Parts.{digits_in}
use Rattle.mesh_keep_records.proofs.Digits.{digits_are_read}
use Rattle.mesh_keep_records.proofs.numbers.read_digits.Goals as goal

pub returns-in_err-made-clause-only : goal.returns-in_err-made-clause-only
returns-in_err-made-clause-only c = λ x fits is.
    let p = err_from_is_err_and c.from_residual.result c.from_residual.ensures.1 in
    rw (p.1, p.2) (refused c.in_err-made.field-0.0 (digits_in c.args.bytes.now) x c.in_err-made.ensures (ap digits_in is ∙ digits_are_read x fits))

pub returns-then-is_same-clause-only : goal.returns-then-is_same-clause-only
returns-then-is_same-clause-only c = λ x fits is. sym (ap digits_in is ∙ digits_are_read x fits) ∙ c.in_ok-made.ensures

pub returns-clause-only : goal.returns-clause-only
returns-clause-only c = λ x fits is.
    absurd (differs encode_lower digits_in c.in_ok-made.made x c.args.bytes.now c.as_slice.result.now c.is_same.result (digits_are_read x fits) is c.in_ok-made.ensures (c.as_slice.ensures ∙ c.in_ok-again.ensures) c.is_same.ensures c.if-is_same.false)
