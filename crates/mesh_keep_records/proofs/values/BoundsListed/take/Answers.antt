use Rattle.std.proofs.Common.{arith}
use Rattle.std.specs.Prelude.{ℤ}
use Rattle.std.proofs.lemmas.Result.{err_from_is_err_and}
use Rattle.mesh_base_values.specs.declared.times.Bounds.{Bounds}
use Rattle.std.proofs.lemmas.Int.{to_z-of_z}
use Rattle.mesh_keep_records.proofs.Refused.{mapped, still_refused}
use Rattle.mesh_keep_records.proofs.values.BoundsListed.take.Goals as goal

abbrev built : ℤ × (ℤ × Unit {0}) → Bounds
built f = record { start = f.0; end = f.1.0 }

pub returns-in_err-start-clause-only : goal.returns-in_err-start-clause-only
returns-in_err-start-clause-only c = λ x fit is.
    let p = err_from_is_err_and c.from_residual.result c.from_residual.ensures.1 in
    rw (p.1, p.2) (still_refused c.in_err-start.field-0.0 (x.start, (x.end, tt)) x (c.in_err-start.ensures.only (x.start, (x.end, tt)) fit is))

pub returns-clause-only : goal.returns-clause-only
returns-clause-only c = λ x fit is.
    let h = mapped built {a = (x.start, (x.end, tt))} (c.in_ok-start.ensures.only (x.start, (x.end, tt)) fit is) in
    grind (arith, to_z-of_z)
