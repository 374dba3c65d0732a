use Rattle.std.proofs.Common.{ℕ, ap, ◌∙◌, arith}
use Rattle.std.specs.Prelude.{ℤ}
use Rattle.std.proofs.lemmas.Result.{err_from_is_err_and}
use Rattle.std.proofs.lemmas.Int.{to_z-of_z}
use Rattle.mesh_canon_reading.proofs.Exact.{some_is}
use Rattle.mesh_keep_records.specs.declared.book_records.BookHead.{BookHead}
use Rattle.mesh_keep_records.proofs.Heads.{not_one}
use Rattle.mesh_keep_records.proofs.Refused.{mapped, still_refused}
use Rattle.mesh_keep_records.proofs.book_records.newer_head.Goals as goal

abbrev built : ℤ × (ℕ × Unit {0}) → BookHead
built f = record { version = f.1.0; moment = f.0 }

pub returns-in_err-moment-clause-only : goal.returns-in_err-moment-clause-only
returns-in_err-moment-clause-only c = λ x newer fit is.
    let p = err_from_is_err_and c.from_residual.result c.from_residual.ensures.1 in
    rw (p.1, p.2) (still_refused c.in_err-moment.field-0.0 (x.moment, (x.version, tt)) x (c.in_err-moment.ensures.only (x.moment, (x.version, tt)) fit is))

pub returns-then-version-eq-OLD_VERSION-clause-only : goal.returns-then-version-eq-OLD_VERSION-clause-only
returns-then-version-eq-OLD_VERSION-clause-only c = λ x newer fit is.
    let e = some_is (x.moment, (x.version, tt)) _ (c.in_ok-moment.ensures.only (x.moment, (x.version, tt)) fit is) in
    absurd (not_one x.version newer (ap (λ (g : ℤ × (ℕ × Unit {0})). g.1.0) e ∙ c.if-version-eq-OLD_VERSION.true))

pub returns-clause-only : goal.returns-clause-only
returns-clause-only c = λ x newer fit is.
    let h = mapped built {a = (x.moment, (x.version, tt))} (c.in_ok-moment.ensures.only (x.moment, (x.version, tt)) fit is) in
    grind (arith, to_z-of_z)
