use Rattle.std.proofs.Common.{sym, ◌∙◌}
use Rattle.std.proofs.lemmas.Result.{err_from_is_err_and}
use Rattle.mesh_canon_reading.proofs.Exact.{some_is}
use Rattle.mesh_keep_records.proofs.Refused.{still_refused}
use Rattle.mesh_keep_records.proofs.part.read_as_list.Goals as goal

pub returns-in_err-parts-clause-only : goal.returns-in_err-parts-clause-only
returns-in_err-parts-clause-only g c = λ x fit is.
    let p = err_from_is_err_and c.from_residual.result c.from_residual.ensures.1 in
    rw (p.1, p.2) (still_refused c.in_err-parts.field-0.0 (g.L.Listed.parts x) x (c.in_err-parts.ensures.only (g.L.Listed.parts x) is))

pub returns-clause-only : goal.returns-clause-only
returns-clause-only g c = λ x fit is.
    c.take.ensures.only x fit (c.as_slice.ensures ∙ sym (some_is (g.L.Listed.parts x) c.in_ok-parts.parts (c.in_ok-parts.ensures.only (g.L.Listed.parts x) is)))
