use Rattle.std.proofs.Common.{◌∷◌, Some, length, sym, ap, ◌∙◌, arith}
use Rattle.std.proofs.lemmas.Bool.{and_parts}
use Rattle.std.proofs.lemmas.Result.{err_from_is_err_and}
use Rattle.mesh_canon_reading.proofs.Exact.{some_is}
use Rattle.mesh_keep_records.proofs.Each.{both_are, first_is, rest_is}
use Rattle.mesh_keep_records.proofs.Refused.{still_refused}
use Rattle.mesh_keep_records.proofs.tuples.Tuple2Listed.take.Goals as goal

pub returns-in-empty-clause-only : goal.returns-in-empty-clause-only
returns-in-empty-clause-only g c = λ x fit is. let n = ap length is in absurd (omega (arith, n))

pub returns-in_err-value-in-len1-up-clause-only : goal.returns-in_err-value-in-len1-up-clause-only
returns-in_err-value-in-len1-up-clause-only g c = λ x fit is.
    let p = err_from_is_err_and c.from_residual.result c.from_residual.ensures.1 in
    let failed = c.in_err-value-in-len1-up in
    rw (p.1, p.2) (still_refused failed.field-0.0 x.0 x (failed.ensures.only x.0 (and_parts _ _ fit).0 (c.as_slice.ensures ∙ first_is c.args.texts.now c.first-item.result _ _ c.first-item.is is)))

pub returns-in_err-values-in-len1-up-clause-only : goal.returns-in_err-values-in-len1-up-clause-only
returns-in_err-values-in-len1-up-clause-only g c = λ x fit is.
    let p = err_from_is_err_and c.from_residual-in_err-values-in-len1-up.result c.from_residual-in_err-values-in-len1-up.ensures.1 in
    let failed = c.in_err-values-in-len1-up in
    rw (p.1, p.2) (still_refused failed.field-0.0 x.1 x (failed.ensures.only x.1 (and_parts _ _ fit).1 (rest_is c.args.texts.now _ _ is)))

pub returns-in_ok-values-in-len1-up-clause-found : goal.returns-in_ok-values-in-len1-up-clause-found
returns-in_ok-values-in-len1-up-clause-found g c =
    let text = sym c.as_slice.ensures ∙ c.in_ok-value-in-len1-up.ensures.found in
    both_are c.args.texts.now c.first-item.result (omega arith) c.first-item.is ∙ (λ i. text i ∷ c.in_ok-values-in-len1-up.ensures.found i)

pub returns-in_ok-values-in-len1-up-clause-only : goal.returns-in_ok-values-in-len1-up-clause-only
returns-in_ok-values-in-len1-up-clause-only g c = λ x fit is.
    let value = some_is x.0 _ (c.in_ok-value-in-len1-up.ensures.only x.0 (and_parts _ _ fit).0 (c.as_slice.ensures ∙ first_is c.args.texts.now c.first-item.result _ _ c.first-item.is is)) in
    let values = some_is x.1 _ (c.in_ok-values-in-len1-up.ensures.only x.1 (and_parts _ _ fit).1 (rest_is c.args.texts.now _ _ is)) in
    λ i. Some (value i, values i)
