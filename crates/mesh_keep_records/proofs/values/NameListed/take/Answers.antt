use Rattle.std.proofs.Common.{refl}
use Rattle.std.proofs.lemmas.Result.{err_from_is_err_and}
use Rattle.mesh_keep_records.proofs.Refused.{still_refused}
use Rattle.mesh_keep_records.proofs.values.NameListed.take.Goals as goal

pub returns-in_err-schema-clause-only : goal.returns-in_err-schema-clause-only
returns-in_err-schema-clause-only c = λ x fit is.
    let p = err_from_is_err_and c.from_residual.result c.from_residual.ensures.1 in
    rw (p.1, p.2) (still_refused c.in_err-schema.field-0.0 (x.schema, (x.model, tt)) x (c.in_err-schema.ensures.only (x.schema, (x.model, tt)) refl is))
