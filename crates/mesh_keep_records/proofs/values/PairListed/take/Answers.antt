use Rattle.std.proofs.Common.{refl}
use Rattle.std.proofs.lemmas.Result.{err_from_is_err_and}
use Rattle.mesh_base_values.specs.declared.values.Name.{Name}
use Rattle.mesh_base_values.specs.declared.values.Pair.{Pair}
use Rattle.mesh_keep_records.proofs.Refused.{mapped, still_refused}
use Rattle.mesh_keep_records.proofs.values.PairListed.take.Goals as goal

abbrev built : Name × (Name × Unit {0}) → Pair
built f = record { first = f.0; second = f.1.0 }

pub returns-in_err-first-clause-only : goal.returns-in_err-first-clause-only
returns-in_err-first-clause-only c = λ x fit is.
    let p = err_from_is_err_and c.from_residual.result c.from_residual.ensures.1 in
    rw (p.1, p.2) (still_refused c.in_err-first.field-0.0 (x.first, (x.second, tt)) x (c.in_err-first.ensures.only (x.first, (x.second, tt)) refl is))

pub returns-clause-only : goal.returns-clause-only
returns-clause-only c = λ x fit is. mapped built {a = (x.first, (x.second, tt))} (c.in_ok-first.ensures.only (x.first, (x.second, tt)) refl is)
