use Rattle.std.proofs.Common.{refl}
use Rattle.std.proofs.lemmas.Result.{err_from_is_err_and}
use Rattle.mesh_base_values.specs.declared.values.Name.{Name}
use Rattle.mesh_house.specs.declared.world.ViewOf.{ViewOf}
use Rattle.mesh_keep_records.proofs.Refused.{mapped, still_refused}
use Rattle.mesh_keep_records.proofs.world_records.read_view.Goals as goal

abbrev built : Name × (Name × Unit {0}) → ViewOf
built f = record { view = f.0; target = f.1.0 }

pub returns-in_err-view-clause-only : goal.returns-in_err-view-clause-only
returns-in_err-view-clause-only c = λ x is.
    let p = err_from_is_err_and c.from_residual.result c.from_residual.ensures.1 in
    rw (p.1, p.2) (still_refused c.in_err-view.field-0.0 (x.view, (x.target, tt)) x (c.in_err-view.ensures.only (x.view, (x.target, tt)) refl is))

pub returns-clause-only : goal.returns-clause-only
returns-clause-only c = λ x is. mapped built {a = (x.view, (x.target, tt))} (c.in_ok-view.ensures.only (x.view, (x.target, tt)) refl is)
