use Rattle.std.proofs.Common.{List}
use Rattle.std.proofs.lemmas.Result.{err_from_is_err_and}
use Rattle.mesh_base_values.specs.declared.values.Cell.{Cell}
use Rattle.mesh_base_values.specs.declared.values.Column.{Column}
use Rattle.mesh_base_values.specs.declared.values.Name.{Name}
use Rattle.mesh_base.specs.declared.jobs.Input.{Input}
use Rattle.mesh_keep_records.proofs.Refused.{mapped, still_refused}
use Rattle.mesh_keep_records.proofs.world_records.read_source.Goals as goal

abbrev built : Name × (List Column × (List (List Cell) × Unit {0})) → Input
built f = record { name = f.0; columns = f.1.0; rows = f.1.1.0 }

pub returns-in_err-name-clause-only : goal.returns-in_err-name-clause-only
returns-in_err-name-clause-only c = λ x fit is.
    let p = err_from_is_err_and c.from_residual.result c.from_residual.ensures.1 in
    rw (p.1, p.2) (still_refused c.in_err-name.field-0.0 (x.name, (x.columns, (x.rows, tt))) x (c.in_err-name.ensures.only (x.name, (x.columns, (x.rows, tt))) fit is))

pub returns-clause-only : goal.returns-clause-only
returns-clause-only c = λ x fit is. mapped built {a = (x.name, (x.columns, (x.rows, tt)))} (c.in_ok-name.ensures.only (x.name, (x.columns, (x.rows, tt))) fit is)
