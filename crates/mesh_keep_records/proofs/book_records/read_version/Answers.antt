use Rattle.std.specs.Prelude.{ℤ}
use Rattle.std.proofs.Common.{Bool, List}
use Rattle.std.proofs.lemmas.Result.{err_from_is_err_and}
use Rattle.std.specs.declared.option.Option.{Option}
use Rattle.mesh_base_values.specs.declared.values.Name.{Name}
use Rattle.mesh_base_values.specs.declared.times.Bounds.{Bounds}
use Rattle.mesh_house_book.specs.declared.versions.Version.{Version}
use Rattle.mesh_keep_records.proofs.Refused.{mapped, still_refused}
use Rattle.mesh_keep_records.proofs.book_records.read_version.Goals as goal

abbrev built : Name × (Bool × (List Bounds × (Option (List ℤ) × Unit {0}))) → Version
built f = record { object = f.0; made = f.1.0; ranges = f.1.1.0; marks = f.1.1.1.0 }

pub returns-in_err-object-clause-only : goal.returns-in_err-object-clause-only
returns-in_err-object-clause-only c = λ x fit is.
    let p = err_from_is_err_and c.from_residual.result c.from_residual.ensures.1 in
    rw (p.1, p.2) (still_refused c.in_err-object.field-0.0 (x.object, (x.made, (x.ranges, (x.marks, tt)))) x (c.in_err-object.ensures.only (x.object, (x.made, (x.ranges, (x.marks, tt)))) fit is))

pub returns-clause-only : goal.returns-clause-only
returns-clause-only c = λ x fit is. mapped built {a = (x.object, (x.made, (x.ranges, (x.marks, tt))))} (c.in_ok-object.ensures.only (x.object, (x.made, (x.ranges, (x.marks, tt)))) fit is)
