use Rattle.std.specs.Prelude.{ℤ}
use Rattle.std.proofs.Common.{ℕ, Bool, List}
use Rattle.std.proofs.lemmas.Result.{err_from_is_err_and}
use Rattle.std.specs.declared.option.Option.{Option}
use Rattle.mesh_base.specs.declared.snapshots.Ref.{Ref}
use Rattle.mesh_base.specs.declared.snapshots.Env.{Env}
use Rattle.mesh_keep_records.proofs.Refused.{mapped, still_refused}
use Rattle.mesh_keep_records.proofs.book_records.read_env.Goals as goal

abbrev built : List ℕ × (Bool × (List Ref × (List Ref × (Option ℤ × Unit {0})))) → Env
built f = record { name = f.0; pending = f.1.0; list = f.1.1.0; previous = f.1.1.1.0; expires = f.1.1.1.1.0 }

pub returns-in_err-name-clause-only : goal.returns-in_err-name-clause-only
returns-in_err-name-clause-only c = λ x fit is.
    let p = err_from_is_err_and c.from_residual.result c.from_residual.ensures.1 in
    rw (p.1, p.2) (still_refused c.in_err-name.field-0.0 (x.name, (x.pending, (x.list, (x.previous, (x.expires, tt))))) x (c.in_err-name.ensures.only (x.name, (x.pending, (x.list, (x.previous, (x.expires, tt))))) fit is))

pub returns-clause-only : goal.returns-clause-only
returns-clause-only c = λ x fit is. mapped built {a = (x.name, (x.pending, (x.list, (x.previous, (x.expires, tt)))))} (c.in_ok-name.ensures.only (x.name, (x.pending, (x.list, (x.previous, (x.expires, tt))))) fit is)
