use Rattle.std.proofs.Common.{sym, ap, None, Some}
use Rattle.mesh_base.specs.declared.snapshots.Ref.{Ref}
use Rattle.mesh_janitor.proofs.migrate.Found.{renamed_is}
use Rattle.mesh_janitor.proofs.migrate.entries.new_fingerprint.Goals as goal

pub returns-in-None : goal.returns-in-None
returns-in-None c = ap (λ (r : Ref). r.fingerprint) (renamed_is c.args.r.now c.args.entries.now None (sym c.in-None.ensures))

pub returns-in-Some : goal.returns-in-Some
returns-in-Some c = ap (λ (r : Ref). r.fingerprint) (renamed_is c.args.r.now c.args.entries.now (Some c.in-Some.found.now) (sym c.in-Some.ensures))
