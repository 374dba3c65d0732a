use Rattle.std.proofs.Common.{◌≡◌, map, take}
use Rattle.mesh_audit_files.specs.Files.{audit_name}
use Rattle.mesh_audit_files.proofs.sets.names_of.Given as goal

abbrev pub invariant-loop-f : goal.invariant-loop-f
invariant-loop-f l = l.names ≡ map audit_name (take l.f-index l.files)
