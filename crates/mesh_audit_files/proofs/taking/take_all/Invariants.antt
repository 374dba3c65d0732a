use Rattle.std.proofs.Common.{map, drop}
use Rattle.mesh_audit_files.specs.Listing.{plain}
use Rattle.mesh_audit_files.specs.Sets.{IsTaken, no_audits}
use Rattle.mesh_audit_files.proofs.Walking.{Goes}
use Rattle.mesh_audit_files.proofs.taking.take_all.Given as goal

abbrev pub invariant-loop-l : goal.invariant-loop-l
invariant-loop-l l = Goes (IsTaken l.known l.files) no_audits (map plain l.all) l.set (map plain (drop l.l-index l.all))
