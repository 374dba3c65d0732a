use Rattle.std.proofs.Common.{map, drop}
use Rattle.std.specs.List.{filter}
use Rattle.mesh_audit_files.specs.Files.{IsRightFor}
use Rattle.mesh_audit_files.specs.Listing.{plain}
use Rattle.mesh_audit_files.specs.Listings.{goes_by}
use Rattle.mesh_audit_files.proofs.Walking.{Goes}
use Rattle.mesh_audit_files.proofs.sets.right.Given as goal

abbrev pub invariant-loop-l : goal.invariant-loop-l
invariant-loop-l l = Goes (IsRightFor l.known l.f) tt (filter (goes_by l.f.text.name) (map plain l.all)) tt (filter (goes_by l.f.text.name) (map plain (drop l.l-index l.all)))
