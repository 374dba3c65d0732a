use Rattle.std.proofs.Common.{◌≡◌, ◌++◌, map, drop}
use Rattle.mesh_audit_files.specs.Listing.{plain}
use Rattle.mesh_audit_files.specs.Listings.{all_listed}
use Rattle.mesh_audit_files.proofs.listings.all_listed.Given as goal

abbrev pub invariant-loop-n : goal.invariant-loop-n
invariant-loop-n l = map plain l.all ++ all_listed l.files (drop l.n-index l.nodes) ≡ all_listed l.files l.nodes
