use Rattle.std.proofs.Common.{◌≡◌, ◌++◌, map}
use Rattle.mesh_audit_files.specs.Listing.{plain}
use Rattle.mesh_audit_files.specs.Listings.{listed_as}
use Rattle.mesh_audit_files.proofs.listings.push_entries.Given as goal

abbrev pub invariant-loop-entry : goal.invariant-loop-entry
invariant-loop-entry l = map plain l.all ≡ map plain l.initial.all ++ map (listed_as l.n l.f.text.file) l.yielded
