use Rattle.std.proofs.Common.{◌≡◌, ◌↔◌, drop}
use Rattle.mesh_category.specs.versions.Clashes.{refs_at}
use Rattle.mesh_category.proofs.versions.clashes.are_refs_at.Given as goal

abbrev pub invariant-loop-place : goal.invariant-loop-place
invariant-loop-place l = (l.refs ≡ refs_at l.nodes l.places) ↔ (l.rest ≡ refs_at l.nodes (drop l.place-index l.places))
