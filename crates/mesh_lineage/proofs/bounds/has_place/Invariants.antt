use Rattle.std.proofs.Common.{◌≡◌, drop}
use Rattle.mesh_lineage.specs.Bound.{has_place}
use Rattle.mesh_lineage.specs.Named.{places_of}
use Rattle.mesh_lineage.proofs.bounds.has_place.Given as goal

abbrev pub invariant-loop-p : goal.invariant-loop-p
invariant-loop-p l = has_place (places_of (drop l.p-index l.places)) l.item l.name ≡ has_place (places_of l.places) l.item l.name
