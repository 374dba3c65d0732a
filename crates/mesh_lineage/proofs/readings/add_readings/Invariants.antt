use Rattle.std.proofs.Common.{◌++◌, take}
use Rattle.std.specs.List.{flat_map}
use Rattle.mesh_law_query.specs.Reads.{reading_at}
use Rattle.mesh_lineage.specs.Alike.{IsAlike}
use Rattle.mesh_lineage.specs.Named.{place_of}
use Rattle.mesh_lineage.proofs.readings.add_readings.Given as goal

abbrev pub invariant-loop-i : goal.invariant-loop-i
invariant-loop-i l = IsAlike l.made (l.initial.made ++ flat_map (λ p. reading_at l.from (place_of p)) (take l.i l.places))
