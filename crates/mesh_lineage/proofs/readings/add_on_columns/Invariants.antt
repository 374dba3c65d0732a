use Rattle.std.proofs.Common.{◌≡◌, ◌++◌, take}
use Rattle.std.specs.List.{flat_map}
use Rattle.mesh_spec_query.specs.Named.{columns}
use Rattle.mesh_law_query.specs.Reads.{on_of}
use Rattle.mesh_lineage.proofs.readings.add_on_columns.Given as goal

abbrev pub invariant-loop-f : goal.invariant-loop-f
invariant-loop-f l = l.places ≡ l.initial.places ++ flat_map columns (on_of (take l.f-index l.from))
