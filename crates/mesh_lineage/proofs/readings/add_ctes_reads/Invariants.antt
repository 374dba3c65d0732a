use Rattle.std.proofs.Common.{◌++◌, take}
use Rattle.std.specs.List.{flat_map}
use Rattle.mesh_law_query.specs.Reads.{selects_readings}
use Rattle.mesh_lineage.specs.Alike.{IsAlike}
use Rattle.mesh_lineage.proofs.readings.add_ctes_reads.Given as goal

abbrev pub invariant-loop-c : goal.invariant-loop-c
invariant-loop-c l = IsAlike l.made (l.initial.made ++ flat_map selects_readings (take l.c-index l.ctes))
