use Rattle.std.proofs.Common.{◌++◌, take}
use Rattle.std.specs.List.{flat_map}
use Rattle.mesh_law_query.specs.Reads.{select_readings}
use Rattle.mesh_lineage.specs.Alike.{IsAlike}
use Rattle.mesh_lineage.proofs.readings.add_selects_reads.Given as goal

abbrev pub invariant-loop-s : goal.invariant-loop-s
invariant-loop-s l = IsAlike l.made (l.initial.made ++ flat_map select_readings (take l.s-index l.selects))
