use Rattle.std.proofs.Common.{◌≡◌, ◌++◌, take}
use Rattle.std.specs.List.{flat_map}
use Rattle.mesh_project.specs.nodes.Reads.{select_reads}
use Rattle.mesh_project.proofs.nodes.reads.add_union.Given as goal

abbrev pub invariant-loop-select : goal.invariant-loop-select
invariant-loop-select l = l.names ≡ l.initial.names ++ flat_map select_reads (take l.select-index l.select-items)
