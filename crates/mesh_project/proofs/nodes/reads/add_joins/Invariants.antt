use Rattle.std.proofs.Common.{◌≡◌, ◌++◌, take}
use Rattle.std.specs.List.{flat_map}
use Rattle.mesh_project.specs.nodes.Reads.{join_reads}
use Rattle.mesh_project.proofs.nodes.reads.add_joins.Given as goal

abbrev pub invariant-loop-join : goal.invariant-loop-join
invariant-loop-join l = l.names ≡ l.initial.names ++ flat_map join_reads (take l.join-index l.joins)
