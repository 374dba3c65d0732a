use Rattle.std.proofs.Common.{◌≡◌, ◌++◌, take}
use Rattle.std.specs.List.{flat_map}
use Rattle.mesh_project.specs.nodes.Reads.{cte_reads}
use Rattle.mesh_project.proofs.nodes.reads.add_ctes.Given as goal

abbrev pub invariant-loop-cte : goal.invariant-loop-cte
invariant-loop-cte l = l.names ≡ l.initial.names ++ flat_map cte_reads (take l.cte-index l.ctes)
