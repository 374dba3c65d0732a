use Rattle.std.proofs.Common.{◌≡◌}
use Rattle.mesh_lineage.specs.Pairs.{as_pairs}
use Rattle.mesh_lineage.proofs.projects.as_list.Given as goal

abbrev pub invariant-loop-first : goal.invariant-loop-first
invariant-loop-first l = l.made ≡ as_pairs l.yielded
