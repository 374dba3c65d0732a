use Rattle.std.proofs.Common.{◌≡◌}
use Rattle.mesh_lineage.specs.Pairs.{as_readings}
use Rattle.mesh_lineage.proofs.once.as_reads.Given as goal

abbrev pub invariant-loop-relation : goal.invariant-loop-relation
invariant-loop-relation l = l.made ≡ as_readings l.yielded
