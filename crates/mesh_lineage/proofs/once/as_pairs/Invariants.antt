use Rattle.std.proofs.Common.{◌≡◌}
use Rattle.mesh_lineage.specs.Pairs.{as_readings}
use Rattle.mesh_lineage.proofs.once.as_pairs.Given as goal

abbrev pub invariant-loop-reading : goal.invariant-loop-reading
invariant-loop-reading l = as_readings l.made.items ≡ l.yielded
