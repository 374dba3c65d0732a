use Rattle.std.proofs.Common.{◌≡◌}
use Rattle.mesh_trace.specs.Pairs.{as_traces}
use Rattle.mesh_trace.proofs.listed.as_list.Given as goal

abbrev pub invariant-loop-relation : goal.invariant-loop-relation
invariant-loop-relation l = l.made ≡ as_traces l.yielded
