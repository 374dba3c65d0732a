use Rattle.std.proofs.Common.{◌≡◌}
use Rattle.std.specs.List.{filter}
use Rattle.mesh_trace.specs.Pairs.{as_traces}
use Rattle.mesh_trace.specs.Traces.{is_listed}
use Rattle.mesh_trace.proofs.listed.listed_pairs.Given as goal

abbrev pub invariant-loop-t : goal.invariant-loop-t
invariant-loop-t l = as_traces l.made.items ≡ filter (is_listed l.fn.all) l.yielded
