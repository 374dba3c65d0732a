use Rattle.std.proofs.Common.{◌≡◌, ◌++◌, map}
use Rattle.mesh_trace.specs.Feeds.{with_column}
use Rattle.mesh_trace.proofs.found.add_columns.Given as goal

abbrev pub invariant-loop-r : goal.invariant-loop-r
invariant-loop-r l = l.found ≡ l.initial.found ++ map with_column l.yielded
