use Rattle.std.proofs.Common.{◌≤◌, ◌++◌, length}
use Rattle.mesh_spec_model.specs.Closures.{closures}
use Rattle.mesh_lineage.specs.Alike.{IsAlike}
use Rattle.mesh_trace.specs.Asks.{all_fed}
use Rattle.mesh_trace.proofs.walk.walk.Given as goal

abbrev pub invariant-loop-ask : goal.invariant-loop-ask
invariant-loop-ask l = record {
  long : length l.rest.items ≤ length l.nodes;
  fed : IsAlike (l.found ++ all_fed l.rest.items (closures l.nodes)) (l.initial.found ++ all_fed l.initial.rest.items (closures l.nodes));
}

abbrev pub decreases-loop-ask : goal.decreases-loop-ask
decreases-loop-ask l = length l.rest.items
