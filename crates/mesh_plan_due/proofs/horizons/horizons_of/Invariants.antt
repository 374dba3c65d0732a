use Rattle.std.proofs.Common.{◌≡◌, length, map, take}
use Rattle.std.specs.List.{All}
use Rattle.mesh_spec_model.specs.Closures.{closures}
use Rattle.mesh_spec_model.specs.Horizons.{Clock, Shows, horizon}
use Rattle.mesh_plan_due.specs.Least.{IsHorizon, timed}
use Rattle.mesh_plan_due.proofs.horizons.horizons_of.Given as goal

abbrev pub invariant-loop-node : goal.invariant-loop-node
invariant-loop-node l = record {
  horizons : (clock : Clock) → Shows clock l.t → l.list ≡ map (horizon clock) (closures (take l.node-index l.nodes));
  timed : (clock : Clock) → Shows clock l.t → l.timed.items ≡ map (timed clock) (closures (take l.node-index l.nodes));
  bound : All IsHorizon l.list;
  long : length l.list ≡ l.node-index;
}
