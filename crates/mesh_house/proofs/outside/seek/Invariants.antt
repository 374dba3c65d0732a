use Rattle.std.proofs.Common.{◌-◌, ◌≤◌, length}
use Rattle.mesh_list.specs.Keyed.{place_of}
use Rattle.mesh_house.specs.Outside.{itself}
use Rattle.mesh_house.proofs.outside.seek.Given as goal

abbrev pub invariant-loop-low : goal.invariant-loop-low
invariant-loop-low g l = record {
  above : l.low ≤ place_of g.T.Keyed.order itself (g.T.Keyed.key l.item) l.keys;
  below : place_of g.T.Keyed.order itself (g.T.Keyed.key l.item) l.keys ≤ l.high;
  within : l.high ≤ length l.keys;
}

abbrev pub decreases-loop-low : goal.decreases-loop-low
decreases-loop-low g l = l.high - l.low
