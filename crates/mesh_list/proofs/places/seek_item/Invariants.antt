use Rattle.std.proofs.Common.{◌-◌, ◌≤◌, length}
use Rattle.mesh_list.specs.Keyed.{place_of}
use Rattle.mesh_list.proofs.places.seek_item.Given as goal

abbrev pub invariant-loop-low : goal.invariant-loop-low
invariant-loop-low g l = record {
  above : l.low ≤ place_of g.T.Keyed.order g.T.Keyed.key (g.T.Keyed.key l.item) l.items;
  below : place_of g.T.Keyed.order g.T.Keyed.key (g.T.Keyed.key l.item) l.items ≤ l.high;
  within : l.high ≤ length l.items;
}

abbrev pub decreases-loop-low : goal.decreases-loop-low
decreases-loop-low g l = l.high - l.low
