use Rattle.std.proofs.Common.{◌-◌, ◌≤◌, length}
use Rattle.mesh_list.specs.Keyed.{place_of}
use Rattle.mesh_base_values.specs.Names.{name_cmp}
use Rattle.mesh_resolve.proofs.catalog.seek.Given as goal

abbrev pub invariant-loop-low : goal.invariant-loop-low
invariant-loop-low g l = record {
  above : l.low ≤ place_of name_cmp g.T.Named.called l.name l.items;
  below : place_of name_cmp g.T.Named.called l.name l.items ≤ l.high;
  within : l.high ≤ length l.items;
}

abbrev pub decreases-loop-low : goal.decreases-loop-low
decreases-loop-low g l = l.high - l.low
