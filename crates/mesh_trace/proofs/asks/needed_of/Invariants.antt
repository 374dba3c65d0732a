use Rattle.std.proofs.Common.{◌≡◌, take}
use Rattle.mesh_trace.specs.Feeds.{needed_of}
use Rattle.mesh_trace.proofs.asks.needed_of.Given as goal

abbrev pub invariant-loop-r : goal.invariant-loop-r
invariant-loop-r l = l.made ≡ needed_of l.name (take l.r-index l.needed)
