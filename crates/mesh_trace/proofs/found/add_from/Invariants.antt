use Rattle.std.proofs.Common.{◌≡◌, ◌++◌, map, take}
use Rattle.mesh_base.specs.rules.Proper.{from_names}
use Rattle.mesh_trace.specs.Feeds.{alone}
use Rattle.mesh_trace.proofs.found.add_from.Given as goal

abbrev pub invariant-loop-f : goal.invariant-loop-f
invariant-loop-f l = l.found ≡ l.initial.found ++ map alone (from_names (take l.f-index l.from))
