use Rattle.std.proofs.Common.{◌≡◌, ◌++◌, map, take}
use Rattle.mesh_base.specs.rules.Proper.{selects_names}
use Rattle.mesh_trace.specs.Feeds.{alone}
use Rattle.mesh_trace.proofs.found.add_selects.Given as goal

abbrev pub invariant-loop-s : goal.invariant-loop-s
invariant-loop-s l = l.found ≡ l.initial.found ++ map alone (selects_names (take l.s-index l.selects))
