use Rattle.std.proofs.Common.{◌≡◌, ◌++◌, map, take}
use Rattle.mesh_base.specs.rules.Proper.{names_of_all}
use Rattle.mesh_trace.specs.Feeds.{alone}
use Rattle.mesh_trace.proofs.found.add_ctes.Given as goal

abbrev pub invariant-loop-c : goal.invariant-loop-c
invariant-loop-c l = l.found ≡ l.initial.found ++ map alone (names_of_all (take l.c-index l.ctes))
