use Rattle.std.proofs.Common.{◌≡◌, ◌++◌, take}
use Rattle.mesh_base.specs.rules.Proper.{names_of_all}
use Rattle.mesh_resolve.proofs.sources.add_all_names.Given as goal

abbrev pub invariant-loop-c : goal.invariant-loop-c
invariant-loop-c l = l.names ≡ l.initial.names ++ names_of_all (take l.c-index l.ctes)
