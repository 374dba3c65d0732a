use Rattle.std.proofs.Common.{◌≡◌, ◌++◌, take}
use Rattle.mesh_base.specs.rules.Proper.{selects_names}
use Rattle.mesh_resolve.proofs.sources.add_selects_names.Given as goal

abbrev pub invariant-loop-s : goal.invariant-loop-s
invariant-loop-s l = l.names ≡ l.initial.names ++ selects_names (take l.s-index l.selects)
