use Rattle.std.proofs.Common.{◌≡◌, ◌++◌, take}
use Rattle.mesh_base.specs.rules.Proper.{from_names}
use Rattle.mesh_resolve.proofs.sources.add_from_names.Given as goal

abbrev pub invariant-loop-f : goal.invariant-loop-f
invariant-loop-f l = l.names ≡ l.initial.names ++ from_names (take l.f-index l.from)
