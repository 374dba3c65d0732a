use Rattle.std.proofs.Common.{◌≡◌, take}
use Rattle.mesh_base.specs.rules.Proper.{from_names, is_among}
use Rattle.mesh_base.proofs.rules.names.from_has.Given as goal

abbrev pub invariant-loop-f : goal.invariant-loop-f
invariant-loop-f l = l.found ≡ is_among (from_names (take l.f-index l.from)) l.name
