use Rattle.std.proofs.Common.{◌≡◌, take, map}
use Rattle.mesh_resolve_types.specs.Forms.{arm_kind}
use Rattle.mesh_resolve_types.proofs.cases.kinds_of.Given as goal

abbrev pub invariant-loop-a : goal.invariant-loop-a
invariant-loop-a l = l.made ≡ map arm_kind (take l.a-index l.a-items)
