use Rattle.std.proofs.Common.{◌≡◌, map}
use Rattle.mesh_resolve_types.specs.Forms.{when}
use Rattle.mesh_resolve_types.proofs.cases.whens.Given as goal

abbrev pub invariant-loop-a : goal.invariant-loop-a
invariant-loop-a l = l.made ≡ map when l.yielded
