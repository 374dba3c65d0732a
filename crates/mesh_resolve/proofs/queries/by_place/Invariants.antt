use Rattle.std.proofs.Common.{◌≡◌, map}
use Rattle.mesh_resolve_selects.specs.outputs.Commons.{selects_of}
use Rattle.mesh_resolve.proofs.queries.by_place.Given as goal

abbrev pub invariant-loop-c : goal.invariant-loop-c
invariant-loop-c l = l.made ≡ map selects_of l.yielded
