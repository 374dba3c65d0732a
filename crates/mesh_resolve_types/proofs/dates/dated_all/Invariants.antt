use Rattle.std.proofs.Common.{◌≡◌, map}
use Rattle.mesh_resolve_types.specs.Kinds.{dated}
use Rattle.mesh_resolve_types.proofs.dates.dated_all.Given as goal

abbrev pub invariant-loop-t : goal.invariant-loop-t
invariant-loop-t l = l.made ≡ map (dated l.turn) l.yielded
