use Rattle.std.proofs.Common.{◌≡◌, take, map}
use Rattle.mesh_resolve_types.specs.Kinds.{kind_of}
use Rattle.mesh_resolve_types.proofs.lists.kinds_of.Given as goal

abbrev pub invariant-loop-t : goal.invariant-loop-t
invariant-loop-t l = l.made ≡ map kind_of (take l.t-index l.t-items)
