use Rattle.std.proofs.Common.{◌≡◌, map}
use Rattle.mesh_resolve_types.specs.Forms.{expr_of}
use Rattle.mesh_resolve_types.proofs.lists.exprs_of.Given as goal

abbrev pub invariant-loop-t : goal.invariant-loop-t
invariant-loop-t l = l.made ≡ map expr_of l.yielded
