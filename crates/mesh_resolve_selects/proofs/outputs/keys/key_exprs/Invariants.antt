use Rattle.std.proofs.Common.{◌≡◌, take}
use Rattle.mesh_resolve_selects.specs.outputs.Keys.{key_exprs}
use Rattle.mesh_resolve_selects.proofs.outputs.keys.key_exprs.Given as goal

abbrev pub invariant-loop-k : goal.invariant-loop-k
invariant-loop-k l = l.made ≡ key_exprs (take l.k-index l.keys)
