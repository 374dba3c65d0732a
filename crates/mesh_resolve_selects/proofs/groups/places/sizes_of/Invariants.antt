use Rattle.std.proofs.Common.{◌≡◌, take}
use Rattle.mesh_resolve_selects.specs.groups.Sizes.{sizes_of}
use Rattle.mesh_resolve_selects.proofs.groups.places.sizes_of.Given as goal

abbrev pub invariant-loop-key : goal.invariant-loop-key
invariant-loop-key l = l.sizes ≡ sizes_of (take l.key-index l.keys)
