use Rattle.std.proofs.Common.{◌≡◌, map}
use Rattle.mesh_resolve.specs.Selects.{from_item}
use Rattle.mesh_resolve.proofs.selects.from_items.Given as goal

abbrev pub invariant-loop-d : goal.invariant-loop-d
invariant-loop-d l = l.made ≡ map from_item l.yielded
