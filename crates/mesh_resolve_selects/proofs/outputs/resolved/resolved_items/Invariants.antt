use Rattle.std.proofs.Common.{◌≡◌, map}
use Rattle.mesh_resolve_selects.specs.outputs.Outputs.{resolved_item}
use Rattle.mesh_resolve_selects.proofs.outputs.resolved.resolved_items.Given as goal

abbrev pub invariant-loop-o : goal.invariant-loop-o
invariant-loop-o l = l.made ≡ map resolved_item l.yielded
