use Rattle.std.proofs.Common.{◌≡◌, ◌++◌, take}
use Rattle.mesh_resolve_selects.specs.outputs.Outputs.{expanded}
use Rattle.mesh_resolve_selects.proofs.outputs.outputs.expand.Given as goal

abbrev pub invariant-loop-d : goal.invariant-loop-d
invariant-loop-d l = l.done ≡ l.initial.done ++ expanded l.at l.item (take l.d-index l.from)
