use Rattle.std.proofs.Common.{◌≡◌, ◌+◌, length, take}
use Rattle.mesh_resolve_types.specs.Faults.{most_columns}
use Rattle.mesh_resolve_selects.specs.outputs.Outputs.{expanded}
use Rattle.mesh_resolve_selects.proofs.outputs.outputs.has_room.Given as goal

abbrev pub invariant-loop-d : goal.invariant-loop-d
invariant-loop-d l = l.taken + length (expanded l.at l.item (take l.d-index l.from)) + l.room ≡ most_columns
