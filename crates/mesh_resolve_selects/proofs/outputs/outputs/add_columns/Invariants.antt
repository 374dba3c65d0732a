use Rattle.std.proofs.Common.{◌≡◌, ◌++◌, take, map}
use Rattle.mesh_resolve_selects.specs.outputs.Outputs.{starred}
use Rattle.mesh_resolve_selects.proofs.outputs.outputs.add_columns.Given as goal

abbrev pub invariant-loop-c : goal.invariant-loop-c
invariant-loop-c l = l.done ≡ l.initial.done ++ map (starred l.at l.d) (take l.c-index l.c-items)
