use Rattle.std.proofs.Common.{◌≡◌, take, Ok}
use Rattle.mesh_query_tokens.specs.Walk.{along}
use Rattle.mesh_resolve_selects.specs.selects.Apart.{names_of, new_output}
use Rattle.mesh_resolve_selects.proofs.selects.apart.take_outputs.Given as goal

abbrev pub invariant-loop-o : goal.invariant-loop-o
invariant-loop-o l = along new_output (names_of l.initial.taken) (take l.o-index l.outputs) ≡ Ok (names_of l.taken)
