use Rattle.std.proofs.Common.{◌≡◌, take, Ok}
use Rattle.mesh_query_tokens.specs.Walk.{along}
use Rattle.mesh_resolve_selects.specs.selects.Apart.{names_of, new_item}
use Rattle.mesh_resolve_selects.proofs.selects.apart.take_items.Given as goal

abbrev pub invariant-loop-d : goal.invariant-loop-d
invariant-loop-d l = along new_item (names_of l.initial.taken) (take l.d-index l.from) ≡ Ok (names_of l.taken)
