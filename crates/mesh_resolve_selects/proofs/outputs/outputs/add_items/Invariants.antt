use Rattle.std.proofs.Common.{◌≡◌, take, Ok}
use Rattle.mesh_query_tokens.specs.Walk.{along}
use Rattle.mesh_resolve_selects.specs.outputs.Outputs.{item}
use Rattle.mesh_resolve_selects.proofs.outputs.outputs.add_items.Given as goal

abbrev pub invariant-loop-written : goal.invariant-loop-written
invariant-loop-written l = along (item l.sight) l.initial.done (take l.written-index l.all) ≡ Ok l.done
