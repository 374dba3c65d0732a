use Rattle.std.proofs.Common.{◌≡◌, take, Ok}
use Rattle.mesh_query_tokens.specs.Walk.{along}
use Rattle.mesh_resolve_selects.specs.outputs.Keys.{one_key}
use Rattle.mesh_resolve_selects.proofs.outputs.keys.add_keys.Given as goal

abbrev pub invariant-loop-e : goal.invariant-loop-e
invariant-loop-e l = along (one_key l.sight l.outputs) l.initial.done (take l.e-index l.es) ≡ Ok l.done
