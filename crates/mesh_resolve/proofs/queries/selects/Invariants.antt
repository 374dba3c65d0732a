use Rattle.std.proofs.Common.{◌≡◌, [], take, Ok}
use Rattle.mesh_query_tokens.specs.Walk.{along}
use Rattle.mesh_resolve.specs.Queries.{one_select}
use Rattle.mesh_resolve.proofs.queries.selects.Given as goal

abbrev pub invariant-loop-s : goal.invariant-loop-s
invariant-loop-s l = along (one_select l.known l.ctes) [] (take l.s-index l.s-items) ≡ Ok l.done
