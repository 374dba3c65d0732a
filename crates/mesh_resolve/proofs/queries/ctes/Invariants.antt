use Rattle.std.proofs.Common.{◌≡◌, [], take, Ok}
use Rattle.mesh_query_tokens.specs.Walk.{along}
use Rattle.mesh_resolve.specs.Queries.{cte}
use Rattle.mesh_resolve.proofs.queries.ctes.Given as goal

abbrev pub invariant-loop-c : goal.invariant-loop-c
invariant-loop-c l = along (cte l.known) [] (take l.c-index l.all) ≡ Ok l.done
