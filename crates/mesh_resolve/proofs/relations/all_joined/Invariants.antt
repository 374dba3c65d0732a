use Rattle.std.proofs.Common.{◌≡◌, take, Ok}
use Rattle.mesh_query_tokens.specs.Walk.{along}
use Rattle.mesh_resolve.specs.Relations.{joined}
use Rattle.mesh_resolve.proofs.relations.all_joined.Given as goal

abbrev pub invariant-loop-j : goal.invariant-loop-j
invariant-loop-j l = along (joined l.known l.ctes) l.initial.f (take l.j-index l.joins) ≡ Ok l.f
