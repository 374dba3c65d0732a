use Rattle.std.proofs.Common.{◌≡◌, Ok, take}
use Rattle.mesh_query_tokens.specs.Walk.{along}
use Rattle.mesh_resolve_scope.specs.Expressions.{one_cast}
use Rattle.mesh_resolve_scope.proofs.steps.all_cast.Given as goal

abbrev pub invariant-loop-to : goal.invariant-loop-to
invariant-loop-to l = along (one_cast l.at) l.initial.t (take l.to-index l.casts) ≡ Ok l.t
