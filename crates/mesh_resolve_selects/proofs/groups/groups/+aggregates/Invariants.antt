use Rattle.std.proofs.Common.{◌≡◌, take, map}
use Rattle.std.specs.List.{list_any}
use Rattle.mesh_resolve_selects.specs.groups.Grouping.{has_aggregate, aggregate_when}
use Rattle.mesh_resolve_selects.proofs.groups.groups.+aggregates.Given as goal

abbrev pub invariant-some_has-loop-e : goal.invariant-some_has-loop-e
invariant-some_has-loop-e l = l.found ≡ list_any (λ b. b) (map has_aggregate (take l.e-index l.es))

abbrev pub invariant-some_when_has-loop-w : goal.invariant-some_when_has-loop-w
invariant-some_when_has-loop-w l = l.found ≡ list_any (λ b. b) (map aggregate_when (take l.w-index l.whens))
