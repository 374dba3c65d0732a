use Rattle.std.proofs.Common.{◌≡◌, take}
use Rattle.mesh_resolve_scope.specs.sight.Sight.{meant}
use Rattle.mesh_resolve_scope.specs.sight.Sole.{sole}
use Rattle.mesh_resolve_scope.proofs.sight.names.meant_among.Given as goal

abbrev pub invariant-loop-seen : goal.invariant-loop-seen
invariant-loop-seen l = l.found ≡ sole (meant l.item l.name (take l.seen-index l.from))
