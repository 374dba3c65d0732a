use Rattle.std.proofs.Common.{◌≡◌, take}
use Rattle.std.specs.List.{flat_map}
use Rattle.mesh_resolve_scope.specs.sight.Sight.{meant_column}
use Rattle.mesh_resolve_scope.specs.sight.Sole.{sole}
use Rattle.mesh_resolve_scope.proofs.sight.names.meant_in.Given as goal

abbrev pub invariant-loop-c : goal.invariant-loop-c
invariant-loop-c l = l.found ≡ sole (flat_map (meant_column l.name l.seen) (take l.c-index l.c-items))
