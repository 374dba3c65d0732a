use Rattle.std.proofs.Common.{◌≡◌, take, Ok}
use Rattle.mesh_resolve_selects.specs.selects.Standing.{each, on_without_aggregates}
use Rattle.mesh_resolve_selects.proofs.selects.grouping.each_on.Given as goal

abbrev pub invariant-loop-d : goal.invariant-loop-d
invariant-loop-d l = each on_without_aggregates (take l.d-index l.from) ≡ Ok tt
