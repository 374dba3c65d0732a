use Rattle.std.proofs.Common.{◌≡◌, drop}
use Rattle.std.specs.List.{list_any}
use Rattle.mesh_resolve_selects.specs.selects.Standing.{output_has_aggregate}
use Rattle.mesh_resolve_selects.proofs.selects.grouping.some_has_aggregate.Given as goal

abbrev pub invariant-loop-o : goal.invariant-loop-o
invariant-loop-o l = list_any output_has_aggregate (drop l.o-index l.outputs) ≡ list_any output_has_aggregate l.outputs
