use Rattle.std.proofs.Common.{◌≡◌, take, Ok}
use Rattle.mesh_resolve_selects.specs.selects.Standing.{each, output_well_grouped}
use Rattle.mesh_resolve_selects.proofs.selects.grouping.each_output.Given as goal

abbrev pub invariant-loop-o : goal.invariant-loop-o
invariant-loop-o l = each (output_well_grouped l.grouped l.keys) (take l.o-index l.outputs) ≡ Ok tt
