use Rattle.std.proofs.Common.{◌≡◌, drop}
use Rattle.mesh_resolve_selects.specs.outputs.Keys.{output_named}
use Rattle.mesh_resolve_selects.proofs.outputs.keys.output_named.Given as goal

abbrev pub invariant-loop-o : goal.invariant-loop-o
invariant-loop-o l = output_named (drop l.o-index l.outputs) l.name ≡ output_named l.outputs l.name
