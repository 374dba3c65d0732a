use Rattle.std.proofs.Common.{◌≡◌, drop}
use Rattle.mesh_spec_model.specs.Closures.{closures}
use Rattle.mesh_trace.specs.Traces.{model_named}
use Rattle.mesh_trace.proofs.answer.place_of.Given as goal

abbrev pub invariant-loop-i : goal.invariant-loop-i
invariant-loop-i l = model_named (drop l.i (closures l.nodes)) l.name ≡ model_named (closures l.nodes) l.name
