use Rattle.std.proofs.Common.{◌≡◌, []}
use Rattle.mesh_model_csv.specs.external.Externals.{declare_all}
use Rattle.mesh_model_csv.proofs.external.DeclareSteps.{declared_from}
use Rattle.mesh_model_csv.proofs.external.read.declare_all.Given as goal

abbrev pub invariant-loop-i : goal.invariant-loop-i
invariant-loop-i l = declared_from l.records l.i l.sources ≡ declare_all 2 [] l.records
