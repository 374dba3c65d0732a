use Rattle.std.proofs.Common.{◌≡◌}
use Rattle.mesh_model_csv.specs.seeds.Seeds.{records_fault}
use Rattle.mesh_model_csv.proofs.seeds.RowSteps.{fault_at}
use Rattle.mesh_model_csv.proofs.seeds.rows.records_fault.Given as goal

abbrev pub invariant-loop-i : goal.invariant-loop-i
invariant-loop-i l = fault_at l.kinds l.records l.i ≡ records_fault 2 l.kinds l.records
