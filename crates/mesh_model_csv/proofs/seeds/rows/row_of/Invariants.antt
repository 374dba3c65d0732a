use Rattle.std.proofs.Common.{◌≡◌}
use Rattle.mesh_model_csv.specs.seeds.Cells.{row_of}
use Rattle.mesh_model_csv.proofs.seeds.RowSteps.{row_from}
use Rattle.mesh_model_csv.proofs.seeds.rows.row_of.Given as goal

abbrev pub invariant-loop-i : goal.invariant-loop-i
invariant-loop-i l = row_from l.kinds l.fields l.i l.row ≡ row_of l.kinds l.fields
