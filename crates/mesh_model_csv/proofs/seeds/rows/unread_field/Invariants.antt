use Rattle.std.proofs.Common.{◌≡◌}
use Rattle.mesh_model_csv.specs.seeds.Seeds.{unread_field}
use Rattle.mesh_model_csv.proofs.seeds.RowSteps.{unread_from}
use Rattle.mesh_model_csv.proofs.seeds.rows.unread_field.Given as goal

abbrev pub invariant-loop-i : goal.invariant-loop-i
invariant-loop-i l = unread_from l.kinds l.fields l.i ≡ unread_field 1 l.kinds l.fields
