use Rattle.mesh_spec_model.proofs.Rows.{in_schedule}
use Rattle.mesh_spec_model.proofs.laws.rows_lie_in_the_schedule.Goals as goal

pub returns : goal.returns
returns c = in_schedule
