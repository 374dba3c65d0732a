use Rattle.mesh_spec_model.proofs.Least.{from_its_start, without_a_start}
use Rattle.mesh_spec_model.proofs.laws.schedules_go_from_the_start_to_the_horizon.Goals as goal

pub returns : goal.returns
returns c = record { start = from_its_start; none = without_a_start }
