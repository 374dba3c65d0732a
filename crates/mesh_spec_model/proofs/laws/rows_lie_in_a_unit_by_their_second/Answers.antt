use Rattle.mesh_spec_model.proofs.Cut.{by_second, in_one}
use Rattle.mesh_spec_model.proofs.laws.rows_lie_in_a_unit_by_their_second.Goals as goal

pub returns : goal.returns
returns c = record { lies = by_second; one = in_one }
