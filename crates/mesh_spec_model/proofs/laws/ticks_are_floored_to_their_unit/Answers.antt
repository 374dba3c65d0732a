use Rattle.mesh_spec_model.proofs.Floors.{in_its_unit, a_multiple, no_other}
use Rattle.mesh_spec_model.proofs.laws.ticks_are_floored_to_their_unit.Goals as goal

pub returns : goal.returns
returns c = record { within = in_its_unit; multiple = a_multiple; one = no_other }
