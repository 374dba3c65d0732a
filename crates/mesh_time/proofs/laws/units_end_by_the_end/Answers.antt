use Rattle.mesh_time.proofs.Units.{unit_listed}
use Rattle.mesh_time.proofs.laws.units_end_by_the_end.Goals as goal

pub returns : goal.returns
returns c = unit_listed
