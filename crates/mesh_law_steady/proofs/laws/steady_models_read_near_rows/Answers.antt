use Rattle.mesh_law_steady.proofs.Units.{unit_of_day}
use Rattle.mesh_law_steady.proofs.laws.steady_models_read_near_rows.Goals as goal

pub returns-clause-units : goal.returns-clause-units
returns-clause-units c = unit_of_day
