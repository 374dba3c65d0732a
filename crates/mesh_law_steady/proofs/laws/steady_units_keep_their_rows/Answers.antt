use Rattle.mesh_law_steady.proofs.Even.{units_stay}
use Rattle.mesh_law_steady.proofs.laws.steady_units_keep_their_rows.Goals as goal

pub returns : goal.returns
returns c = units_stay
