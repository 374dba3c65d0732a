use Rattle.mesh_law_steady.proofs.Even.{full_stays}
use Rattle.mesh_law_steady.proofs.laws.steady_full_models_keep_their_rows.Goals as goal

pub returns : goal.returns
returns c = full_stays
