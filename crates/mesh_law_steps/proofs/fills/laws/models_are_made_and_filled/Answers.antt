use Rattle.mesh_law_steps.proofs.fills.Filled.{one_filled}
use Rattle.mesh_law_steps.proofs.fills.laws.models_are_made_and_filled.Goals as goal

pub returns : goal.returns
returns c = one_filled
