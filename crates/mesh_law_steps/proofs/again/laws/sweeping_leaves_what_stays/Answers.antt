use Rattle.mesh_law_steps.proofs.again.Sweeping.{sweeping}
use Rattle.mesh_law_steps.proofs.again.laws.sweeping_leaves_what_stays.Goals as goal

pub returns : goal.returns
returns c w t typed well = sweeping w t well typed
