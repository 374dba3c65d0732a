use Rattle.mesh_law_steps.proofs.opens.Ready.{opened_ready}
use Rattle.mesh_law_steps.proofs.opens.laws.opened_plans_are_ready.Goals as goal

pub returns : goal.returns
returns c = opened_ready
