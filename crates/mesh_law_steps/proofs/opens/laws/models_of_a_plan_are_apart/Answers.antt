use Rattle.mesh_law_steps.proofs.opens.Plans.{plan_apart_and_ranked}
use Rattle.mesh_law_steps.proofs.opens.laws.models_of_a_plan_are_apart.Goals as goal

pub returns : goal.returns
returns c = plan_apart_and_ranked
