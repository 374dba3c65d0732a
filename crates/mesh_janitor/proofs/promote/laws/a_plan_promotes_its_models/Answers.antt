use Rattle.mesh_janitor.proofs.promote.Left.{promotes_its_models}
use Rattle.mesh_janitor.proofs.promote.laws.a_plan_promotes_its_models.Goals as goal

pub returns : goal.returns
returns c = promotes_its_models
