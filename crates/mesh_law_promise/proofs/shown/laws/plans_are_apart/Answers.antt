use Rattle.mesh_law_promise.proofs.shown.Plans.{plans_apart}
use Rattle.mesh_law_promise.proofs.shown.laws.plans_are_apart.Goals as goal

pub returns : goal.returns
returns c = plans_apart
