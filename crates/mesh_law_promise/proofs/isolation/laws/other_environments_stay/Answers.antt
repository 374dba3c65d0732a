use Rattle.mesh_law_promise.proofs.isolation.Others.{others_stay}
use Rattle.mesh_law_promise.proofs.isolation.laws.other_environments_stay.Goals as goal

pub returns : goal.returns
returns c = others_stay
