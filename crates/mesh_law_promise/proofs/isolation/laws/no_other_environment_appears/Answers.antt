use Rattle.mesh_law_promise.proofs.isolation.Others.{records_stay}
use Rattle.mesh_law_promise.proofs.isolation.laws.no_other_environment_appears.Goals as goal

pub returns : goal.returns
returns c = records_stay
