use Rattle.mesh_spec_promise.proofs.Staying.{done_stay}
use Rattle.mesh_spec_promise.proofs.laws.models_that_are_done_stay_so.Goals as goal

pub returns : goal.returns
returns c = done_stay
