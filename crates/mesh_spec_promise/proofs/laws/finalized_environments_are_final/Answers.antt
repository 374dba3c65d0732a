use Rattle.mesh_spec_promise.proofs.Finals.{environment_final}
use Rattle.mesh_spec_promise.proofs.laws.finalized_environments_are_final.Goals as goal

pub returns : goal.returns
returns c = environment_final
