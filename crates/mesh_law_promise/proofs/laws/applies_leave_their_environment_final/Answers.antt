use Rattle.mesh_law_promise.proofs.Promise.{leaves_final}
use Rattle.mesh_law_promise.proofs.laws.applies_leave_their_environment_final.Goals as goal

pub returns : goal.returns
returns c = leaves_final
