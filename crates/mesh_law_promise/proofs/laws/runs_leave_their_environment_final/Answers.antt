use Rattle.mesh_law_promise.proofs.Promise.{run_leaves_final}
use Rattle.mesh_law_promise.proofs.laws.runs_leave_their_environment_final.Goals as goal

pub returns : goal.returns
returns c = run_leaves_final
