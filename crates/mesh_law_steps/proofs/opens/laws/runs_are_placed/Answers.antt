use Rattle.mesh_law_steps.proofs.opens.Runs.{run_placed}
use Rattle.mesh_law_steps.proofs.opens.laws.runs_are_placed.Goals as goal

pub returns : goal.returns
returns c = run_placed
