use Rattle.mesh_exec.proofs.plans.Executable.{plan_executable, run_executable}
use Rattle.mesh_exec.proofs.plans.laws.plans_can_be_made.Goals as goal

pub returns-clause-plan : goal.returns-clause-plan
returns-clause-plan c = plan_executable

pub returns-clause-run : goal.returns-clause-run
returns-clause-run c = run_executable
