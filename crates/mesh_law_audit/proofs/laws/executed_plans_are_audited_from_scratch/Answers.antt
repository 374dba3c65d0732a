use Rattle.mesh_law_audit.proofs.Made.{plan_audited, run_audited}
use Rattle.mesh_law_audit.proofs.laws.executed_plans_are_audited_from_scratch.Goals as goal

pub returns : goal.returns
returns c = record { applies = plan_audited; runs = run_audited }
