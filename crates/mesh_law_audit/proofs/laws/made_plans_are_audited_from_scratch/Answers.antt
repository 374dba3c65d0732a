use Rattle.mesh_law_audit.proofs.Made.{made_plan_audited, made_run_audited}
use Rattle.mesh_law_audit.proofs.laws.made_plans_are_audited_from_scratch.Goals as goal

pub returns : goal.returns
returns c = record { applies = made_plan_audited; runs = made_run_audited }
