use Rattle.mesh_law_audit.proofs.Made.{made_plan_misses_none, made_run_misses_none, plan_misses_none, run_misses_none}
use Rattle.mesh_law_audit.proofs.laws.audits_miss_no_object.Goals as goal

pub returns : goal.returns
returns c = record { applies = plan_misses_none; runs = run_misses_none; made_applies = made_plan_misses_none; made_runs = made_run_misses_none }
