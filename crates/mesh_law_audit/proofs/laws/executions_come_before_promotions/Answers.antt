use Rattle.mesh_plan.specs.Plans.{promised}
use Rattle.mesh_law_audit.proofs.Made.{executed_is, run_executed_is}
use Rattle.mesh_law_audit.proofs.Missing.{execution_first}
use Rattle.mesh_law_audit.proofs.laws.executions_come_before_promotions.Goals as goal

pub returns : goal.returns
returns c = record { front = λ before after x w p m allowed sound. execution_first before after x w (promised p) m allowed sound; applies = executed_is; runs = run_executed_is }
