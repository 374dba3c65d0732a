use Rattle.mesh_time.proofs.Without.{each_apart, has_each}
use Rattle.mesh_time.proofs.laws.forgetting_each_is_exact.Goals as goal

pub returns-clause-apart : goal.returns-clause-apart
returns-clause-apart c = each_apart

pub returns-clause-seconds : goal.returns-clause-seconds
returns-clause-seconds c = has_each
