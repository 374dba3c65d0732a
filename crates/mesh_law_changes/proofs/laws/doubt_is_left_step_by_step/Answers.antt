use Rattle.mesh_law_changes.proofs.Lefts.{left_appended}
use Rattle.mesh_law_changes.proofs.laws.doubt_is_left_step_by_step.Goals as goal

pub returns : goal.returns
returns c = left_appended
