use Rattle.mesh_law_changes.proofs.Forgetting.{units_forgotten}
use Rattle.mesh_law_changes.proofs.laws.forgetting_units_keeps_the_world_sound.Goals as goal

pub returns : goal.returns
returns c = units_forgotten
