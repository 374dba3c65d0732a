use Rattle.mesh_law_changes.proofs.VersionGone.{version_forgotten}
use Rattle.mesh_law_changes.proofs.laws.forgetting_a_version_keeps_the_world_sound.Goals as goal

pub returns : goal.returns
returns c = version_forgotten
