use Rattle.mesh_law_changes.proofs.EnvLaws.{env_deleted}
use Rattle.mesh_law_changes.proofs.laws.deleting_an_environment_keeps_the_world_sound.Goals as goal

pub returns : goal.returns
returns c = env_deleted
