use Rattle.mesh_law_changes.proofs.EnvLaws.{env_finalized}
use Rattle.mesh_law_changes.proofs.laws.finalizing_keeps_the_world_sound.Goals as goal

pub returns : goal.returns
returns c = env_finalized
