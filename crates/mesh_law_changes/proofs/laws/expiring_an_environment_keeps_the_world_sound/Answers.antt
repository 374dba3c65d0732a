use Rattle.mesh_law_changes.proofs.EnvLaws.{env_expired}
use Rattle.mesh_law_changes.proofs.laws.expiring_an_environment_keeps_the_world_sound.Goals as goal

pub returns : goal.returns
returns c = env_expired
