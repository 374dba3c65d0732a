use Rattle.mesh_law_changes.proofs.Pending.{env_pending}
use Rattle.mesh_law_changes.proofs.laws.setting_an_environment_pending_keeps_the_world_sound.Goals as goal

pub returns : goal.returns
returns c = env_pending
