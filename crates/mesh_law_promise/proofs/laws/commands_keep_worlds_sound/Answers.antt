use Rattle.mesh_law_promise.proofs.Promise.{stays_sound}
use Rattle.mesh_law_promise.proofs.laws.commands_keep_worlds_sound.Goals as goal

pub returns : goal.returns
returns c = stays_sound
