use Rattle.mesh_law_promise.proofs.formed.Commands.{stays_formed}
use Rattle.mesh_law_promise.proofs.formed.laws.commands_keep_worlds_formed.Goals as goal

pub returns : goal.returns
returns c = stays_formed
