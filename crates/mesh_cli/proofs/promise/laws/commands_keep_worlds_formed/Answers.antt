use Rattle.mesh_cli.proofs.promise.Forming.{command_formed}
use Rattle.mesh_cli.proofs.promise.laws.commands_keep_worlds_formed.Goals as goal

pub returns : goal.returns
returns c = command_formed
