use Rattle.mesh_cli.proofs.promise.Keeping.{command_kept}
use Rattle.mesh_cli.proofs.promise.laws.commands_keep_worlds_sound.Goals as goal

pub returns : goal.returns
returns c = command_kept
