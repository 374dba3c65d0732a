use Rattle.mesh_cli.proofs.promise.Beside.{others_left}
use Rattle.mesh_cli.proofs.promise.others.commands_leave_other_environments.Goals as goal

pub returns : goal.returns
returns c = others_left
