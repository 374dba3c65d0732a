use Rattle.mesh_cli.proofs.promise.Beside.{records_left}
use Rattle.mesh_cli.proofs.promise.others.commands_make_no_other_environment.Goals as goal

pub returns : goal.returns
returns c = records_left
