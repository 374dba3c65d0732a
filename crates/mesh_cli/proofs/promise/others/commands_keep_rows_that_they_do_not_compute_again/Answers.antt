use Rattle.mesh_cli.proofs.promise.Beside.{rows_left}
use Rattle.mesh_cli.proofs.promise.others.commands_keep_rows_that_they_do_not_compute_again.Goals as goal

pub returns : goal.returns
returns c = rows_left
