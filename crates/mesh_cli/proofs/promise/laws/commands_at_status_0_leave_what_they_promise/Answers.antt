use Rattle.mesh_cli.proofs.promise.Keeping.{command_leaves}
use Rattle.mesh_cli.proofs.promise.laws.commands_at_status_0_leave_what_they_promise.Goals as goal

pub returns : goal.returns
returns c = command_leaves
