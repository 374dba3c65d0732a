use Rattle.mesh_cli.proofs.promise.Still.{within_moment}
use Rattle.mesh_cli.proofs.promise.laws.commands_within_a_moment_are_still.Goals as goal

pub returns : goal.returns
returns c = within_moment
