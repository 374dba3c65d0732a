use Rattle.mesh_cli.proofs.promise.Steady.{steady_still}
use Rattle.mesh_cli.proofs.promise.laws.steady_projects_are_still.Goals as goal

pub returns : goal.returns
returns c = steady_still
