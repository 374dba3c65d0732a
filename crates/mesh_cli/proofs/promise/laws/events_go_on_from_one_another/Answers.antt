use Rattle.mesh_cli.proofs.promise.Reached.{joined}
use Rattle.mesh_cli.proofs.promise.laws.events_go_on_from_one_another.Goals as goal

pub returns : goal.returns
returns c = joined
