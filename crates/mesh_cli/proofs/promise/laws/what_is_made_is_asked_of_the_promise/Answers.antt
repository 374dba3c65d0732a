use Rattle.mesh_cli.proofs.promise.Asked.{made_is_asked}
use Rattle.mesh_cli.proofs.promise.laws.what_is_made_is_asked_of_the_promise.Goals as goal

pub returns : goal.returns
returns c = made_is_asked
