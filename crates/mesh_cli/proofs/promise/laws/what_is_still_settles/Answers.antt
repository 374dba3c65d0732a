use Rattle.mesh_cli.proofs.promise.Calls.{still_settles}
use Rattle.mesh_cli.proofs.promise.laws.what_is_still_settles.Goals as goal

pub returns : goal.returns
returns c = still_settles
