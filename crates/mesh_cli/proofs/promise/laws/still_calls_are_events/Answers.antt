use Rattle.mesh_cli.proofs.promise.Calls.{still_calls}
use Rattle.mesh_cli.proofs.promise.laws.still_calls_are_events.Goals as goal

pub returns : goal.returns
returns c = still_calls
