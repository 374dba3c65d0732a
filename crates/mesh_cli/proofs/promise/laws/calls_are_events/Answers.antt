use Rattle.mesh_cli.proofs.promise.Reached.{call_events}
use Rattle.mesh_cli.proofs.promise.laws.calls_are_events.Goals as goal

pub returns : goal.returns
returns c = call_events
