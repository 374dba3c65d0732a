use Rattle.mesh_cli.proofs.promise.Forming.{call_formed}
use Rattle.mesh_cli.proofs.promise.laws.calls_keep_worlds_formed.Goals as goal

pub returns : goal.returns
returns c words input rest old new sinks printed s = call_formed
