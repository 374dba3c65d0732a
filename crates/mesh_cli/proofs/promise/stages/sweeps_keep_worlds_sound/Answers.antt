use Rattle.mesh_cli.proofs.promise.Calling.{invalidated, swept}
use Rattle.mesh_cli.proofs.promise.stages.sweeps_keep_worlds_sound.Goals as goal

pub returns-clause-sweeps : goal.returns-clause-sweeps
returns-clause-sweeps c before after x w was = swept before after x w was

pub returns-clause-invalidates : goal.returns-clause-invalidates
returns-clause-invalidates c before after x w was = invalidated before after x w was
