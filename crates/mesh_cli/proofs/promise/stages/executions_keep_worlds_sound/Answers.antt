use Rattle.mesh_cli.proofs.promise.Calling.{apply_executed, run_executed}
use Rattle.mesh_cli.proofs.promise.stages.executions_keep_worlds_sound.Goals as goal

pub returns-clause-applies : goal.returns-clause-applies
returns-clause-applies c before after x w was t real is = apply_executed before after x w was t real is

pub returns-clause-runs : goal.returns-clause-runs
returns-clause-runs c before after x w was t real is = run_executed before after x w was t real is
