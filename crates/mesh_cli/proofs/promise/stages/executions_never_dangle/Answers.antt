use Rattle.mesh_cli.proofs.promise.Dangling.{apply_never, run_never}
use Rattle.mesh_cli.proofs.promise.stages.executions_never_dangle.Goals as goal

pub returns-clause-applies : goal.returns-clause-applies
returns-clause-applies c = apply_never

pub returns-clause-runs : goal.returns-clause-runs
returns-clause-runs c = run_never
