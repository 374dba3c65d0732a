use Rattle.mesh_cli.proofs.cli.Commanding.{trace_told}
use Rattle.mesh_cli.proofs.cli.command.traced.Goals as goal

pub returns : goal.returns
returns g c = λ k h. trace_told c.args.dir.now c.args.model.now c.args.column.now _ _ k h c.trace.result c.trace.ensures
