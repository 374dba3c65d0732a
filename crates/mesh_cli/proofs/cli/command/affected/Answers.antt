use Rattle.mesh_cli.proofs.cli.Commanding.{impact_told}
use Rattle.mesh_cli.proofs.cli.command.affected.Goals as goal

pub returns : goal.returns
returns g c = λ k h. impact_told c.args.dir.now c.args.name.now c.args.column.now _ _ k h c.impact.result c.impact.ensures
