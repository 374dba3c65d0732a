use Rattle.mesh_cli_apply.proofs.Traced.{impact_unloaded}
use Rattle.mesh_cli_apply.proofs.tracing.impact.Goals as goal

pub returns-in-Err : goal.returns-in-Err
returns-in-Err g c = impact_unloaded c.args.dir.now c.args.name.now c.args.column.now _ _ c.in-Err.refusal c.in-Err.ensures

pub returns-in-Ok : goal.returns-in-Ok
returns-in-Ok g c = c.affected_beside.ensures _ c.in-Ok.ensures
