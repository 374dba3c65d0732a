use Rattle.mesh_cli_apply.proofs.Traced.{trace_loaded, trace_unloaded}
use Rattle.mesh_cli_apply.proofs.tracing.trace.Goals as goal

pub returns-in-Err : goal.returns-in-Err
returns-in-Err g c = trace_unloaded c.args.dir.now c.args.model.now c.args.column.now _ _ c.in-Err.refusal c.in-Err.ensures

pub returns-in-Ok : goal.returns-in-Ok
returns-in-Ok g c = trace_loaded c.args.dir.now c.args.model.now c.args.column.now _ _ c.in-Ok.project c.traced.result c.in-Ok.ensures c.traced.ensures
