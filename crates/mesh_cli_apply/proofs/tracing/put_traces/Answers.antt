use Rattle.mesh_cli_print.proofs.faults.Joined.{all_put, one_more}
use Rattle.mesh_cli_apply.specs.Tracing.{trace_line}
use Rattle.mesh_cli_apply.proofs.tracing.put_traces.Goals as goal

pub loop-t-preserved : goal.loop-t-preserved
loop-t-preserved c = one_more trace_line c.args.out.now.items c.args.traces.now c.loop-t.t-index c.t-item.result _ _ c.loop-t-test.true c.t-item.is c.loop-t.invariant c.in_ok-put_trace.ensures

pub returns : goal.returns
returns c = all_put trace_line c.args.out.now.items c.args.traces.now c.loop-t.t-index c.loop-t.out.items c.loop-t-test.false c.loop-t.invariant
