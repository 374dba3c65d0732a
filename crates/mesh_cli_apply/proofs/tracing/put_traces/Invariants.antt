use Rattle.std.proofs.Common.{◌≡◌, ◌++◌, take}
use Rattle.mesh_cli_apply.specs.Tracing.{traces_text}
use Rattle.mesh_cli_apply.proofs.tracing.put_traces.Given as goal

abbrev pub invariant-loop-t : goal.invariant-loop-t
invariant-loop-t l = l.out.items ≡ l.initial.out.items ++ traces_text (take l.t-index l.traces)
