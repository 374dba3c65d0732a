use Rattle.std.proofs.Common.{◌≡◌, ◌++◌, length}
use Rattle.mesh_cli_print.specs.plans.PlanText.{run_lines}
use Rattle.mesh_cli_print.proofs.plans.text.put_runs.Given as goal

abbrev pub invariant-loop-rest : goal.invariant-loop-rest
invariant-loop-rest l = l.out.items ++ run_lines l.nodes l.rest ≡ l.initial.out.items ++ run_lines l.nodes l.dues

abbrev pub decreases-loop-rest : goal.decreases-loop-rest
decreases-loop-rest l = length l.rest
