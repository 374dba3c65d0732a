use Rattle.std.proofs.Common.{◌≡◌, ◌+◌, drop}
use Rattle.mesh_cli_print.specs.plans.Runs.{first_run}
use Rattle.mesh_cli_print.proofs.plans.runs.first_run.Given as goal

abbrev pub invariant-loop-i : goal.invariant-loop-i
invariant-loop-i l = first_run l.dues ≡ l.i + first_run (drop l.i l.dues)
