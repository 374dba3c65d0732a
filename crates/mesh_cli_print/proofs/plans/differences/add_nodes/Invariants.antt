use Rattle.std.proofs.Common.{◌≡◌, drop}
use Rattle.mesh_cli_print.specs.plans.PlanText.{with_nodes}
use Rattle.mesh_cli_print.proofs.plans.differences.add_nodes.Given as goal

abbrev pub invariant-loop-i : goal.invariant-loop-i
invariant-loop-i l = with_nodes l.made (drop l.i l.nodes) (drop l.i l.entries) ≡ with_nodes l.initial.made l.nodes l.entries
