use Rattle.std.proofs.Common.{◌≡◌, drop}
use Rattle.mesh_cli_print.specs.plans.PlanText.{with_removed}
use Rattle.mesh_cli_print.proofs.plans.differences.add_removed.Given as goal

abbrev pub invariant-loop-pair : goal.invariant-loop-pair
invariant-loop-pair l = with_removed l.made (drop l.pair-index l.removed) ≡ with_removed l.initial.made l.removed
