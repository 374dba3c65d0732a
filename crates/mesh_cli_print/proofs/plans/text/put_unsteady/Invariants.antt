use Rattle.std.proofs.Common.{◌≡◌, ◌++◌, take}
use Rattle.mesh_cli_print.specs.plans.PlanText.{unsteady_lines}
use Rattle.mesh_cli_print.proofs.plans.text.put_unsteady.Given as goal

abbrev pub invariant-loop-pair : goal.invariant-loop-pair
invariant-loop-pair l = l.out.items ≡ l.initial.out.items ++ unsteady_lines (take l.pair-index l.pairs)
