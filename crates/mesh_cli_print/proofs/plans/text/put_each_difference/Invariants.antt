use Rattle.std.proofs.Common.{◌≡◌, ◌++◌, take}
use Rattle.std.specs.List.{flat_map}
use Rattle.mesh_cli_print.specs.plans.PlanText.{difference_line}
use Rattle.mesh_cli_print.proofs.plans.text.put_each_difference.Given as goal

abbrev pub invariant-loop-d : goal.invariant-loop-d
invariant-loop-d l = l.out.items ≡ l.initial.out.items ++ flat_map difference_line (take l.d-index l.all)
