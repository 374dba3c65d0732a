use Rattle.std.proofs.Common.{◌≡◌}
use Rattle.mesh_plan_due.specs.Marked.{spots_in}
use Rattle.mesh_plan_due.proofs.marks.in_order.Given as goal

abbrev pub invariant-loop-spot : goal.invariant-loop-spot
invariant-loop-spot l = l.spots.items ≡ spots_in l.yielded
