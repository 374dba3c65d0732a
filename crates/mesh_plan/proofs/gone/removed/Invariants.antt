use Rattle.std.proofs.Common.{◌≡◌, take}
use Rattle.mesh_plan.specs.Plans.{removed}
use Rattle.mesh_plan.proofs.gone.removed.Given as goal

abbrev pub invariant-loop-r : goal.invariant-loop-r
invariant-loop-r l = l.gone ≡ removed l.b (take l.r-index l.base) l.nodes
