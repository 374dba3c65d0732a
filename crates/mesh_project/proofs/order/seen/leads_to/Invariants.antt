use Rattle.std.proofs.Common.{◌≡◌, false, take}
use Rattle.mesh_project.specs.order.Links.{has}
use Rattle.mesh_project.proofs.order.seen.leads_to.Given as goal

abbrev pub invariant-loop-at : goal.invariant-loop-at
invariant-loop-at l = has (take l.at-index l.at-items) l.to ≡ false
