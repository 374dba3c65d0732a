use Rattle.std.proofs.Common.{◌≡◌, false, take}
use Rattle.mesh_project.specs.order.Seen.{some_lead_to}
use Rattle.mesh_project.proofs.order.seen.some_lead_to.Given as goal

abbrev pub invariant-loop-from : goal.invariant-loop-from
invariant-loop-from l = some_lead_to l.links (take l.from-index l.seen) l.to ≡ false
