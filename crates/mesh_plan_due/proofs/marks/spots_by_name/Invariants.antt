use Rattle.std.proofs.Common.{take}
use Rattle.mesh_plan_due.specs.Marked.{HaveSpots}
use Rattle.mesh_plan_due.proofs.marks.spots_by_name.Given as goal

abbrev pub invariant-loop-at : goal.invariant-loop-at
invariant-loop-at l = HaveSpots l.nodes (take l.at l.nodes) l.seconds l.map.entries
