use Rattle.std.proofs.Common.{◌≡◌, ◌-◌, length}
use Rattle.mesh_project.specs.order.Seen.{AreMarks, AreSeen}
use Rattle.mesh_project.proofs.order.seen.seen_from.Given as goal

abbrev pub invariant-loop-next : goal.invariant-loop-next
invariant-loop-next l = record {
  marks : AreMarks l.seen.marks.items l.seen.list.items;
  as_many : length l.seen.marks.items ≡ length l.links;
  seen : AreSeen l.links l.at l.seen.list.items l.next;
}

abbrev pub decreases-loop-next : goal.decreases-loop-next
decreases-loop-next l = length l.links - l.next
