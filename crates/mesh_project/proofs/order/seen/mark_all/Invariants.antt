use Rattle.std.proofs.Common.{◌≡◌, length, take}
use Rattle.mesh_project.specs.order.Seen.{AreMarks, IsGrown}
use Rattle.mesh_project.proofs.order.seen.mark_all.Given as goal

abbrev pub invariant-loop-at : goal.invariant-loop-at
invariant-loop-at l = record {
  marks : AreMarks l.seen.marks.items l.seen.list.items;
  grown : IsGrown l.fn.seen.list.items l.seen.list.items (take l.at-index l.places);
  as_many : length l.seen.marks.items ≡ length l.fn.seen.marks.items;
}
