use Rattle.std.proofs.Common.{◌≡◌, ◌*◌, take}
use Rattle.mesh_plan_due.specs.Marked.{row_marks}
use Rattle.mesh_plan_due.proofs.marks.marks_at.Given as goal

abbrev pub invariant-loop-at : goal.invariant-loop-at
invariant-loop-at l = l.made ≡ row_marks (take (64 * l.at) l.spots) l.row l.place
