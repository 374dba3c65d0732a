use Rattle.std.proofs.Common.{◌≡◌, ℕ, length, take}
use Rattle.mesh_plan_due.specs.Lineages.{any_row, has_bit}
use Rattle.mesh_plan_due.proofs.lineages.row_over.Given as goal

abbrev pub invariant-loop-parent : goal.invariant-loop-parent
invariant-loop-parent l = record {
  long : length l.row.items ≡ l.words;
  bits : (p : ℕ) → has_bit l.row.items p ≡ any_row l.rows p (take l.parent-index l.parents);
}
