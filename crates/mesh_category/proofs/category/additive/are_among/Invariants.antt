use Rattle.std.proofs.Common.{◌≤◌, length}
use Rattle.mesh_category.proofs.category.Among.{SoFar}
use Rattle.mesh_category.proofs.category.additive.are_among.Given as goal

abbrev pub invariant-loop-item : goal.invariant-loop-item
invariant-loop-item l = record {
  so_far : SoFar l.old l.new l.at l.item-index;
  within : l.at ≤ length l.old;
}
