use Rattle.std.proofs.Common.{◌≡◌, take}
use Rattle.mesh_list.proofs.copies.Duplicate.copy_items.Given as goal

abbrev pub invariant-loop-item : goal.invariant-loop-item
invariant-loop-item g l = l.made ≡ take l.item-index l.items
