use Rattle.std.proofs.Common.{◌≡◌, take}
use Rattle.mesh_house_book.specs.Named.{is_parent}
use Rattle.mesh_house_book.proofs.named.is_parent.Given as goal

abbrev pub invariant-loop-parent : goal.invariant-loop-parent
invariant-loop-parent l = l.found ≡ is_parent (take l.parent-index l.parents) l.name
