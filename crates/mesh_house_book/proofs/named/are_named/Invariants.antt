use Rattle.std.proofs.Common.{◌≡◌, take}
use Rattle.mesh_house_book.specs.Named.{are_named}
use Rattle.mesh_house_book.proofs.named.are_named.Given as goal

abbrev pub invariant-loop-parent : goal.invariant-loop-parent
invariant-loop-parent l = l.each ≡ are_named l.own (take l.parent-index l.parents)
