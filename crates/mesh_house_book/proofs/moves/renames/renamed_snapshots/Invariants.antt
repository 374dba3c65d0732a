use Rattle.std.proofs.Common.{◌≡◌, take}
use Rattle.mesh_house_book.specs.moves.Moves.{renames_of}
use Rattle.mesh_house_book.specs.moves.Renames.{renamed_all}
use Rattle.mesh_house_book.proofs.moves.renames.renamed_snapshots.Given as goal

abbrev pub invariant-loop-s : goal.invariant-loop-s
invariant-loop-s l = l.made.items ≡ renamed_all (renames_of l.moves) (take l.s-index l.snapshots)
