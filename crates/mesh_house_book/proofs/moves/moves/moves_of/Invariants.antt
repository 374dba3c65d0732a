use Rattle.std.proofs.Common.{◌≡◌, take}
use Rattle.mesh_house_book.specs.moves.Moves.{renames_of}
use Rattle.mesh_house_book.proofs.moves.moves.moves_of.Given as goal

abbrev pub invariant-loop-rename : goal.invariant-loop-rename
invariant-loop-rename l = renames_of l.moves.items ≡ take l.rename-index l.renames
