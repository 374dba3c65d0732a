use Rattle.std.proofs.Common.{◌≡◌, take, map}
use Rattle.mesh_house_book.specs.moves.Moves.{renames_of}
use Rattle.mesh_house_book.specs.moves.Renames.{renamed}
use Rattle.mesh_house_book.proofs.moves.renames.renamed_refs.Given as goal

abbrev pub invariant-loop-r : goal.invariant-loop-r
invariant-loop-r l = l.made ≡ map (renamed (renames_of l.moves)) (take l.r-index l.refs)
