-- Renames that are looked up by the references that they name.
use Rattle.std.specs.Prelude.{List, map}
use Rattle.mesh_base.specs.declared.forgets.Rename.{Rename}
use Rattle.mesh_base.specs.declared.snapshots.Ref.{Ref}
use Rattle.mesh_house_book.specs.declared.moves.moves.Move.{Move}

-- a move is found by the reference that its rename names
abbrev pub move_old : Move → Ref
move_old m = m.rename.old

-- the renames of moves
abbrev pub renames_of : List Move → List Rename
renames_of moves = map (λ m. m.rename) moves
