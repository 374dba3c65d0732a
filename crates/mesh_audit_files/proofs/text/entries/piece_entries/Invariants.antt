use Rattle.std.proofs.Common.{◌≡◌, ◌++◌, [], drop}
use Rattle.std.specs.List.{flat_map}
use Rattle.mesh_audit_files.specs.text.Entries.{piece_entry}
use Rattle.mesh_audit_files.proofs.text.entries.piece_entries.Given as goal

abbrev pub invariant-loop-piece : goal.invariant-loop-piece
invariant-loop-piece l = l.entries ++ flat_map piece_entry (drop l.piece-index l.pieces) ≡ flat_map piece_entry l.pieces
