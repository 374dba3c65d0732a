use Rattle.std.proofs.Common.{◌≡◌, take, map}
use Rattle.mesh_house_book.specs.moves.Renames.{renamed}
use Rattle.mesh_janitor.specs.migrate.Walk.{renames_of}
use Rattle.mesh_janitor.proofs.migrate.entries.renamed_refs.Given as goal

abbrev pub invariant-loop-r : goal.invariant-loop-r
invariant-loop-r l = l.made ≡ map (renamed (renames_of l.entries)) (take l.r-index l.r-items)
