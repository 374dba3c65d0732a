use Rattle.std.proofs.Common.{◌≡◌, take, map}
use Rattle.mesh_janitor.specs.migrate.Walk.{rename_at, renames_of}
use Rattle.mesh_janitor.proofs.migrate.renames.listed.Given as goal

abbrev pub invariant-loop-s : goal.invariant-loop-s
invariant-loop-s l = l.made ≡ map (rename_at (renames_of l.entries)) (take l.s-index l.all)
