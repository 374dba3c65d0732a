use Rattle.std.proofs.Common.{◌≡◌}
use Rattle.mesh_janitor.specs.migrate.Walk.{layers, renames_of}
use Rattle.mesh_janitor.proofs.migrate.walk.put_all.Given as goal

abbrev pub invariant-loop-rank : goal.invariant-loop-rank
invariant-loop-rank l = renames_of l.entries ≡ layers l.rank l.all (renames_of l.initial.entries)
