use Rattle.std.proofs.Common.{◌≡◌, drop}
use Rattle.mesh_janitor.specs.migrate.Walk.{layer, renames_of}
use Rattle.mesh_janitor.proofs.migrate.walk.put_layer.Given as goal

abbrev pub invariant-loop-s : goal.invariant-loop-s
invariant-loop-s l = layer l.rank (drop l.s-index l.all) (renames_of l.entries) ≡ layer l.rank l.all (renames_of l.initial.entries)
