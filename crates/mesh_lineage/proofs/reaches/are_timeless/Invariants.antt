use Rattle.std.proofs.Common.{◌≡◌, take}
use Rattle.mesh_lineage.specs.Reaches.{are_timeless, reaches_at}
use Rattle.mesh_lineage.proofs.reaches.are_timeless.Given as goal

abbrev pub invariant-loop-place : goal.invariant-loop-place
invariant-loop-place l = l.each ≡ are_timeless (reaches_at l.reaches (take l.place-index l.places))
