use Rattle.std.proofs.Common.{◌≡◌, take}
use Rattle.std.specs.Option.{option_copied}
use Rattle.mesh_lineage.specs.Reaches.{least_reached, reaches_at}
use Rattle.mesh_lineage.proofs.reaches.least_reached.Given as goal

abbrev pub invariant-loop-place : goal.invariant-loop-place
invariant-loop-place l = option_copied l.found ≡ least_reached (reaches_at l.reaches (take l.place-index l.places))
