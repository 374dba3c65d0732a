use Rattle.std.proofs.Common.{◌≡◌, take}
use Rattle.mesh_layer.specs.Places.{row_at}
use Rattle.mesh_layer.proofs.sources.row_at.Given as goal

abbrev pub invariant-loop-place : goal.invariant-loop-place
invariant-loop-place l = l.made ≡ row_at l.row (take l.place-index l.places)
