use Rattle.std.proofs.Common.{◌≡◌, take}
use Rattle.mesh_layer.specs.Places.{rows_at}
use Rattle.mesh_layer.proofs.sources.rows_at.Given as goal

abbrev pub invariant-loop-row : goal.invariant-loop-row
invariant-loop-row l = l.made ≡ rows_at (take l.row-index l.rows) l.places
