use Rattle.std.proofs.Common.{◌≡◌, map, take}
use Rattle.mesh_project.specs.nodes.Earlier.{place_at}
use Rattle.mesh_project.proofs.nodes.nodes.indexes_of.Given as goal

abbrev pub invariant-loop-place : goal.invariant-loop-place
invariant-loop-place l = l.indexes ≡ map place_at (take l.place-index l.places)
