use Rattle.std.proofs.Common.{◌≡◌, take}
use Rattle.mesh_project.specs.nodes.Nodes.{refs_at}
use Rattle.mesh_project.proofs.nodes.nodes.refs_at.Given as goal

abbrev pub invariant-loop-place : goal.invariant-loop-place
invariant-loop-place l = l.refs ≡ refs_at l.nodes (take l.place-index l.places)
