use Rattle.std.proofs.Common.{◌≡◌, [], take, fold}
use Rattle.mesh_project.specs.nodes.Earlier.{noted}
use Rattle.mesh_project.proofs.nodes.earlier.named.Given as goal

abbrev pub invariant-loop-name : goal.invariant-loop-name
invariant-loop-name l = l.made ≡ fold (noted l.earlier) [] (take l.name-index l.names)
