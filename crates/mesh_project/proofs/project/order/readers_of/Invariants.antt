use Rattle.std.proofs.Common.{◌≡◌, map, take}
use Rattle.mesh_project.specs.project.Project.{reader_of}
use Rattle.mesh_project.proofs.project.order.readers_of.Given as goal

abbrev pub invariant-loop-file : goal.invariant-loop-file
invariant-loop-file l = l.readers ≡ map reader_of (take l.file-index l.files)
