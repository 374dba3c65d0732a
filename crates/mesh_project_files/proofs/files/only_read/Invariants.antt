use Rattle.std.proofs.Common.{◌≡◌, take, filter}
use Rattle.mesh_project_files.specs.Places.{is_read}
use Rattle.mesh_project_files.proofs.files.only_read.Given as goal

abbrev pub invariant-loop-path : goal.invariant-loop-path
invariant-loop-path l = l.kept.items ≡ filter is_read (take l.path-index l.paths)
