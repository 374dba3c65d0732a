use Rattle.std.proofs.Common.{◌≡◌, drop}
use Rattle.mesh_list.specs.Keyed.{found}
use Rattle.mesh_base_values.specs.Names.{text_cmp}
use Rattle.mesh_io.specs.Files.{path_of}
use Rattle.mesh_io.proofs.files.find_file.Given as goal

abbrev pub invariant-loop-file : goal.invariant-loop-file
invariant-loop-file l = found text_cmp path_of l.path (drop l.file-index l.files) ≡ found text_cmp path_of l.path l.files
