use Rattle.std.proofs.Common.{◌≡◌, take, Ok}
use Rattle.mesh_project.specs.nodes.Apart.{names_of, with_model_name}
use Rattle.mesh_project.specs.nodes.Walk.{along}
use Rattle.mesh_project.proofs.nodes.apart.take_names.Given as goal

abbrev pub invariant-loop-file : goal.invariant-loop-file
invariant-loop-file l = along with_model_name (names_of l.initial.taken) (take l.file-index l.files) ≡ Ok (names_of l.taken)
