use Rattle.std.proofs.Common.{◌≡◌, take, map}
use Rattle.mesh_exec_works.specs.Fronts.{are_read_later}
use Rattle.mesh_exec_works.specs.Plain.{work_model}
use Rattle.mesh_exec_works.specs.Works.{part_of}
use Rattle.mesh_exec_works.proofs.fronts.are_read_later.Given as goal

abbrev pub invariant-loop-parent : goal.invariant-loop-parent
invariant-loop-parent l = l.found ≡ are_read_later (map part_of l.works) (map work_model (take l.parent-index l.parents))
