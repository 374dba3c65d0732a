use Rattle.std.proofs.Common.{◌≡◌, take, map}
use Rattle.mesh_exec_works.specs.Fronts.{has_object}
use Rattle.mesh_exec_works.specs.Works.{part_of}
use Rattle.mesh_exec_works.proofs.fronts.has_object.Given as goal

abbrev pub invariant-loop-work : goal.invariant-loop-work
invariant-loop-work l = l.found ≡ has_object (map part_of (take l.work-index l.works)) l.name
