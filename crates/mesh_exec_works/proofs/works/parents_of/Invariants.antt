use Rattle.std.proofs.Common.{◌≡◌, take, map}
use Rattle.mesh_exec_works.specs.Plain.{parents_at, plain_models, work_model}
use Rattle.mesh_exec_works.proofs.works.parents_of.Given as goal

abbrev pub invariant-loop-place : goal.invariant-loop-place
invariant-loop-place l = map work_model l.models ≡ parents_at (plain_models l.nodes l.entries) (take l.place-index l.places)
