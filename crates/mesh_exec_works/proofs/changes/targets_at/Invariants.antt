use Rattle.std.proofs.Common.{◌≡◌, take, map}
use Rattle.mesh_spec_changes.specs.Changes.{target_of}
use Rattle.mesh_exec_works.specs.Plain.{parents_at, plain_models}
use Rattle.mesh_exec_works.proofs.changes.targets_at.Given as goal

abbrev pub invariant-loop-place : goal.invariant-loop-place
invariant-loop-place l = l.made ≡ map target_of (parents_at (plain_models l.nodes l.entries) (take l.place-index l.places))
