use Rattle.std.proofs.Common.{◌≡◌, take, map}
use Rattle.mesh_spec_changes.specs.Changes.{planned_ref}
use Rattle.mesh_exec_works.specs.Plain.{parents_at, plain_models}
use Rattle.mesh_exec_works.proofs.changes.refs_at.Given as goal

abbrev pub invariant-loop-place : goal.invariant-loop-place
invariant-loop-place l = l.made ≡ map planned_ref (parents_at (plain_models l.nodes l.entries) (take l.place-index l.places))
