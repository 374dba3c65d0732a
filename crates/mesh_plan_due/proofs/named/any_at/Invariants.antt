use Rattle.std.proofs.Common.{◌≡◌, false, take}
use Rattle.mesh_plan_due.specs.Stands.{any_at}
use Rattle.mesh_plan_due.proofs.named.any_at.Given as goal

abbrev pub invariant-loop-place : goal.invariant-loop-place
invariant-loop-place l = any_at l.flags (take l.place-index l.places) ≡ false
