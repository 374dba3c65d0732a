use Rattle.std.proofs.Common.{◌≡◌, take}
use Rattle.mesh_plan_due.specs.Least.{least_at}
use Rattle.mesh_plan_due.proofs.horizons.least_at.Given as goal

abbrev pub invariant-loop-place : goal.invariant-loop-place
invariant-loop-place l = l.least ≡ least_at l.timed (take l.place-index l.places)
