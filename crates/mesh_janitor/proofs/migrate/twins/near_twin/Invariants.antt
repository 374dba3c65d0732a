use Rattle.std.proofs.Common.{◌≡◌, drop}
use Rattle.mesh_janitor.specs.migrate.Walk.{near_twin}
use Rattle.mesh_janitor.proofs.migrate.twins.near_twin.Given as goal

abbrev pub invariant-loop-other : goal.invariant-loop-other
invariant-loop-other l = near_twin l.m (drop l.other-index l.rest) ≡ near_twin l.m l.rest
