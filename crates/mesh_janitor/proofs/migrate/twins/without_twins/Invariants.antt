use Rattle.std.proofs.Common.{◌≡◌, drop}
use Rattle.mesh_janitor.specs.migrate.Walk.{near_twins}
use Rattle.mesh_janitor.proofs.migrate.twins.without_twins.Given as goal

abbrev pub invariant-loop-i : goal.invariant-loop-i
invariant-loop-i l = near_twins (drop l.i l.renames) ≡ near_twins l.renames
