use Rattle.std.proofs.Common.{◌≡◌, map, take}
use Rattle.mesh_spec_model.specs.Closures.{closures}
use Rattle.mesh_spec_model.specs.Horizons.{Clock, horizon}
use Rattle.mesh_spec_changes.specs.due.Dues.{dues}
use Rattle.mesh_spec_changes.specs.due.Plans.{planned}
use Rattle.mesh_plan_due.proofs.due.dues.Given as goal

abbrev pub invariant-loop-at : goal.invariant-loop-at
invariant-loop-at l = (clock : Clock) → l.horizons ≡ map (horizon clock) (closures l.nodes) → l.made ≡ dues clock l.b l.forgets (take l.at (planned l.nodes l.entries))
