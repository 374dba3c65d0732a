use Rattle.std.proofs.Common.{◌≡◌, map, take}
use Rattle.std.specs.Option.{option_copied}
use Rattle.mesh_spec_model.specs.Closures.{closures}
use Rattle.mesh_spec_model.specs.Horizons.{Clock, horizon}
use Rattle.mesh_spec_changes.specs.due.Dues.{again}
use Rattle.mesh_spec_changes.specs.due.Plans.{planned}
use Rattle.mesh_plan_due.proofs.again.agains.Given as goal

abbrev pub invariant-loop-at : goal.invariant-loop-at
invariant-loop-at l = (clock : Clock) → l.horizons ≡ map (horizon clock) (closures l.nodes) → l.made ≡ again clock l.b (option_copied l.restate) (take l.at (planned l.nodes l.entries))
