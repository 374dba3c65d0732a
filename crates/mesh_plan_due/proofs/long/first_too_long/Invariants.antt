use Rattle.std.proofs.Common.{◌≡◌, map, take}
use Rattle.std.specs.declared.option.Option.TheVariants.{None}
use Rattle.mesh_spec_model.specs.Closures.{closures}
use Rattle.mesh_spec_model.specs.Horizons.{Clock, horizon}
use Rattle.mesh_plan_due.specs.Long.{first_too_long}
use Rattle.mesh_plan_due.proofs.long.first_too_long.Given as goal

abbrev pub invariant-loop-at : goal.invariant-loop-at
invariant-loop-at l = (clock : Clock) → l.horizons ≡ map (horizon clock) (closures l.nodes) → first_too_long clock (take l.at (closures l.nodes)) ≡ None
