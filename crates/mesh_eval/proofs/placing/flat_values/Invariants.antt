use Rattle.std.proofs.Common.{◌≡◌, length, map, take}
use Rattle.mesh_eval.specs.Placed.{values_at}
use Rattle.mesh_eval.proofs.placing.flat_values.Given as goal

abbrev pub invariant-loop-at : goal.invariant-loop-at
invariant-loop-at l = (l.made.rows ≡ map (values_at l.all) (take l.at l.rows.rows)) × (l.made.width ≡ length l.all)
