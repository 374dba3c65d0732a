use Rattle.std.proofs.Common.{◌≡◌, map, take}
use Rattle.mesh_eval.specs.Placed.{values_at}
use Rattle.mesh_eval.proofs.placing.value_rows.Given as goal

abbrev pub invariant-loop-at : goal.invariant-loop-at
invariant-loop-at l = l.made ≡ map (values_at l.all) (take l.at l.rows.rows)
