use Rattle.std.proofs.Common.{◌≡◌, take}
use Rattle.mesh_eval_rows.specs.joins.joined.Joined.{shown}
use Rattle.mesh_eval.specs.Placed.{values_at}
use Rattle.mesh_eval.proofs.placing.values_into.Given as goal

abbrev pub invariant-loop-b : goal.invariant-loop-b
invariant-loop-b l = l.made.items ≡ values_at (take l.b-index l.all) (shown l.row)
