use Rattle.std.proofs.Common.{◌≡◌, map, take}
use Rattle.mesh_eval_rows.specs.joins.joined.Spots.{cell_at}
use Rattle.mesh_eval_expressions.specs.Frames.{picked}
use Rattle.mesh_eval_expressions.proofs.frames.lent_rows.Given as goal

abbrev pub invariant-loop-at : goal.invariant-loop-at
invariant-loop-at l = l.made ≡ map (cell_at l.spot) (picked l.group.rows.now.rows (take l.at-index l.at-items))
