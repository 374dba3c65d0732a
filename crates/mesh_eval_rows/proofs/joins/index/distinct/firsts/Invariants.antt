use Rattle.std.proofs.Common.{◌≡◌, ◌<◌, ℕ, false, length, get_or, not, take, []}
use Rattle.std.specs.List.{list_any}
use Rattle.mesh_spec_query.specs.Sel.{same_row}
use Rattle.mesh_eval_rows.proofs.joins.index.distinct.firsts.Given as goal

abbrev pub invariant-loop-at : goal.invariant-loop-at
invariant-loop-at l = (length l.made.items ≡ l.at) × ((i : ℕ) → i < l.at → get_or l.made.items i false ≡ not (list_any (same_row (get_or l.rows i [])) (take i l.rows)))
