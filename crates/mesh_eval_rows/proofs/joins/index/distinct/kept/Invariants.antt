use Rattle.std.proofs.Common.{◌≡◌, length}
use Rattle.mesh_spec_query.specs.Aggregates.{distinct}
use Rattle.mesh_spec_query.specs.Sel.{same_row}
use Rattle.mesh_eval_rows.proofs.joins.index.distinct.kept.Given as goal

abbrev pub invariant-loop-row : goal.invariant-loop-row
invariant-loop-row l = (l.at ≡ length l.yielded) × (l.made ≡ distinct same_row l.yielded)
