use Rattle.std.proofs.Common.{◌≡◌, map, take}
use Rattle.std.specs.List.{flat_map}
use Rattle.mesh_eval_rows.specs.joins.index.Places.{places}
use Rattle.mesh_spec_query.specs.Aggregates.{distinct}
use Rattle.mesh_spec_query.specs.Sel.{same_row}
use Rattle.mesh_eval_expressions.specs.Frames.{picked}
use Rattle.mesh_eval.specs.Placed.{output_row}
use Rattle.mesh_eval.proofs.groups.indexed_groups.Given as goal

abbrev pub invariant-loop-at : goal.invariant-loop-at
invariant-loop-at l = l.made ≡ flat_map (output_row l.o) (map (λ key. record { key_values = key; rows = picked l.rows.rows (places (same_row key) l.index) }) (distinct same_row (take l.at l.keys.rows)))
