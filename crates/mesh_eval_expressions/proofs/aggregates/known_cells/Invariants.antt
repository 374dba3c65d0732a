use Rattle.std.proofs.Common.{◌≡◌, map, take}
use Rattle.mesh_spec_query.specs.Aggregates.{known}
use Rattle.mesh_eval_expressions.proofs.aggregates.known_cells.Given as goal

abbrev pub invariant-loop-cell : goal.invariant-loop-cell
invariant-loop-cell l = map (λ cell. cell.now) l.made.items ≡ known (take l.cell-index l.cells)
