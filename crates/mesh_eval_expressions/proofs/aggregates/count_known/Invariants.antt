use Rattle.std.proofs.Common.{◌≡◌, ◌≤◌, length, take}
use Rattle.mesh_spec_query.specs.Aggregates.{known}
use Rattle.mesh_eval_expressions.proofs.aggregates.count_known.Given as goal

abbrev pub invariant-loop-cell : goal.invariant-loop-cell
invariant-loop-cell l = record {
  known : l.count ≡ length (known (take l.cell-index l.cells));
  most : l.count ≤ l.cell-index;
}
