use Rattle.std.proofs.Common.{◌≡◌, ◌*◌, ◌^◌, ◌≤ℤ◌, take, pos, neg_ℤ, ◌+ℤ◌}
use Rattle.std.specs.List.{fold}
use Rattle.mesh_spec_query.specs.Aggregates.{addend}
use Rattle.mesh_eval_expressions.proofs.aggregates.total_of.Given as goal

abbrev pub invariant-loop-c : goal.invariant-loop-c
invariant-loop-c l = record {
  added : l.sum ≡ fold (λ sum c. sum +ℤ addend c) (pos 0) (take l.c-index l.cells);
  high : l.sum ≤ℤ pos (l.c-index * 2 ^ 63);
  low : neg_ℤ (pos (l.c-index * 2 ^ 63)) ≤ℤ l.sum;
}
