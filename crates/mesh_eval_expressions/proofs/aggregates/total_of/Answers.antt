use Rattle.std.proofs.Common.{arith}
use Rattle.std.proofs.lemmas.Int.{ints, to_z-of_z}
use Rattle.std.proofs.lemmas.List.Sums.{fold_more}
use Rattle.mesh_eval_expressions.proofs.aggregates.total_of.Goals as goal

pub loop-c-preserved : goal.loop-c-preserved
loop-c-preserved c = record {
  added = grind (arith, to_z-of_z, fold_more);
  high = omega (arith, ints);
  low = omega (arith, ints);
}
