use Rattle.std.proofs.Common.{◌≡◌, ◌≤◌, length}
use Rattle.mesh_query_tokens.specs.Letters.{decimal, decimal_after}
use Rattle.mesh_query_tokens.specs.Pieces.{greatest}
use Rattle.mesh_query_tokens.proofs.pieces.decimal.Given as goal

abbrev pub invariant-loop-rest : goal.invariant-loop-rest
invariant-loop-rest l = record {
  so_far : decimal_after l.value l.rest ≡ decimal l.digits;
  small : l.value ≤ greatest;
}

abbrev pub decreases-loop-rest : goal.decreases-loop-rest
decreases-loop-rest l = length l.rest
