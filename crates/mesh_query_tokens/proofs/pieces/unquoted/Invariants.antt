use Rattle.std.proofs.Common.{◌≡◌, ◌++◌, length}
use Rattle.mesh_query_tokens.specs.Pieces.{unquoted}
use Rattle.mesh_query_tokens.proofs.pieces.unquoted.Given as goal

abbrev pub invariant-loop-rest : goal.invariant-loop-rest
invariant-loop-rest l = l.made ++ unquoted l.rest ≡ unquoted l.bytes

abbrev pub decreases-loop-rest : goal.decreases-loop-rest
decreases-loop-rest l = length l.rest
