use Rattle.std.proofs.Common.{◌≡◌, ◌+◌, drop}
use Rattle.mesh_query_tokens.specs.Pieces.{digits_len}
use Rattle.mesh_query_tokens.proofs.lengths.digits_len.Given as goal

abbrev pub invariant-loop-i : goal.invariant-loop-i
invariant-loop-i l = l.i + digits_len (drop l.i l.bytes) ≡ digits_len l.bytes
