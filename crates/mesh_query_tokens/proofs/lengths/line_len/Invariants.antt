use Rattle.std.proofs.Common.{◌≡◌, ◌+◌, drop}
use Rattle.mesh_query_tokens.specs.Pieces.{line_len}
use Rattle.mesh_query_tokens.proofs.lengths.line_len.Given as goal

abbrev pub invariant-loop-i : goal.invariant-loop-i
invariant-loop-i l = l.i + line_len (drop l.i l.bytes) ≡ line_len l.bytes
