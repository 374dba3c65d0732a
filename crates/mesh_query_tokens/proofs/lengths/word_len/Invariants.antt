use Rattle.std.proofs.Common.{◌≡◌, ◌+◌, drop}
use Rattle.mesh_query_tokens.specs.Pieces.{word_len}
use Rattle.mesh_query_tokens.proofs.lengths.word_len.Given as goal

abbrev pub invariant-loop-i : goal.invariant-loop-i
invariant-loop-i l = l.i + word_len (drop l.i l.bytes) ≡ word_len l.bytes
