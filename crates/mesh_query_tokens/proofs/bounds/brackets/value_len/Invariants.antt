use Rattle.std.proofs.Common.{◌≡◌, []}
use Rattle.mesh_query_tokens.specs.bounds.Brackets.{value_len}
use Rattle.mesh_query_tokens.proofs.bounds.Steps.{len_from}
use Rattle.mesh_query_tokens.proofs.bounds.brackets.value_len.Given as goal

abbrev pub invariant-loop-i : goal.invariant-loop-i
invariant-loop-i l = len_from l.any l.last l.held l.tokens l.i ≡ value_len l.any l.before [] l.tokens
