use Rattle.std.proofs.Common.{sym, ◌∙◌}
use Rattle.mesh_query_tokens.proofs.Steps.{some_word, some_digits}
use Rattle.mesh_query_tokens.proofs.pieces.piece_at.Goals as goal

pub word_at-requires : goal.word_at-requires
word_at-requires c = some_word c.args.bytes.now c.in-len1-up.len_at_least (sym c.begins_word.ensures ∙ c.if-begins_word.true)

pub number_at-requires : goal.number_at-requires
number_at-requires c = some_digits c.args.bytes.now c.in-len1-up.len_at_least (sym c.is_digit.ensures ∙ c.if-is_digit.true)
