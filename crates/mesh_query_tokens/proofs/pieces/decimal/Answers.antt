use Rattle.std.proofs.Common.{◌<◌, subst}
use Rattle.mesh_query_tokens.specs.Pieces.{greatest}
use Rattle.mesh_query_tokens.proofs.Steps.{too_many_digits, too_great_digit}
use Rattle.mesh_query_tokens.proofs.pieces.decimal.Goals as goal

pub returns-then-value : goal.returns-then-value
returns-then-value c = subst (λ n. greatest < n) c.loop-rest.invariant.so_far (too_many_digits c.loop-rest.value c.loop-rest.rest.now c.in-len1-up.len_at_least c.if-value.true)

pub returns-then-value-gt-LARGEST_NUMBER : goal.returns-then-value-gt-LARGEST_NUMBER
returns-then-value-gt-LARGEST_NUMBER c = subst (λ n. greatest < n) c.loop-rest.invariant.so_far (too_great_digit c.loop-rest.value c.saturating_sub.result c.loop-rest.rest.now c.in-len1-up.len_at_least c.saturating_sub.ensures c.if-value-gt-LARGEST_NUMBER.true)
