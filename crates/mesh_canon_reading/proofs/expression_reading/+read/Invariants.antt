use Rattle.std.proofs.Common.{◌≡◌, ◌+◌, ◌-◌, ◌*◌, length}
use Rattle.mesh_canon_reading.specs.Reading.{expr_at, more_at, when_at, with_front}
use Rattle.mesh_canon_reading.proofs.expression_reading.+read.Given as goal

abbrev pub invariant-more_exprs-loop : goal.invariant-more_exprs-loop
invariant-more_exprs-loop l = with_front l.made (more_at (expr_at l.depth) (length l.bytes - l.counter) l.rest) ≡ with_front l.fn.front (more_at (expr_at l.depth) (length l.bytes) l.bytes)

abbrev pub invariant-more_whens-loop : goal.invariant-more_whens-loop
invariant-more_whens-loop l = with_front l.made (more_at (when_at (expr_at l.depth)) (length l.bytes - l.counter) l.rest) ≡ with_front l.fn.front (more_at (when_at (expr_at l.depth)) (length l.bytes) l.bytes)

abbrev pub decreases-expr : goal.decreases-expr
decreases-expr l = 8 * l.depth

abbrev pub decreases-parts : goal.decreases-parts
decreases-parts l = 8 * l.depth + 7

abbrev pub decreases-binary : goal.decreases-binary
decreases-binary l = 8 * l.depth + 6

abbrev pub decreases-between : goal.decreases-between
decreases-between l = 8 * l.depth + 6

abbrev pub decreases-one_of : goal.decreases-one_of
decreases-one_of l = 8 * l.depth + 6

abbrev pub decreases-cast : goal.decreases-cast
decreases-cast l = 8 * l.depth + 6

abbrev pub decreases-call : goal.decreases-call
decreases-call l = 8 * l.depth + 6

abbrev pub decreases-case : goal.decreases-case
decreases-case l = 8 * l.depth + 6

abbrev pub decreases-agg : goal.decreases-agg
decreases-agg l = 8 * l.depth + 6

abbrev pub decreases-exprs : goal.decreases-exprs
decreases-exprs l = 8 * l.depth + 5

abbrev pub decreases-whens : goal.decreases-whens
decreases-whens l = 8 * l.depth + 5

abbrev pub decreases-more_exprs : goal.decreases-more_exprs
decreases-more_exprs l = 8 * l.depth + 4

abbrev pub decreases-more_whens : goal.decreases-more_whens
decreases-more_whens l = 8 * l.depth + 4

abbrev pub decreases-when : goal.decreases-when
decreases-when l = 8 * l.depth + 3

abbrev pub decreases-boxed_then : goal.decreases-boxed_then
decreases-boxed_then l = 8 * l.depth + 2

abbrev pub decreases-expr_then : goal.decreases-expr_then
decreases-expr_then l = 8 * l.depth + 1
