use Rattle.std.proofs.Common.{true, ◌+◌, ◌*◌, ◌-◌, ◌≤◌, drop, length}
use Rattle.mesh_query_grammar.specs.Signs.{place}
use Rattle.mesh_query_grammar.specs.Rules.{expr, more_ors, conjunction, more_ands, cat, more_cats, sum, more_sums, product, more_products, post, more_casts, arms, more_arms, exprs, more_exprs}
use Rattle.mesh_query_grammar.specs.Plans.{done, read}
use Rattle.mesh_query.specs.Answers.{Onward}
use Rattle.mesh_query.proofs.expressions.+parser.Given as goal

abbrev pub decreases-call : goal.decreases-call
decreases-call l = 20 * l.depth + 4

abbrev pub decreases-group : goal.decreases-group
decreases-group l = 20 * l.depth + 4

abbrev pub decreases-cast : goal.decreases-cast
decreases-cast l = 20 * l.depth + 4

abbrev pub decreases-case : goal.decreases-case
decreases-case l = 20 * l.depth + 4

abbrev pub decreases-primary : goal.decreases-primary
decreases-primary l = 20 * l.depth + 5

abbrev pub decreases-post : goal.decreases-post
decreases-post l = 20 * l.depth + 6

abbrev pub decreases-unary : goal.decreases-unary
decreases-unary l = 20 * l.depth + 7

abbrev pub decreases-product : goal.decreases-product
decreases-product l = 20 * l.depth + 8

abbrev pub decreases-sum : goal.decreases-sum
decreases-sum l = 20 * l.depth + 9

abbrev pub decreases-cat : goal.decreases-cat
decreases-cat l = 20 * l.depth + 10

abbrev pub decreases-between : goal.decreases-between
decreases-between l = 20 * l.depth + 11

abbrev pub decreases-one_of : goal.decreases-one_of
decreases-one_of l = 20 * l.depth + 2

abbrev pub decreases-range_test : goal.decreases-range_test
decreases-range_test l = 20 * l.depth + 12

abbrev pub decreases-test : goal.decreases-test
decreases-test l = 20 * l.depth + 13

abbrev pub decreases-pred : goal.decreases-pred
decreases-pred l = 20 * l.depth + 14

abbrev pub decreases-negation : goal.decreases-negation
decreases-negation l = 20 * l.depth + 15

abbrev pub decreases-conjunction : goal.decreases-conjunction
decreases-conjunction l = 20 * l.depth + 16

abbrev pub decreases-expr : goal.decreases-expr
decreases-expr l = 20 * l.depth + 17

abbrev pub decreases-arm : goal.decreases-arm
decreases-arm l = 20 * l.depth + 18

abbrev pub decreases-arms : goal.decreases-arms
decreases-arms l = 20 * l.depth + 19

abbrev pub decreases-exprs : goal.decreases-exprs
decreases-exprs l = 20 * l.depth + 18

abbrev pub decreases-case_operand : goal.decreases-case_operand
decreases-case_operand l = 20 * l.depth + 18

abbrev pub decreases-case_else : goal.decreases-case_else
decreases-case_else l = 20 * l.depth + 18

abbrev pub decreases-one_arg : goal.decreases-one_arg
decreases-one_arg l = 20 * l.depth + 18

abbrev pub decreases-count_args : goal.decreases-count_args
decreases-count_args l = 20 * l.depth + 19

abbrev pub decreases-args : goal.decreases-args
decreases-args l = 20 * l.depth + 20

abbrev pub decreases-coalesce_args : goal.decreases-coalesce_args
decreases-coalesce_args l = 20 * l.depth + 19

abbrev pub decreases-nullif_args : goal.decreases-nullif_args
decreases-nullif_args l = 20 * l.depth + 19

abbrev pub invariant-expr-ors : goal.invariant-expr-ors
invariant-expr-ors l = (l.from ≤ l.at) × Onward true l.depth expr (drop l.from l.tokens) (read (more_ors (place (drop l.from l.tokens)) l.parts) done) (drop l.at l.tokens) l.fn.nodes.left l.nodes.left

abbrev pub decreases-expr-ors : goal.decreases-expr-ors
decreases-expr-ors l = length l.initial.tokens - l.at

abbrev pub invariant-conjunction-ands : goal.invariant-conjunction-ands
invariant-conjunction-ands l = (l.from ≤ l.at) × Onward true l.depth conjunction (drop l.from l.tokens) (read (more_ands (place (drop l.from l.tokens)) l.parts) done) (drop l.at l.tokens) l.fn.nodes.left l.nodes.left

abbrev pub decreases-conjunction-ands : goal.decreases-conjunction-ands
decreases-conjunction-ands l = length l.initial.tokens - l.at

abbrev pub invariant-cat-cats : goal.invariant-cat-cats
invariant-cat-cats l = (l.from ≤ l.at) × Onward true l.depth cat (drop l.from l.tokens) (read (more_cats (place (drop l.from l.tokens)) l.parts) done) (drop l.at l.tokens) l.fn.nodes.left l.nodes.left

abbrev pub decreases-cat-cats : goal.decreases-cat-cats
decreases-cat-cats l = length l.initial.tokens - l.at

abbrev pub invariant-sum-sums : goal.invariant-sum-sums
invariant-sum-sums l = (l.from ≤ l.at) × Onward true l.depth sum (drop l.from l.tokens) (read (more_sums (place (drop l.from l.tokens)) l.first l.rest) done) (drop l.at l.tokens) l.fn.nodes.left l.nodes.left

abbrev pub decreases-sum-sums : goal.decreases-sum-sums
decreases-sum-sums l = length l.initial.tokens - l.at

abbrev pub invariant-product-products : goal.invariant-product-products
invariant-product-products l = (l.from ≤ l.at) × Onward true l.depth product (drop l.from l.tokens) (read (more_products (place (drop l.from l.tokens)) l.first l.rest) done) (drop l.at l.tokens) l.fn.nodes.left l.nodes.left

abbrev pub decreases-product-products : goal.decreases-product-products
decreases-product-products l = length l.initial.tokens - l.at

abbrev pub invariant-post-casts : goal.invariant-post-casts
invariant-post-casts l = (l.from ≤ l.at) × Onward true l.depth post (drop l.from l.tokens) (read (more_casts (place (drop l.from l.tokens)) l.value l.casts) done) (drop l.at l.tokens) l.fn.nodes.left l.nodes.left

abbrev pub decreases-post-casts : goal.decreases-post-casts
decreases-post-casts l = length l.initial.tokens - l.at

abbrev pub invariant-arms-whens : goal.invariant-arms-whens
invariant-arms-whens l = (l.from ≤ l.at) × Onward true l.depth arms (drop l.from l.tokens) (read (more_arms l.arms) done) (drop l.at l.tokens) l.fn.nodes.left l.nodes.left

abbrev pub decreases-arms-whens : goal.decreases-arms-whens
decreases-arms-whens l = length l.initial.tokens - l.at

abbrev pub invariant-exprs-commas : goal.invariant-exprs-commas
invariant-exprs-commas l = (l.from ≤ l.at) × Onward true l.depth exprs (drop l.from l.tokens) (read (more_exprs l.list) done) (drop l.at l.tokens) l.fn.nodes.left l.nodes.left

abbrev pub decreases-exprs-commas : goal.decreases-exprs-commas
decreases-exprs-commas l = length l.initial.tokens - l.at
