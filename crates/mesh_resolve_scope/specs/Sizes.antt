-- How many nodes an expression has once the operand of each CASE stands again in each of its WHENs. Otherwise they are
-- those that are written, where an absent ELSE is a NULL.
use Rattle.std.specs.Prelude.{ℕ, ◌+◌, Bool, map, nat_lt, Option, Some, None}
use Rattle.std.specs.List.{sum}
use Rattle.mesh_query_grammar.specs.declared.surface.expressions.Args.TheOpen.{Primary-F, Case}
use Rattle.mesh_query_grammar.specs.declared.surface.expressions.Args.TheFolds.{fold-Args, fold-NotExpr, fold-Primary, fold-Test, fold-Unary, fold-AddExpr, fold-AddStep, fold-AndExpr, fold-Arm, fold-CatExpr, fold-MulExpr, fold-MulStep, fold-OrExpr, fold-Post, fold-Pred}
use Rattle.mesh_query_grammar.specs.declared.surface.expressions.AddExpr.{AddExpr}
use Rattle.mesh_query_grammar.specs.declared.surface.expressions.AddStep.{AddStep}
use Rattle.mesh_query_grammar.specs.declared.surface.expressions.AndExpr.{AndExpr}
use Rattle.mesh_query_grammar.specs.declared.surface.expressions.Args.{Args}
use Rattle.mesh_query_grammar.specs.declared.surface.expressions.Arm.{Arm}
use Rattle.mesh_query_grammar.specs.declared.surface.expressions.CatExpr.{CatExpr}
use Rattle.mesh_query_grammar.specs.declared.surface.expressions.MulExpr.{MulExpr}
use Rattle.mesh_query_grammar.specs.declared.surface.expressions.MulStep.{MulStep}
use Rattle.mesh_query_grammar.specs.declared.surface.expressions.NotExpr.{NotExpr}
use Rattle.mesh_query_grammar.specs.declared.surface.expressions.OrExpr.{OrExpr}
use Rattle.mesh_query_grammar.specs.declared.surface.expressions.Post.{Post}
use Rattle.mesh_query_grammar.specs.declared.surface.expressions.Pred.{Pred}
use Rattle.mesh_query_grammar.specs.declared.surface.expressions.Primary.{Primary}
use Rattle.mesh_query_grammar.specs.declared.surface.expressions.Test.{Test}
use Rattle.mesh_query_grammar.specs.declared.surface.expressions.Unary.{Unary}
use Rattle.mesh_query.specs.Sizes.{args_here, not_here, value_here as value_written, test_here, unary_here, sum_here, add_here, and_here, arm_here, cat_here, product_here, mul_here, or_here, post_here, pred_here}
use Rattle.mesh_resolve_types.specs.Sizes.{largest_case}

-- the comparison with a copy of the operand
abbrev pub copied : Option ℕ → ℕ
copied None = 0
copied (Some operand) = 1 + operand

-- NULL where no ELSE stands
abbrev pub otherwise_size : Option ℕ → ℕ
otherwise_size None = 1
otherwise_size (Some n) = n

-- a WHEN whose parts have so many nodes, beside an operand that has so many
abbrev pub when_size : Option ℕ → ℕ → ℕ
when_size operand written = copied operand + written

-- a value, with how many nodes each part has in its place
abbrev pub value_here : Primary-F ℕ ℕ ℕ ℕ ℕ ℕ ℕ ℕ ℕ ℕ ℕ ℕ ℕ ℕ ℕ → ℕ
value_here (Case at operand arms otherwise) = 1 + otherwise_size otherwise + sum (map (when_size operand) arms)
value_here other = value_written other

-- the size of an expression, and of each of its parts
abbrev pub size : OrExpr → ℕ
size = fold-OrExpr ℕ ℕ ℕ ℕ ℕ ℕ ℕ ℕ ℕ ℕ ℕ ℕ ℕ ℕ ℕ args_here not_here value_here test_here unary_here sum_here add_here and_here arm_here cat_here product_here mul_here or_here post_here pred_here

abbrev pub and_size : AndExpr → ℕ
and_size = fold-AndExpr ℕ ℕ ℕ ℕ ℕ ℕ ℕ ℕ ℕ ℕ ℕ ℕ ℕ ℕ ℕ args_here not_here value_here test_here unary_here sum_here add_here and_here arm_here cat_here product_here mul_here or_here post_here pred_here

abbrev pub not_size : NotExpr → ℕ
not_size = fold-NotExpr ℕ ℕ ℕ ℕ ℕ ℕ ℕ ℕ ℕ ℕ ℕ ℕ ℕ ℕ ℕ args_here not_here value_here test_here unary_here sum_here add_here and_here arm_here cat_here product_here mul_here or_here post_here pred_here

abbrev pub pred_size : Pred → ℕ
pred_size = fold-Pred ℕ ℕ ℕ ℕ ℕ ℕ ℕ ℕ ℕ ℕ ℕ ℕ ℕ ℕ ℕ args_here not_here value_here test_here unary_here sum_here add_here and_here arm_here cat_here product_here mul_here or_here post_here pred_here

abbrev pub test_size : Test → ℕ
test_size = fold-Test ℕ ℕ ℕ ℕ ℕ ℕ ℕ ℕ ℕ ℕ ℕ ℕ ℕ ℕ ℕ args_here not_here value_here test_here unary_here sum_here add_here and_here arm_here cat_here product_here mul_here or_here post_here pred_here

abbrev pub cat_size : CatExpr → ℕ
cat_size = fold-CatExpr ℕ ℕ ℕ ℕ ℕ ℕ ℕ ℕ ℕ ℕ ℕ ℕ ℕ ℕ ℕ args_here not_here value_here test_here unary_here sum_here add_here and_here arm_here cat_here product_here mul_here or_here post_here pred_here

abbrev pub sum_size : AddExpr → ℕ
sum_size = fold-AddExpr ℕ ℕ ℕ ℕ ℕ ℕ ℕ ℕ ℕ ℕ ℕ ℕ ℕ ℕ ℕ args_here not_here value_here test_here unary_here sum_here add_here and_here arm_here cat_here product_here mul_here or_here post_here pred_here

abbrev pub add_size : AddStep → ℕ
add_size = fold-AddStep ℕ ℕ ℕ ℕ ℕ ℕ ℕ ℕ ℕ ℕ ℕ ℕ ℕ ℕ ℕ args_here not_here value_here test_here unary_here sum_here add_here and_here arm_here cat_here product_here mul_here or_here post_here pred_here

abbrev pub product_size : MulExpr → ℕ
product_size = fold-MulExpr ℕ ℕ ℕ ℕ ℕ ℕ ℕ ℕ ℕ ℕ ℕ ℕ ℕ ℕ ℕ args_here not_here value_here test_here unary_here sum_here add_here and_here arm_here cat_here product_here mul_here or_here post_here pred_here

abbrev pub mul_size : MulStep → ℕ
mul_size = fold-MulStep ℕ ℕ ℕ ℕ ℕ ℕ ℕ ℕ ℕ ℕ ℕ ℕ ℕ ℕ ℕ args_here not_here value_here test_here unary_here sum_here add_here and_here arm_here cat_here product_here mul_here or_here post_here pred_here

abbrev pub unary_size : Unary → ℕ
unary_size = fold-Unary ℕ ℕ ℕ ℕ ℕ ℕ ℕ ℕ ℕ ℕ ℕ ℕ ℕ ℕ ℕ args_here not_here value_here test_here unary_here sum_here add_here and_here arm_here cat_here product_here mul_here or_here post_here pred_here

abbrev pub post_size : Post → ℕ
post_size = fold-Post ℕ ℕ ℕ ℕ ℕ ℕ ℕ ℕ ℕ ℕ ℕ ℕ ℕ ℕ ℕ args_here not_here value_here test_here unary_here sum_here add_here and_here arm_here cat_here product_here mul_here or_here post_here pred_here

abbrev pub value_size : Primary → ℕ
value_size = fold-Primary ℕ ℕ ℕ ℕ ℕ ℕ ℕ ℕ ℕ ℕ ℕ ℕ ℕ ℕ ℕ args_here not_here value_here test_here unary_here sum_here add_here and_here arm_here cat_here product_here mul_here or_here post_here pred_here

abbrev pub arm_size : Arm → ℕ
arm_size = fold-Arm ℕ ℕ ℕ ℕ ℕ ℕ ℕ ℕ ℕ ℕ ℕ ℕ ℕ ℕ ℕ args_here not_here value_here test_here unary_here sum_here add_here and_here arm_here cat_here product_here mul_here or_here post_here pred_here

abbrev pub args_size : Args → ℕ
args_size = fold-Args ℕ ℕ ℕ ℕ ℕ ℕ ℕ ℕ ℕ ℕ ℕ ℕ ℕ ℕ ℕ args_here not_here value_here test_here unary_here sum_here add_here and_here arm_here cat_here product_here mul_here or_here post_here pred_here

-- an expression that would take more nodes than one may
abbrev pub is_too_large : OrExpr → Bool
is_too_large e = nat_lt largest_case (size e)
