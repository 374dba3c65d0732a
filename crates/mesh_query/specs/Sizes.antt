-- How many nodes an expression has, and whether none of a query has more than one may have. A node is a literal, a
-- column, a macro, an operator, a function, a CASE, a CAST, an IS NULL, a BETWEEN or an IN; parentheses are none.
use Rattle.std.specs.Prelude.{ℕ, ◌+◌, ◌-◌, Bool, true, ◌&&◌, List, length, Option, Some, None, nat_le}
use Rattle.std.specs.List.{list_all, sum}
use Rattle.mesh_query_grammar.specs.declared.surface.expressions.Args.TheOpen.{Args-F, Star, Distinct, List as Values, NotExpr-F, Not, NotExpr::Plain, Primary-F, Number, Text, Date, Truth, Null, Macro, Column, Call, Group, Case, Cast, Test-F, Nothing, Compare, IsNull, Between, OneOf, Unary-F, Minus, Unary::Plain, AddExpr-F, AddStep-F, AndExpr-F, Arm-F, CatExpr-F, MulExpr-F, MulStep-F, OrExpr-F, Post-F, Pred-F}
use Rattle.mesh_query_grammar.specs.declared.surface.expressions.Args.TheFolds.{fold-Args, fold-NotExpr, fold-Primary, fold-Test, fold-Unary, fold-AddExpr, fold-AddStep, fold-AndExpr, fold-Arm, fold-CatExpr, fold-MulExpr, fold-MulStep, fold-OrExpr, fold-Post, fold-Pred}
use Rattle.mesh_query_grammar.specs.declared.surface.expressions.AddExpr.{AddExpr}
use Rattle.mesh_query_grammar.specs.declared.surface.expressions.AddStep.{AddStep}
use Rattle.mesh_query_grammar.specs.declared.surface.expressions.AndExpr.{AndExpr}
use Rattle.mesh_query_grammar.specs.declared.surface.expressions.Args.{Args}
use Rattle.mesh_query_grammar.specs.declared.surface.expressions.Arm.{Arm}
use Rattle.mesh_query_grammar.specs.declared.surface.expressions.CatExpr.{CatExpr}
use Rattle.mesh_query_grammar.specs.declared.surface.expressions.MulExpr.{MulExpr}
use Rattle.mesh_query_grammar.specs.declared.surface.expressions.MulStep.{MulStep}
use Rattle.mesh_query_grammar.specs.declared.surface.expressions.NotExpr.{NotExpr}
use Rattle.mesh_query_grammar.specs.declared.surface.expressions.OrExpr.{OrExpr}
use Rattle.mesh_query_grammar.specs.declared.surface.expressions.Post.{Post}
use Rattle.mesh_query_grammar.specs.declared.surface.expressions.Pred.{Pred}
use Rattle.mesh_query_grammar.specs.declared.surface.expressions.Primary.{Primary}
use Rattle.mesh_query_grammar.specs.declared.surface.expressions.Test.{Test}
use Rattle.mesh_query_grammar.specs.declared.surface.expressions.Unary.{Unary}
use Rattle.mesh_query_grammar.specs.declared.surface.queries.Surface.{Surface}
use Rattle.mesh_query_grammar.specs.declared.surface.queries.SurfaceCte.{SurfaceCte}
use Rattle.mesh_query_grammar.specs.declared.surface.queries.SurfaceFrom.{SurfaceFrom}
use Rattle.mesh_query_grammar.specs.declared.surface.queries.SurfaceItem.{SurfaceItem}
use Rattle.mesh_query_grammar.specs.declared.surface.queries.SurfaceItem.TheVariants as the_item
use Rattle.mesh_query_grammar.specs.declared.surface.queries.SurfaceJoin.{SurfaceJoin}
use Rattle.mesh_query_grammar.specs.declared.surface.queries.SurfaceJoin.TheVariants as the_join
use Rattle.mesh_query_grammar.specs.declared.surface.queries.SurfaceSelect.{SurfaceSelect}
use Rattle.mesh_query_grammar.specs.declared.surface.queries.SurfaceUnion.{SurfaceUnion}

-- nodes of one expression
abbrev pub most_nodes : ℕ
most_nodes = 4096

-- the operators between parts
abbrev pub operators : List ℕ → ℕ
operators parts = length parts - 1

-- the nodes of a part that may be absent
abbrev pub some_nodes : Option ℕ → ℕ
some_nodes None = 0
some_nodes (Some n) = n

-- One layer of the tree, with how many nodes each part has in its place. n parts have n - 1 operators between them.
abbrev pub or_here : OrExpr-F ℕ ℕ ℕ ℕ ℕ ℕ ℕ ℕ ℕ ℕ ℕ ℕ ℕ ℕ ℕ → ℕ
or_here e = operators e.parts + sum e.parts

abbrev pub and_here : AndExpr-F ℕ ℕ ℕ ℕ ℕ ℕ ℕ ℕ ℕ ℕ ℕ ℕ ℕ ℕ ℕ → ℕ
and_here e = operators e.parts + sum e.parts

abbrev pub not_here : NotExpr-F ℕ ℕ ℕ ℕ ℕ ℕ ℕ ℕ ℕ ℕ ℕ ℕ ℕ ℕ ℕ → ℕ
not_here (Not at inner) = 1 + inner
not_here (NotExpr::Plain at pred) = pred

abbrev pub pred_here : Pred-F ℕ ℕ ℕ ℕ ℕ ℕ ℕ ℕ ℕ ℕ ℕ ℕ ℕ ℕ ℕ → ℕ
pred_here p = p.left + p.test

abbrev pub test_here : Test-F ℕ ℕ ℕ ℕ ℕ ℕ ℕ ℕ ℕ ℕ ℕ ℕ ℕ ℕ ℕ → ℕ
test_here Nothing = 0
test_here (Compare cmp right) = 1 + right
test_here (IsNull negated) = 1
test_here (Between negated low high) = 1 + (low + high)
test_here (OneOf negated of) = 1 + sum of

abbrev pub cat_here : CatExpr-F ℕ ℕ ℕ ℕ ℕ ℕ ℕ ℕ ℕ ℕ ℕ ℕ ℕ ℕ ℕ → ℕ
cat_here e = operators e.parts + sum e.parts

abbrev pub sum_here : AddExpr-F ℕ ℕ ℕ ℕ ℕ ℕ ℕ ℕ ℕ ℕ ℕ ℕ ℕ ℕ ℕ → ℕ
sum_here e = e.first + sum e.rest

abbrev pub add_here : AddStep-F ℕ ℕ ℕ ℕ ℕ ℕ ℕ ℕ ℕ ℕ ℕ ℕ ℕ ℕ ℕ → ℕ
add_here s = 1 + s.part

abbrev pub product_here : MulExpr-F ℕ ℕ ℕ ℕ ℕ ℕ ℕ ℕ ℕ ℕ ℕ ℕ ℕ ℕ ℕ → ℕ
product_here e = e.first + sum e.rest

abbrev pub mul_here : MulStep-F ℕ ℕ ℕ ℕ ℕ ℕ ℕ ℕ ℕ ℕ ℕ ℕ ℕ ℕ ℕ → ℕ
mul_here s = 1 + s.part

abbrev pub unary_here : Unary-F ℕ ℕ ℕ ℕ ℕ ℕ ℕ ℕ ℕ ℕ ℕ ℕ ℕ ℕ ℕ → ℕ
unary_here (Minus at inner) = 1 + inner
unary_here (Unary::Plain at post) = post

-- each `::` is one
abbrev pub post_here : Post-F ℕ ℕ ℕ ℕ ℕ ℕ ℕ ℕ ℕ ℕ ℕ ℕ ℕ ℕ ℕ → ℕ
post_here p = p.value + length p.casts

-- parentheses are none
abbrev pub value_here : Primary-F ℕ ℕ ℕ ℕ ℕ ℕ ℕ ℕ ℕ ℕ ℕ ℕ ℕ ℕ ℕ → ℕ
value_here (Number at value) = 1
value_here (Text at text) = 1
value_here (Date at day) = 1
value_here (Truth at value) = 1
value_here (Null at) = 1
value_here (Macro at name) = 1
value_here (Column at item name) = 1
value_here (Call at function args) = 1 + args
value_here (Group at inner) = inner
value_here (Case at operand arms otherwise) = 1 + (some_nodes operand + (sum arms + some_nodes otherwise))
value_here (Cast at value to) = 1 + value

abbrev pub arm_here : Arm-F ℕ ℕ ℕ ℕ ℕ ℕ ℕ ℕ ℕ ℕ ℕ ℕ ℕ ℕ ℕ → ℕ
arm_here a = a.test + a.value

-- the arguments, behind their function's name
abbrev pub args_here : Args-F ℕ ℕ ℕ ℕ ℕ ℕ ℕ ℕ ℕ ℕ ℕ ℕ ℕ ℕ ℕ → ℕ
args_here (Star at) = 0
args_here (Distinct at value) = value
args_here (Values at values) = sum values

-- how many nodes an expression has, and each of its parts
abbrev pub nodes_of : OrExpr → ℕ
nodes_of = fold-OrExpr ℕ ℕ ℕ ℕ ℕ ℕ ℕ ℕ ℕ ℕ ℕ ℕ ℕ ℕ ℕ args_here not_here value_here test_here unary_here sum_here add_here and_here arm_here cat_here product_here mul_here or_here post_here pred_here

abbrev pub and_nodes : AndExpr → ℕ
and_nodes = fold-AndExpr ℕ ℕ ℕ ℕ ℕ ℕ ℕ ℕ ℕ ℕ ℕ ℕ ℕ ℕ ℕ args_here not_here value_here test_here unary_here sum_here add_here and_here arm_here cat_here product_here mul_here or_here post_here pred_here

abbrev pub not_nodes : NotExpr → ℕ
not_nodes = fold-NotExpr ℕ ℕ ℕ ℕ ℕ ℕ ℕ ℕ ℕ ℕ ℕ ℕ ℕ ℕ ℕ args_here not_here value_here test_here unary_here sum_here add_here and_here arm_here cat_here product_here mul_here or_here post_here pred_here

abbrev pub pred_nodes : Pred → ℕ
pred_nodes = fold-Pred ℕ ℕ ℕ ℕ ℕ ℕ ℕ ℕ ℕ ℕ ℕ ℕ ℕ ℕ ℕ args_here not_here value_here test_here unary_here sum_here add_here and_here arm_here cat_here product_here mul_here or_here post_here pred_here

abbrev pub test_nodes : Test → ℕ
test_nodes = fold-Test ℕ ℕ ℕ ℕ ℕ ℕ ℕ ℕ ℕ ℕ ℕ ℕ ℕ ℕ ℕ args_here not_here value_here test_here unary_here sum_here add_here and_here arm_here cat_here product_here mul_here or_here post_here pred_here

abbrev pub cat_nodes : CatExpr → ℕ
cat_nodes = fold-CatExpr ℕ ℕ ℕ ℕ ℕ ℕ ℕ ℕ ℕ ℕ ℕ ℕ ℕ ℕ ℕ args_here not_here value_here test_here unary_here sum_here add_here and_here arm_here cat_here product_here mul_here or_here post_here pred_here

abbrev pub sum_nodes : AddExpr → ℕ
sum_nodes = fold-AddExpr ℕ ℕ ℕ ℕ ℕ ℕ ℕ ℕ ℕ ℕ ℕ ℕ ℕ ℕ ℕ args_here not_here value_here test_here unary_here sum_here add_here and_here arm_here cat_here product_here mul_here or_here post_here pred_here

abbrev pub add_nodes : AddStep → ℕ
add_nodes = fold-AddStep ℕ ℕ ℕ ℕ ℕ ℕ ℕ ℕ ℕ ℕ ℕ ℕ ℕ ℕ ℕ args_here not_here value_here test_here unary_here sum_here add_here and_here arm_here cat_here product_here mul_here or_here post_here pred_here

abbrev pub product_nodes : MulExpr → ℕ
product_nodes = fold-MulExpr ℕ ℕ ℕ ℕ ℕ ℕ ℕ ℕ ℕ ℕ ℕ ℕ ℕ ℕ ℕ args_here not_here value_here test_here unary_here sum_here add_here and_here arm_here cat_here product_here mul_here or_here post_here pred_here

abbrev pub mul_nodes : MulStep → ℕ
mul_nodes = fold-MulStep ℕ ℕ ℕ ℕ ℕ ℕ ℕ ℕ ℕ ℕ ℕ ℕ ℕ ℕ ℕ args_here not_here value_here test_here unary_here sum_here add_here and_here arm_here cat_here product_here mul_here or_here post_here pred_here

abbrev pub unary_nodes : Unary → ℕ
unary_nodes = fold-Unary ℕ ℕ ℕ ℕ ℕ ℕ ℕ ℕ ℕ ℕ ℕ ℕ ℕ ℕ ℕ args_here not_here value_here test_here unary_here sum_here add_here and_here arm_here cat_here product_here mul_here or_here post_here pred_here

abbrev pub post_nodes : Post → ℕ
post_nodes = fold-Post ℕ ℕ ℕ ℕ ℕ ℕ ℕ ℕ ℕ ℕ ℕ ℕ ℕ ℕ ℕ args_here not_here value_here test_here unary_here sum_here add_here and_here arm_here cat_here product_here mul_here or_here post_here pred_here

abbrev pub value_nodes : Primary → ℕ
value_nodes = fold-Primary ℕ ℕ ℕ ℕ ℕ ℕ ℕ ℕ ℕ ℕ ℕ ℕ ℕ ℕ ℕ args_here not_here value_here test_here unary_here sum_here add_here and_here arm_here cat_here product_here mul_here or_here post_here pred_here

abbrev pub arm_nodes : Arm → ℕ
arm_nodes = fold-Arm ℕ ℕ ℕ ℕ ℕ ℕ ℕ ℕ ℕ ℕ ℕ ℕ ℕ ℕ ℕ args_here not_here value_here test_here unary_here sum_here add_here and_here arm_here cat_here product_here mul_here or_here post_here pred_here

abbrev pub args_nodes : Args → ℕ
args_nodes = fold-Args ℕ ℕ ℕ ℕ ℕ ℕ ℕ ℕ ℕ ℕ ℕ ℕ ℕ ℕ ℕ args_here not_here value_here test_here unary_here sum_here add_here and_here arm_here cat_here product_here mul_here or_here post_here pred_here

-- an expression that has no more nodes than it may have
abbrev pub is_small : OrExpr → Bool
is_small e = nat_le (nodes_of e) most_nodes

-- the same for one that may be absent
abbrev pub is_some_small : Option OrExpr → Bool
is_some_small None = true
is_some_small (Some e) = is_small e

abbrev pub is_item_small : SurfaceItem → Bool
is_item_small (the_item.All at) = true
is_item_small (the_item.AllOf at item) = true
is_item_small (the_item.Value at value alias) = is_small value

-- the ON of a join
abbrev pub is_join_small : SurfaceJoin → Bool
is_join_small (the_join.Comma at rel) = true
is_join_small (the_join.Cross at rel) = true
is_join_small (the_join.Inner at rel on) = is_small on
is_join_small (the_join.Left at rel on) = is_small on

abbrev pub is_from_small : Option SurfaceFrom → Bool
is_from_small None = true
is_from_small (Some from) = list_all is_join_small from.joins

-- each item, each ON, the WHERE, each key of the GROUP BY and the HAVING
abbrev pub is_select_small : SurfaceSelect → Bool
is_select_small s =
    list_all is_item_small s.items
    && (is_from_small s.from
    && (is_some_small s.filter && (list_all is_small s.keys && is_some_small s.having)))

abbrev pub is_union_small : SurfaceUnion → Bool
is_union_small u = list_all is_select_small u.selects

abbrev pub is_cte_small : SurfaceCte → Bool
is_cte_small c = is_union_small c.body

-- each expression of a query has no more nodes than it may have
abbrev pub is_within : Surface → Bool
is_within q = list_all is_cte_small q.ctes && is_union_small q.body
