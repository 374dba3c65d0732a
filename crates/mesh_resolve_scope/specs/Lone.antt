-- A single name, in parentheses or not.
use Rattle.std.specs.Prelude.{ℕ, Bool, true, false, List, [], ◌∷◌}
use Rattle.std.specs.declared.option.Option.{Option}
use Rattle.std.specs.declared.option.Option.TheVariants.{None, Some}
use Rattle.mesh_query_grammar.specs.declared.surface.expressions.Args.TheOpen.{Args-F, NotExpr-F, Not, NotExpr::Plain, Primary-F, Column, Group, Test-F, Nothing, Unary-F, Minus, Unary::Plain, AddExpr-F, AddStep-F, AndExpr-F, Arm-F, CatExpr-F, MulExpr-F, MulStep-F, OrExpr-F, Post-F, Pred-F}
use Rattle.mesh_query_grammar.specs.declared.surface.expressions.Args.TheFolds.{fold-OrExpr, fold-AndExpr, fold-NotExpr, fold-Pred, fold-CatExpr, fold-AddExpr, fold-MulExpr, fold-Unary, fold-Post, fold-Primary, fold-Test}
use Rattle.mesh_query_grammar.specs.declared.surface.expressions.AddExpr.{AddExpr}
use Rattle.mesh_query_grammar.specs.declared.surface.expressions.AndExpr.{AndExpr}
use Rattle.mesh_query_grammar.specs.declared.surface.expressions.CatExpr.{CatExpr}
use Rattle.mesh_query_grammar.specs.declared.surface.expressions.MulExpr.{MulExpr}
use Rattle.mesh_query_grammar.specs.declared.surface.expressions.NotExpr.{NotExpr}
use Rattle.mesh_query_grammar.specs.declared.surface.expressions.OrExpr.{OrExpr}
use Rattle.mesh_query_grammar.specs.declared.surface.expressions.Post.{Post}
use Rattle.mesh_query_grammar.specs.declared.surface.expressions.Pred.{Pred}
use Rattle.mesh_query_grammar.specs.declared.surface.expressions.Primary.{Primary}
use Rattle.mesh_query_grammar.specs.declared.surface.expressions.Test.{Test}
use Rattle.mesh_query_grammar.specs.declared.surface.expressions.Unary.{Unary}

-- the name, where an expression is one
abbrev pub Lone : Type 0
Lone = Option (List ℕ)

-- what is no part of a single name
abbrev pub Unit0 : Type 0
Unit0 = Unit {0}

abbrev pub only : List Lone → Lone
only (name ∷ []) = name
only _ = None

abbrev pub alone : {A : Type 0} → Lone → List A → Lone
alone name [] = name
alone name (x ∷ xs) = None

abbrev pub untested : Lone → Bool → Lone
untested name true = name
untested name false = None

abbrev pub unqualified : Option (List ℕ) → List ℕ → Lone
unqualified None name = Some name
unqualified (Some item) name = None

abbrev pub or_here : OrExpr-F Unit0 Lone Lone Bool Lone Lone Unit0 Lone Unit0 Lone Lone Unit0 Lone Lone Lone → Lone
or_here e = only e.parts

abbrev pub and_here : AndExpr-F Unit0 Lone Lone Bool Lone Lone Unit0 Lone Unit0 Lone Lone Unit0 Lone Lone Lone → Lone
and_here e = only e.parts

abbrev pub cat_here : CatExpr-F Unit0 Lone Lone Bool Lone Lone Unit0 Lone Unit0 Lone Lone Unit0 Lone Lone Lone → Lone
cat_here e = only e.parts

abbrev pub sum_here : AddExpr-F Unit0 Lone Lone Bool Lone Lone Unit0 Lone Unit0 Lone Lone Unit0 Lone Lone Lone → Lone
sum_here e = alone e.first e.rest

abbrev pub product_here : MulExpr-F Unit0 Lone Lone Bool Lone Lone Unit0 Lone Unit0 Lone Lone Unit0 Lone Lone Lone → Lone
product_here e = alone e.first e.rest

abbrev pub not_here : NotExpr-F Unit0 Lone Lone Bool Lone Lone Unit0 Lone Unit0 Lone Lone Unit0 Lone Lone Lone → Lone
not_here (Not at inner) = None
not_here (NotExpr::Plain at pred) = pred

abbrev pub pred_here : Pred-F Unit0 Lone Lone Bool Lone Lone Unit0 Lone Unit0 Lone Lone Unit0 Lone Lone Lone → Lone
pred_here p = untested p.left p.test

abbrev pub test_here : Test-F Unit0 Lone Lone Bool Lone Lone Unit0 Lone Unit0 Lone Lone Unit0 Lone Lone Lone → Bool
test_here Nothing = true
test_here _ = false

abbrev pub unary_here : Unary-F Unit0 Lone Lone Bool Lone Lone Unit0 Lone Unit0 Lone Lone Unit0 Lone Lone Lone → Lone
unary_here (Minus at inner) = None
unary_here (Unary::Plain at post) = post

abbrev pub post_here : Post-F Unit0 Lone Lone Bool Lone Lone Unit0 Lone Unit0 Lone Lone Unit0 Lone Lone Lone → Lone
post_here p = alone p.value p.casts

abbrev pub value_here : Primary-F Unit0 Lone Lone Bool Lone Lone Unit0 Lone Unit0 Lone Lone Unit0 Lone Lone Lone → Lone
value_here (Column at item name) = unqualified item name
value_here (Group at inner) = inner
value_here _ = None

abbrev pub add_here : AddStep-F Unit0 Lone Lone Bool Lone Lone Unit0 Lone Unit0 Lone Lone Unit0 Lone Lone Lone → Unit0
add_here s = tt

abbrev pub mul_here : MulStep-F Unit0 Lone Lone Bool Lone Lone Unit0 Lone Unit0 Lone Lone Unit0 Lone Lone Lone → Unit0
mul_here s = tt

abbrev pub arm_here : Arm-F Unit0 Lone Lone Bool Lone Lone Unit0 Lone Unit0 Lone Lone Unit0 Lone Lone Lone → Unit0
arm_here a = tt

abbrev pub args_here : Args-F Unit0 Lone Lone Bool Lone Lone Unit0 Lone Unit0 Lone Lone Unit0 Lone Lone Lone → Unit0
args_here a = tt

-- the single name that an expression is, and the one that each of its parts is
unfoldable pub lone_name : OrExpr → Lone
lone_name = fold-OrExpr Unit0 Lone Lone Bool Lone Lone Unit0 Lone Unit0 Lone Lone Unit0 Lone Lone Lone args_here not_here value_here test_here unary_here sum_here add_here and_here arm_here cat_here product_here mul_here or_here post_here pred_here

unfoldable pub and_name : AndExpr → Lone
and_name = fold-AndExpr Unit0 Lone Lone Bool Lone Lone Unit0 Lone Unit0 Lone Lone Unit0 Lone Lone Lone args_here not_here value_here test_here unary_here sum_here add_here and_here arm_here cat_here product_here mul_here or_here post_here pred_here

unfoldable pub not_name : NotExpr → Lone
not_name = fold-NotExpr Unit0 Lone Lone Bool Lone Lone Unit0 Lone Unit0 Lone Lone Unit0 Lone Lone Lone args_here not_here value_here test_here unary_here sum_here add_here and_here arm_here cat_here product_here mul_here or_here post_here pred_here

unfoldable pub pred_name : Pred → Lone
pred_name = fold-Pred Unit0 Lone Lone Bool Lone Lone Unit0 Lone Unit0 Lone Lone Unit0 Lone Lone Lone args_here not_here value_here test_here unary_here sum_here add_here and_here arm_here cat_here product_here mul_here or_here post_here pred_here

unfoldable pub cat_name : CatExpr → Lone
cat_name = fold-CatExpr Unit0 Lone Lone Bool Lone Lone Unit0 Lone Unit0 Lone Lone Unit0 Lone Lone Lone args_here not_here value_here test_here unary_here sum_here add_here and_here arm_here cat_here product_here mul_here or_here post_here pred_here

unfoldable pub sum_name : AddExpr → Lone
sum_name = fold-AddExpr Unit0 Lone Lone Bool Lone Lone Unit0 Lone Unit0 Lone Lone Unit0 Lone Lone Lone args_here not_here value_here test_here unary_here sum_here add_here and_here arm_here cat_here product_here mul_here or_here post_here pred_here

unfoldable pub product_name : MulExpr → Lone
product_name = fold-MulExpr Unit0 Lone Lone Bool Lone Lone Unit0 Lone Unit0 Lone Lone Unit0 Lone Lone Lone args_here not_here value_here test_here unary_here sum_here add_here and_here arm_here cat_here product_here mul_here or_here post_here pred_here

unfoldable pub unary_name : Unary → Lone
unary_name = fold-Unary Unit0 Lone Lone Bool Lone Lone Unit0 Lone Unit0 Lone Lone Unit0 Lone Lone Lone args_here not_here value_here test_here unary_here sum_here add_here and_here arm_here cat_here product_here mul_here or_here post_here pred_here

unfoldable pub post_name : Post → Lone
post_name = fold-Post Unit0 Lone Lone Bool Lone Lone Unit0 Lone Unit0 Lone Lone Unit0 Lone Lone Lone args_here not_here value_here test_here unary_here sum_here add_here and_here arm_here cat_here product_here mul_here or_here post_here pred_here

unfoldable pub value_name : Primary → Lone
value_name = fold-Primary Unit0 Lone Lone Bool Lone Lone Unit0 Lone Unit0 Lone Lone Unit0 Lone Lone Lone args_here not_here value_here test_here unary_here sum_here add_here and_here arm_here cat_here product_here mul_here or_here post_here pred_here

-- nothing is asked about a value
unfoldable pub is_untested : Test → Bool
is_untested = fold-Test Unit0 Lone Lone Bool Lone Lone Unit0 Lone Unit0 Lone Lone Unit0 Lone Lone Lone args_here not_here value_here test_here unary_here sum_here add_here and_here arm_here cat_here product_here mul_here or_here post_here pred_here
