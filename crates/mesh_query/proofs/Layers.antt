-- How many nodes each form has, one layer at a time.
use Rattle.std.proofs.Common.{◌≡◌, ℕ, ℤ, ◌+◌, List, Bool, Option, Some, None, length, map, ap, sym, ◌∙◌}
use Rattle.std.specs.List.{sum}
use Rattle.std.specs.Option.{option_map}
use Rattle.mesh_base_values.specs.declared.values.ColType.{ColType}
use Rattle.mesh_query_grammar.specs.declared.surface.signs.Function.{Function}
use Rattle.mesh_query_grammar.specs.declared.surface.signs.Cmp.{Cmp}
use Rattle.mesh_query_grammar.specs.declared.surface.signs.AddSign.{AddSign}
use Rattle.mesh_query_grammar.specs.declared.surface.signs.MulSign.{MulSign}
use Rattle.mesh_query_grammar.specs.declared.surface.expressions.Args.TheOpen.{Star, Distinct, List as Values, Not, NotExpr::Plain, Number, Text, Date, Truth, Null, Macro, Column, Call, Group, Case, Cast, Nothing, Compare, IsNull, Between, OneOf, Minus, Unary::Plain}
use Rattle.mesh_query_grammar.specs.declared.surface.expressions.OrExpr.{OrExpr, roll-OrExpr, fold-roll-OrExpr}
use Rattle.mesh_query_grammar.specs.declared.surface.expressions.AndExpr.{AndExpr, roll-AndExpr, fold-roll-AndExpr}
use Rattle.mesh_query_grammar.specs.declared.surface.expressions.NotExpr.{NotExpr, fold-roll-NotExpr}
use Rattle.mesh_query_grammar.specs.declared.surface.expressions.NotExpr.TheVariants as the_not
use Rattle.mesh_query_grammar.specs.declared.surface.expressions.Pred.{Pred, roll-Pred, fold-roll-Pred}
use Rattle.mesh_query_grammar.specs.declared.surface.expressions.Test.{Test, fold-roll-Test}
use Rattle.mesh_query_grammar.specs.declared.surface.expressions.Test.TheVariants as the_test
use Rattle.mesh_query_grammar.specs.declared.surface.expressions.CatExpr.{CatExpr, roll-CatExpr, fold-roll-CatExpr}
use Rattle.mesh_query_grammar.specs.declared.surface.expressions.AddExpr.{AddExpr, roll-AddExpr, fold-roll-AddExpr}
use Rattle.mesh_query_grammar.specs.declared.surface.expressions.AddStep.{AddStep, roll-AddStep, fold-roll-AddStep}
use Rattle.mesh_query_grammar.specs.declared.surface.expressions.MulExpr.{MulExpr, roll-MulExpr, fold-roll-MulExpr}
use Rattle.mesh_query_grammar.specs.declared.surface.expressions.MulStep.{MulStep, roll-MulStep, fold-roll-MulStep}
use Rattle.mesh_query_grammar.specs.declared.surface.expressions.Unary.{Unary, fold-roll-Unary}
use Rattle.mesh_query_grammar.specs.declared.surface.expressions.Unary.TheVariants as the_unary
use Rattle.mesh_query_grammar.specs.declared.surface.expressions.Post.{Post, roll-Post, fold-roll-Post}
use Rattle.mesh_query_grammar.specs.declared.surface.expressions.Primary.{Primary, fold-roll-Primary}
use Rattle.mesh_query_grammar.specs.declared.surface.expressions.Primary.TheVariants as the_primary
use Rattle.mesh_query_grammar.specs.declared.surface.expressions.Arm.{Arm, roll-Arm, fold-roll-Arm}
use Rattle.mesh_query_grammar.specs.declared.surface.expressions.Args.{Args, fold-roll-Args}
use Rattle.mesh_query_grammar.specs.declared.surface.expressions.Args.TheVariants as the_args
use Rattle.mesh_query.specs.Sizes.{operators, some_nodes, nodes_of, and_nodes, not_nodes, pred_nodes, test_nodes, cat_nodes, sum_nodes, add_nodes, product_nodes, mul_nodes, unary_nodes, post_nodes, value_nodes, arm_nodes, args_nodes, args_here, not_here, value_here, test_here, unary_here, sum_here, add_here, and_here, arm_here, cat_here, product_here, mul_here, or_here, post_here, pred_here}

pub or_layer : (at : ℕ) (xs : List AndExpr) → nodes_of (roll-OrExpr (record { at = at; parts = xs })) ≡ operators (map and_nodes xs) + sum (map and_nodes xs)
or_layer at xs = fold-roll-OrExpr ℕ ℕ ℕ ℕ ℕ ℕ ℕ ℕ ℕ ℕ ℕ ℕ ℕ ℕ ℕ args_here not_here value_here test_here unary_here sum_here add_here and_here arm_here cat_here product_here mul_here or_here post_here pred_here (record { at = at; parts = xs })

pub and_layer : (at : ℕ) (xs : List NotExpr) → and_nodes (roll-AndExpr (record { at = at; parts = xs })) ≡ operators (map not_nodes xs) + sum (map not_nodes xs)
and_layer at xs = fold-roll-AndExpr ℕ ℕ ℕ ℕ ℕ ℕ ℕ ℕ ℕ ℕ ℕ ℕ ℕ ℕ ℕ args_here not_here value_here test_here unary_here sum_here add_here and_here arm_here cat_here product_here mul_here or_here post_here pred_here (record { at = at; parts = xs })

pub pred_layer : (at : ℕ) (l : CatExpr) (t : Test) → pred_nodes (roll-Pred (record { at = at; left = l; test = t })) ≡ cat_nodes l + test_nodes t
pred_layer at l t = fold-roll-Pred ℕ ℕ ℕ ℕ ℕ ℕ ℕ ℕ ℕ ℕ ℕ ℕ ℕ ℕ ℕ args_here not_here value_here test_here unary_here sum_here add_here and_here arm_here cat_here product_here mul_here or_here post_here pred_here (record { at = at; left = l; test = t })

pub cat_layer : (at : ℕ) (xs : List AddExpr) → cat_nodes (roll-CatExpr (record { at = at; parts = xs })) ≡ operators (map sum_nodes xs) + sum (map sum_nodes xs)
cat_layer at xs = fold-roll-CatExpr ℕ ℕ ℕ ℕ ℕ ℕ ℕ ℕ ℕ ℕ ℕ ℕ ℕ ℕ ℕ args_here not_here value_here test_here unary_here sum_here add_here and_here arm_here cat_here product_here mul_here or_here post_here pred_here (record { at = at; parts = xs })

pub sum_layer : (at : ℕ) (x : MulExpr) (xs : List AddStep) → sum_nodes (roll-AddExpr (record { at = at; first = x; rest = xs })) ≡ product_nodes x + sum (map add_nodes xs)
sum_layer at x xs = fold-roll-AddExpr ℕ ℕ ℕ ℕ ℕ ℕ ℕ ℕ ℕ ℕ ℕ ℕ ℕ ℕ ℕ args_here not_here value_here test_here unary_here sum_here add_here and_here arm_here cat_here product_here mul_here or_here post_here pred_here (record { at = at; first = x; rest = xs })

pub add_layer : (at : ℕ) (o : AddSign) (y : MulExpr) → add_nodes (roll-AddStep (record { at = at; sign = o; part = y })) ≡ 1 + product_nodes y
add_layer at o y = fold-roll-AddStep ℕ ℕ ℕ ℕ ℕ ℕ ℕ ℕ ℕ ℕ ℕ ℕ ℕ ℕ ℕ args_here not_here value_here test_here unary_here sum_here add_here and_here arm_here cat_here product_here mul_here or_here post_here pred_here (record { at = at; sign = o; part = y })

pub product_layer : (at : ℕ) (x : Unary) (xs : List MulStep) → product_nodes (roll-MulExpr (record { at = at; first = x; rest = xs })) ≡ unary_nodes x + sum (map mul_nodes xs)
product_layer at x xs = fold-roll-MulExpr ℕ ℕ ℕ ℕ ℕ ℕ ℕ ℕ ℕ ℕ ℕ ℕ ℕ ℕ ℕ args_here not_here value_here test_here unary_here sum_here add_here and_here arm_here cat_here product_here mul_here or_here post_here pred_here (record { at = at; first = x; rest = xs })

pub mul_layer : (at : ℕ) (o : MulSign) (y : Unary) → mul_nodes (roll-MulStep (record { at = at; sign = o; part = y })) ≡ 1 + unary_nodes y
mul_layer at o y = fold-roll-MulStep ℕ ℕ ℕ ℕ ℕ ℕ ℕ ℕ ℕ ℕ ℕ ℕ ℕ ℕ ℕ args_here not_here value_here test_here unary_here sum_here add_here and_here arm_here cat_here product_here mul_here or_here post_here pred_here (record { at = at; sign = o; part = y })

pub post_layer : (at : ℕ) (v : Primary) (ks : List ColType) → post_nodes (roll-Post (record { at = at; value = v; casts = ks })) ≡ value_nodes v + length ks
post_layer at v ks = fold-roll-Post ℕ ℕ ℕ ℕ ℕ ℕ ℕ ℕ ℕ ℕ ℕ ℕ ℕ ℕ ℕ args_here not_here value_here test_here unary_here sum_here add_here and_here arm_here cat_here product_here mul_here or_here post_here pred_here (record { at = at; value = v; casts = ks })

pub arm_layer : (at : ℕ) (t v : OrExpr) → arm_nodes (roll-Arm (record { at = at; test = t; value = v })) ≡ nodes_of t + nodes_of v
arm_layer at t v = fold-roll-Arm ℕ ℕ ℕ ℕ ℕ ℕ ℕ ℕ ℕ ℕ ℕ ℕ ℕ ℕ ℕ args_here not_here value_here test_here unary_here sum_here add_here and_here arm_here cat_here product_here mul_here or_here post_here pred_here (record { at = at; test = t; value = v })

pub not_layer : (at : ℕ) (x : NotExpr) → not_nodes (the_not.Not at x) ≡ 1 + not_nodes x
not_layer at x = ap not_nodes (sym (the_not.rolls-Not at x)) ∙ fold-roll-NotExpr ℕ ℕ ℕ ℕ ℕ ℕ ℕ ℕ ℕ ℕ ℕ ℕ ℕ ℕ ℕ args_here not_here value_here test_here unary_here sum_here add_here and_here arm_here cat_here product_here mul_here or_here post_here pred_here (Not at x)

pub plain_layer : (at : ℕ) (p : Pred) → not_nodes (the_not.Plain at p) ≡ pred_nodes p
plain_layer at p = ap not_nodes (sym (the_not.rolls-Plain at p)) ∙ fold-roll-NotExpr ℕ ℕ ℕ ℕ ℕ ℕ ℕ ℕ ℕ ℕ ℕ ℕ ℕ ℕ ℕ args_here not_here value_here test_here unary_here sum_here add_here and_here arm_here cat_here product_here mul_here or_here post_here pred_here (NotExpr::Plain at p)

pub nothing_layer : test_nodes the_test.Nothing ≡ 0
nothing_layer = ap test_nodes (sym the_test.rolls-Nothing) ∙ fold-roll-Test ℕ ℕ ℕ ℕ ℕ ℕ ℕ ℕ ℕ ℕ ℕ ℕ ℕ ℕ ℕ args_here not_here value_here test_here unary_here sum_here add_here and_here arm_here cat_here product_here mul_here or_here post_here pred_here Nothing

pub compare_layer : (o : Cmp) (r : CatExpr) → test_nodes (the_test.Compare o r) ≡ 1 + cat_nodes r
compare_layer o r = ap test_nodes (sym (the_test.rolls-Compare o r)) ∙ fold-roll-Test ℕ ℕ ℕ ℕ ℕ ℕ ℕ ℕ ℕ ℕ ℕ ℕ ℕ ℕ ℕ args_here not_here value_here test_here unary_here sum_here add_here and_here arm_here cat_here product_here mul_here or_here post_here pred_here (Compare o r)

pub is_null_layer : (g : Bool) → test_nodes (the_test.IsNull g) ≡ 1
is_null_layer g = ap test_nodes (sym (the_test.rolls-IsNull g)) ∙ fold-roll-Test ℕ ℕ ℕ ℕ ℕ ℕ ℕ ℕ ℕ ℕ ℕ ℕ ℕ ℕ ℕ args_here not_here value_here test_here unary_here sum_here add_here and_here arm_here cat_here product_here mul_here or_here post_here pred_here (IsNull g)

pub between_layer : (g : Bool) (a b : CatExpr) → test_nodes (the_test.Between g a b) ≡ 1 + (cat_nodes a + cat_nodes b)
between_layer g a b = ap test_nodes (sym (the_test.rolls-Between g a b)) ∙ fold-roll-Test ℕ ℕ ℕ ℕ ℕ ℕ ℕ ℕ ℕ ℕ ℕ ℕ ℕ ℕ ℕ args_here not_here value_here test_here unary_here sum_here add_here and_here arm_here cat_here product_here mul_here or_here post_here pred_here (Between g a b)

pub one_of_layer : (g : Bool) (xs : List OrExpr) → test_nodes (the_test.OneOf g xs) ≡ 1 + sum (map nodes_of xs)
one_of_layer g xs = ap test_nodes (sym (the_test.rolls-OneOf g xs)) ∙ fold-roll-Test ℕ ℕ ℕ ℕ ℕ ℕ ℕ ℕ ℕ ℕ ℕ ℕ ℕ ℕ ℕ args_here not_here value_here test_here unary_here sum_here add_here and_here arm_here cat_here product_here mul_here or_here post_here pred_here (OneOf g xs)

pub minus_layer : (at : ℕ) (x : Unary) → unary_nodes (the_unary.Minus at x) ≡ 1 + unary_nodes x
minus_layer at x = ap unary_nodes (sym (the_unary.rolls-Minus at x)) ∙ fold-roll-Unary ℕ ℕ ℕ ℕ ℕ ℕ ℕ ℕ ℕ ℕ ℕ ℕ ℕ ℕ ℕ args_here not_here value_here test_here unary_here sum_here add_here and_here arm_here cat_here product_here mul_here or_here post_here pred_here (Minus at x)

pub unsigned_layer : (at : ℕ) (p : Post) → unary_nodes (the_unary.Plain at p) ≡ post_nodes p
unsigned_layer at p = ap unary_nodes (sym (the_unary.rolls-Plain at p)) ∙ fold-roll-Unary ℕ ℕ ℕ ℕ ℕ ℕ ℕ ℕ ℕ ℕ ℕ ℕ ℕ ℕ ℕ args_here not_here value_here test_here unary_here sum_here add_here and_here arm_here cat_here product_here mul_here or_here post_here pred_here (Unary::Plain at p)

pub number_layer : (at n : ℕ) → value_nodes (the_primary.Number at n) ≡ 1
number_layer at n = ap value_nodes (sym (the_primary.rolls-Number at n)) ∙ fold-roll-Primary ℕ ℕ ℕ ℕ ℕ ℕ ℕ ℕ ℕ ℕ ℕ ℕ ℕ ℕ ℕ args_here not_here value_here test_here unary_here sum_here add_here and_here arm_here cat_here product_here mul_here or_here post_here pred_here (Number at n)

pub text_layer : (at : ℕ) (x : List ℕ) → value_nodes (the_primary.Text at x) ≡ 1
text_layer at x = ap value_nodes (sym (the_primary.rolls-Text at x)) ∙ fold-roll-Primary ℕ ℕ ℕ ℕ ℕ ℕ ℕ ℕ ℕ ℕ ℕ ℕ ℕ ℕ ℕ args_here not_here value_here test_here unary_here sum_here add_here and_here arm_here cat_here product_here mul_here or_here post_here pred_here (Text at x)

pub date_layer : (at : ℕ) (d : ℤ) → value_nodes (the_primary.Date at d) ≡ 1
date_layer at d = ap value_nodes (sym (the_primary.rolls-Date at d)) ∙ fold-roll-Primary ℕ ℕ ℕ ℕ ℕ ℕ ℕ ℕ ℕ ℕ ℕ ℕ ℕ ℕ ℕ args_here not_here value_here test_here unary_here sum_here add_here and_here arm_here cat_here product_here mul_here or_here post_here pred_here (Date at d)

pub truth_layer : (at : ℕ) (b : Bool) → value_nodes (the_primary.Truth at b) ≡ 1
truth_layer at b = ap value_nodes (sym (the_primary.rolls-Truth at b)) ∙ fold-roll-Primary ℕ ℕ ℕ ℕ ℕ ℕ ℕ ℕ ℕ ℕ ℕ ℕ ℕ ℕ ℕ args_here not_here value_here test_here unary_here sum_here add_here and_here arm_here cat_here product_here mul_here or_here post_here pred_here (Truth at b)

pub null_layer : (at : ℕ) → value_nodes (the_primary.Null at) ≡ 1
null_layer at = ap value_nodes (sym (the_primary.rolls-Null at)) ∙ fold-roll-Primary ℕ ℕ ℕ ℕ ℕ ℕ ℕ ℕ ℕ ℕ ℕ ℕ ℕ ℕ ℕ args_here not_here value_here test_here unary_here sum_here add_here and_here arm_here cat_here product_here mul_here or_here post_here pred_here (Null at)

pub macro_layer : (at : ℕ) (x : List ℕ) → value_nodes (the_primary.Macro at x) ≡ 1
macro_layer at x = ap value_nodes (sym (the_primary.rolls-Macro at x)) ∙ fold-roll-Primary ℕ ℕ ℕ ℕ ℕ ℕ ℕ ℕ ℕ ℕ ℕ ℕ ℕ ℕ ℕ args_here not_here value_here test_here unary_here sum_here add_here and_here arm_here cat_here product_here mul_here or_here post_here pred_here (Macro at x)

pub column_layer : (at : ℕ) (of : Option (List ℕ)) (x : List ℕ) → value_nodes (the_primary.Column at of x) ≡ 1
column_layer at of x = ap value_nodes (sym (the_primary.rolls-Column at of x)) ∙ fold-roll-Primary ℕ ℕ ℕ ℕ ℕ ℕ ℕ ℕ ℕ ℕ ℕ ℕ ℕ ℕ ℕ args_here not_here value_here test_here unary_here sum_here add_here and_here arm_here cat_here product_here mul_here or_here post_here pred_here (Column at of x)

pub call_layer : (at : ℕ) (f : Function) (a : Args) → value_nodes (the_primary.Call at f a) ≡ 1 + args_nodes a
call_layer at f a = ap value_nodes (sym (the_primary.rolls-Call at f a)) ∙ fold-roll-Primary ℕ ℕ ℕ ℕ ℕ ℕ ℕ ℕ ℕ ℕ ℕ ℕ ℕ ℕ ℕ args_here not_here value_here test_here unary_here sum_here add_here and_here arm_here cat_here product_here mul_here or_here post_here pred_here (Call at f a)

pub group_layer : (at : ℕ) (x : OrExpr) → value_nodes (the_primary.Group at x) ≡ nodes_of x
group_layer at x = ap value_nodes (sym (the_primary.rolls-Group at x)) ∙ fold-roll-Primary ℕ ℕ ℕ ℕ ℕ ℕ ℕ ℕ ℕ ℕ ℕ ℕ ℕ ℕ ℕ args_here not_here value_here test_here unary_here sum_here add_here and_here arm_here cat_here product_here mul_here or_here post_here pred_here (Group at x)

pub case_layer : (at : ℕ) (o : Option OrExpr) (xs : List Arm) (e : Option OrExpr) → value_nodes (the_primary.Case at o xs e) ≡ 1 + (some_nodes (option_map nodes_of o) + (sum (map arm_nodes xs) + some_nodes (option_map nodes_of e)))
case_layer at None xs None = ap value_nodes (sym (the_primary.rolls-Case at None xs None)) ∙ fold-roll-Primary ℕ ℕ ℕ ℕ ℕ ℕ ℕ ℕ ℕ ℕ ℕ ℕ ℕ ℕ ℕ args_here not_here value_here test_here unary_here sum_here add_here and_here arm_here cat_here product_here mul_here or_here post_here pred_here (Case at None xs None)
case_layer at None xs (Some e) = ap value_nodes (sym (the_primary.rolls-Case at None xs (Some e))) ∙ fold-roll-Primary ℕ ℕ ℕ ℕ ℕ ℕ ℕ ℕ ℕ ℕ ℕ ℕ ℕ ℕ ℕ args_here not_here value_here test_here unary_here sum_here add_here and_here arm_here cat_here product_here mul_here or_here post_here pred_here (Case at None xs (Some e))
case_layer at (Some o) xs None = ap value_nodes (sym (the_primary.rolls-Case at (Some o) xs None)) ∙ fold-roll-Primary ℕ ℕ ℕ ℕ ℕ ℕ ℕ ℕ ℕ ℕ ℕ ℕ ℕ ℕ ℕ args_here not_here value_here test_here unary_here sum_here add_here and_here arm_here cat_here product_here mul_here or_here post_here pred_here (Case at (Some o) xs None)
case_layer at (Some o) xs (Some e) = ap value_nodes (sym (the_primary.rolls-Case at (Some o) xs (Some e))) ∙ fold-roll-Primary ℕ ℕ ℕ ℕ ℕ ℕ ℕ ℕ ℕ ℕ ℕ ℕ ℕ ℕ ℕ args_here not_here value_here test_here unary_here sum_here add_here and_here arm_here cat_here product_here mul_here or_here post_here pred_here (Case at (Some o) xs (Some e))

pub cast_layer : (at : ℕ) (x : OrExpr) (to : ColType) → value_nodes (the_primary.Cast at x to) ≡ 1 + nodes_of x
cast_layer at x to = ap value_nodes (sym (the_primary.rolls-Cast at x to)) ∙ fold-roll-Primary ℕ ℕ ℕ ℕ ℕ ℕ ℕ ℕ ℕ ℕ ℕ ℕ ℕ ℕ ℕ args_here not_here value_here test_here unary_here sum_here add_here and_here arm_here cat_here product_here mul_here or_here post_here pred_here (Cast at x to)

pub star_layer : (at : ℕ) → args_nodes (the_args.Star at) ≡ 0
star_layer at = ap args_nodes (sym (the_args.rolls-Star at)) ∙ fold-roll-Args ℕ ℕ ℕ ℕ ℕ ℕ ℕ ℕ ℕ ℕ ℕ ℕ ℕ ℕ ℕ args_here not_here value_here test_here unary_here sum_here add_here and_here arm_here cat_here product_here mul_here or_here post_here pred_here (Star at)

pub distinct_layer : (at : ℕ) (x : OrExpr) → args_nodes (the_args.Distinct at x) ≡ nodes_of x
distinct_layer at x = ap args_nodes (sym (the_args.rolls-Distinct at x)) ∙ fold-roll-Args ℕ ℕ ℕ ℕ ℕ ℕ ℕ ℕ ℕ ℕ ℕ ℕ ℕ ℕ ℕ args_here not_here value_here test_here unary_here sum_here add_here and_here arm_here cat_here product_here mul_here or_here post_here pred_here (Distinct at x)

pub list_layer : (at : ℕ) (xs : List OrExpr) → args_nodes (the_args.List at xs) ≡ sum (map nodes_of xs)
list_layer at xs = ap args_nodes (sym (the_args.rolls-List at xs)) ∙ fold-roll-Args ℕ ℕ ℕ ℕ ℕ ℕ ℕ ℕ ℕ ℕ ℕ ℕ ℕ ℕ ℕ args_here not_here value_here test_here unary_here sum_here add_here and_here arm_here cat_here product_here mul_here or_here post_here pred_here (Values at xs)
