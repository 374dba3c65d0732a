-- What each layer of the tree stands for.
use Rattle.std.proofs.Common.{◌≡◌, ℕ, ℤ, List, Bool, Option, Some, None, Ok, map, ap, sym, ◌∙◌}
use Rattle.mesh_base_values.specs.declared.values.ColType.{ColType}
use Rattle.mesh_base_values.specs.declared.values.ColType.TheVariants.{Text as TextType, Date as DateType, Bool as Boolean}
use Rattle.mesh_base_values.specs.declared.values.Cell.TheVariants as cell
use Rattle.mesh_base.specs.declared.expressions.Expr as expr
use Rattle.mesh_query_grammar.specs.declared.surface.signs.Function.{Function}
use Rattle.mesh_query_grammar.specs.declared.surface.signs.Cmp.{Cmp}
use Rattle.mesh_query_grammar.specs.declared.surface.expressions.Args.TheOpen.{Star, Distinct, List as Values, Not, NotExpr::Plain, Number, Text, Date, Truth, Null, Macro, Column, Call, Group, Case, Cast, Nothing, Compare, IsNull, Between, OneOf, Minus, Unary::Plain}
use Rattle.mesh_query_grammar.specs.declared.surface.expressions.OrExpr.{OrExpr, out-OrExpr, roll-out-OrExpr, fold-roll-OrExpr}
use Rattle.mesh_query_grammar.specs.declared.surface.expressions.AndExpr.{AndExpr, out-AndExpr, roll-out-AndExpr, fold-roll-AndExpr}
use Rattle.mesh_query_grammar.specs.declared.surface.expressions.NotExpr.{NotExpr, fold-roll-NotExpr}
use Rattle.mesh_query_grammar.specs.declared.surface.expressions.Pred.{Pred, out-Pred, roll-out-Pred, fold-roll-Pred}
use Rattle.mesh_query_grammar.specs.declared.surface.expressions.Test.{fold-roll-Test}
use Rattle.mesh_query_grammar.specs.declared.surface.expressions.CatExpr.{CatExpr, out-CatExpr, roll-out-CatExpr, fold-roll-CatExpr}
use Rattle.mesh_query_grammar.specs.declared.surface.expressions.AddExpr.{AddExpr, out-AddExpr, roll-out-AddExpr, fold-roll-AddExpr}
use Rattle.mesh_query_grammar.specs.declared.surface.expressions.AddStep.{AddStep, out-AddStep, roll-out-AddStep, fold-roll-AddStep}
use Rattle.mesh_query_grammar.specs.declared.surface.expressions.MulExpr.{MulExpr, out-MulExpr, roll-out-MulExpr, fold-roll-MulExpr}
use Rattle.mesh_query_grammar.specs.declared.surface.expressions.MulStep.{MulStep, out-MulStep, roll-out-MulStep, fold-roll-MulStep}
use Rattle.mesh_query_grammar.specs.declared.surface.expressions.Unary.{Unary, fold-roll-Unary}
use Rattle.mesh_query_grammar.specs.declared.surface.expressions.Post.{Post, out-Post, roll-out-Post, fold-roll-Post}
use Rattle.mesh_query_grammar.specs.declared.surface.expressions.Primary.{fold-roll-Primary}
use Rattle.mesh_query_grammar.specs.declared.surface.expressions.Arm.{Arm, out-Arm, roll-out-Arm, fold-roll-Arm}
use Rattle.mesh_query_grammar.specs.declared.surface.expressions.Args.{Args, fold-roll-Args}
use Rattle.mesh_query_grammar.specs.declared.surface.expressions.NotExpr.TheVariants as the_not
use Rattle.mesh_query_grammar.specs.declared.surface.expressions.Test.TheVariants as the_test
use Rattle.mesh_query_grammar.specs.declared.surface.expressions.Unary.TheVariants as the_unary
use Rattle.mesh_query_grammar.specs.declared.surface.expressions.Primary.TheVariants as the_primary
use Rattle.mesh_query_grammar.specs.declared.surface.expressions.Args.TheVariants as the_args
use Rattle.mesh_query_tokens.specs.Gives.{◌>>=◌}
use Rattle.mesh_resolve_scope.specs.sight.InSight.{Sight}
use Rattle.mesh_resolve_types.specs.declared.typed.Typed.{Typed}
use Rattle.mesh_query_tokens.specs.Walk.{along}
use Rattle.mesh_resolve_types.specs.Forms.{Read, leaf, either, both, joined, multiplied, added, negated, denied, null_test, turned, compare_op, compared, between, one_of, cast, called, starred, distinct, cased}
use Rattle.mesh_resolve_scope.specs.sight.Sight.{column, macro_typed}
use Rattle.mesh_resolve_scope.specs.Expressions.{Behind, Arguments, ArmRead, chain, steps, number, one_cast, args_here, not_here, value_here, test_here, unary_here, sum_here, add_here, and_here, arm_here, cat_here, product_here, mul_here, or_here, post_here, pred_here, typed, and_typed, not_typed, pred_typed, test_typed, cat_typed, sum_typed, add_typed, product_typed, mul_typed, unary_typed, post_typed, value_typed, arm_typed, args_typed, some_typed, all_typed, arms_typed}

pub or_layer : (sight : Sight) (e : OrExpr) → typed sight e ≡ chain (out-OrExpr e).at (either (out-OrExpr e).at) (map (and_typed sight) (out-OrExpr e).parts)
unfolding typed and_typed not_typed pred_typed test_typed cat_typed sum_typed add_typed product_typed mul_typed unary_typed post_typed value_typed arm_typed args_typed
or_layer sight e = ap (typed sight) (sym (roll-out-OrExpr e)) ∙ fold-roll-OrExpr Arguments Read Read Behind Read Read Behind Read ArmRead Read Read Behind Read Read Read args_here not_here (value_here sight) test_here unary_here sum_here add_here and_here arm_here cat_here product_here mul_here or_here post_here pred_here (out-OrExpr e)

pub and_layer : (sight : Sight) (e : AndExpr) → and_typed sight e ≡ chain (out-AndExpr e).at (both (out-AndExpr e).at) (map (not_typed sight) (out-AndExpr e).parts)
unfolding typed and_typed not_typed pred_typed test_typed cat_typed sum_typed add_typed product_typed mul_typed unary_typed post_typed value_typed arm_typed args_typed
and_layer sight e = ap (and_typed sight) (sym (roll-out-AndExpr e)) ∙ fold-roll-AndExpr Arguments Read Read Behind Read Read Behind Read ArmRead Read Read Behind Read Read Read args_here not_here (value_here sight) test_here unary_here sum_here add_here and_here arm_here cat_here product_here mul_here or_here post_here pred_here (out-AndExpr e)

pub cat_layer : (sight : Sight) (e : CatExpr) → cat_typed sight e ≡ chain (out-CatExpr e).at (joined (out-CatExpr e).at) (map (sum_typed sight) (out-CatExpr e).parts)
unfolding typed and_typed not_typed pred_typed test_typed cat_typed sum_typed add_typed product_typed mul_typed unary_typed post_typed value_typed arm_typed args_typed
cat_layer sight e = ap (cat_typed sight) (sym (roll-out-CatExpr e)) ∙ fold-roll-CatExpr Arguments Read Read Behind Read Read Behind Read ArmRead Read Read Behind Read Read Read args_here not_here (value_here sight) test_here unary_here sum_here add_here and_here arm_here cat_here product_here mul_here or_here post_here pred_here (out-CatExpr e)

pub pred_layer : (sight : Sight) (e : Pred) → pred_typed sight e ≡ (cat_typed sight (out-Pred e).left >>= test_typed sight (out-Pred e).test (out-Pred e).at)
unfolding typed and_typed not_typed pred_typed test_typed cat_typed sum_typed add_typed product_typed mul_typed unary_typed post_typed value_typed arm_typed args_typed
pred_layer sight e = ap (pred_typed sight) (sym (roll-out-Pred e)) ∙ fold-roll-Pred Arguments Read Read Behind Read Read Behind Read ArmRead Read Read Behind Read Read Read args_here not_here (value_here sight) test_here unary_here sum_here add_here and_here arm_here cat_here product_here mul_here or_here post_here pred_here (out-Pred e)

pub sum_layer : (sight : Sight) (e : AddExpr) → sum_typed sight e ≡ steps (out-AddExpr e).at (product_typed sight (out-AddExpr e).first) (map (add_typed sight) (out-AddExpr e).rest)
unfolding typed and_typed not_typed pred_typed test_typed cat_typed sum_typed add_typed product_typed mul_typed unary_typed post_typed value_typed arm_typed args_typed
sum_layer sight e = ap (sum_typed sight) (sym (roll-out-AddExpr e)) ∙ fold-roll-AddExpr Arguments Read Read Behind Read Read Behind Read ArmRead Read Read Behind Read Read Read args_here not_here (value_here sight) test_here unary_here sum_here add_here and_here arm_here cat_here product_here mul_here or_here post_here pred_here (out-AddExpr e)

pub product_layer : (sight : Sight) (e : MulExpr) → product_typed sight e ≡ steps (out-MulExpr e).at (unary_typed sight (out-MulExpr e).first) (map (mul_typed sight) (out-MulExpr e).rest)
unfolding typed and_typed not_typed pred_typed test_typed cat_typed sum_typed add_typed product_typed mul_typed unary_typed post_typed value_typed arm_typed args_typed
product_layer sight e = ap (product_typed sight) (sym (roll-out-MulExpr e)) ∙ fold-roll-MulExpr Arguments Read Read Behind Read Read Behind Read ArmRead Read Read Behind Read Read Read args_here not_here (value_here sight) test_here unary_here sum_here add_here and_here arm_here cat_here product_here mul_here or_here post_here pred_here (out-MulExpr e)

pub add_layer : (sight : Sight) (e : AddStep) (at : ℕ) (left : Typed) → add_typed sight e at left ≡ (product_typed sight (out-AddStep e).part >>= added (out-AddStep e).sign at left)
unfolding typed and_typed not_typed pred_typed test_typed cat_typed sum_typed add_typed product_typed mul_typed unary_typed post_typed value_typed arm_typed args_typed
add_layer sight e at left = ap (λ g. g at left) (ap (add_typed sight) (sym (roll-out-AddStep e)) ∙ fold-roll-AddStep Arguments Read Read Behind Read Read Behind Read ArmRead Read Read Behind Read Read Read args_here not_here (value_here sight) test_here unary_here sum_here add_here and_here arm_here cat_here product_here mul_here or_here post_here pred_here (out-AddStep e))

pub mul_layer : (sight : Sight) (e : MulStep) (at : ℕ) (left : Typed) → mul_typed sight e at left ≡ (unary_typed sight (out-MulStep e).part >>= multiplied (out-MulStep e).sign at left)
unfolding typed and_typed not_typed pred_typed test_typed cat_typed sum_typed add_typed product_typed mul_typed unary_typed post_typed value_typed arm_typed args_typed
mul_layer sight e at left = ap (λ g. g at left) (ap (mul_typed sight) (sym (roll-out-MulStep e)) ∙ fold-roll-MulStep Arguments Read Read Behind Read Read Behind Read ArmRead Read Read Behind Read Read Read args_here not_here (value_here sight) test_here unary_here sum_here add_here and_here arm_here cat_here product_here mul_here or_here post_here pred_here (out-MulStep e))

pub post_layer : (sight : Sight) (e : Post) → post_typed sight e ≡ (value_typed sight (out-Post e).value >>= λ t. along (one_cast (out-Post e).at) t (out-Post e).casts)
unfolding typed and_typed not_typed pred_typed test_typed cat_typed sum_typed add_typed product_typed mul_typed unary_typed post_typed value_typed arm_typed args_typed
post_layer sight e = ap (post_typed sight) (sym (roll-out-Post e)) ∙ fold-roll-Post Arguments Read Read Behind Read Read Behind Read ArmRead Read Read Behind Read Read Read args_here not_here (value_here sight) test_here unary_here sum_here add_here and_here arm_here cat_here product_here mul_here or_here post_here pred_here (out-Post e)

pub arm_layer : (sight : Sight) (e : Arm) → arm_typed sight e ≡ (typed sight (out-Arm e).test >>= λ test. typed sight (out-Arm e).value >>= λ value. Ok (test, value))
unfolding typed and_typed not_typed pred_typed test_typed cat_typed sum_typed add_typed product_typed mul_typed unary_typed post_typed value_typed arm_typed args_typed
arm_layer sight e = ap (arm_typed sight) (sym (roll-out-Arm e)) ∙ fold-roll-Arm Arguments Read Read Behind Read Read Behind Read ArmRead Read Read Behind Read Read Read args_here not_here (value_here sight) test_here unary_here sum_here add_here and_here arm_here cat_here product_here mul_here or_here post_here pred_here (out-Arm e)

pub not_layer : (sight : Sight) (at : ℕ) (x : NotExpr) → not_typed sight (the_not.Not at x) ≡ (not_typed sight x >>= denied at)
unfolding typed and_typed not_typed pred_typed test_typed cat_typed sum_typed add_typed product_typed mul_typed unary_typed post_typed value_typed arm_typed args_typed
not_layer sight at x = ap (not_typed sight) (sym (the_not.rolls-Not at x)) ∙ fold-roll-NotExpr Arguments Read Read Behind Read Read Behind Read ArmRead Read Read Behind Read Read Read args_here not_here (value_here sight) test_here unary_here sum_here add_here and_here arm_here cat_here product_here mul_here or_here post_here pred_here (Not at x)

pub plain_layer : (sight : Sight) (at : ℕ) (p : Pred) → not_typed sight (the_not.Plain at p) ≡ pred_typed sight p
unfolding typed and_typed not_typed pred_typed test_typed cat_typed sum_typed add_typed product_typed mul_typed unary_typed post_typed value_typed arm_typed args_typed
plain_layer sight at p = ap (not_typed sight) (sym (the_not.rolls-Plain at p)) ∙ fold-roll-NotExpr Arguments Read Read Behind Read Read Behind Read ArmRead Read Read Behind Read Read Read args_here not_here (value_here sight) test_here unary_here sum_here add_here and_here arm_here cat_here product_here mul_here or_here post_here pred_here (NotExpr::Plain at p)

pub nothing_layer : (sight : Sight) (at : ℕ) (left : Typed) → test_typed sight (the_test.Nothing) at left ≡ Ok left
unfolding typed and_typed not_typed pred_typed test_typed cat_typed sum_typed add_typed product_typed mul_typed unary_typed post_typed value_typed arm_typed args_typed
nothing_layer sight at left = ap (λ g. g at left) (ap (test_typed sight) (sym the_test.rolls-Nothing) ∙ fold-roll-Test Arguments Read Read Behind Read Read Behind Read ArmRead Read Read Behind Read Read Read args_here not_here (value_here sight) test_here unary_here sum_here add_here and_here arm_here cat_here product_here mul_here or_here post_here pred_here Nothing)

pub compare_layer : (sight : Sight) (o : Cmp) (r : CatExpr) (at : ℕ) (left : Typed) → test_typed sight (the_test.Compare o r) at left ≡ (cat_typed sight r >>= compared (compare_op o) at left)
unfolding typed and_typed not_typed pred_typed test_typed cat_typed sum_typed add_typed product_typed mul_typed unary_typed post_typed value_typed arm_typed args_typed
compare_layer sight o r at left = ap (λ g. g at left) (ap (test_typed sight) (sym (the_test.rolls-Compare o r)) ∙ fold-roll-Test Arguments Read Read Behind Read Read Behind Read ArmRead Read Read Behind Read Read Read args_here not_here (value_here sight) test_here unary_here sum_here add_here and_here arm_here cat_here product_here mul_here or_here post_here pred_here (Compare o r))

pub is_null_layer : (sight : Sight) (g : Bool) (at : ℕ) (left : Typed) → test_typed sight (the_test.IsNull g) at left ≡ Ok (turned g (null_test at left))
unfolding typed and_typed not_typed pred_typed test_typed cat_typed sum_typed add_typed product_typed mul_typed unary_typed post_typed value_typed arm_typed args_typed
is_null_layer sight g at left = ap (λ g. g at left) (ap (test_typed sight) (sym (the_test.rolls-IsNull g)) ∙ fold-roll-Test Arguments Read Read Behind Read Read Behind Read ArmRead Read Read Behind Read Read Read args_here not_here (value_here sight) test_here unary_here sum_here add_here and_here arm_here cat_here product_here mul_here or_here post_here pred_here (IsNull g))

pub between_layer : (sight : Sight) (g : Bool) (a : CatExpr) (b : CatExpr) (at : ℕ) (left : Typed) → test_typed sight (the_test.Between g a b) at left ≡ (cat_typed sight a >>= λ low. cat_typed sight b >>= λ high. between at left low high >>= λ t. Ok (turned g t))
unfolding typed and_typed not_typed pred_typed test_typed cat_typed sum_typed add_typed product_typed mul_typed unary_typed post_typed value_typed arm_typed args_typed
between_layer sight g a b at left = ap (λ g. g at left) (ap (test_typed sight) (sym (the_test.rolls-Between g a b)) ∙ fold-roll-Test Arguments Read Read Behind Read Read Behind Read ArmRead Read Read Behind Read Read Read args_here not_here (value_here sight) test_here unary_here sum_here add_here and_here arm_here cat_here product_here mul_here or_here post_here pred_here (Between g a b))

pub one_of_layer : (sight : Sight) (g : Bool) (xs : List OrExpr) (at : ℕ) (left : Typed) → test_typed sight (the_test.OneOf g xs) at left ≡ (all_typed sight xs >>= λ of. one_of at left of >>= λ t. Ok (turned g t))
unfolding typed and_typed not_typed pred_typed test_typed cat_typed sum_typed add_typed product_typed mul_typed unary_typed post_typed value_typed arm_typed args_typed
one_of_layer sight g xs at left = ap (λ g. g at left) (ap (test_typed sight) (sym (the_test.rolls-OneOf g xs)) ∙ fold-roll-Test Arguments Read Read Behind Read Read Behind Read ArmRead Read Read Behind Read Read Read args_here not_here (value_here sight) test_here unary_here sum_here add_here and_here arm_here cat_here product_here mul_here or_here post_here pred_here (OneOf g xs))

pub minus_layer : (sight : Sight) (at : ℕ) (x : Unary) → unary_typed sight (the_unary.Minus at x) ≡ (unary_typed sight x >>= negated at)
unfolding typed and_typed not_typed pred_typed test_typed cat_typed sum_typed add_typed product_typed mul_typed unary_typed post_typed value_typed arm_typed args_typed
minus_layer sight at x = ap (unary_typed sight) (sym (the_unary.rolls-Minus at x)) ∙ fold-roll-Unary Arguments Read Read Behind Read Read Behind Read ArmRead Read Read Behind Read Read Read args_here not_here (value_here sight) test_here unary_here sum_here add_here and_here arm_here cat_here product_here mul_here or_here post_here pred_here (Minus at x)

pub unsigned_layer : (sight : Sight) (at : ℕ) (p : Post) → unary_typed sight (the_unary.Plain at p) ≡ post_typed sight p
unfolding typed and_typed not_typed pred_typed test_typed cat_typed sum_typed add_typed product_typed mul_typed unary_typed post_typed value_typed arm_typed args_typed
unsigned_layer sight at p = ap (unary_typed sight) (sym (the_unary.rolls-Plain at p)) ∙ fold-roll-Unary Arguments Read Read Behind Read Read Behind Read ArmRead Read Read Behind Read Read Read args_here not_here (value_here sight) test_here unary_here sum_here add_here and_here arm_here cat_here product_here mul_here or_here post_here pred_here (Unary::Plain at p)

pub number_layer : (sight : Sight) (at : ℕ) (n : ℕ) → value_typed sight (the_primary.Number at n) ≡ number at n
unfolding typed and_typed not_typed pred_typed test_typed cat_typed sum_typed add_typed product_typed mul_typed unary_typed post_typed value_typed arm_typed args_typed
number_layer sight at n = ap (value_typed sight) (sym (the_primary.rolls-Number at n)) ∙ fold-roll-Primary Arguments Read Read Behind Read Read Behind Read ArmRead Read Read Behind Read Read Read args_here not_here (value_here sight) test_here unary_here sum_here add_here and_here arm_here cat_here product_here mul_here or_here post_here pred_here (Number at n)

pub text_layer : (sight : Sight) (at : ℕ) (x : List ℕ) → value_typed sight (the_primary.Text at x) ≡ Ok (leaf at (Some TextType) (expr.Literal (cell.Text x)))
unfolding typed and_typed not_typed pred_typed test_typed cat_typed sum_typed add_typed product_typed mul_typed unary_typed post_typed value_typed arm_typed args_typed
text_layer sight at x = ap (value_typed sight) (sym (the_primary.rolls-Text at x)) ∙ fold-roll-Primary Arguments Read Read Behind Read Read Behind Read ArmRead Read Read Behind Read Read Read args_here not_here (value_here sight) test_here unary_here sum_here add_here and_here arm_here cat_here product_here mul_here or_here post_here pred_here (Text at x)

pub date_layer : (sight : Sight) (at : ℕ) (d : ℤ) → value_typed sight (the_primary.Date at d) ≡ Ok (leaf at (Some DateType) (expr.Literal (cell.Date d)))
unfolding typed and_typed not_typed pred_typed test_typed cat_typed sum_typed add_typed product_typed mul_typed unary_typed post_typed value_typed arm_typed args_typed
date_layer sight at d = ap (value_typed sight) (sym (the_primary.rolls-Date at d)) ∙ fold-roll-Primary Arguments Read Read Behind Read Read Behind Read ArmRead Read Read Behind Read Read Read args_here not_here (value_here sight) test_here unary_here sum_here add_here and_here arm_here cat_here product_here mul_here or_here post_here pred_here (Date at d)

pub truth_layer : (sight : Sight) (at : ℕ) (b : Bool) → value_typed sight (the_primary.Truth at b) ≡ Ok (leaf at (Some Boolean) (expr.Literal (cell.Bool b)))
unfolding typed and_typed not_typed pred_typed test_typed cat_typed sum_typed add_typed product_typed mul_typed unary_typed post_typed value_typed arm_typed args_typed
truth_layer sight at b = ap (value_typed sight) (sym (the_primary.rolls-Truth at b)) ∙ fold-roll-Primary Arguments Read Read Behind Read Read Behind Read ArmRead Read Read Behind Read Read Read args_here not_here (value_here sight) test_here unary_here sum_here add_here and_here arm_here cat_here product_here mul_here or_here post_here pred_here (Truth at b)

pub null_layer : (sight : Sight) (at : ℕ) → value_typed sight (the_primary.Null at) ≡ Ok (leaf at None (expr.Literal cell.Null))
unfolding typed and_typed not_typed pred_typed test_typed cat_typed sum_typed add_typed product_typed mul_typed unary_typed post_typed value_typed arm_typed args_typed
null_layer sight at = ap (value_typed sight) (sym (the_primary.rolls-Null at)) ∙ fold-roll-Primary Arguments Read Read Behind Read Read Behind Read ArmRead Read Read Behind Read Read Read args_here not_here (value_here sight) test_here unary_here sum_here add_here and_here arm_here cat_here product_here mul_here or_here post_here pred_here (Null at)

pub macro_layer : (sight : Sight) (at : ℕ) (x : List ℕ) → value_typed sight (the_primary.Macro at x) ≡ macro_typed sight at x
unfolding typed and_typed not_typed pred_typed test_typed cat_typed sum_typed add_typed product_typed mul_typed unary_typed post_typed value_typed arm_typed args_typed
macro_layer sight at x = ap (value_typed sight) (sym (the_primary.rolls-Macro at x)) ∙ fold-roll-Primary Arguments Read Read Behind Read Read Behind Read ArmRead Read Read Behind Read Read Read args_here not_here (value_here sight) test_here unary_here sum_here add_here and_here arm_here cat_here product_here mul_here or_here post_here pred_here (Macro at x)

pub column_layer : (sight : Sight) (at : ℕ) (of : Option (List ℕ)) (x : List ℕ) → value_typed sight (the_primary.Column at of x) ≡ column sight at of x
unfolding typed and_typed not_typed pred_typed test_typed cat_typed sum_typed add_typed product_typed mul_typed unary_typed post_typed value_typed arm_typed args_typed
column_layer sight at of x = ap (value_typed sight) (sym (the_primary.rolls-Column at of x)) ∙ fold-roll-Primary Arguments Read Read Behind Read Read Behind Read ArmRead Read Read Behind Read Read Read args_here not_here (value_here sight) test_here unary_here sum_here add_here and_here arm_here cat_here product_here mul_here or_here post_here pred_here (Column at of x)

pub call_layer : (sight : Sight) (at : ℕ) (f : Function) (a : Args) → value_typed sight (the_primary.Call at f a) ≡ args_typed sight a at f
unfolding typed and_typed not_typed pred_typed test_typed cat_typed sum_typed add_typed product_typed mul_typed unary_typed post_typed value_typed arm_typed args_typed
call_layer sight at f a = ap (value_typed sight) (sym (the_primary.rolls-Call at f a)) ∙ fold-roll-Primary Arguments Read Read Behind Read Read Behind Read ArmRead Read Read Behind Read Read Read args_here not_here (value_here sight) test_here unary_here sum_here add_here and_here arm_here cat_here product_here mul_here or_here post_here pred_here (Call at f a)

pub group_layer : (sight : Sight) (at : ℕ) (x : OrExpr) → value_typed sight (the_primary.Group at x) ≡ typed sight x
unfolding typed and_typed not_typed pred_typed test_typed cat_typed sum_typed add_typed product_typed mul_typed unary_typed post_typed value_typed arm_typed args_typed
group_layer sight at x = ap (value_typed sight) (sym (the_primary.rolls-Group at x)) ∙ fold-roll-Primary Arguments Read Read Behind Read Read Behind Read ArmRead Read Read Behind Read Read Read args_here not_here (value_here sight) test_here unary_here sum_here add_here and_here arm_here cat_here product_here mul_here or_here post_here pred_here (Group at x)

pub case_layer : (sight : Sight) (at : ℕ) (o : Option OrExpr) (xs : List Arm) (e : Option OrExpr) → value_typed sight (the_primary.Case at o xs e) ≡ (some_typed sight o >>= λ operand. arms_typed sight xs >>= λ arms. some_typed sight e >>= λ otherwise. cased at operand arms otherwise)
unfolding typed and_typed not_typed pred_typed test_typed cat_typed sum_typed add_typed product_typed mul_typed unary_typed post_typed value_typed arm_typed args_typed
case_layer sight at None xs None = ap (value_typed sight) (sym (the_primary.rolls-Case at None xs None)) ∙ fold-roll-Primary Arguments Read Read Behind Read Read Behind Read ArmRead Read Read Behind Read Read Read args_here not_here (value_here sight) test_here unary_here sum_here add_here and_here arm_here cat_here product_here mul_here or_here post_here pred_here (Case at None xs None)
case_layer sight at None xs (Some e) = ap (value_typed sight) (sym (the_primary.rolls-Case at None xs (Some e))) ∙ fold-roll-Primary Arguments Read Read Behind Read Read Behind Read ArmRead Read Read Behind Read Read Read args_here not_here (value_here sight) test_here unary_here sum_here add_here and_here arm_here cat_here product_here mul_here or_here post_here pred_here (Case at None xs (Some e))
case_layer sight at (Some o) xs None = ap (value_typed sight) (sym (the_primary.rolls-Case at (Some o) xs None)) ∙ fold-roll-Primary Arguments Read Read Behind Read Read Behind Read ArmRead Read Read Behind Read Read Read args_here not_here (value_here sight) test_here unary_here sum_here add_here and_here arm_here cat_here product_here mul_here or_here post_here pred_here (Case at (Some o) xs None)
case_layer sight at (Some o) xs (Some e) = ap (value_typed sight) (sym (the_primary.rolls-Case at (Some o) xs (Some e))) ∙ fold-roll-Primary Arguments Read Read Behind Read Read Behind Read ArmRead Read Read Behind Read Read Read args_here not_here (value_here sight) test_here unary_here sum_here add_here and_here arm_here cat_here product_here mul_here or_here post_here pred_here (Case at (Some o) xs (Some e))

pub cast_layer : (sight : Sight) (at : ℕ) (x : OrExpr) (to : ColType) → value_typed sight (the_primary.Cast at x to) ≡ (typed sight x >>= cast at to)
unfolding typed and_typed not_typed pred_typed test_typed cat_typed sum_typed add_typed product_typed mul_typed unary_typed post_typed value_typed arm_typed args_typed
cast_layer sight at x to = ap (value_typed sight) (sym (the_primary.rolls-Cast at x to)) ∙ fold-roll-Primary Arguments Read Read Behind Read Read Behind Read ArmRead Read Read Behind Read Read Read args_here not_here (value_here sight) test_here unary_here sum_here add_here and_here arm_here cat_here product_here mul_here or_here post_here pred_here (Cast at x to)

pub star_layer : (sight : Sight) (begin : ℕ) (at : ℕ) (f : Function) → args_typed sight (the_args.Star begin) at f ≡ starred at f
unfolding typed and_typed not_typed pred_typed test_typed cat_typed sum_typed add_typed product_typed mul_typed unary_typed post_typed value_typed arm_typed args_typed
star_layer sight begin at f = ap (λ g. g at f) (ap (args_typed sight) (sym (the_args.rolls-Star begin)) ∙ fold-roll-Args Arguments Read Read Behind Read Read Behind Read ArmRead Read Read Behind Read Read Read args_here not_here (value_here sight) test_here unary_here sum_here add_here and_here arm_here cat_here product_here mul_here or_here post_here pred_here (Star begin))

pub distinct_layer : (sight : Sight) (begin : ℕ) (x : OrExpr) (at : ℕ) (f : Function) → args_typed sight (the_args.Distinct begin x) at f ≡ (typed sight x >>= distinct at f)
unfolding typed and_typed not_typed pred_typed test_typed cat_typed sum_typed add_typed product_typed mul_typed unary_typed post_typed value_typed arm_typed args_typed
distinct_layer sight begin x at f = ap (λ g. g at f) (ap (args_typed sight) (sym (the_args.rolls-Distinct begin x)) ∙ fold-roll-Args Arguments Read Read Behind Read Read Behind Read ArmRead Read Read Behind Read Read Read args_here not_here (value_here sight) test_here unary_here sum_here add_here and_here arm_here cat_here product_here mul_here or_here post_here pred_here (Distinct begin x))

pub list_layer : (sight : Sight) (begin : ℕ) (xs : List OrExpr) (at : ℕ) (f : Function) → args_typed sight (the_args.List begin xs) at f ≡ (all_typed sight xs >>= called at f)
unfolding typed and_typed not_typed pred_typed test_typed cat_typed sum_typed add_typed product_typed mul_typed unary_typed post_typed value_typed arm_typed args_typed
list_layer sight begin xs at f = ap (λ g. g at f) (ap (args_typed sight) (sym (the_args.rolls-List begin xs)) ∙ fold-roll-Args Arguments Read Read Behind Read Read Behind Read ArmRead Read Read Behind Read Read Read args_here not_here (value_here sight) test_here unary_here sum_here add_here and_here arm_here cat_here product_here mul_here or_here post_here pred_here (Values begin xs))
