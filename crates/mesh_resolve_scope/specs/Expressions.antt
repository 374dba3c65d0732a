-- The walk through an expression: operands from left to right, and then the form over them.
use Rattle.std.specs.Prelude.{ℕ, List, [], ◌∷◌, map, pos, nat_le, Result, Ok, Err}
use Rattle.std.specs.Option.{option_map}
use Rattle.std.specs.declared.option.Option.{Option}
use Rattle.std.specs.declared.option.Option.TheVariants.{None, Some}
use Rattle.mesh_base_values.specs.declared.values.ColType.{ColType}
use Rattle.mesh_base_values.specs.declared.values.ColType.TheVariants.{Int, Text as TextType, Date as DateType, Bool as Boolean}
use Rattle.mesh_base_values.specs.declared.values.Cell.TheVariants as cell
use Rattle.mesh_base.specs.declared.expressions.Expr as expr
use Rattle.mesh_query_grammar.specs.declared.surface.signs.Function.{Function}
use Rattle.mesh_query_grammar.specs.declared.surface.expressions.Args.TheOpen.{Args-F, Star, Distinct, List as Values, NotExpr-F, Not, NotExpr::Plain, Primary-F, Number, Text, Date, Truth, Null, Macro, Column, Call, Group, Case, Cast, Test-F, Nothing, Compare, IsNull, Between, OneOf, Unary-F, Minus, Unary::Plain, AddExpr-F, AddStep-F, AndExpr-F, Arm-F, CatExpr-F, MulExpr-F, MulStep-F, OrExpr-F, Post-F, Pred-F}
use Rattle.mesh_query_grammar.specs.declared.surface.expressions.Args.TheFolds.{fold-Args, fold-NotExpr, fold-Primary, fold-Test, fold-Unary, fold-AddExpr, fold-AddStep, fold-AndExpr, fold-Arm, fold-CatExpr, fold-MulExpr, fold-MulStep, fold-OrExpr, fold-Post, fold-Pred}
use Rattle.mesh_query_grammar.specs.declared.surface.expressions.AddExpr.{AddExpr}
use Rattle.mesh_query_grammar.specs.declared.surface.expressions.AddStep.{AddStep}
use Rattle.mesh_query_grammar.specs.declared.surface.expressions.AndExpr.{AndExpr}
use Rattle.mesh_query_grammar.specs.declared.surface.expressions.Args.{Args}
use Rattle.mesh_query_grammar.specs.declared.surface.expressions.Arm.{Arm}
use Rattle.mesh_query_grammar.specs.declared.surface.expressions.CatExpr.{CatExpr}
use Rattle.mesh_query_grammar.specs.declared.surface.expressions.MulExpr.{MulExpr}
use Rattle.mesh_query_grammar.specs.declared.surface.expressions.MulStep.{MulStep}
use Rattle.mesh_query_grammar.specs.declared.surface.expressions.NotExpr.{NotExpr}
use Rattle.mesh_query_grammar.specs.declared.surface.expressions.OrExpr.{OrExpr}
use Rattle.mesh_query_grammar.specs.declared.surface.expressions.Post.{Post}
use Rattle.mesh_query_grammar.specs.declared.surface.expressions.Pred.{Pred}
use Rattle.mesh_query_grammar.specs.declared.surface.expressions.Primary.{Primary}
use Rattle.mesh_query_grammar.specs.declared.surface.expressions.Test.{Test}
use Rattle.mesh_query_grammar.specs.declared.surface.expressions.Unary.{Unary}
use Rattle.mesh_query_tokens.specs.Gives.{◌>>=◌}
use Rattle.mesh_query_tokens.specs.declared.faults.ReadFault.{ReadFault}
use Rattle.mesh_resolve_scope.specs.sight.InSight.{Sight}
use Rattle.mesh_resolve_types.specs.declared.typed.Typed.{Typed}
use Rattle.mesh_resolve_types.specs.Faults.{unwritten, too_large_number, largest_number}
use Rattle.mesh_query_tokens.specs.Walk.{provided, along, all_of, some_of}
use Rattle.mesh_resolve_types.specs.Forms.{Read, leaf, either, both, joined, multiplied, added, negated, denied, null_test, turned, compare_op, compared, between, one_of, cast, called, starred, distinct, cased}
use Rattle.mesh_resolve_scope.specs.sight.Sight.{column, macro_typed}

-- What each part of the tree stands for. A test or a step is behind its left operand, in a form that begins at this
-- place; arguments are behind their function.
abbrev pub Behind : Type 0
Behind = ℕ → Typed → Read

abbrev pub Arguments : Type 0
Arguments = ℕ → Function → Read

abbrev pub ArmRead : Type 0
ArmRead = Result (Typed × Typed) ReadFault

-- one more operand to the right
abbrev pub then_right : (Typed → Typed → Read) → Typed → Read → Read
then_right form left right = right >>= form left

-- one or more parts, from left to right
abbrev pub chain : ℕ → (Typed → Typed → Read) → List Read → Read
chain at form [] = Err (unwritten at)
chain at form (r ∷ rs) = r >>= λ left. along (then_right form) left rs

-- steps behind a first part
abbrev pub one_step : ℕ → Typed → Behind → Read
one_step at left step = step at left

abbrev pub steps : ℕ → Read → List Behind → Read
steps at first rest = first >>= λ left. along (one_step at) left rest

abbrev pub number : ℕ → ℕ → Read
number at value = provided (nat_le value largest_number) (leaf at (Some Int) (expr.Literal (cell.Int (pos value)))) (too_large_number at)

-- One layer of the tree, with what each part stands for in its place.
abbrev pub or_here : OrExpr-F Arguments Read Read Behind Read Read Behind Read ArmRead Read Read Behind Read Read Read → Read
or_here e = chain e.at (either e.at) e.parts

abbrev pub and_here : AndExpr-F Arguments Read Read Behind Read Read Behind Read ArmRead Read Read Behind Read Read Read → Read
and_here e = chain e.at (both e.at) e.parts

abbrev pub not_here : NotExpr-F Arguments Read Read Behind Read Read Behind Read ArmRead Read Read Behind Read Read Read → Read
not_here (Not at inner) = inner >>= denied at
not_here (NotExpr::Plain at pred) = pred

abbrev pub pred_here : Pred-F Arguments Read Read Behind Read Read Behind Read ArmRead Read Read Behind Read Read Read → Read
pred_here p = p.left >>= p.test p.at

abbrev pub test_here : Test-F Arguments Read Read Behind Read Read Behind Read ArmRead Read Read Behind Read Read Read → Behind
test_here Nothing at left = Ok left
test_here (Compare cmp right) at left = right >>= compared (compare_op cmp) at left
test_here (IsNull negated) at left = Ok (turned negated (null_test at left))
test_here (Between negated low high) at left = do
  low ← low
  high ← high
  t ← between at left low high
  Ok (turned negated t)
test_here (OneOf negated of) at left = do
  of ← all_of of
  t ← one_of at left of
  Ok (turned negated t)

abbrev pub cat_here : CatExpr-F Arguments Read Read Behind Read Read Behind Read ArmRead Read Read Behind Read Read Read → Read
cat_here e = chain e.at (joined e.at) e.parts

abbrev pub sum_here : AddExpr-F Arguments Read Read Behind Read Read Behind Read ArmRead Read Read Behind Read Read Read → Read
sum_here e = steps e.at e.first e.rest

abbrev pub add_here : AddStep-F Arguments Read Read Behind Read Read Behind Read ArmRead Read Read Behind Read Read Read → Behind
add_here s at left = s.part >>= added s.sign at left

abbrev pub product_here : MulExpr-F Arguments Read Read Behind Read Read Behind Read ArmRead Read Read Behind Read Read Read → Read
product_here e = steps e.at e.first e.rest

abbrev pub mul_here : MulStep-F Arguments Read Read Behind Read Read Behind Read ArmRead Read Read Behind Read Read Read → Behind
mul_here s at left = s.part >>= multiplied s.sign at left

abbrev pub unary_here : Unary-F Arguments Read Read Behind Read Read Behind Read ArmRead Read Read Behind Read Read Read → Read
unary_here (Minus at inner) = inner >>= negated at
unary_here (Unary::Plain at post) = post

abbrev pub one_cast : ℕ → Typed → ColType → Read
one_cast at t to = cast at to t

abbrev pub post_here : Post-F Arguments Read Read Behind Read Read Behind Read ArmRead Read Read Behind Read Read Read → Read
post_here p = p.value >>= λ t. along (one_cast p.at) t p.casts

abbrev pub value_here : Sight → Primary-F Arguments Read Read Behind Read Read Behind Read ArmRead Read Read Behind Read Read Read → Read
value_here sight (Number at value) = number at value
value_here sight (Text at text) = Ok (leaf at (Some TextType) (expr.Literal (cell.Text text)))
value_here sight (Date at day) = Ok (leaf at (Some DateType) (expr.Literal (cell.Date day)))
value_here sight (Truth at value) = Ok (leaf at (Some Boolean) (expr.Literal (cell.Bool value)))
value_here sight (Null at) = Ok (leaf at None (expr.Literal cell.Null))
value_here sight (Macro at name) = macro_typed sight at name
value_here sight (Column at item name) = column sight at item name
value_here sight (Call at function args) = args at function
value_here sight (Group at inner) = inner
value_here sight (Case at operand arms otherwise) = do
  operand ← some_of operand
  arms ← all_of arms
  otherwise ← some_of otherwise
  cased at operand arms otherwise
value_here sight (Cast at value to) = value >>= cast at to

abbrev pub arm_here : Arm-F Arguments Read Read Behind Read Read Behind Read ArmRead Read Read Behind Read Read Read → ArmRead
arm_here a = do
  test ← a.test
  value ← a.value
  Ok (test, value)

abbrev pub args_here : Args-F Arguments Read Read Behind Read Read Behind Read ArmRead Read Read Behind Read Read Read → Arguments
args_here (Star _) at function = starred at function
args_here (Distinct _ value) at function = value >>= distinct at function
args_here (Values _ values) at function = all_of values >>= called at function

-- an expression, by what it may name, and each of its parts
unfoldable pub typed : Sight → OrExpr → Read
typed sight = fold-OrExpr Arguments Read Read Behind Read Read Behind Read ArmRead Read Read Behind Read Read Read args_here not_here (value_here sight) test_here unary_here sum_here add_here and_here arm_here cat_here product_here mul_here or_here post_here pred_here

unfoldable pub and_typed : Sight → AndExpr → Read
and_typed sight = fold-AndExpr Arguments Read Read Behind Read Read Behind Read ArmRead Read Read Behind Read Read Read args_here not_here (value_here sight) test_here unary_here sum_here add_here and_here arm_here cat_here product_here mul_here or_here post_here pred_here

unfoldable pub not_typed : Sight → NotExpr → Read
not_typed sight = fold-NotExpr Arguments Read Read Behind Read Read Behind Read ArmRead Read Read Behind Read Read Read args_here not_here (value_here sight) test_here unary_here sum_here add_here and_here arm_here cat_here product_here mul_here or_here post_here pred_here

unfoldable pub pred_typed : Sight → Pred → Read
pred_typed sight = fold-Pred Arguments Read Read Behind Read Read Behind Read ArmRead Read Read Behind Read Read Read args_here not_here (value_here sight) test_here unary_here sum_here add_here and_here arm_here cat_here product_here mul_here or_here post_here pred_here

unfoldable pub test_typed : Sight → Test → Behind
test_typed sight = fold-Test Arguments Read Read Behind Read Read Behind Read ArmRead Read Read Behind Read Read Read args_here not_here (value_here sight) test_here unary_here sum_here add_here and_here arm_here cat_here product_here mul_here or_here post_here pred_here

unfoldable pub cat_typed : Sight → CatExpr → Read
cat_typed sight = fold-CatExpr Arguments Read Read Behind Read Read Behind Read ArmRead Read Read Behind Read Read Read args_here not_here (value_here sight) test_here unary_here sum_here add_here and_here arm_here cat_here product_here mul_here or_here post_here pred_here

unfoldable pub sum_typed : Sight → AddExpr → Read
sum_typed sight = fold-AddExpr Arguments Read Read Behind Read Read Behind Read ArmRead Read Read Behind Read Read Read args_here not_here (value_here sight) test_here unary_here sum_here add_here and_here arm_here cat_here product_here mul_here or_here post_here pred_here

unfoldable pub add_typed : Sight → AddStep → Behind
add_typed sight = fold-AddStep Arguments Read Read Behind Read Read Behind Read ArmRead Read Read Behind Read Read Read args_here not_here (value_here sight) test_here unary_here sum_here add_here and_here arm_here cat_here product_here mul_here or_here post_here pred_here

unfoldable pub product_typed : Sight → MulExpr → Read
product_typed sight = fold-MulExpr Arguments Read Read Behind Read Read Behind Read ArmRead Read Read Behind Read Read Read args_here not_here (value_here sight) test_here unary_here sum_here add_here and_here arm_here cat_here product_here mul_here or_here post_here pred_here

unfoldable pub mul_typed : Sight → MulStep → Behind
mul_typed sight = fold-MulStep Arguments Read Read Behind Read Read Behind Read ArmRead Read Read Behind Read Read Read args_here not_here (value_here sight) test_here unary_here sum_here add_here and_here arm_here cat_here product_here mul_here or_here post_here pred_here

unfoldable pub unary_typed : Sight → Unary → Read
unary_typed sight = fold-Unary Arguments Read Read Behind Read Read Behind Read ArmRead Read Read Behind Read Read Read args_here not_here (value_here sight) test_here unary_here sum_here add_here and_here arm_here cat_here product_here mul_here or_here post_here pred_here

unfoldable pub post_typed : Sight → Post → Read
post_typed sight = fold-Post Arguments Read Read Behind Read Read Behind Read ArmRead Read Read Behind Read Read Read args_here not_here (value_here sight) test_here unary_here sum_here add_here and_here arm_here cat_here product_here mul_here or_here post_here pred_here

unfoldable pub value_typed : Sight → Primary → Read
value_typed sight = fold-Primary Arguments Read Read Behind Read Read Behind Read ArmRead Read Read Behind Read Read Read args_here not_here (value_here sight) test_here unary_here sum_here add_here and_here arm_here cat_here product_here mul_here or_here post_here pred_here

unfoldable pub arm_typed : Sight → Arm → ArmRead
arm_typed sight = fold-Arm Arguments Read Read Behind Read Read Behind Read ArmRead Read Read Behind Read Read Read args_here not_here (value_here sight) test_here unary_here sum_here add_here and_here arm_here cat_here product_here mul_here or_here post_here pred_here

unfoldable pub args_typed : Sight → Args → Arguments
args_typed sight = fold-Args Arguments Read Read Behind Read Read Behind Read ArmRead Read Read Behind Read Read Read args_here not_here (value_here sight) test_here unary_here sum_here add_here and_here arm_here cat_here product_here mul_here or_here post_here pred_here

-- several, the first fault being that of the leftmost
abbrev pub some_typed : Sight → Option OrExpr → Result (Option Typed) ReadFault
some_typed sight e = some_of (option_map (typed sight) e)

abbrev pub all_typed : Sight → List OrExpr → Result (List Typed) ReadFault
all_typed sight es = all_of (map (typed sight) es)

abbrev pub arms_typed : Sight → List Arm → Result (List (Typed × Typed)) ReadFault
arms_typed sight arms = all_of (map (arm_typed sight) arms)
