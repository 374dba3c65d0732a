-- What each layer of an expression is as a single name.
use Rattle.std.proofs.Common.{◌≡◌, ◌≢◌, ℕ, ◌<◌, ◌≤◌, List, [], ◌∷◌, length, get_or, Bool, true, false, Option, None, map, refl, ap, sym, ◌∙◌, arith}
use Rattle.mesh_query_grammar.specs.declared.surface.signs.Cmp.{Cmp}
use Rattle.mesh_query_grammar.specs.declared.surface.expressions.Args.TheOpen.{Primary-F, Not, NotExpr::Plain, Number, Text, Date, Truth, Null, Macro, Column, Call, Group, Case, Cast, Nothing, Compare, IsNull, Between, OneOf, Minus, Unary::Plain}
use Rattle.mesh_query_grammar.specs.declared.surface.expressions.Args.{Args}
use Rattle.mesh_query_grammar.specs.declared.surface.expressions.MulStep.{MulStep}
use Rattle.mesh_query_grammar.specs.declared.surface.expressions.AddStep.{AddStep}
use Rattle.mesh_query_grammar.specs.declared.surface.expressions.Arm.{Arm}
use Rattle.mesh_query_grammar.specs.declared.surface.expressions.Args.TheFolds.{fold-AddStep, fold-MulStep}
use Rattle.mesh_query_grammar.specs.declared.surface.expressions.OrExpr.{OrExpr, out-OrExpr, roll-out-OrExpr, fold-roll-OrExpr}
use Rattle.mesh_query_grammar.specs.declared.surface.expressions.AndExpr.{AndExpr, out-AndExpr, roll-out-AndExpr, fold-roll-AndExpr}
use Rattle.mesh_query_grammar.specs.declared.surface.expressions.NotExpr.{NotExpr, fold-roll-NotExpr}
use Rattle.mesh_query_grammar.specs.declared.surface.expressions.Pred.{Pred, out-Pred, roll-out-Pred, fold-roll-Pred}
use Rattle.mesh_query_grammar.specs.declared.surface.expressions.CatExpr.{CatExpr, out-CatExpr, roll-out-CatExpr, fold-roll-CatExpr}
use Rattle.mesh_query_grammar.specs.declared.surface.expressions.AddExpr.{AddExpr, out-AddExpr, roll-out-AddExpr, fold-roll-AddExpr}
use Rattle.mesh_query_grammar.specs.declared.surface.expressions.MulExpr.{MulExpr, out-MulExpr, roll-out-MulExpr, fold-roll-MulExpr}
use Rattle.mesh_query_grammar.specs.declared.surface.expressions.Unary.{Unary, fold-roll-Unary}
use Rattle.mesh_query_grammar.specs.declared.surface.expressions.Post.{Post, out-Post, roll-out-Post, fold-roll-Post}
use Rattle.mesh_query_grammar.specs.declared.surface.expressions.Primary.{Primary, out-Primary, roll-Primary, roll-out-Primary, fold-roll-Primary}
use Rattle.mesh_query_grammar.specs.declared.surface.expressions.Test.{Test, fold-roll-Test}
use Rattle.mesh_query_grammar.specs.declared.surface.expressions.NotExpr.TheVariants as the_not
use Rattle.mesh_query_grammar.specs.declared.surface.expressions.Test.TheVariants as the_test
use Rattle.mesh_query_grammar.specs.declared.surface.expressions.Unary.TheVariants as the_unary
use Rattle.mesh_query_grammar.specs.declared.surface.expressions.Primary.TheVariants as the_primary
use Rattle.mesh_resolve_scope.specs.Lone.{Unit0, Lone, only, alone, untested, unqualified, args_here, or_here, and_here, cat_here, sum_here, product_here, not_here, pred_here, test_here, unary_here, post_here, value_here, add_here, mul_here, arm_here, lone_name, and_name, not_name, pred_name, cat_name, sum_name, product_name, unary_name, post_name, value_name, is_untested}

pub or_part : (e : OrExpr) → lone_name e ≡ only (map and_name (out-OrExpr e).parts)
unfolding lone_name and_name not_name pred_name cat_name sum_name product_name unary_name post_name value_name is_untested
or_part e = ap lone_name (sym (roll-out-OrExpr e)) ∙ fold-roll-OrExpr Unit0 Lone Lone Bool Lone Lone Unit0 Lone Unit0 Lone Lone Unit0 Lone Lone Lone args_here not_here value_here test_here unary_here sum_here add_here and_here arm_here cat_here product_here mul_here or_here post_here pred_here (out-OrExpr e)

pub and_part : (e : AndExpr) → and_name e ≡ only (map not_name (out-AndExpr e).parts)
unfolding lone_name and_name not_name pred_name cat_name sum_name product_name unary_name post_name value_name is_untested
and_part e = ap and_name (sym (roll-out-AndExpr e)) ∙ fold-roll-AndExpr Unit0 Lone Lone Bool Lone Lone Unit0 Lone Unit0 Lone Lone Unit0 Lone Lone Lone args_here not_here value_here test_here unary_here sum_here add_here and_here arm_here cat_here product_here mul_here or_here post_here pred_here (out-AndExpr e)

pub pred_part : (e : Pred) → pred_name e ≡ untested (cat_name (out-Pred e).left) (is_untested (out-Pred e).test)
unfolding lone_name and_name not_name pred_name cat_name sum_name product_name unary_name post_name value_name is_untested
pred_part e = ap pred_name (sym (roll-out-Pred e)) ∙ fold-roll-Pred Unit0 Lone Lone Bool Lone Lone Unit0 Lone Unit0 Lone Lone Unit0 Lone Lone Lone args_here not_here value_here test_here unary_here sum_here add_here and_here arm_here cat_here product_here mul_here or_here post_here pred_here (out-Pred e)

pub cat_part : (e : CatExpr) → cat_name e ≡ only (map sum_name (out-CatExpr e).parts)
unfolding lone_name and_name not_name pred_name cat_name sum_name product_name unary_name post_name value_name is_untested
cat_part e = ap cat_name (sym (roll-out-CatExpr e)) ∙ fold-roll-CatExpr Unit0 Lone Lone Bool Lone Lone Unit0 Lone Unit0 Lone Lone Unit0 Lone Lone Lone args_here not_here value_here test_here unary_here sum_here add_here and_here arm_here cat_here product_here mul_here or_here post_here pred_here (out-CatExpr e)

pub post_part : (e : Post) → post_name e ≡ alone (value_name (out-Post e).value) (out-Post e).casts
unfolding lone_name and_name not_name pred_name cat_name sum_name product_name unary_name post_name value_name is_untested
post_part e = ap post_name (sym (roll-out-Post e)) ∙ fold-roll-Post Unit0 Lone Lone Bool Lone Lone Unit0 Lone Unit0 Lone Lone Unit0 Lone Lone Lone args_here not_here value_here test_here unary_here sum_here add_here and_here arm_here cat_here product_here mul_here or_here post_here pred_here (out-Post e)

pub not_is_none : (at : ℕ) (x : NotExpr) → not_name (the_not.Not at x) ≡ None
unfolding lone_name and_name not_name pred_name cat_name sum_name product_name unary_name post_name value_name is_untested
not_is_none at x = ap not_name (sym (the_not.rolls-Not at x)) ∙ fold-roll-NotExpr Unit0 Lone Lone Bool Lone Lone Unit0 Lone Unit0 Lone Lone Unit0 Lone Lone Lone args_here not_here value_here test_here unary_here sum_here add_here and_here arm_here cat_here product_here mul_here or_here post_here pred_here (Not at x)

pub plain_part : (at : ℕ) (p : Pred) → not_name (the_not.Plain at p) ≡ pred_name p
unfolding lone_name and_name not_name pred_name cat_name sum_name product_name unary_name post_name value_name is_untested
plain_part at p = ap not_name (sym (the_not.rolls-Plain at p)) ∙ fold-roll-NotExpr Unit0 Lone Lone Bool Lone Lone Unit0 Lone Unit0 Lone Lone Unit0 Lone Lone Lone args_here not_here value_here test_here unary_here sum_here add_here and_here arm_here cat_here product_here mul_here or_here post_here pred_here (NotExpr::Plain at p)

pub nothing_asked : is_untested the_test.Nothing ≡ true
unfolding lone_name and_name not_name pred_name cat_name sum_name product_name unary_name post_name value_name is_untested
nothing_asked = ap is_untested (sym the_test.rolls-Nothing) ∙ fold-roll-Test Unit0 Lone Lone Bool Lone Lone Unit0 Lone Unit0 Lone Lone Unit0 Lone Lone Lone args_here not_here value_here test_here unary_here sum_here add_here and_here arm_here cat_here product_here mul_here or_here post_here pred_here Nothing

pub compare_asked : (o : Cmp) (r : CatExpr) → is_untested (the_test.Compare o r) ≡ false
unfolding lone_name and_name not_name pred_name cat_name sum_name product_name unary_name post_name value_name is_untested
compare_asked o r = ap is_untested (sym (the_test.rolls-Compare o r)) ∙ fold-roll-Test Unit0 Lone Lone Bool Lone Lone Unit0 Lone Unit0 Lone Lone Unit0 Lone Lone Lone args_here not_here value_here test_here unary_here sum_here add_here and_here arm_here cat_here product_here mul_here or_here post_here pred_here (Compare o r)

pub is_null_asked : (g : Bool) → is_untested (the_test.IsNull g) ≡ false
unfolding lone_name and_name not_name pred_name cat_name sum_name product_name unary_name post_name value_name is_untested
is_null_asked g = ap is_untested (sym (the_test.rolls-IsNull g)) ∙ fold-roll-Test Unit0 Lone Lone Bool Lone Lone Unit0 Lone Unit0 Lone Lone Unit0 Lone Lone Lone args_here not_here value_here test_here unary_here sum_here add_here and_here arm_here cat_here product_here mul_here or_here post_here pred_here (IsNull g)

pub between_asked : (g : Bool) (a : CatExpr) (b : CatExpr) → is_untested (the_test.Between g a b) ≡ false
unfolding lone_name and_name not_name pred_name cat_name sum_name product_name unary_name post_name value_name is_untested
between_asked g a b = ap is_untested (sym (the_test.rolls-Between g a b)) ∙ fold-roll-Test Unit0 Lone Lone Bool Lone Lone Unit0 Lone Unit0 Lone Lone Unit0 Lone Lone Lone args_here not_here value_here test_here unary_here sum_here add_here and_here arm_here cat_here product_here mul_here or_here post_here pred_here (Between g a b)

pub one_of_asked : (g : Bool) (xs : List OrExpr) → is_untested (the_test.OneOf g xs) ≡ false
unfolding lone_name and_name not_name pred_name cat_name sum_name product_name unary_name post_name value_name is_untested
one_of_asked g xs = ap is_untested (sym (the_test.rolls-OneOf g xs)) ∙ fold-roll-Test Unit0 Lone Lone Bool Lone Lone Unit0 Lone Unit0 Lone Lone Unit0 Lone Lone Lone args_here not_here value_here test_here unary_here sum_here add_here and_here arm_here cat_here product_here mul_here or_here post_here pred_here (OneOf g xs)

pub minus_is_none : (at : ℕ) (x : Unary) → unary_name (the_unary.Minus at x) ≡ None
unfolding lone_name and_name not_name pred_name cat_name sum_name product_name unary_name post_name value_name is_untested
minus_is_none at x = ap unary_name (sym (the_unary.rolls-Minus at x)) ∙ fold-roll-Unary Unit0 Lone Lone Bool Lone Lone Unit0 Lone Unit0 Lone Lone Unit0 Lone Lone Lone args_here not_here value_here test_here unary_here sum_here add_here and_here arm_here cat_here product_here mul_here or_here post_here pred_here (Minus at x)

pub unsigned_part : (at : ℕ) (p : Post) → unary_name (the_unary.Plain at p) ≡ post_name p
unfolding lone_name and_name not_name pred_name cat_name sum_name product_name unary_name post_name value_name is_untested
unsigned_part at p = ap unary_name (sym (the_unary.rolls-Plain at p)) ∙ fold-roll-Unary Unit0 Lone Lone Bool Lone Lone Unit0 Lone Unit0 Lone Lone Unit0 Lone Lone Lone args_here not_here value_here test_here unary_here sum_here add_here and_here arm_here cat_here product_here mul_here or_here post_here pred_here (Unary::Plain at p)

pub column_part : (at : ℕ) (of : Option (List ℕ)) (x : List ℕ) → value_name (the_primary.Column at of x) ≡ unqualified of x
unfolding lone_name and_name not_name pred_name cat_name sum_name product_name unary_name post_name value_name is_untested
column_part at of x = ap value_name (sym (the_primary.rolls-Column at of x)) ∙ fold-roll-Primary Unit0 Lone Lone Bool Lone Lone Unit0 Lone Unit0 Lone Lone Unit0 Lone Lone Lone args_here not_here value_here test_here unary_here sum_here add_here and_here arm_here cat_here product_here mul_here or_here post_here pred_here (Column at of x)

pub group_part : (at : ℕ) (x : OrExpr) → value_name (the_primary.Group at x) ≡ lone_name x
unfolding lone_name and_name not_name pred_name cat_name sum_name product_name unary_name post_name value_name is_untested
group_part at x = ap value_name (sym (the_primary.rolls-Group at x)) ∙ fold-roll-Primary Unit0 Lone Lone Bool Lone Lone Unit0 Lone Unit0 Lone Lone Unit0 Lone Lone Lone args_here not_here value_here test_here unary_here sum_here add_here and_here arm_here cat_here product_here mul_here or_here post_here pred_here (Group at x)

alone_of_map : {A B : Type 0} (f : A → B) (name : Lone) (xs : List A) → alone name (map f xs) ≡ alone name xs
alone_of_map f name [] = refl
alone_of_map f name (x ∷ xs) = refl

pub sum_part : (e : AddExpr) → sum_name e ≡ alone (product_name (out-AddExpr e).first) (out-AddExpr e).rest
unfolding lone_name and_name not_name pred_name cat_name sum_name product_name unary_name post_name value_name is_untested
sum_part e =
    ap sum_name (sym (roll-out-AddExpr e)) ∙ fold-roll-AddExpr Unit0 Lone Lone Bool Lone Lone Unit0 Lone Unit0 Lone Lone Unit0 Lone Lone Lone args_here not_here value_here test_here unary_here sum_here add_here and_here arm_here cat_here product_here mul_here or_here post_here pred_here (out-AddExpr e)
    ∙ alone_of_map (fold-AddStep Unit0 Lone Lone Bool Lone Lone Unit0 Lone Unit0 Lone Lone Unit0 Lone Lone Lone args_here not_here value_here test_here unary_here sum_here add_here and_here arm_here cat_here product_here mul_here or_here post_here pred_here) (product_name (out-AddExpr e).first) (out-AddExpr e).rest

pub product_part : (e : MulExpr) → product_name e ≡ alone (unary_name (out-MulExpr e).first) (out-MulExpr e).rest
unfolding lone_name and_name not_name pred_name cat_name sum_name product_name unary_name post_name value_name is_untested
product_part e =
    ap product_name (sym (roll-out-MulExpr e)) ∙ fold-roll-MulExpr Unit0 Lone Lone Bool Lone Lone Unit0 Lone Unit0 Lone Lone Unit0 Lone Lone Lone args_here not_here value_here test_here unary_here sum_here add_here and_here arm_here cat_here product_here mul_here or_here post_here pred_here (out-MulExpr e)
    ∙ alone_of_map (fold-MulStep Unit0 Lone Lone Bool Lone Lone Unit0 Lone Unit0 Lone Lone Unit0 Lone Lone Lone args_here not_here value_here test_here unary_here sum_here add_here and_here arm_here cat_here product_here mul_here or_here post_here pred_here) (unary_name (out-MulExpr e).first) (out-MulExpr e).rest

no_name_of : (q : Primary-F Args NotExpr Primary Test Unary AddExpr AddStep AndExpr Arm CatExpr MulExpr MulStep OrExpr Post Pred) → ((at : ℕ) (of : Option (List ℕ)) (x : List ℕ) → roll-Primary q ≢ the_primary.Column at of x)
    → ((at : ℕ) (x : OrExpr) → roll-Primary q ≢ the_primary.Group at x) → value_name (roll-Primary q) ≡ None
unfolding lone_name and_name not_name pred_name cat_name sum_name product_name unary_name post_name value_name is_untested
no_name_of (Number at n) column group = fold-roll-Primary Unit0 Lone Lone Bool Lone Lone Unit0 Lone Unit0 Lone Lone Unit0 Lone Lone Lone args_here not_here value_here test_here unary_here sum_here add_here and_here arm_here cat_here product_here mul_here or_here post_here pred_here (Number at n)
no_name_of (Text at x) column group = fold-roll-Primary Unit0 Lone Lone Bool Lone Lone Unit0 Lone Unit0 Lone Lone Unit0 Lone Lone Lone args_here not_here value_here test_here unary_here sum_here add_here and_here arm_here cat_here product_here mul_here or_here post_here pred_here (Text at x)
no_name_of (Date at d) column group = fold-roll-Primary Unit0 Lone Lone Bool Lone Lone Unit0 Lone Unit0 Lone Lone Unit0 Lone Lone Lone args_here not_here value_here test_here unary_here sum_here add_here and_here arm_here cat_here product_here mul_here or_here post_here pred_here (Date at d)
no_name_of (Truth at b) column group = fold-roll-Primary Unit0 Lone Lone Bool Lone Lone Unit0 Lone Unit0 Lone Lone Unit0 Lone Lone Lone args_here not_here value_here test_here unary_here sum_here add_here and_here arm_here cat_here product_here mul_here or_here post_here pred_here (Truth at b)
no_name_of (Null at) column group = fold-roll-Primary Unit0 Lone Lone Bool Lone Lone Unit0 Lone Unit0 Lone Lone Unit0 Lone Lone Lone args_here not_here value_here test_here unary_here sum_here add_here and_here arm_here cat_here product_here mul_here or_here post_here pred_here (Null at)
no_name_of (Macro at x) column group = fold-roll-Primary Unit0 Lone Lone Bool Lone Lone Unit0 Lone Unit0 Lone Lone Unit0 Lone Lone Lone args_here not_here value_here test_here unary_here sum_here add_here and_here arm_here cat_here product_here mul_here or_here post_here pred_here (Macro at x)
no_name_of (Call at f a) column group = fold-roll-Primary Unit0 Lone Lone Bool Lone Lone Unit0 Lone Unit0 Lone Lone Unit0 Lone Lone Lone args_here not_here value_here test_here unary_here sum_here add_here and_here arm_here cat_here product_here mul_here or_here post_here pred_here (Call at f a)
no_name_of (Case at o xs e) column group = fold-roll-Primary Unit0 Lone Lone Bool Lone Lone Unit0 Lone Unit0 Lone Lone Unit0 Lone Lone Lone args_here not_here value_here test_here unary_here sum_here add_here and_here arm_here cat_here product_here mul_here or_here post_here pred_here (Case at o xs e)
no_name_of (Cast at x to) column group = fold-roll-Primary Unit0 Lone Lone Bool Lone Lone Unit0 Lone Unit0 Lone Lone Unit0 Lone Lone Lone args_here not_here value_here test_here unary_here sum_here add_here and_here arm_here cat_here product_here mul_here or_here post_here pred_here (Cast at x to)
no_name_of (Column at of x) column group = absurd (column at of x (the_primary.rolls-Column at of x))
no_name_of (Group at x) column group = absurd (group at x (the_primary.rolls-Group at x))

-- what is neither a column nor in parentheses
pub no_name : (p : Primary) → ((at : ℕ) (of : Option (List ℕ)) (x : List ℕ) → p ≢ the_primary.Column at of x)
    → ((at : ℕ) (x : OrExpr) → p ≢ the_primary.Group at x) → value_name p ≡ None
no_name p column group =
    ap value_name (sym (roll-out-Primary p))
    ∙ no_name_of (out-Primary p) (λ at of x is. column at of x (sym (roll-out-Primary p) ∙ is)) (λ at x is. group at x (sym (roll-out-Primary p) ∙ is))

-- one part, and any other number of them
pub only_one : {A : Type 0} (f : A → Lone) (xs : List A) (x : A) → length xs ≡ 1 → x ≡ get_or xs 0 x → only (map f xs) ≡ f x
only_one f [] x one is = absurd (omega arith)
only_one f (y ∷ []) x one is = ap f (sym is)
only_one f (y ∷ z ∷ ys) x one is = absurd (omega arith)

pub not_one : {A : Type 0} (f : A → Lone) (xs : List A) → length xs ≢ 1 → only (map f xs) ≡ None
not_one f [] other = refl
not_one f (y ∷ []) other = absurd (other refl)
not_one f (y ∷ z ∷ ys) other = refl

pub alone_empty : {A : Type 0} (name : Lone) (xs : List A) → length xs < 1 → alone name xs ≡ name
alone_empty name [] none = refl
alone_empty name (x ∷ xs) none = absurd (omega arith)

pub alone_more : {A : Type 0} (name : Lone) (xs : List A) → 1 ≤ length xs → alone name xs ≡ None
alone_more name [] some = absurd (omega arith)
alone_more name (x ∷ xs) some = refl
