-- What every form of an expression keeps of its operands holds of every expression that the walk gives.
use Rattle.std.proofs.Common.{◌≡◌, ℕ, List, [], ◌∷◌, map, Option, Some, None, Ok, sym, ap, ◌∙◌, subst}
use Rattle.std.specs.List.{AllByRecursion}
use Rattle.std.specs.Option.{ForSome, option_map}
use Rattle.mesh_base_values.specs.declared.values.ColType.{ColType}
use Rattle.mesh_query_grammar.specs.declared.surface.signs.AddSign.{AddSign}
use Rattle.mesh_query_grammar.specs.declared.surface.signs.Function.{Function}
use Rattle.mesh_query_grammar.specs.declared.surface.signs.MulSign.{MulSign}
use Rattle.mesh_query_grammar.specs.declared.surface.expressions.Args.TheFolds.{map-Args, map-NotExpr, map-Primary, map-Test, map-Unary, ind-OrExpr}
use Rattle.mesh_query_grammar.specs.declared.surface.expressions.Args.TheOpen.{Args-F, Star, Distinct, List as Values, NotExpr-F, Not, NotExpr::Plain, Primary-F, Number, Text, Date, Truth, Null, Macro, Column, Call, Group, Case, Cast, Test-F, Nothing, Compare, IsNull, Between, OneOf, Unary-F, Minus, Unary::Plain, AddExpr-F, AddStep-F, AndExpr-F, Arm-F, CatExpr-F, MulExpr-F, MulStep-F, OrExpr-F, Post-F, Pred-F}
use Rattle.mesh_query_grammar.specs.declared.surface.expressions.OrExpr.{OrExpr, roll-OrExpr, out-roll-OrExpr}
use Rattle.mesh_query_grammar.specs.declared.surface.expressions.AndExpr.{AndExpr, roll-AndExpr, out-roll-AndExpr}
use Rattle.mesh_query_grammar.specs.declared.surface.expressions.NotExpr.{NotExpr, roll-NotExpr}
use Rattle.mesh_query_grammar.specs.declared.surface.expressions.Pred.{Pred, roll-Pred, out-roll-Pred}
use Rattle.mesh_query_grammar.specs.declared.surface.expressions.Test.{Test, roll-Test}
use Rattle.mesh_query_grammar.specs.declared.surface.expressions.CatExpr.{CatExpr, roll-CatExpr, out-roll-CatExpr}
use Rattle.mesh_query_grammar.specs.declared.surface.expressions.AddExpr.{AddExpr, roll-AddExpr, out-roll-AddExpr}
use Rattle.mesh_query_grammar.specs.declared.surface.expressions.AddStep.{AddStep, roll-AddStep, out-roll-AddStep}
use Rattle.mesh_query_grammar.specs.declared.surface.expressions.MulExpr.{MulExpr, roll-MulExpr, out-roll-MulExpr}
use Rattle.mesh_query_grammar.specs.declared.surface.expressions.MulStep.{MulStep, roll-MulStep, out-roll-MulStep}
use Rattle.mesh_query_grammar.specs.declared.surface.expressions.Unary.{Unary, roll-Unary}
use Rattle.mesh_query_grammar.specs.declared.surface.expressions.Post.{Post, roll-Post, out-roll-Post}
use Rattle.mesh_query_grammar.specs.declared.surface.expressions.Primary.{Primary, roll-Primary}
use Rattle.mesh_query_grammar.specs.declared.surface.expressions.Arm.{Arm, roll-Arm, out-roll-Arm}
use Rattle.mesh_query_grammar.specs.declared.surface.expressions.Args.{Args, roll-Args}
use Rattle.mesh_query_grammar.specs.declared.surface.expressions.NotExpr.TheVariants as the_not
use Rattle.mesh_query_grammar.specs.declared.surface.expressions.Test.TheVariants as the_test
use Rattle.mesh_query_grammar.specs.declared.surface.expressions.Unary.TheVariants as the_unary
use Rattle.mesh_query_grammar.specs.declared.surface.expressions.Primary.TheVariants as the_primary
use Rattle.mesh_query_grammar.specs.declared.surface.expressions.Args.TheVariants as the_args
use Rattle.mesh_query_tokens.specs.Gives.{◌>>=◌}
use Rattle.mesh_query_tokens.specs.Walk.{along}
use Rattle.mesh_resolve_types.specs.declared.typed.Typed.{Typed}
use Rattle.mesh_resolve_types.specs.Forms.{Read, either, both, joined, multiplied, added, negated, denied, null_test, turned, compare_op, compared, between, one_of, cast, called, distinct, cased}
use Rattle.mesh_resolve_scope.specs.declared.sight.sight.Sight.{Sight}
use Rattle.mesh_resolve_scope.specs.Expressions.{Behind, Arguments, chain, steps, then_right, one_step, one_cast, typed, and_typed, not_typed, pred_typed, test_typed, cat_typed, sum_typed, add_typed, product_typed, mul_typed, unary_typed, post_typed, value_typed, arm_typed, args_typed, some_typed, all_typed, arms_typed}
use Rattle.mesh_resolve_scope.proofs.Layers.{or_layer, and_layer, not_layer, plain_layer, pred_layer, nothing_layer, compare_layer, is_null_layer, between_layer, one_of_layer, cat_layer, sum_layer, add_layer, product_layer, mul_layer, minus_layer, unsigned_layer, post_layer, number_layer, text_layer, date_layer, truth_layer, null_layer, macro_layer, column_layer, call_layer, group_layer, case_layer, cast_layer, arm_layer, star_layer, distinct_layer, list_layer}
use Rattle.mesh_law_reading.proofs.Good.{Good, given, refused, then_good, along_good, all_good, none_good, some_good, each_good, any}
use Rattle.mesh_law_reading.proofs.Keeps.{Keeps}

-- one layer of the tree
abbrev Plain : (Type 0 → Type 0 → Type 0 → Type 0 → Type 0 → Type 0 → Type 0 → Type 0 → Type 0 → Type 0 → Type 0 → Type 0 → Type 0 → Type 0 → Type 0 → Type 0) → Type 0
Plain F = F Args NotExpr Primary Test Unary AddExpr AddStep AndExpr Arm CatExpr MulExpr MulStep OrExpr Post Pred

module _ (sight : Sight) (Q : Typed → Type 0) (keeps : Keeps sight Q) where
  -- what is claimed of each part of the tree
  abbrev GoodBehind : Behind → Type 0
  GoodBehind b = (at : ℕ) (left : Typed) → Q left → Good Q (b at left)

  abbrev GoodArguments : Arguments → Type 0
  GoodArguments a = (at : ℕ) (f : Function) → Good Q (a at f)

  abbrev Both : Typed × Typed → Type 0
  Both a = Q a.0 × Q a.1

  abbrev P-Args : Args → Type 0
  P-Args e = GoodArguments (args_typed sight e)

  abbrev P-NotExpr : NotExpr → Type 0
  P-NotExpr e = Good Q (not_typed sight e)

  abbrev P-Primary : Primary → Type 0
  P-Primary e = Good Q (value_typed sight e)

  abbrev P-Test : Test → Type 0
  P-Test e = GoodBehind (test_typed sight e)

  abbrev P-Unary : Unary → Type 0
  P-Unary e = Good Q (unary_typed sight e)

  abbrev P-AddExpr : AddExpr → Type 0
  P-AddExpr e = Good Q (sum_typed sight e)

  abbrev P-AddStep : AddStep → Type 0
  P-AddStep e = GoodBehind (add_typed sight e)

  abbrev P-AndExpr : AndExpr → Type 0
  P-AndExpr e = Good Q (and_typed sight e)

  abbrev P-Arm : Arm → Type 0
  P-Arm e = Good Both (arm_typed sight e)

  abbrev P-CatExpr : CatExpr → Type 0
  P-CatExpr e = Good Q (cat_typed sight e)

  abbrev P-MulExpr : MulExpr → Type 0
  P-MulExpr e = Good Q (product_typed sight e)

  abbrev P-MulStep : MulStep → Type 0
  P-MulStep e = GoodBehind (mul_typed sight e)

  abbrev P-OrExpr : OrExpr → Type 0
  P-OrExpr e = Good Q (typed sight e)

  abbrev P-Post : Post → Type 0
  P-Post e = Good Q (post_typed sight e)

  abbrev P-Pred : Pred → Type 0
  P-Pred e = Good Q (pred_typed sight e)

  -- one or more parts, and steps behind a first part
  chained : {X : Type 0} (K : X → Type 0) (f : X → Read) → ((x : X) → K x → Good Q (f x)) → (at : ℕ) (form : Typed → Typed → Read) → ((l r : Typed) → Q l → Q r → Good Q (form l r))
      → (xs : List ((x : X) × K x)) → Good Q (chain at form (map f (map (λ x. x.0) xs)))
  chained K f g at form h [] = refused Q _
  chained K f g at form h (x ∷ xs) =
      then_good Q Q (f x.0) (λ left. along (then_right form) left (map f (map (λ x. x.0) xs))) (g x.0 x.1)
      (λ left q. along_good Q (Good Q) (then_right form) (λ l r ql gr. then_good Q Q r (form l) gr (λ x qx. h l x ql qx)) left q (map f (map (λ x. x.0) xs)) (each_good K (Good Q) f g xs))

  stepped : {X : Type 0} (K : X → Type 0) (f : X → Behind) → ((x : X) → K x → GoodBehind (f x)) → (at : ℕ) (first : Read) → Good Q first
      → (xs : List ((x : X) × K x)) → Good Q (steps at first (map f (map (λ x. x.0) xs)))
  stepped K f g at first q xs =
      then_good Q Q first (λ left. along (one_step at) left (map f (map (λ x. x.0) xs))) q
      (λ left q. along_good Q GoodBehind (one_step at) (λ l b ql gb. gb at l ql) left q (map f (map (λ x. x.0) xs)) (each_good K GoodBehind f g xs))

  -- what is known of the parts of a layer
  abbrev K : {X : Type 0} → (X → Type 0) → Type 0
  K {X} P = (x : X) × P x

  abbrev Known : (Type 0 → Type 0 → Type 0 → Type 0 → Type 0 → Type 0 → Type 0 → Type 0 → Type 0 → Type 0 → Type 0 → Type 0 → Type 0 → Type 0 → Type 0 → Type 0) → Type 0
  Known F = F (K P-Args) (K P-NotExpr) (K P-Primary) (K P-Test) (K P-Unary) (K P-AddExpr) (K P-AddStep) (K P-AndExpr) (K P-Arm) (K P-CatExpr) (K P-MulExpr) (K P-MulStep) (K P-OrExpr) (K P-Post) (K P-Pred)

  -- a layer without what is known of its parts
  abbrev bare_not : Known NotExpr-F → Plain NotExpr-F
  bare_not y = map-NotExpr (K P-Args) (K P-NotExpr) (K P-Primary) (K P-Test) (K P-Unary) (K P-AddExpr) (K P-AddStep) (K P-AndExpr) (K P-Arm) (K P-CatExpr) (K P-MulExpr) (K P-MulStep) (K P-OrExpr) (K P-Post) (K P-Pred) Args NotExpr Primary Test Unary AddExpr AddStep AndExpr Arm CatExpr MulExpr MulStep OrExpr Post Pred (λ e. e.0) (λ e. e.0) (λ e. e.0) (λ e. e.0) (λ e. e.0) (λ e. e.0) (λ e. e.0) (λ e. e.0) (λ e. e.0) (λ e. e.0) (λ e. e.0) (λ e. e.0) (λ e. e.0) (λ e. e.0) (λ e. e.0) y

  abbrev bare_unary : Known Unary-F → Plain Unary-F
  bare_unary y = map-Unary (K P-Args) (K P-NotExpr) (K P-Primary) (K P-Test) (K P-Unary) (K P-AddExpr) (K P-AddStep) (K P-AndExpr) (K P-Arm) (K P-CatExpr) (K P-MulExpr) (K P-MulStep) (K P-OrExpr) (K P-Post) (K P-Pred) Args NotExpr Primary Test Unary AddExpr AddStep AndExpr Arm CatExpr MulExpr MulStep OrExpr Post Pred (λ e. e.0) (λ e. e.0) (λ e. e.0) (λ e. e.0) (λ e. e.0) (λ e. e.0) (λ e. e.0) (λ e. e.0) (λ e. e.0) (λ e. e.0) (λ e. e.0) (λ e. e.0) (λ e. e.0) (λ e. e.0) (λ e. e.0) y

  abbrev bare_test : Known Test-F → Plain Test-F
  bare_test y = map-Test (K P-Args) (K P-NotExpr) (K P-Primary) (K P-Test) (K P-Unary) (K P-AddExpr) (K P-AddStep) (K P-AndExpr) (K P-Arm) (K P-CatExpr) (K P-MulExpr) (K P-MulStep) (K P-OrExpr) (K P-Post) (K P-Pred) Args NotExpr Primary Test Unary AddExpr AddStep AndExpr Arm CatExpr MulExpr MulStep OrExpr Post Pred (λ e. e.0) (λ e. e.0) (λ e. e.0) (λ e. e.0) (λ e. e.0) (λ e. e.0) (λ e. e.0) (λ e. e.0) (λ e. e.0) (λ e. e.0) (λ e. e.0) (λ e. e.0) (λ e. e.0) (λ e. e.0) (λ e. e.0) y

  abbrev bare_args : Known Args-F → Plain Args-F
  bare_args y = map-Args (K P-Args) (K P-NotExpr) (K P-Primary) (K P-Test) (K P-Unary) (K P-AddExpr) (K P-AddStep) (K P-AndExpr) (K P-Arm) (K P-CatExpr) (K P-MulExpr) (K P-MulStep) (K P-OrExpr) (K P-Post) (K P-Pred) Args NotExpr Primary Test Unary AddExpr AddStep AndExpr Arm CatExpr MulExpr MulStep OrExpr Post Pred (λ e. e.0) (λ e. e.0) (λ e. e.0) (λ e. e.0) (λ e. e.0) (λ e. e.0) (λ e. e.0) (λ e. e.0) (λ e. e.0) (λ e. e.0) (λ e. e.0) (λ e. e.0) (λ e. e.0) (λ e. e.0) (λ e. e.0) y

  abbrev bare_value : Known Primary-F → Plain Primary-F
  bare_value y = map-Primary (K P-Args) (K P-NotExpr) (K P-Primary) (K P-Test) (K P-Unary) (K P-AddExpr) (K P-AddStep) (K P-AndExpr) (K P-Arm) (K P-CatExpr) (K P-MulExpr) (K P-MulStep) (K P-OrExpr) (K P-Post) (K P-Pred) Args NotExpr Primary Test Unary AddExpr AddStep AndExpr Arm CatExpr MulExpr MulStep OrExpr Post Pred (λ e. e.0) (λ e. e.0) (λ e. e.0) (λ e. e.0) (λ e. e.0) (λ e. e.0) (λ e. e.0) (λ e. e.0) (λ e. e.0) (λ e. e.0) (λ e. e.0) (λ e. e.0) (λ e. e.0) (λ e. e.0) (λ e. e.0) y

  all_known : (xs : List (K P-OrExpr)) → Good (AllByRecursion Q) (all_typed sight (map (λ e. e.0) xs))
  all_known xs = all_good Q (map (typed sight) (map (λ e. e.0) xs)) (each_good P-OrExpr (Good Q) (typed sight) (λ e g. g) xs)

  arms_known : (xs : List (K P-Arm)) → Good (AllByRecursion Both) (arms_typed sight (map (λ e. e.0) xs))
  arms_known xs = all_good Both (map (arm_typed sight) (map (λ e. e.0) xs)) (each_good P-Arm (Good Both) (arm_typed sight) (λ e g. g) xs)

  abbrev Some_known : Option Typed → Type 0
  Some_known o = ForSome o Q

  some_known : (o : Option (K P-OrExpr)) → Good Some_known (some_typed sight (option_map (λ e. e.0) o))
  some_known None = none_good Q
  some_known (Some e) = some_good Q (typed sight e.0) e.1

  -- each part, from what is known of its own parts
  or_rolled : (at : ℕ) (parts : List (K P-AndExpr)) → P-OrExpr (roll-OrExpr (record { at = at; parts = map (λ e. e.0) parts }))
  or_rolled at parts =
      let x : Plain OrExpr-F = record { at = at; parts = map (λ e. e.0) parts } in
      subst (Good Q) (sym (or_layer sight (roll-OrExpr x) ∙ ap (λ (x : Plain OrExpr-F). chain x.at (either x.at) (map (and_typed sight) x.parts)) (out-roll-OrExpr x)))
      (chained P-AndExpr (and_typed sight) (λ e g. g) at (either at) (λ l r p q t e. keeps.either at l r t p q e) parts)

  and_rolled : (at : ℕ) (parts : List (K P-NotExpr)) → P-AndExpr (roll-AndExpr (record { at = at; parts = map (λ e. e.0) parts }))
  and_rolled at parts =
      let x : Plain AndExpr-F = record { at = at; parts = map (λ e. e.0) parts } in
      subst (Good Q) (sym (and_layer sight (roll-AndExpr x) ∙ ap (λ (x : Plain AndExpr-F). chain x.at (both x.at) (map (not_typed sight) x.parts)) (out-roll-AndExpr x)))
      (chained P-NotExpr (not_typed sight) (λ e g. g) at (both at) (λ l r p q t e. keeps.both at l r t p q e) parts)

  cat_rolled : (at : ℕ) (parts : List (K P-AddExpr)) → P-CatExpr (roll-CatExpr (record { at = at; parts = map (λ e. e.0) parts }))
  cat_rolled at parts =
      let x : Plain CatExpr-F = record { at = at; parts = map (λ e. e.0) parts } in
      subst (Good Q) (sym (cat_layer sight (roll-CatExpr x) ∙ ap (λ (x : Plain CatExpr-F). chain x.at (joined x.at) (map (sum_typed sight) x.parts)) (out-roll-CatExpr x)))
      (chained P-AddExpr (sum_typed sight) (λ e g. g) at (joined at) (λ l r p q t e. keeps.joined at l r t p q e) parts)

  pred_rolled : (at : ℕ) (left : K P-CatExpr) (test : K P-Test) → P-Pred (roll-Pred (record { at = at; left = left.0; test = test.0 }))
  pred_rolled at left test =
      let x : Plain Pred-F = record { at = at; left = left.0; test = test.0 } in
      subst (Good Q) (sym (pred_layer sight (roll-Pred x) ∙ ap (λ (x : Plain Pred-F). cat_typed sight x.left >>= test_typed sight x.test x.at) (out-roll-Pred x)))
      (then_good Q Q (cat_typed sight left.0) (test_typed sight test.0 at) left.1 (λ t q. test.1 at t q))

  sum_rolled : (at : ℕ) (first : K P-MulExpr) (rest : List (K P-AddStep)) → P-AddExpr (roll-AddExpr (record { at = at; first = first.0; rest = map (λ e. e.0) rest }))
  sum_rolled at first rest =
      let x : Plain AddExpr-F = record { at = at; first = first.0; rest = map (λ e. e.0) rest } in
      subst (Good Q) (sym (sum_layer sight (roll-AddExpr x) ∙ ap (λ (x : Plain AddExpr-F). steps x.at (product_typed sight x.first) (map (add_typed sight) x.rest)) (out-roll-AddExpr x)))
      (stepped P-AddStep (add_typed sight) (λ e g. g) at (product_typed sight first.0) first.1 rest)

  product_rolled : (at : ℕ) (first : K P-Unary) (rest : List (K P-MulStep)) → P-MulExpr (roll-MulExpr (record { at = at; first = first.0; rest = map (λ e. e.0) rest }))
  product_rolled at first rest =
      let x : Plain MulExpr-F = record { at = at; first = first.0; rest = map (λ e. e.0) rest } in
      subst (Good Q) (sym (product_layer sight (roll-MulExpr x) ∙ ap (λ (x : Plain MulExpr-F). steps x.at (unary_typed sight x.first) (map (mul_typed sight) x.rest)) (out-roll-MulExpr x)))
      (stepped P-MulStep (mul_typed sight) (λ e g. g) at (unary_typed sight first.0) first.1 rest)

  add_rolled : (begin : ℕ) (sign : AddSign) (part : K P-MulExpr) → P-AddStep (roll-AddStep (record { at = begin; sign = sign; part = part.0 }))
  add_rolled begin sign part at left q =
      let x : Plain AddStep-F = record { at = begin; sign = sign; part = part.0 } in
      subst (Good Q) (sym (add_layer sight (roll-AddStep x) at left ∙ ap (λ (x : Plain AddStep-F). product_typed sight x.part >>= added x.sign at left) (out-roll-AddStep x)))
      (then_good Q Q (product_typed sight part.0) (added sign at left) part.1 (λ r p t e. keeps.added sign at left r t q p e))

  mul_rolled : (begin : ℕ) (sign : MulSign) (part : K P-Unary) → P-MulStep (roll-MulStep (record { at = begin; sign = sign; part = part.0 }))
  mul_rolled begin sign part at left q =
      let x : Plain MulStep-F = record { at = begin; sign = sign; part = part.0 } in
      subst (Good Q) (sym (mul_layer sight (roll-MulStep x) at left ∙ ap (λ (x : Plain MulStep-F). unary_typed sight x.part >>= multiplied x.sign at left) (out-roll-MulStep x)))
      (then_good Q Q (unary_typed sight part.0) (multiplied sign at left) part.1 (λ r p t e. keeps.multiplied sign at left r t q p e))

  post_rolled : (at : ℕ) (value : K P-Primary) (casts : List ColType) → P-Post (roll-Post (record { at = at; value = value.0; casts = casts }))
  post_rolled at value casts =
      let x : Plain Post-F = record { at = at; value = value.0; casts = casts } in
      subst (Good Q) (sym (post_layer sight (roll-Post x) ∙ ap (λ (x : Plain Post-F). value_typed sight x.value >>= λ t. along (one_cast x.at) t x.casts) (out-roll-Post x)))
      (then_good Q Q (value_typed sight value.0) (λ t. along (one_cast at) t casts) value.1
      (λ t q. along_good Q (λ to. Unit {0}) (one_cast at) (λ x to p known y e. keeps.cast at to x y p e) t q casts (any casts)))

  arm_rolled : (at : ℕ) (test value : K P-OrExpr) → P-Arm (roll-Arm (record { at = at; test = test.0; value = value.0 }))
  arm_rolled at test value =
      let x : Plain Arm-F = record { at = at; test = test.0; value = value.0 } in
      subst (Good Both) (sym (arm_layer sight (roll-Arm x) ∙ ap (λ (x : Plain Arm-F). typed sight x.test >>= λ test. typed sight x.value >>= λ value. Ok (test, value)) (out-roll-Arm x)))
      (then_good Q Both (typed sight test.0) (λ t. typed sight value.0 >>= λ v. Ok (t, v)) test.1
      (λ t q. then_good Q Both (typed sight value.0) (λ v. Ok (t, v)) value.1 (λ v p. given Both (t, v) (q, p))))

  -- the same by variant
  not_rolled : (y : Known NotExpr-F) → P-NotExpr (roll-NotExpr (bare_not y))
  not_rolled (Not at inner) =
      subst (Good Q) (sym (ap (not_typed sight) (the_not.rolls-Not at inner.0) ∙ not_layer sight at inner.0))
      (then_good Q Q (not_typed sight inner.0) (denied at) inner.1 (λ x q t e. keeps.denied at x t q e))
  not_rolled (NotExpr::Plain at pred) = subst (Good Q) (sym (ap (not_typed sight) (the_not.rolls-Plain at pred.0) ∙ plain_layer sight at pred.0)) pred.1

  unary_rolled : (y : Known Unary-F) → P-Unary (roll-Unary (bare_unary y))
  unary_rolled (Minus at inner) =
      subst (Good Q) (sym (ap (unary_typed sight) (the_unary.rolls-Minus at inner.0) ∙ minus_layer sight at inner.0))
      (then_good Q Q (unary_typed sight inner.0) (negated at) inner.1 (λ x q t e. keeps.negated at x t q e))
  unary_rolled (Unary::Plain at post) = subst (Good Q) (sym (ap (unary_typed sight) (the_unary.rolls-Plain at post.0) ∙ unsigned_layer sight at post.0)) post.1

  test_rolled : (y : Known Test-F) → P-Test (roll-Test (bare_test y))
  test_rolled Nothing at left q = subst (Good Q) (sym (ap (λ e. test_typed sight e at left) the_test.rolls-Nothing ∙ nothing_layer sight at left)) (given Q left q)
  test_rolled (Compare o r) at left q =
      subst (Good Q) (sym (ap (λ e. test_typed sight e at left) (the_test.rolls-Compare o r.0) ∙ compare_layer sight o r.0 at left))
      (then_good Q Q (cat_typed sight r.0) (compared (compare_op o) at left) r.1 (λ x p t e. keeps.compared o at left x t q p e))
  test_rolled (IsNull g) at left q =
      subst (Good Q) (sym (ap (λ e. test_typed sight e at left) (the_test.rolls-IsNull g) ∙ is_null_layer sight g at left)) (given Q (turned g (null_test at left)) (keeps.tested g at left q))
  test_rolled (Between g a b) at left q =
      subst (Good Q) (sym (ap (λ e. test_typed sight e at left) (the_test.rolls-Between g a.0 b.0) ∙ between_layer sight g a.0 b.0 at left))
      (then_good Q Q (cat_typed sight a.0) (λ low. cat_typed sight b.0 >>= λ high. between at left low high >>= λ t. Ok (turned g t)) a.1
      (λ low p. then_good Q Q (cat_typed sight b.0) (λ high. between at left low high >>= λ t. Ok (turned g t)) b.1
      (λ high r. then_good (λ t. Q (turned g t)) Q (between at left low high) (λ t. Ok (turned g t)) (λ t e. keeps.between g at left low high t q p r e) (λ t k. given Q (turned g t) k))))
  test_rolled (OneOf g xs) at left q =
      subst (Good Q) (sym (ap (λ e. test_typed sight e at left) (the_test.rolls-OneOf g (map (λ e. e.0) xs)) ∙ one_of_layer sight g (map (λ e. e.0) xs) at left))
      (then_good (AllByRecursion Q) Q (all_typed sight (map (λ e. e.0) xs)) (λ of. one_of at left of >>= λ t. Ok (turned g t)) (all_known xs)
      (λ of p. then_good (λ t. Q (turned g t)) Q (one_of at left of) (λ t. Ok (turned g t)) (λ t e. keeps.one_of g at left of t q p e) (λ t k. given Q (turned g t) k)))

  args_rolled : (y : Known Args-F) → P-Args (roll-Args (bare_args y))
  args_rolled (Star begin) at f =
      subst (Good Q) (sym (ap (λ e. args_typed sight e at f) (the_args.rolls-Star begin) ∙ star_layer sight begin at f)) (λ t e. keeps.starred at f t e)
  args_rolled (Distinct begin x) at f =
      subst (Good Q) (sym (ap (λ e. args_typed sight e at f) (the_args.rolls-Distinct begin x.0) ∙ distinct_layer sight begin x.0 at f))
      (then_good Q Q (typed sight x.0) (distinct at f) x.1 (λ x q t e. keeps.distinct at f x t q e))
  args_rolled (Values begin xs) at f =
      subst (Good Q) (sym (ap (λ e. args_typed sight e at f) (the_args.rolls-List begin (map (λ e. e.0) xs)) ∙ list_layer sight begin (map (λ e. e.0) xs) at f))
      (then_good (AllByRecursion Q) Q (all_typed sight (map (λ e. e.0) xs)) (called at f) (all_known xs) (λ of p t e. keeps.called at f of t p e))

  case_good : (at : ℕ) (o : Option (K P-OrExpr)) (xs : List (K P-Arm)) (d : Option (K P-OrExpr))
      → Good Q (some_typed sight (option_map (λ e. e.0) o) >>= λ operand. arms_typed sight (map (λ e. e.0) xs) >>= λ arms. some_typed sight (option_map (λ e. e.0) d) >>= λ otherwise. cased at operand arms otherwise)
  case_good at o xs d =
      then_good Some_known Q (some_typed sight (option_map (λ e. e.0) o)) (λ operand. arms_typed sight (map (λ e. e.0) xs) >>= λ arms. some_typed sight (option_map (λ e. e.0) d) >>= λ otherwise. cased at operand arms otherwise) (some_known o)
      (λ operand p. then_good (AllByRecursion Both) Q (arms_typed sight (map (λ e. e.0) xs)) (λ arms. some_typed sight (option_map (λ e. e.0) d) >>= λ otherwise. cased at operand arms otherwise) (arms_known xs)
      (λ arms q. then_good Some_known Q (some_typed sight (option_map (λ e. e.0) d)) (cased at operand arms) (some_known d) (λ otherwise r t e. keeps.cased at operand arms otherwise t p q r e)))

  value_rolled : (y : Known Primary-F) → P-Primary (roll-Primary (bare_value y))
  value_rolled (Number at n) = subst (Good Q) (sym (ap (value_typed sight) (the_primary.rolls-Number at n) ∙ number_layer sight at n)) (λ t e. keeps.number at n t e)
  value_rolled (Text at x) = subst (Good Q) (sym (ap (value_typed sight) (the_primary.rolls-Text at x) ∙ text_layer sight at x)) (given Q _ (keeps.text at x))
  value_rolled (Date at d) = subst (Good Q) (sym (ap (value_typed sight) (the_primary.rolls-Date at d) ∙ date_layer sight at d)) (given Q _ (keeps.date at d))
  value_rolled (Truth at b) = subst (Good Q) (sym (ap (value_typed sight) (the_primary.rolls-Truth at b) ∙ truth_layer sight at b)) (given Q _ (keeps.truth at b))
  value_rolled (Null at) = subst (Good Q) (sym (ap (value_typed sight) (the_primary.rolls-Null at) ∙ null_layer sight at)) (given Q _ (keeps.null at))
  value_rolled (Macro at x) = subst (Good Q) (sym (ap (value_typed sight) (the_primary.rolls-Macro at x) ∙ macro_layer sight at x)) (λ t e. keeps.macro at x t e)
  value_rolled (Column at of x) = subst (Good Q) (sym (ap (value_typed sight) (the_primary.rolls-Column at of x) ∙ column_layer sight at of x)) (λ t e. keeps.column at of x t e)
  value_rolled (Call at f a) = subst (Good Q) (sym (ap (value_typed sight) (the_primary.rolls-Call at f a.0) ∙ call_layer sight at f a.0)) (a.1 at f)
  value_rolled (Group at x) = subst (Good Q) (sym (ap (value_typed sight) (the_primary.rolls-Group at x.0) ∙ group_layer sight at x.0)) x.1
  value_rolled (Case at None xs None) =
      subst (Good Q) (sym (ap (value_typed sight) (the_primary.rolls-Case at None (map (λ e. e.0) xs) None) ∙ case_layer sight at None (map (λ e. e.0) xs) None)) (case_good at None xs None)
  value_rolled (Case at None xs (Some d)) =
      subst (Good Q) (sym (ap (value_typed sight) (the_primary.rolls-Case at None (map (λ e. e.0) xs) (Some d.0)) ∙ case_layer sight at None (map (λ e. e.0) xs) (Some d.0))) (case_good at None xs (Some d))
  value_rolled (Case at (Some o) xs None) =
      subst (Good Q) (sym (ap (value_typed sight) (the_primary.rolls-Case at (Some o.0) (map (λ e. e.0) xs) None) ∙ case_layer sight at (Some o.0) (map (λ e. e.0) xs) None)) (case_good at (Some o) xs None)
  value_rolled (Case at (Some o) xs (Some d)) =
      subst (Good Q) (sym (ap (value_typed sight) (the_primary.rolls-Case at (Some o.0) (map (λ e. e.0) xs) (Some d.0)) ∙ case_layer sight at (Some o.0) (map (λ e. e.0) xs) (Some d.0))) (case_good at (Some o) xs (Some d))
  value_rolled (Cast at x to) =
      subst (Good Q) (sym (ap (value_typed sight) (the_primary.rolls-Cast at x.0 to) ∙ cast_layer sight at x.0 to)) (then_good Q Q (typed sight x.0) (cast at to) x.1 (λ y q t e. keeps.cast at to y t q e))

  -- the whole walk
  walks : (e : OrExpr) → P-OrExpr e
  walks =
      ind-OrExpr P-Args P-NotExpr P-Primary P-Test P-Unary P-AddExpr P-AddStep P-AndExpr P-Arm P-CatExpr P-MulExpr P-MulStep P-OrExpr P-Post P-Pred
      (λ x y e. subst (λ z. P-Args (roll-Args z)) e (args_rolled y))
      (λ x y e. subst (λ z. P-NotExpr (roll-NotExpr z)) e (not_rolled y))
      (λ x y e. subst (λ z. P-Primary (roll-Primary z)) e (value_rolled y))
      (λ x y e. subst (λ z. P-Test (roll-Test z)) e (test_rolled y))
      (λ x y e. subst (λ z. P-Unary (roll-Unary z)) e (unary_rolled y))
      (λ x y e. subst (λ z. P-AddExpr (roll-AddExpr z)) e (sum_rolled y.at y.first y.rest))
      (λ x y e. subst (λ z. P-AddStep (roll-AddStep z)) e (add_rolled y.at y.sign y.part))
      (λ x y e. subst (λ z. P-AndExpr (roll-AndExpr z)) e (and_rolled y.at y.parts))
      (λ x y e. subst (λ z. P-Arm (roll-Arm z)) e (arm_rolled y.at y.test y.value))
      (λ x y e. subst (λ z. P-CatExpr (roll-CatExpr z)) e (cat_rolled y.at y.parts))
      (λ x y e. subst (λ z. P-MulExpr (roll-MulExpr z)) e (product_rolled y.at y.first y.rest))
      (λ x y e. subst (λ z. P-MulStep (roll-MulStep z)) e (mul_rolled y.at y.sign y.part))
      (λ x y e. subst (λ z. P-OrExpr (roll-OrExpr z)) e (or_rolled y.at y.parts))
      (λ x y e. subst (λ z. P-Post (roll-Post z)) e (post_rolled y.at y.value y.casts))
      (λ x y e. subst (λ z. P-Pred (roll-Pred z)) e (pred_rolled y.at y.left y.test))

-- what the walk through an expression gives has the property
pub walk_keeps : (sight : Sight) (Q : Typed → Type 0) → Keeps sight Q → (e : OrExpr) (t : Typed) → typed sight e ≡ Ok t → Q t
walk_keeps sight Q keeps e t is = walks sight Q keeps e t is
