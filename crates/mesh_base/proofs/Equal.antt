-- The test of equal expressions is equality.
use Rattle.std.proofs.Common.{◌≡◌, ℕ, ℤ, Bool, true, false, ◌==◌, ◌&&◌, ◌↔◌, List, [], ◌∷◌, map, refl, ap, sym, ◌∙◌, subst, rules}
use Rattle.std.specs.Cmp.Lexicographic.{pointwise, same_text}
use Rattle.std.specs.Cmp.{IsEquivalence}
use Rattle.std.specs.Ordering.{int_eq}
use Rattle.std.proofs.lemmas.Bool.{and_parts, eqb-true}
use denote.Enum.Bare.{same_true}
use Rattle.mesh_base_values.specs.declared.values.Cell.{Cell}
use Rattle.mesh_base_values.specs.declared.values.Cell.TheVariants.{Null, Int, Text, Date, Bool as Truth}
use Rattle.mesh_base_values.specs.declared.values.ColType.{ColType}
use Rattle.mesh_base_values.specs.contracts.values.CellPartialEq.TheImpl as cells
use Rattle.mesh_base_values.specs.contracts.values.ColTypePartialEq.TheImpl as types
use Rattle.mesh_base_values.specs.contracts.values.ColType as the_types
use Rattle.mesh_base.specs.declared.expressions.AggKind.{AggKind}
use Rattle.mesh_base.specs.declared.expressions.Expr.{Expr, roll-Expr, out-Expr, map-Expr, ind-Expr, roll-out-Expr, the_lemmas}
use Rattle.mesh_base.specs.declared.expressions.Expr as expr
use Rattle.mesh_base.specs.declared.expressions.Expr.TheOpen.{Expr-F, When-F, Literal, Col, Macro, Binary, Neg, Not, IsNull, Between, OneOf, Cast, Call, Case, CountAll, Agg}
use Rattle.mesh_base.specs.declared.expressions.Func.{Func}
use Rattle.mesh_base.specs.declared.expressions.Op.{Op}
use Rattle.mesh_base.specs.declared.expressions.Var.{Var}
use Rattle.mesh_base.specs.declared.expressions.When.{When, roll-When, map-When}
use Rattle.mesh_base.specs.contracts.expressions.AggKind as the_aggs
use Rattle.mesh_base.specs.contracts.expressions.AggKindPartialEq.TheImpl as aggs
use Rattle.mesh_base.specs.contracts.expressions.ExprEq.TheImpl.Laws as equivalence
use Rattle.mesh_base.specs.contracts.expressions.ExprPartialEq.TheImpl as wholes
use Rattle.mesh_base.specs.contracts.expressions.ExprPartialEq.TheImpl.Laws as one_step
use Rattle.mesh_base.specs.contracts.expressions.Func as the_funcs
use Rattle.mesh_base.specs.contracts.expressions.FuncPartialEq.TheImpl as funcs
use Rattle.mesh_base.specs.contracts.expressions.Op as the_ops
use Rattle.mesh_base.specs.contracts.expressions.OpPartialEq.TheImpl as ops
use Rattle.mesh_base.specs.contracts.expressions.Var as the_vars
use Rattle.mesh_base.specs.contracts.expressions.VarPartialEq.TheImpl as vars
use Rattle.mesh_base.specs.contracts.expressions.WhenEq.TheImpl.Laws as when_equivalence
use Rattle.mesh_base.specs.contracts.expressions.WhenPartialEq.TheImpl as whens
use Rattle.mesh_base.specs.contracts.expressions.WhenPartialEq.TheImpl.Laws as when_step

abbrev same_expr : Expr → Expr → Bool
same_expr = wholes.eq-value.it

abbrev same_when : When → When → Bool
same_when = whens.eq-value.it

-- what an expression holds beside its parts
op_is : (a b : Op) → ops.eq-value.it a b ≡ true → a ≡ b
op_is a b h = same_true the_ops.the_type (search rules) a b h

var_is : (a b : Var) → vars.eq-value.it a b ≡ true → a ≡ b
var_is a b h = same_true the_vars.the_type (search rules) a b h

func_is : (a b : Func) → funcs.eq-value.it a b ≡ true → a ≡ b
func_is a b h = same_true the_funcs.the_type (search rules) a b h

agg_is : (a b : AggKind) → aggs.eq-value.it a b ≡ true → a ≡ b
agg_is a b h = same_true the_aggs.the_type (search rules) a b h

type_is : (a b : ColType) → types.eq-value.it a b ≡ true → a ≡ b
type_is a b h = same_true the_types.the_type (search rules) a b h

int_is : (a b : ℤ) → int_eq a b ≡ true → a ≡ b
int_is a b h = search rules

truth_is : (a b : Bool) → cells.eq-value.it (Truth a) (Truth b) ≡ true → a ≡ b
truth_is true true h = refl
truth_is false false h = refl
truth_is true false h = absurd (cc)
truth_is false true h = absurd (cc)

cell_is : (a b : Cell) → cells.eq-value.it a b ≡ true → a ≡ b
cell_is Null Null h = refl
cell_is (Int m) (Int n) h = ap Int (int_is m n h)
cell_is (Text s) (Text t) h = ap Text (same_text s t (sym h))
cell_is (Date d) (Date e) h = ap Date (int_is d e h)
cell_is (Truth a) (Truth b) h = ap Truth (truth_is a b h)
cell_is a b h = absurd (cc)

-- how two expressions of one form are compared
of_literal : (a b : Cell) → one_step.unfolded (expr.Literal a) (expr.Literal b) ≡ cells.eq-value.it a b
unfolding roll-Expr denote.Hole.Carrier.roll out-Expr denote.Hole.Carrier.out
of_literal a b = search (the_lemmas, rules)

of_col : (m n : ℕ) (a b : List ℕ) → one_step.unfolded (expr.Col m a) (expr.Col n b) ≡ ((m == n) && pointwise ◌==◌ a b)
unfolding roll-Expr denote.Hole.Carrier.roll out-Expr denote.Hole.Carrier.out
of_col m n a b = search (the_lemmas, rules)

of_macro : (a b : Var) → one_step.unfolded (expr.Macro a) (expr.Macro b) ≡ vars.eq-value.it a b
unfolding roll-Expr denote.Hole.Carrier.roll out-Expr denote.Hole.Carrier.out
of_macro a b = search (the_lemmas, rules)

of_binary : (o p : Op) (a b c d : Expr) → one_step.unfolded (expr.Binary o a b) (expr.Binary p c d) ≡ (ops.eq-value.it o p && (same_expr a c && same_expr b d))
unfolding roll-Expr denote.Hole.Carrier.roll out-Expr denote.Hole.Carrier.out
of_binary o p a b c d = search (the_lemmas, rules)

of_neg : (a b : Expr) → one_step.unfolded (expr.Neg a) (expr.Neg b) ≡ same_expr a b
unfolding roll-Expr denote.Hole.Carrier.roll out-Expr denote.Hole.Carrier.out
of_neg a b = search (the_lemmas, rules)

of_not : (a b : Expr) → one_step.unfolded (expr.Not a) (expr.Not b) ≡ same_expr a b
unfolding roll-Expr denote.Hole.Carrier.roll out-Expr denote.Hole.Carrier.out
of_not a b = search (the_lemmas, rules)

of_is_null : (a b : Expr) → one_step.unfolded (expr.IsNull a) (expr.IsNull b) ≡ same_expr a b
unfolding roll-Expr denote.Hole.Carrier.roll out-Expr denote.Hole.Carrier.out
of_is_null a b = search (the_lemmas, rules)

of_between : (a b c d e f : Expr) → one_step.unfolded (expr.Between a b c) (expr.Between d e f) ≡ (same_expr a d && (same_expr b e && same_expr c f))
unfolding roll-Expr denote.Hole.Carrier.roll out-Expr denote.Hole.Carrier.out
of_between a b c d e f = search (the_lemmas, rules)

of_one_of : (a b : Expr) (xs ys : List Expr) → one_step.unfolded (expr.OneOf a xs) (expr.OneOf b ys) ≡ (same_expr a b && pointwise same_expr xs ys)
unfolding roll-Expr denote.Hole.Carrier.roll out-Expr denote.Hole.Carrier.out
of_one_of a b xs ys = search (the_lemmas, rules)

of_cast : (s t : ColType) (a b : Expr) → one_step.unfolded (expr.Cast s a) (expr.Cast t b) ≡ (types.eq-value.it s t && same_expr a b)
unfolding roll-Expr denote.Hole.Carrier.roll out-Expr denote.Hole.Carrier.out
of_cast s t a b = search (the_lemmas, rules)

of_call : (f g : Func) (xs ys : List Expr) → one_step.unfolded (expr.Call f xs) (expr.Call g ys) ≡ (funcs.eq-value.it f g && pointwise same_expr xs ys)
unfolding roll-Expr denote.Hole.Carrier.roll out-Expr denote.Hole.Carrier.out
of_call f g xs ys = search (the_lemmas, rules)

of_case : (xs ys : List When) (a b : Expr) → one_step.unfolded (expr.Case xs a) (expr.Case ys b) ≡ (pointwise same_when xs ys && same_expr a b)
unfolding roll-Expr denote.Hole.Carrier.roll out-Expr denote.Hole.Carrier.out
of_case xs ys a b = search (the_lemmas, rules)

of_agg : (k l : AggKind) (a b : Expr) → one_step.unfolded (expr.Agg k a) (expr.Agg l b) ≡ (aggs.eq-value.it k l && same_expr a b)
unfolding roll-Expr denote.Hole.Carrier.roll out-Expr denote.Hole.Carrier.out
of_agg k l a b = search (the_lemmas, rules)

of_when : (w v : When) → same_when w v ≡ (same_expr w.test v.test && same_expr w.value v.value)
of_when w v = when_step.is w v ∙ search (the_lemmas, rules)

-- equal where the test says so
abbrev P : Expr → Type 0
P e = (other : Expr) → same_expr e other ≡ true → e ≡ other

abbrev P' : When → Type 0
P' w = (other : When) → same_when w other ≡ true → w ≡ other

abbrev Known : Type 0
Known = (e : Expr) × P e

abbrev Known' : Type 0
Known' = (w : When) × P' w

exprs : (es : List Known) (others : List Expr) → pointwise same_expr (map (λ e. e.0) es) others ≡ true → map (λ e. e.0) es ≡ others
exprs [] [] h = refl
exprs [] (o ∷ os) h = absurd (cc)
exprs (e ∷ es) [] h = absurd (cc)
exprs (e ∷ es) (o ∷ os) h = let b = and_parts (same_expr e.0 o) (pointwise same_expr (map (λ e. e.0) es) os) h in λ i. e.1 o b.0 i ∷ exprs es os b.1 i

each_when : (ws : List Known') (others : List When) → pointwise same_when (map (λ w. w.0) ws) others ≡ true → map (λ w. w.0) ws ≡ others
each_when [] [] h = refl
each_when [] (o ∷ os) h = absurd (cc)
each_when (w ∷ ws) [] h = absurd (cc)
each_when (w ∷ ws) (o ∷ os) h = let b = and_parts (same_when w.0 o) (pointwise same_when (map (λ w. w.0) ws) os) h in λ i. w.1 o b.0 i ∷ each_when ws os b.1 i

abbrev under : Expr-F Known Known' → Expr-F Expr When
under y = map-Expr Known Known' Expr When (λ e. e.0) (λ e. e.0) y

no : false ≡ true → ⊥
no h = cc

layer : (y : Expr-F Known Known') (e : Expr-F Expr When) → one_step.unfolded (roll-Expr (under y)) (roll-Expr e) ≡ true → under y ≡ e
unfolding roll-Expr denote.Hole.Carrier.roll out-Expr denote.Hole.Carrier.out
layer (Literal a) (Literal b) h = ap Literal (cell_is a b (sym (of_literal a b) ∙ h))
layer (Literal a) other h = absurd (no h)
layer (Col m a) (Col n b) h = let p = and_parts (m == n) (pointwise ◌==◌ a b) (sym (of_col m n a b) ∙ h) in λ i. Col (eqb-true m n p.0 i) (same_text a b (sym p.1) i)
layer (Col m a) other h = absurd (no h)
layer (Macro a) (Macro b) h = ap Macro (var_is a b (sym (of_macro a b) ∙ h))
layer (Macro a) other h = absurd (no h)
layer (Binary o a b) (Binary p c d) h =
    let q = and_parts (ops.eq-value.it o p) (same_expr a.0 c && same_expr b.0 d) (sym (of_binary o p a.0 b.0 c d) ∙ h) in
    let r = and_parts (same_expr a.0 c) (same_expr b.0 d) q.1 in
    λ i. Binary (op_is o p q.0 i) (a.1 c r.0 i) (b.1 d r.1 i)
layer (Binary o a b) other h = absurd (no h)
layer (Neg a) (Neg b) h = ap Neg (a.1 b (sym (of_neg a.0 b) ∙ h))
layer (Neg a) other h = absurd (no h)
layer (Not a) (Not b) h = ap Not (a.1 b (sym (of_not a.0 b) ∙ h))
layer (Not a) other h = absurd (no h)
layer (IsNull a) (IsNull b) h = ap IsNull (a.1 b (sym (of_is_null a.0 b) ∙ h))
layer (IsNull a) other h = absurd (no h)
layer (Between a b c) (Between d e f) h =
    let q = and_parts (same_expr a.0 d) (same_expr b.0 e && same_expr c.0 f) (sym (of_between a.0 b.0 c.0 d e f) ∙ h) in
    let r = and_parts (same_expr b.0 e) (same_expr c.0 f) q.1 in
    λ i. Between (a.1 d q.0 i) (b.1 e r.0 i) (c.1 f r.1 i)
layer (Between a b c) other h = absurd (no h)
layer (OneOf a xs) (OneOf b ys) h =
    let q = and_parts (same_expr a.0 b) (pointwise same_expr (map (λ e. e.0) xs) ys) (sym (of_one_of a.0 b (map (λ e. e.0) xs) ys) ∙ h) in
    λ i. OneOf (a.1 b q.0 i) (exprs xs ys q.1 i)
layer (OneOf a xs) other h = absurd (no h)
layer (Cast s a) (Cast t b) h = let q = and_parts (types.eq-value.it s t) (same_expr a.0 b) (sym (of_cast s t a.0 b) ∙ h) in λ i. Cast (type_is s t q.0 i) (a.1 b q.1 i)
layer (Cast s a) other h = absurd (no h)
layer (Call f xs) (Call g ys) h =
    let q = and_parts (funcs.eq-value.it f g) (pointwise same_expr (map (λ e. e.0) xs) ys) (sym (of_call f g (map (λ e. e.0) xs) ys) ∙ h) in
    λ i. Call (func_is f g q.0 i) (exprs xs ys q.1 i)
layer (Call f xs) other h = absurd (no h)
layer (Case xs a) (Case ys b) h =
    let q = and_parts (pointwise same_when (map (λ w. w.0) xs) ys) (same_expr a.0 b) (sym (of_case (map (λ w. w.0) xs) ys a.0 b) ∙ h) in
    λ i. Case (each_when xs ys q.0 i) (a.1 b q.1 i)
layer (Case xs a) other h = absurd (no h)
layer CountAll CountAll h = refl
layer CountAll other h = absurd (no h)
layer (Agg k a) (Agg l b) h = let q = and_parts (aggs.eq-value.it k l) (same_expr a.0 b) (sym (of_agg k l a.0 b) ∙ h) in λ i. Agg (agg_is k l q.0 i) (a.1 b q.1 i)
layer (Agg k a) other h = absurd (no h)

rolled : (y : Expr-F Known Known') → P (roll-Expr (under y))
rolled y other h =
    let step : one_step.unfolded (roll-Expr (under y)) (roll-Expr (out-Expr other)) ≡ true =
    ap (one_step.unfolded (roll-Expr (under y))) (roll-out-Expr other) ∙ sym (one_step.is (roll-Expr (under y)) other) ∙ h in
    ap roll-Expr (layer y (out-Expr other) step) ∙ roll-out-Expr other

rolled_when : (y : When-F Known Known') → P' (roll-When (map-When Known Known' Expr When (λ e. e.0) (λ e. e.0) y))
rolled_when y other h =
    let b = and_parts (same_expr y.test.0 other.test) (same_expr y.value.0 other.value) (sym (of_when (roll-When (map-When Known Known' Expr When (λ e. e.0) (λ e. e.0) y)) other) ∙ h) in
    λ i. record { test = y.test.1 other.test b.0 i; value = y.value.1 other.value b.1 i }

pub exact : (a b : Expr) → same_expr a b ≡ true → a ≡ b
exact = ind-Expr P P' (λ x y e. subst (λ z. P (roll-Expr z)) e (rolled y)) (λ x y e. subst (λ z. P' (roll-When z)) e (rolled_when y))

equivalent : IsEquivalence same_expr
equivalent = equivalence.laws-law

pub is_equality : (a b : Expr) → (same_expr a b ≡ true) ↔ (a ≡ b)
is_equality a b = (exact a b, λ e. ap (same_expr a) (sym e) ∙ equivalent.refl a)

exact_when : (w v : When) → same_when w v ≡ true → w ≡ v
exact_when w v h =
    let b = and_parts (same_expr w.test v.test) (same_expr w.value v.value) (sym (of_when w v) ∙ h) in
    λ i. record { test = exact w.test v.test b.0 i; value = exact w.value v.value b.1 i }

equivalent_whens : IsEquivalence same_when
equivalent_whens = when_equivalence.laws-law

pub is_equality_of_whens : (w v : When) → (same_when w v ≡ true) ↔ (w ≡ v)
is_equality_of_whens w v = (exact_when w v, λ e. ap (same_when w) (sym e) ∙ equivalent_whens.refl w)
