-- The value of a node, from the values of its parts.
use Rattle.std.proofs.Common.{◌≡◌, ◌<◌, ◌≤◌, true, false, List, [], ◌∷◌, map, length, get_or, IfOk, refl, sym, ap, ap₂, ◌∙◌, arith}
use Rattle.std.proofs.lemmas.Result.{IfOk-weaker}
use Rattle.std.specs.declared.result.Result.{Result}
use Rattle.std.specs.declared.option.Option.{Option}
use Rattle.std.specs.declared.option.Option.TheVariants.{None, Some}
use Rattle.std.specs.declared.cmp.Ordering.{Ordering}
use Rattle.std.specs.List.{fold}
use Rattle.std.specs.Option.{unwrap_or}
use Rattle.std.specs.Ordering.{is_eq}
use Rattle.mesh_base_values.specs.declared.values.Cell.{Cell}
use Rattle.mesh_base_values.specs.declared.values.Cell.TheVariants.{Null, Int, Text, Date, Bool as Truth}
use Rattle.mesh_base_values.specs.declared.values.ColType.{ColType}
use Rattle.mesh_base.specs.declared.expressions.Op.{Op}
use Rattle.mesh_base.specs.declared.expressions.Func.{Func}
use Rattle.mesh_base.specs.declared.expressions.AggKind.{AggKind}
use Rattle.mesh_time_days.specs.casts.Casts.{cast_value}
use Rattle.mesh_spec_query.specs.Cells.{is_null, is_true, op_value, negative, opposite, between, one_of, func_value, chosen, either, compared, comparison, answer}
use Rattle.mesh_spec_query.specs.Aggregates.{agg_value}
use Rattle.mesh_eval_expressions.specs.declared.bound.forms.Bound.{Bound}
use Rattle.mesh_eval_expressions.specs.declared.bound.forms.Bound as bound
use Rattle.mesh_eval_expressions.specs.declared.bound.forms.BoundWhen.{BoundWhen, out-BoundWhen, roll-out-BoundWhen, fold-roll-BoundWhen}
use Rattle.mesh_eval_expressions.specs.bound.Meaning.{Given, bound_value, bound_each, bound_when, bound_whens, bound_here, when_here, row_alone, over_rows}
use Rattle.mesh_eval_expressions.proofs.bound.Parts.{value_of_binary, value_of_neg, value_of_not, value_of_is_null, value_of_between, value_of_one_of, value_of_cast, value_of_call, value_of_case, value_of_agg, value_of_plain}

-- what is had of an answer, by another name
pub named : {A E : Type 0} (r : Result A E) (x y : A) → IfOk r (λ v. v ≡ x) → x ≡ y → IfOk r (λ v. v ≡ y)
named r x y h e = IfOk-weaker r (λ v. v ≡ x) (λ v. v ≡ y) (λ v p. p ∙ e) h

pub of-binary : (b : Bound) (op : Op) (left right l r : Bound) (g : Given) → b ≡ bound.Binary op left right → l ≡ left → r ≡ right → op_value op (bound_value l g) (bound_value r g) ≡ bound_value b g
of-binary b op left right l r g is f h = (λ i. op_value op (bound_value (f i) g) (bound_value (h i) g)) ∙ sym (value_of_binary op left right g) ∙ ap (λ x. bound_value x g) (sym is)

pub of-neg : (b value x : Bound) (g : Given) → b ≡ bound.Neg value → x ≡ value → negative (bound_value x g) ≡ bound_value b g
of-neg b value x g is f = (λ i. negative (bound_value (f i) g)) ∙ sym (value_of_neg value g) ∙ ap (λ x. bound_value x g) (sym is)

pub of-not : (b value x : Bound) (g : Given) → b ≡ bound.Not value → x ≡ value → opposite (bound_value x g) ≡ bound_value b g
of-not b value x g is f = (λ i. opposite (bound_value (f i) g)) ∙ sym (value_of_not value g) ∙ ap (λ x. bound_value x g) (sym is)

pub of-is_null : (b value x : Bound) (g : Given) → b ≡ bound.IsNull value → x ≡ value → Truth (is_null (bound_value x g)) ≡ bound_value b g
of-is_null b value x g is f = (λ i. Truth (is_null (bound_value (f i) g))) ∙ sym (value_of_is_null value g) ∙ ap (λ x. bound_value x g) (sym is)

pub of-between : (b value low high x l h : Bound) (g : Given) → b ≡ bound.Between value low high → x ≡ value → l ≡ low → h ≡ high → between (bound_value x g) (bound_value l g) (bound_value h g) ≡ bound_value b g
of-between b value low high x l h g is p q r =
    (λ i. between (bound_value (p i) g) (bound_value (q i) g) (bound_value (r i) g)) ∙ sym (value_of_between value low high g) ∙ ap (λ x. bound_value x g) (sym is)

pub of-one_of : (b value x : Bound) (all xs : List Bound) (g : Given) → b ≡ bound.OneOf value all → x ≡ value → xs ≡ all → one_of (bound_value x g) (bound_each xs g) ≡ bound_value b g
of-one_of b value x all xs g is p q = (λ i. one_of (bound_value (p i) g) (bound_each (q i) g)) ∙ sym (value_of_one_of value all g) ∙ ap (λ x. bound_value x g) (sym is)

pub of-cast : (b : Bound) (to : ColType) (value x : Bound) (g : Given) → b ≡ bound.Cast to value → x ≡ value → cast_value to (bound_value x g) ≡ bound_value b g
of-cast b to value x g is f = (λ i. cast_value to (bound_value (f i) g)) ∙ sym (value_of_cast to value g) ∙ ap (λ x. bound_value x g) (sym is)

pub of-call : (b : Bound) (func : Func) (args xs : List Bound) (g : Given) → b ≡ bound.Call func args → xs ≡ args → func_value func (bound_each xs g) ≡ bound_value b g
of-call b func args xs g is f = (λ i. func_value func (bound_each (f i) g)) ∙ sym (value_of_call func args g) ∙ ap (λ x. bound_value x g) (sym is)

-- the values of one argument, and of two
pub one_arg : (args : List Bound) (x : Bound) (g : Given) → 1 ≤ length args → length args < 2 → x ≡ get_or args 0 x → bound_each args g ≡ bound_value x g ∷ []
one_arg [] x g least most e = absurd (omega arith)
one_arg (y ∷ []) x g least most e = ap (λ b. bound_value b g ∷ []) (sym e)
one_arg (y ∷ z ∷ args) x g least most e = absurd (omega arith)

pub two_args : (args : List Bound) (x y : Bound) (g : Given) → 2 ≤ length args → length args < 3 → x ≡ get_or args 0 x → y ≡ get_or args 1 y → bound_each args g ≡ bound_value x g ∷ bound_value y g ∷ []
two_args [] x y g least most e f = absurd (omega arith)
two_args (a ∷ []) x y g least most e f = absurd (omega arith)
two_args (a ∷ b ∷ []) x y g least most e f = ap₂ (λ a b. bound_value a g ∷ bound_value b g ∷ []) (sym e) (sym f)
two_args (a ∷ b ∷ z ∷ args) x y g least most e f = absurd (omega arith)

-- the first WHEN that is true has the value
pub of-when : (b otherwise : Bound) (whens ws : List BoundWhen) (g : Given) → b ≡ bound.Case whens otherwise → ws ≡ whens → (found : Option Cell) → found ≡ fold chosen None (bound_whens ws g) → (v : Cell) → found ≡ Some v → v ≡ bound_value b g
of-when b otherwise whens ws g is f found h v n =
    ap (λ (o : Option Cell). unwrap_or o (bound_value otherwise g)) (sym n ∙ h ∙ ap (λ w. fold chosen None (bound_whens w g)) f) ∙ sym (value_of_case whens otherwise g) ∙ ap (λ x. bound_value x g) (sym is)

-- ELSE has the value where no WHEN is true
pub of-case : (b otherwise x : Bound) (whens ws : List BoundWhen) (g : Given) → b ≡ bound.Case whens otherwise → ws ≡ whens → x ≡ otherwise → (found : Option Cell) → found ≡ fold chosen None (bound_whens ws g) → found ≡ None → bound_value x g ≡ bound_value b g
of-case b otherwise x whens ws g is f e found h n =
    ap (λ x. bound_value x g) e ∙ ap (λ (o : Option Cell). unwrap_or o (bound_value otherwise g)) (sym n ∙ h ∙ ap (λ w. fold chosen None (bound_whens w g)) f)
    ∙ sym (value_of_case whens otherwise g) ∙ ap (λ x. bound_value x g) (sym is)

pub of-agg : (b : Bound) (kind : AggKind) (value x : Bound) (g : Given) → b ≡ bound.Agg kind value → x ≡ value
    → over_rows (λ rows. agg_value kind (map (λ row. bound_value x (row_alone row)) rows)) g.group ≡ bound_value b g
of-agg b kind value x g is f =
    (λ i. over_rows (λ rows. agg_value kind (map (λ row. bound_value (f i) (row_alone row)) rows)) g.group) ∙ sym (value_of_agg kind value g) ∙ ap (λ x. bound_value x g) (sym is)

pub of-plain : (b value x : Bound) (g : Given) → b ≡ bound.Plain value → x ≡ value → bound_value x g ≡ bound_value b g
of-plain b value x g is f = ap (λ y. bound_value y g) f ∙ sym (value_of_plain value g) ∙ ap (λ x. bound_value x g) (sym is)

pub when_is : (w : BoundWhen) (g : Given) → bound_when w g ≡ (bound_value w.test g, bound_value w.value g)
when_is w g = ap (λ x. bound_when x g) (sym (roll-out-BoundWhen w)) ∙ ap (λ v. v g) (fold-roll-BoundWhen (Given → Cell) (Given → Cell × Cell) bound_here when_here (out-BoundWhen w))

-- what is found stays found
either-true : (o : Option Ordering) → either (Truth true) (answer is_eq o) ≡ Truth true
either-true None = refl
either-true (Some order) = refl

truth : (c : Cell) → is_true c ≡ true → c ≡ Truth true
truth (Truth true) h = refl
truth (Truth false) h = absurd (cc)
truth Null h = absurd (cc)
truth (Int n) h = absurd (cc)
truth (Text t) h = absurd (cc)
truth (Date d) h = absurd (cc)

pub found-stays : (found x y : Cell) → is_true found ≡ true → either found (compared is_eq x y) ≡ found
found-stays found x y h = ap (λ c. either c (compared is_eq x y)) (truth found h) ∙ either-true (comparison x y) ∙ sym (truth found h)
