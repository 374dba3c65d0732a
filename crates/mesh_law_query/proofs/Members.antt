-- The value of an expression for a group doesn't hang on the order of the group's rows.
use Rattle.std.proofs.Common.{◌≡◌, List, [], ◌∷◌, map, refl, ap, sym, ◌∙◌, subst}
use Rattle.std.specs.declared.option.Option.TheVariants.{Some}
use Rattle.mesh_base_values.specs.declared.values.Cell.{Cell}
use Rattle.mesh_base_values.specs.declared.values.Cell.TheVariants as cell
use Rattle.mesh_base.specs.declared.expressions.Expr.{Expr, roll-Expr, out-roll-Expr, map-Expr, ind-Expr}
use Rattle.mesh_base.specs.declared.expressions.Expr.TheOpen.{Expr-F, When-F, Literal, Col, Macro, Binary, Neg, Not, IsNull, Between, OneOf, Cast, Call, Case, CountAll, Agg}
use Rattle.mesh_base.specs.declared.expressions.When.{When, roll-When, map-When, para-roll-When}
use Rattle.mesh_spec_query.specs.Cells.{op_value, negative, opposite, is_null, between, one_of, func_value, case_value}
use Rattle.mesh_time_days.specs.casts.Casts.{cast_value}
use Rattle.mesh_spec_query.specs.Ev.{Scope, Value, Seen, Ev, Ev_when, ev_here, when_value, valued, key_of, key_or, node_value, at_row}
use Rattle.mesh_spec_query.proofs.Nodes.{Ev_out}
use Rattle.mesh_law_query.proofs.Perm.{Perm, mapped}
use Rattle.mesh_law_query.proofs.Amounts.{counted_same, amount_same}

module _ (xs ys : List Seen) (p : Perm xs ys) where
  abbrev of : List Seen → Scope → Scope
  of rows s = record s { group = Some rows }

  abbrev P : Expr → Type 0
  P e = (s : Scope) → Ev e (of xs s) ≡ Ev e (of ys s)

  abbrev P' : When → Type 0
  P' e = (s : Scope) → Ev_when e (of xs s) ≡ Ev_when e (of ys s)

  abbrev Known : Type 0
  Known = (e : Expr) × P e

  abbrev Known' : Type 0
  Known' = (e : When) × P' e

  exprs : (es : List Known) (s : Scope)
      → map (λ (q : Expr × Value). q.1 (of xs s)) (map (λ e. (e, Ev e)) (map (λ e. e.0) es)) ≡ map (λ (q : Expr × Value). q.1 (of ys s)) (map (λ e. (e, Ev e)) (map (λ e. e.0) es))
  exprs [] s = refl
  exprs (e ∷ es) s = λ i. e.1 s i ∷ exprs es s i

  whens : (es : List Known') (s : Scope)
      → map (λ (q : When × (Scope → Cell × Cell)). q.1 (of xs s)) (map (λ w. (w, Ev_when w)) (map (λ e. e.0) es))
      ≡ map (λ (q : When × (Scope → Cell × Cell)). q.1 (of ys s)) (map (λ w. (w, Ev_when w)) (map (λ e. e.0) es))
  whens [] s = refl
  whens (e ∷ es) s = λ i. e.1 s i ∷ whens es s i

  abbrev under : Expr-F Known Known' → Expr-F Expr When
  under y = map-Expr Known Known' Expr When (λ e. e.0) (λ e. e.0) y

  abbrev Layer : Expr-F Expr When → Type 0
  Layer x = (s : Scope) → node_value (valued x) (of xs s) ≡ node_value (valued x) (of ys s)

  layer : (y : Expr-F Known Known') → Layer (under y)
  layer (Literal c) = λ s. refl
  layer (Col item name) = λ s. refl
  layer (Macro var) = λ s. refl
  layer (Binary op left right) = λ s i. op_value op (left.1 s i) (right.1 s i)
  layer (Neg e) = λ s i. negative (e.1 s i)
  layer (Not e) = λ s i. opposite (e.1 s i)
  layer (IsNull e) = λ s i. cell.Bool (is_null (e.1 s i))
  layer (Between e low high) = λ s i. between (e.1 s i) (low.1 s i) (high.1 s i)
  layer (OneOf e all) = λ s i. one_of (e.1 s i) (exprs all s i)
  layer (Cast to e) = λ s i. cast_value to (e.1 s i)
  layer (Call func args) = λ s i. func_value func (exprs args s i)
  layer (Case ws otherwise) = λ s i. case_value (whens ws s i) (otherwise.1 s i)
  layer CountAll = λ s. counted_same p
  layer (Agg kind e) = λ s. amount_same kind (mapped (λ row. Ev e.0 (at_row s.bounds row)) p)

  rolled : (x : Expr-F Expr When) → Layer x → P (roll-Expr x)
  rolled x l s =
      Ev_out (roll-Expr x) (of xs s)
      ∙ ap (λ d. key_or s (key_of s (roll-Expr x)) (node_value (valued d) (of xs s))) (out-roll-Expr x)
      ∙ ap (key_or s (key_of s (roll-Expr x))) (l s)
      ∙ sym (ap (λ d. key_or s (key_of s (roll-Expr x)) (node_value (valued d) (of ys s))) (out-roll-Expr x))
      ∙ sym (Ev_out (roll-Expr x) (of ys s))

  abbrev under_when : When-F Known Known' → When-F Expr When
  under_when x = map-When Known Known' Expr When (λ e. e.0) (λ e. e.0) x

  rolled_when : (x : When-F Known Known') → P' (roll-When (under_when x))
  rolled_when x s =
      ap (λ v. v (of xs s)) (para-roll-When Value (Scope → Cell × Cell) ev_here when_value (under_when x))
      ∙ (λ i. (x.test.1 s i, x.value.1 s i))
      ∙ sym (ap (λ v. v (of ys s)) (para-roll-When Value (Scope → Cell × Cell) ev_here when_value (under_when x)))

  pub Ev_same : (e : Expr) (s : Scope) → Ev e (of xs s) ≡ Ev e (of ys s)
  Ev_same = ind-Expr P P' (λ x y e. subst (λ z. P (roll-Expr z)) e (rolled (under y) (layer y))) (λ x y e. subst (λ z. P' (roll-When z)) e (rolled_when y))
