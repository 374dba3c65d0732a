-- What has no macro has one value, whatever the interval is.
use Rattle.std.proofs.Common.{◌≡◌, Bool, false, ◌||◌, List, [], ◌∷◌, map, refl, ap, sym, ◌∙◌, subst}
use Rattle.std.specs.List.{list_any}
use Rattle.std.specs.declared.option.Option.{Option}
use Rattle.std.specs.declared.option.Option.TheVariants.{None, Some}
use Rattle.std.proofs.lemmas.Bool.{or_parts as neither}
use Rattle.mesh_base_values.specs.declared.times.Bounds.{Bounds}
use Rattle.mesh_base_values.specs.declared.values.Cell.{Cell}
use Rattle.mesh_base_values.specs.declared.values.Cell.TheVariants as cell
use Rattle.mesh_base.specs.declared.expressions.AggKind.{AggKind}
use Rattle.mesh_base.specs.declared.expressions.Expr.{Expr, roll-Expr, out-roll-Expr, map-Expr, fold-roll-Expr, ind-Expr}
use Rattle.mesh_base.specs.declared.expressions.Expr.TheOpen.{Expr-F, When-F, Literal, Col, Macro, Binary, Neg, Not, IsNull, Between, OneOf, Cast, Call, Case, CountAll, Agg}
use Rattle.mesh_base.specs.declared.expressions.When.{When, roll-When, map-When, fold-roll-When, para-roll-When}
use Rattle.mesh_time_days.specs.casts.Casts.{cast_value}
use Rattle.mesh_spec_query.specs.Aggregates.{agg_value}
use Rattle.mesh_spec_query.specs.Cells.{op_value, negative, opposite, is_null, between, one_of, func_value, case_value}
use Rattle.mesh_spec_query.specs.Ev.{Scope, Value, Seen, Ev, Ev_when, ev_here, when_value, valued, key_of, key_or, node_value, over_group, at_row}
use Rattle.mesh_spec_query.proofs.Nodes.{Ev_out}
use Rattle.mesh_lineage.specs.Joinable.{has_macro, macro_here, macro_when, when_macro}

-- the same but for the interval
abbrev pub during : Bounds → Scope → Scope
during u s = record s { bounds = u }

module _ (u : Bounds) where
  abbrev P : Expr → Type 0
  P e = has_macro e ≡ false → (s : Scope) → Ev e (during u s) ≡ Ev e s

  abbrev P' : When → Type 0
  P' w = macro_when w ≡ false → (s : Scope) → Ev_when w (during u s) ≡ Ev_when w s

  abbrev Known : Type 0
  Known = (e : Expr) × P e

  abbrev Known' : Type 0
  Known' = (w : When) × P' w

  exprs : (es : List Known) → list_any (λ b. b) (map has_macro (map (λ e. e.0) es)) ≡ false → (s : Scope)
      → map (λ (p : Expr × Value). p.1 (during u s)) (map (λ e. (e, Ev e)) (map (λ e. e.0) es)) ≡ map (λ (p : Expr × Value). p.1 s) (map (λ e. (e, Ev e)) (map (λ e. e.0) es))
  exprs [] h s = refl
  exprs (e ∷ es) h s = let b = neither (has_macro e.0) (list_any (λ b. b) (map has_macro (map (λ e. e.0) es))) h in λ i. e.1 b.0 s i ∷ exprs es b.1 s i

  whens : (es : List Known') → list_any (λ b. b) (map macro_when (map (λ e. e.0) es)) ≡ false → (s : Scope)
      → map (λ (p : When × (Scope → Cell × Cell)). p.1 (during u s)) (map (λ w. (w, Ev_when w)) (map (λ e. e.0) es)) ≡ map (λ (p : When × (Scope → Cell × Cell)). p.1 s) (map (λ w. (w, Ev_when w)) (map (λ e. e.0) es))
  whens [] h s = refl
  whens (e ∷ es) h s = let b = neither (macro_when e.0) (list_any (λ b. b) (map macro_when (map (λ e. e.0) es))) h in λ i. e.1 b.0 s i ∷ whens es b.1 s i

  at_rows : (e : Known) → has_macro e.0 ≡ false → (v : Bounds) (rows : List Seen) → map (λ row. Ev e.0 (at_row u row)) rows ≡ map (λ row. Ev e.0 (at_row v row)) rows
  at_rows e h v [] = refl
  at_rows e h v (row ∷ rows) = λ i. e.1 h (at_row v row) i ∷ at_rows e h v rows i

  aggregated : (kind : AggKind) (e : Known) → has_macro e.0 ≡ false → (v : Bounds) (group : Option (List Seen))
      → over_group (λ rows. agg_value kind (map (λ row. Ev e.0 (at_row u row)) rows)) group ≡ over_group (λ rows. agg_value kind (map (λ row. Ev e.0 (at_row v row)) rows)) group
  aggregated kind e h v None = refl
  aggregated kind e h v (Some rows) = ap (agg_value kind) (at_rows e h v rows)

  abbrev under : Expr-F Known Known' → Expr-F Expr When
  under y = map-Expr Known Known' Expr When (λ e. e.0) (λ e. e.0) y

  abbrev Layer : Expr-F Expr When → Type 0
  Layer x = macro_here (map-Expr Expr When Bool Bool has_macro macro_when x) ≡ false → (s : Scope) → node_value (valued x) (during u s) ≡ node_value (valued x) s

  layer : (y : Expr-F Known Known') → Layer (under y)
  layer (Literal c) = λ h s. refl
  layer (Col item name) = λ h s. refl
  layer (Macro var) = λ h s. absurd (cc)
  layer (Binary op left right) = λ h s. let b = neither (has_macro left.0) (has_macro right.0) h in λ i. op_value op (left.1 b.0 s i) (right.1 b.1 s i)
  layer (Neg e) = λ h s i. negative (e.1 h s i)
  layer (Not e) = λ h s i. opposite (e.1 h s i)
  layer (IsNull e) = λ h s i. cell.Bool (is_null (e.1 h s i))
  layer (Between e low high) = λ h s. let b = neither (has_macro e.0) (has_macro low.0 || has_macro high.0) h in let d = neither (has_macro low.0) (has_macro high.0) b.1 in λ i. between (e.1 b.0 s i) (low.1 d.0 s i) (high.1 d.1 s i)
  layer (OneOf e of) = λ h s. let b = neither (has_macro e.0) (list_any (λ b. b) (map has_macro (map (λ e. e.0) of))) h in λ i. one_of (e.1 b.0 s i) (exprs of b.1 s i)
  layer (Cast to e) = λ h s i. cast_value to (e.1 h s i)
  layer (Call func args) = λ h s i. func_value func (exprs args h s i)
  layer (Case ws otherwise) = λ h s. let b = neither (list_any (λ b. b) (map macro_when (map (λ e. e.0) ws))) (has_macro otherwise.0) h in λ i. case_value (whens ws b.0 s i) (otherwise.1 b.1 s i)
  layer CountAll = λ h s. refl
  layer (Agg kind e) = λ h s. aggregated kind e h s.bounds s.group

  rolled : (x : Expr-F Expr When) → Layer x → P (roll-Expr x)
  rolled x l h s =
      Ev_out (roll-Expr x) (during u s)
      ∙ ap (λ d. key_or s (key_of s (roll-Expr x)) (node_value (valued d) (during u s))) (out-roll-Expr x)
      ∙ ap (key_or s (key_of s (roll-Expr x))) (l (sym (fold-roll-Expr Bool Bool macro_here when_macro x) ∙ h) s)
      ∙ sym (ap (λ d. key_or s (key_of s (roll-Expr x)) (node_value (valued d) s)) (out-roll-Expr x))
      ∙ sym (Ev_out (roll-Expr x) s)

  abbrev under_when : When-F Known Known' → When-F Expr When
  under_when x = map-When Known Known' Expr When (λ e. e.0) (λ e. e.0) x

  rolled_when : (x : When-F Known Known') → P' (roll-When (under_when x))
  rolled_when x h s =
      ap (λ v. v (during u s)) (para-roll-When Value (Scope → Cell × Cell) ev_here when_value (under_when x))
      ∙ (let b = neither (has_macro x.test.0) (has_macro x.value.0) (sym (fold-roll-When Bool Bool macro_here when_macro (under_when x)) ∙ h) in λ i. (x.test.1 b.0 s i, x.value.1 b.1 s i))
      ∙ sym (ap (λ v. v s) (para-roll-When Value (Scope → Cell × Cell) ev_here when_value (under_when x)))

  pub free : (e : Expr) → has_macro e ≡ false → (s : Scope) → Ev e (during u s) ≡ Ev e s
  free = ind-Expr P P' (λ x y e. subst (λ z. P (roll-Expr z)) e (rolled (under y) (layer y))) (λ x y e. subst (λ z. P' (roll-When z)) e (rolled_when y))
