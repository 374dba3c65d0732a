-- The value of an expression hangs on the columns that it names.
use Rattle.std.proofs.Common.{◌≡◌, ℕ, Bool, true, false, cond, ◌&&◌, List, [], ◌∷◌, ◌++◌, map, refl, ap, sym, ◌∙◌, subst, rules}
use Rattle.std.specs.List.{flat_map, list_all}
use Rattle.std.specs.Option.{option_map}
use Rattle.std.specs.declared.option.Option.{Option}
use Rattle.std.specs.declared.option.Option.TheVariants.{None, Some}
use Rattle.std.proofs.lemmas.List.Folds.{list_all-append}
use Rattle.std.proofs.lemmas.Bool.{and_parts}
use Rattle.std.proofs.lemmas.List.{length-map}
use Rattle.mesh_base_values.specs.declared.times.Bounds.{Bounds}
use Rattle.mesh_base_values.specs.declared.values.Cell.{Cell}
use Rattle.mesh_base_values.specs.declared.values.Cell.TheVariants as cell
use Rattle.mesh_base.specs.declared.expressions.Expr.{Expr, roll-Expr, out-roll-Expr, map-Expr, fold-roll-Expr, ind-Expr}
use Rattle.mesh_base.specs.declared.expressions.Expr.TheOpen.{Expr-F, When-F, Literal, Col, Macro, Binary, Neg, Not, IsNull, Between, OneOf, Cast, Call, Case, CountAll, Agg}
use Rattle.mesh_base.specs.declared.expressions.AggKind.{AggKind}
use Rattle.mesh_base.specs.declared.expressions.When.{When, roll-When, map-When, fold-roll-When, para-roll-When}
use Rattle.mesh_spec_query.specs.Cells.{op_value, negative, opposite, is_null, between, one_of, func_value, case_value}
use Rattle.mesh_time_days.specs.casts.Casts.{cast_value}
use Rattle.mesh_spec_query.specs.Aggregates.{agg_value, count_of}
use Rattle.mesh_spec_query.specs.Ev.{Scope, Value, Seen, Ev, Ev_when, ev_here, when_value, valued, key_of, key_or, node_value, over_group, at_row}
use Rattle.mesh_spec_query.specs.Named.{Place, columns_here, columns_when, columns, when_columns, masked, only, Covers}
use Rattle.mesh_spec_query.proofs.Nodes.{Ev_out}

module _ (shown : ℕ → List ℕ → Bool) where
  abbrev test : Place → Bool
  test p = shown p.0 p.1

  abbrev P : Expr → Type 0
  P e = Covers shown (columns e) → (s : Scope) → Ev e (only shown s) ≡ Ev e s

  abbrev P' : When → Type 0
  P' e = Covers shown (when_columns e) → (s : Scope) → Ev_when e (only shown s) ≡ Ev_when e s

  abbrev Known : Type 0
  Known = (e : Expr) × P e

  abbrev Known' : Type 0
  Known' = (e : When) × P' e

  both : (xs ys : List Place) → Covers shown (xs ++ ys) → Covers shown xs × Covers shown ys
  both xs ys h = and_parts (list_all test xs) (list_all test ys) (sym (list_all-append test xs ys) ∙ h)

  exprs : (es : List Known) → Covers shown (flat_map (λ x. x) (map columns (map (λ e. e.0) es))) → (s : Scope)
      → map (λ (p : Expr × Value). p.1 (only shown s)) (map (λ e. (e, Ev e)) (map (λ e. e.0) es)) ≡ map (λ (p : Expr × Value). p.1 s) (map (λ e. (e, Ev e)) (map (λ e. e.0) es))
  exprs [] h s = refl
  exprs (e ∷ es) h s = let b : Covers shown (columns e.0) × Covers shown (flat_map (λ x. x) (map columns (map (λ e. e.0) es))) = both _ _ h in λ i. e.1 b.0 s i ∷ exprs es b.1 s i

  whens : (es : List Known') → Covers shown (flat_map (λ x. x) (map when_columns (map (λ e. e.0) es))) → (s : Scope)
      → map (λ (p : When × (Scope → Cell × Cell)). p.1 (only shown s)) (map (λ w. (w, Ev_when w)) (map (λ e. e.0) es)) ≡ map (λ (p : When × (Scope → Cell × Cell)). p.1 s) (map (λ w. (w, Ev_when w)) (map (λ e. e.0) es))
  whens [] h s = refl
  whens (e ∷ es) h s = let b : Covers shown (when_columns e.0) × Covers shown (flat_map (λ x. x) (map when_columns (map (λ e. e.0) es))) = both _ _ h in λ i. e.1 b.0 s i ∷ whens es b.1 s i

  look_up : (b : Bool) (c : Cell) → (b && true) ≡ true → cond b c cell.Null ≡ c
  look_up true c h = refl
  look_up false c h = absurd (cc)

  at_rows : (e : Known) → Covers shown (columns e.0) → (u : Bounds) (rows : List Seen)
      → map (λ row. Ev e.0 (at_row u row)) (map (masked shown) rows) ≡ map (λ row. Ev e.0 (at_row u row)) rows
  at_rows e h u [] = refl
  at_rows e h u (row ∷ rows) = λ i. e.1 h (at_row u row) i ∷ at_rows e h u rows i

  counted : (group : Option (List Seen)) → over_group count_of (option_map (map (masked shown)) group) ≡ over_group count_of group
  counted None = refl
  counted (Some rows) = search (rules, length-map)

  aggregated : (kind : AggKind) (e : Known) → Covers shown (columns e.0) → (u : Bounds) (group : Option (List Seen))
      → over_group (λ rows. agg_value kind (map (λ row. Ev e.0 (at_row u row)) rows)) (option_map (map (masked shown)) group)
      ≡ over_group (λ rows. agg_value kind (map (λ row. Ev e.0 (at_row u row)) rows)) group
  aggregated kind e h u None = refl
  aggregated kind e h u (Some rows) = ap (agg_value kind) (at_rows e h u rows)

  abbrev under : Expr-F Known Known' → Expr-F Expr When
  under y = map-Expr Known Known' Expr When (λ e. e.0) (λ e. e.0) y

  abbrev Layer : Expr-F Expr When → Type 0
  Layer x = Covers shown (columns_here (map-Expr Expr When (List Place) (List Place) columns when_columns x))
      → (s : Scope) → node_value (valued x) (only shown s) ≡ node_value (valued x) s

  layer : (y : Expr-F Known Known') → Layer (under y)
  layer (Literal c) = λ h s. refl
  layer (Col item name) = λ h s. look_up (shown item name) (s.column item name) h
  layer (Macro var) = λ h s. refl
  layer (Binary op left right) = λ h s. let b = both (columns left.0) (columns right.0) h in λ i. op_value op (left.1 b.0 s i) (right.1 b.1 s i)
  layer (Neg e) = λ h s i. negative (e.1 h s i)
  layer (Not e) = λ h s i. opposite (e.1 h s i)
  layer (IsNull e) = λ h s i. cell.Bool (is_null (e.1 h s i))
  layer (Between e low high) = λ h s. let b = both (columns e.0) (columns low.0 ++ columns high.0) h in let d = both (columns low.0) (columns high.0) b.1 in λ i. between (e.1 b.0 s i) (low.1 d.0 s i) (high.1 d.1 s i)
  layer (OneOf e of) = λ h s. let b = both (columns e.0) (flat_map (λ x. x) (map columns (map (λ e. e.0) of))) h in λ i. one_of (e.1 b.0 s i) (exprs of b.1 s i)
  layer (Cast to e) = λ h s i. cast_value to (e.1 h s i)
  layer (Call func args) = λ h s i. func_value func (exprs args h s i)
  layer (Case ws otherwise) = λ h s. let b = both (flat_map (λ x. x) (map when_columns (map (λ e. e.0) ws))) (columns otherwise.0) h in λ i. case_value (whens ws b.0 s i) (otherwise.1 b.1 s i)
  layer CountAll = λ h s. counted s.group
  layer (Agg kind e) = λ h s. aggregated kind e h s.bounds s.group

  rolled : (x : Expr-F Expr When) → Layer x → P (roll-Expr x)
  rolled x l h s =
      Ev_out (roll-Expr x) (only shown s)
      ∙ ap (λ d. key_or s (key_of s (roll-Expr x)) (node_value (valued d) (only shown s))) (out-roll-Expr x)
      ∙ ap (key_or s (key_of s (roll-Expr x))) (l (ap (λ (c : List Place). list_all test c) (sym (fold-roll-Expr (List Place) (List Place) columns_here columns_when x)) ∙ h) s)
      ∙ sym (ap (λ d. key_or s (key_of s (roll-Expr x)) (node_value (valued d) s)) (out-roll-Expr x))
      ∙ sym (Ev_out (roll-Expr x) s)

  abbrev under_when : When-F Known Known' → When-F Expr When
  under_when x = map-When Known Known' Expr When (λ e. e.0) (λ e. e.0) x

  rolled_when : (x : When-F Known Known') → P' (roll-When (under_when x))
  rolled_when x h s =
      ap (λ v. v (only shown s)) (para-roll-When Value (Scope → Cell × Cell) ev_here when_value (under_when x))
      ∙ (let b = both (columns x.test.0) (columns x.value.0) (ap (λ (c : List Place). list_all test c)
      (sym (fold-roll-When (List Place) (List Place) columns_here columns_when (under_when x))) ∙ h) in
      λ i. (x.test.1 b.0 s i, x.value.1 b.1 s i))
      ∙ sym (ap (λ v. v s) (para-roll-When Value (Scope → Cell × Cell) ev_here when_value (under_when x)))

  -- no column beside those that it names changes its value
  pub Ev_only : (e : Expr) → Covers shown (columns e) → (s : Scope) → Ev e (only shown s) ≡ Ev e s
  Ev_only = ind-Expr P P' (λ x y e. subst (λ z. P (roll-Expr z)) e (rolled (under y) (layer y))) (λ x y e. subst (λ z. P' (roll-When z)) e (rolled_when y))
