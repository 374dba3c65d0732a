-- Where a condition that binds a column to a unit is true, the column's time lies in the unit, or on its day before it.
use Rattle.std.proofs.Common.{◌≡◌, ℕ, Bool, true, ◌||◌, List, refl, sym, ap, ◌∙◌, subst}
use Rattle.std.specs.Prelude.{nat_eq}
use Rattle.std.proofs.lemmas.Bool.{and_parts, eqb-true}
use Rattle.mesh_base_values.specs.Picked.{same_text}
use Rattle.mesh_base_values.specs.declared.times.Bounds.{Bounds}
use Rattle.mesh_base_values.proofs.Tests.{or_cases as either}
use Rattle.mesh_base.specs.declared.expressions.Expr.{Expr, roll-Expr, out-Expr, out-roll-Expr, map-Expr, ind-Expr, para-roll-Expr}
use Rattle.mesh_base.specs.declared.expressions.Expr.TheOpen.{Expr-F, Literal, Col, Macro, Binary, Neg, Not, IsNull, Between, OneOf, Cast, Call, Case, CountAll, Agg}
use Rattle.mesh_base.specs.declared.expressions.Op.{Op}
use Rattle.mesh_base.specs.declared.expressions.Op.TheVariants as op
use Rattle.mesh_base.specs.declared.expressions.Var.{Var}
use Rattle.mesh_base.specs.declared.expressions.When.{When, para-When}
use Rattle.mesh_time_days.specs.seconds.Times.{is_within, time_of}
use Rattle.mesh_spec_query.specs.Cells.{between, is_true}
use Rattle.mesh_spec_query.specs.Ev.{Ev, Seen, at_row, node_value, valued}
use Rattle.mesh_spec_query.proofs.Nodes.{Ev_out}
use Rattle.mesh_law_query.proofs.ReadColumns.{text_is}
use Rattle.mesh_spec_changes.specs.steady.Steady.{are_ends, are_ends_by, are_ends_here, bounds, bounds_here, is_and, is_column, is_column_here, is_end_of, when_bounds}
use Rattle.mesh_spec_changes.specs.steady.Arrives.{from_its_day}
use Rattle.mesh_law_steady.specs.Days.{IsOfDay}
use Rattle.mesh_law_steady.proofs.Ends.{between_ends, true_both}

-- the value of a node where there are no keys
at_node : (u : Bounds) (row : Seen) (e : Expr) (x : Expr-F Expr When) → out-Expr e ≡ x → Ev e (at_row u row) ≡ node_value (valued x) (at_row u row)
at_node u row e x is = Ev_out e (at_row u row) ∙ ap (λ d. node_value (valued d) (at_row u row)) is

-- an expression that is a column has the column's value
column_value : (u : Bounds) (row : Seen) (item : ℕ) (name : List ℕ) (e : Expr) → is_column item name e ≡ true → Ev e (at_row u row) ≡ row item name
column_value u row item name e is = go (out-Expr e) refl is
  where
    go : (x : Expr-F Expr When) → out-Expr e ≡ x → is_column_here item name x ≡ true → Ev e (at_row u row) ≡ row item name
    go (Col i n) at h =
        let p = and_parts (nat_eq i item) (same_text n name) h in
        let items : i ≡ item = eqb-true i item p.0 in
        let names : n ≡ name = text_is n name p.1 in
        at_node u row e (Col i n) at ∙ (λ k. row (items k) (names k))
    go (Literal c) at h = absurd (cc)
    go (Macro var) at h = absurd (cc)
    go (Binary op left right) at h = absurd (cc)
    go (Neg value) at h = absurd (cc)
    go (Not value) at h = absurd (cc)
    go (IsNull value) at h = absurd (cc)
    go (Between value low high) at h = absurd (cc)
    go (OneOf value of) at h = absurd (cc)
    go (Cast to value) at h = absurd (cc)
    go (Call func args) at h = absurd (cc)
    go (Case whens otherwise) at h = absurd (cc)
    go CountAll at h = absurd (cc)
    go (Agg kind value) at h = absurd (cc)

-- two macros that are the ends of the unit
record Ends (low high : Expr) : Type 0 where
  start : Var
  end : Var
  ends : are_ends_by start end ≡ true
  low_is : out-Expr low ≡ Macro start
  high_is : out-Expr high ≡ Macro end

the_ends : (low high : Expr) → are_ends low high ≡ true → Ends low high
the_ends low high h = at_low (out-Expr low) refl h
  where
    at_high : (start : Var) (y : Expr-F Expr When) → out-Expr low ≡ Macro start → out-Expr high ≡ y → is_end_of start y ≡ true → Ends low high
    at_high start (Macro end) is also h = record { start = start; end = end; ends = h; low_is = is; high_is = also }
    at_high start (Col i n) is also h = absurd (cc)
    at_high start (Literal c) is also h = absurd (cc)
    at_high start (Binary op left right) is also h = absurd (cc)
    at_high start (Neg value) is also h = absurd (cc)
    at_high start (Not value) is also h = absurd (cc)
    at_high start (IsNull value) is also h = absurd (cc)
    at_high start (Between value low high) is also h = absurd (cc)
    at_high start (OneOf value of) is also h = absurd (cc)
    at_high start (Cast to value) is also h = absurd (cc)
    at_high start (Call func args) is also h = absurd (cc)
    at_high start (Case whens otherwise) is also h = absurd (cc)
    at_high start CountAll is also h = absurd (cc)
    at_high start (Agg kind value) is also h = absurd (cc)

    at_low : (x : Expr-F Expr When) → out-Expr low ≡ x → are_ends_here x (out-Expr high) ≡ true → Ends low high
    at_low (Macro start) is h = at_high start (out-Expr high) is refl h
    at_low (Col i n) is h = absurd (cc)
    at_low (Literal c) is h = absurd (cc)
    at_low (Binary op left right) is h = absurd (cc)
    at_low (Neg value) is h = absurd (cc)
    at_low (Not value) is h = absurd (cc)
    at_low (IsNull value) is h = absurd (cc)
    at_low (Between value low high) is h = absurd (cc)
    at_low (OneOf value of) is h = absurd (cc)
    at_low (Cast to value) is h = absurd (cc)
    at_low (Call func args) is h = absurd (cc)
    at_low (Case whens otherwise) is h = absurd (cc)
    at_low CountAll is h = absurd (cc)
    at_low (Agg kind value) is h = absurd (cc)

is_the_and : (o : Op) → is_and o ≡ true → o ≡ op.And
is_the_and op.And h = refl
is_the_and op.Or h = absurd (cc)
is_the_and op.Eq h = absurd (cc)
is_the_and op.Ne h = absurd (cc)
is_the_and op.Lt h = absurd (cc)
is_the_and op.Le h = absurd (cc)
is_the_and op.Gt h = absurd (cc)
is_the_and op.Ge h = absurd (cc)
is_the_and op.Add h = absurd (cc)
is_the_and op.Sub h = absurd (cc)
is_the_and op.Mul h = absurd (cc)
is_the_and op.Div h = absurd (cc)
is_the_and op.Rem h = absurd (cc)
is_the_and op.Cat h = absurd (cc)

module _ (item : ℕ) (name : List ℕ) (u : Bounds) (of : IsOfDay u) (row : Seen) where
  abbrev P : Expr → Type 0
  P e = bounds item name e ≡ true → is_true (Ev e (at_row u row)) ≡ true → is_within (from_its_day u) (time_of (row item name)) ≡ true

  abbrev P' : When → Type 0
  P' w = Unit {0}

  abbrev Known : Type 0
  Known = (e : Expr) × P e

  abbrev Known' : Type 0
  Known' = (w : When) × P' w

  abbrev under : Expr-F Known Known' → Expr-F Expr When
  under y = map-Expr Known Known' Expr When (λ e. e.0) (λ e. e.0) y

  abbrev with_bounds : Expr-F Expr When → Expr-F (Expr × Bool) (When × Bool)
  with_bounds = map-Expr Expr When (Expr × Bool) (When × Bool) (λ e. (e, bounds item name e)) (λ w. (w, para-When Bool Bool (bounds_here item name) when_bounds w))

  abbrev Layer : Expr-F Expr When → Type 0
  Layer x = bounds_here item name (with_bounds x) ≡ true → is_true (node_value (valued x) (at_row u row)) ≡ true → is_within (from_its_day u) (time_of (row item name)) ≡ true

  layer : (y : Expr-F Known Known') → Layer (under y)
  layer (Binary o left right) = λ h t.
      let p = and_parts (is_and o) (bounds item name left.0 || bounds item name right.0) h in
      let and : is_true (node_value (valued (Binary op.And left.0 right.0)) (at_row u row)) ≡ true = subst (λ z. is_true (node_value (valued (Binary z left.0 right.0)) (at_row u row)) ≡ true) (is_the_and o p.0) t in
      let sides = and_parts (is_true (Ev left.0 (at_row u row))) (is_true (Ev right.0 (at_row u row))) (sym (true_both (Ev left.0 (at_row u row)) (Ev right.0 (at_row u row))) ∙ and) in
      either (bounds item name left.0) (bounds item name right.0) p.1 (λ l. left.1 l sides.0) (λ r. right.1 r sides.1)
  layer (Between value low high) = λ h t.
      let p = and_parts (is_column item name value.0) (are_ends low.0 high.0) h in
      let ends = the_ends low.0 high.0 p.1 in
      between_ends u of (row item name) ends.start ends.end ends.ends
      (sym (λ i. is_true (between (column_value u row item name value.0 p.0 i) (at_node u row low.0 (Macro ends.start) ends.low_is i) (at_node u row high.0 (Macro ends.end) ends.high_is i))) ∙ t)
  layer (Literal c) = λ h t. absurd (cc)
  layer (Col i n) = λ h t. absurd (cc)
  layer (Macro var) = λ h t. absurd (cc)
  layer (Neg e) = λ h t. absurd (cc)
  layer (Not e) = λ h t. absurd (cc)
  layer (IsNull e) = λ h t. absurd (cc)
  layer (OneOf e of) = λ h t. absurd (cc)
  layer (Cast to e) = λ h t. absurd (cc)
  layer (Call func args) = λ h t. absurd (cc)
  layer (Case ws otherwise) = λ h t. absurd (cc)
  layer CountAll = λ h t. absurd (cc)
  layer (Agg kind e) = λ h t. absurd (cc)

  rolled : (x : Expr-F Expr When) → Layer x → P (roll-Expr x)
  rolled x l h t =
      l (sym (para-roll-Expr Bool Bool (bounds_here item name) when_bounds x) ∙ h)
      (ap is_true (sym (at_node u row (roll-Expr x) x (out-roll-Expr x))) ∙ t)

  -- the condition is true only where the column's time is near
  pub bound : (e : Expr) → bounds item name e ≡ true → is_true (Ev e (at_row u row)) ≡ true → is_within (from_its_day u) (time_of (row item name)) ≡ true
  bound = ind-Expr P P' (λ x y e. subst (λ z. P (roll-Expr z)) e (rolled (under y) (layer y))) (λ x y e. tt)
