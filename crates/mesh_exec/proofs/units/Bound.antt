-- A condition that binds a column to the interval holds alike for two intervals in which the column's time lies.
use Rattle.std.proofs.Common.{◌≡◌, ℕ, Bool, true, false, not, ◌&&◌, cond, List, Some, ℤ, ◌<ℤ◌, ◌≤ℤ◌, refl, sym, ap, ◌∙◌, subst, ⊎_elim}
use Rattle.std.specs.Prelude.{nat_eq}
use Rattle.std.proofs.lemmas.Bool.{and_parts}
use Rattle.std.proofs.lemmas.Bool.Decides.{eqb_tells}
use Rattle.mesh_base_values.specs.Picked.{same_text}
use Rattle.mesh_base_values.specs.declared.times.Bounds.{Bounds}
use Rattle.mesh_base_values.specs.declared.values.Cell.{Cell}
use Rattle.mesh_base_values.specs.declared.values.Cell.TheVariants.{Null, Int, Text, Date, Bool as Truth}
use Rattle.mesh_base.specs.declared.expressions.Expr.{Expr, roll-Expr, out-Expr, out-roll-Expr, map-Expr, ind-Expr}
use Rattle.mesh_base.specs.declared.expressions.Expr.TheOpen.{Expr-F, Literal, Col, Macro, Binary, Neg, Not, IsNull, Between, OneOf, Cast, Call, Case, CountAll, Agg}
use Rattle.mesh_base.specs.declared.expressions.Op.{Op}
use Rattle.mesh_base.specs.declared.expressions.Op.TheVariants as op
use Rattle.mesh_base.specs.declared.expressions.Var.{Var}
use Rattle.mesh_base.specs.declared.expressions.When.{When}
use Rattle.mesh_time_days.specs.seconds.Times.{time_of}
use Rattle.mesh_spec_query.specs.Cells.{between, both, is_true}
use Rattle.mesh_spec_query.specs.Ev.{Ev, Seen, at_row, node_value, valued}
use Rattle.mesh_spec_query.proofs.Nodes.{Ev_out}
use Rattle.mesh_law_query.proofs.ReadColumns.{text_is}
use Rattle.mesh_spec_changes.specs.steady.Steady.{are_ends, are_ends_by, are_ends_here, is_and, is_column, is_column_here, is_end_of}
use Rattle.mesh_lineage.specs.Joinable.{binds, binds_parts, has_macro}
use Rattle.mesh_lineage.proofs.Bindings.{binds_out}
use Rattle.mesh_exec.specs.units.Units.{IsUnit}
use Rattle.mesh_exec.proofs.units.Free.{free}
use Rattle.mesh_exec.proofs.units.Within.{meets, of_kind}

-- an AND is true where both sides are
true_both : (x y : Cell) → is_true (both x y) ≡ (is_true x && is_true y)
true_both Null Null = refl
true_both Null (Int n) = refl
true_both Null (Text t) = refl
true_both Null (Date d) = refl
true_both Null (Truth true) = refl
true_both Null (Truth false) = refl
true_both (Int n) y = refl
true_both (Text t) y = refl
true_both (Date d) y = refl
true_both (Truth true) Null = refl
true_both (Truth false) Null = refl
true_both (Truth true) (Int n) = refl
true_both (Truth false) (Int n) = refl
true_both (Truth true) (Text t) = refl
true_both (Truth false) (Text t) = refl
true_both (Truth true) (Date d) = refl
true_both (Truth false) (Date d) = refl
true_both (Truth a) (Truth b) = refl

-- the value of a node where there are no keys
pub at_node : (b : Bounds) (row : Seen) (e : Expr) (x : Expr-F Expr When) → out-Expr e ≡ x → Ev e (at_row b row) ≡ node_value (valued x) (at_row b row)
at_node b row e x is = Ev_out e (at_row b row) ∙ ap (λ d. node_value (valued d) (at_row b row)) is

-- the column of an expression that is one
column_value : (b : Bounds) (row : Seen) (item : ℕ) (name : List ℕ) (e : Expr) → is_column item name e ≡ true → Ev e (at_row b row) ≡ row item name
column_value b row item name e is = go (out-Expr e) refl is
  where
    go : (x : Expr-F Expr When) → out-Expr e ≡ x → is_column_here item name x ≡ true → Ev e (at_row b row) ≡ row item name
    go (Col i n) at h =
        let p = and_parts (nat_eq i item) (same_text n name) h in
        let items : i ≡ item = same_number i item p.0 in
        let names : n ≡ name = text_is n name p.1 in
        at_node b row e (Col i n) at ∙ (λ k. row (items k) (names k))
      where
        same_number : (i j : ℕ) → nat_eq i j ≡ true → i ≡ j
        same_number i j t = ⊎_elim (λ (s : (nat_eq i j ≡ true) × (i ≡ j)). s.1) (λ (s : (nat_eq i j ≡ false) × (¬ (i ≡ j))). absurd (cc)) (eqb_tells i j)
    go (Literal c) at h = absurd (cc)
    go (Macro var) at h = absurd (cc)
    go (Binary op left right) at h = absurd (cc)
    go (Neg value) at h = absurd (cc)
    go (Not value) at h = absurd (cc)
    go (IsNull value) at h = absurd (cc)
    go (Between value low high) at h = absurd (cc)
    go (OneOf value of) at h = absurd (cc)
    go (Cast to value) at h = absurd (cc)
    go (Call func args) at h = absurd (cc)
    go (Case whens otherwise) at h = absurd (cc)
    go CountAll at h = absurd (cc)
    go (Agg kind value) at h = absurd (cc)

-- two macros that are the ends of the interval
record Ends (low high : Expr) : Type 0 where
  start : Var
  end : Var
  ends : are_ends_by start end ≡ true
  low_is : out-Expr low ≡ Macro start
  high_is : out-Expr high ≡ Macro end

the_ends : (low high : Expr) → are_ends low high ≡ true → Ends low high
the_ends low high h = at_low (out-Expr low) refl h
  where
    at_high : (start : Var) (y : Expr-F Expr When) → out-Expr low ≡ Macro start → out-Expr high ≡ y → is_end_of start y ≡ true → Ends low high
    at_high start (Macro end) is also h = record { start = start; end = end; ends = h; low_is = is; high_is = also }
    at_high start (Col i n) is also h = absurd (cc)
    at_high start (Literal c) is also h = absurd (cc)
    at_high start (Binary op left right) is also h = absurd (cc)
    at_high start (Neg value) is also h = absurd (cc)
    at_high start (Not value) is also h = absurd (cc)
    at_high start (IsNull value) is also h = absurd (cc)
    at_high start (Between value low high) is also h = absurd (cc)
    at_high start (OneOf value of) is also h = absurd (cc)
    at_high start (Cast to value) is also h = absurd (cc)
    at_high start (Call func args) is also h = absurd (cc)
    at_high start (Case whens otherwise) is also h = absurd (cc)
    at_high start CountAll is also h = absurd (cc)
    at_high start (Agg kind value) is also h = absurd (cc)

    at_low : (x : Expr-F Expr When) → out-Expr low ≡ x → are_ends_here x (out-Expr high) ≡ true → Ends low high
    at_low (Macro start) is h = at_high start (out-Expr high) is refl h
    at_low (Col i n) is h = absurd (cc)
    at_low (Literal c) is h = absurd (cc)
    at_low (Binary op left right) is h = absurd (cc)
    at_low (Neg value) is h = absurd (cc)
    at_low (Not value) is h = absurd (cc)
    at_low (IsNull value) is h = absurd (cc)
    at_low (Between value low high) is h = absurd (cc)
    at_low (OneOf value of) is h = absurd (cc)
    at_low (Cast to value) is h = absurd (cc)
    at_low (Call func args) is h = absurd (cc)
    at_low (Case whens otherwise) is h = absurd (cc)
    at_low CountAll is h = absurd (cc)
    at_low (Agg kind value) is h = absurd (cc)

is_the_and : (o : Op) → is_and o ≡ true → o ≡ op.And
is_the_and op.And h = refl
is_the_and op.Or h = absurd (cc)
is_the_and op.Eq h = absurd (cc)
is_the_and op.Ne h = absurd (cc)
is_the_and op.Lt h = absurd (cc)
is_the_and op.Le h = absurd (cc)
is_the_and op.Gt h = absurd (cc)
is_the_and op.Ge h = absurd (cc)
is_the_and op.Add h = absurd (cc)
is_the_and op.Sub h = absurd (cc)
is_the_and op.Mul h = absurd (cc)
is_the_and op.Div h = absurd (cc)
is_the_and op.Rem h = absurd (cc)
is_the_and op.Cat h = absurd (cc)

-- a time lies in an interval
pub record LiesIn (b : Bounds) (t : ℤ) : Type 0 where
  pub unit : IsUnit b
  pub low : b.start ≤ℤ t
  pub high : t <ℤ b.end

pub lies : (b : Bounds) (t : ℤ) → IsUnit b → b.start ≤ℤ t → t <ℤ b.end → LiesIn b t
lies b t unit low high = record { unit = unit; low = low; high = high }

module _ (item : ℕ) (name : List ℕ) (row : Seen) (t : ℤ) (at : time_of (row item name) ≡ Some t) (u w : Bounds) (in_u : LiesIn u t) (in_w : LiesIn w t) where
  abbrev Alike : Expr → Type 0
  Alike e = is_true (Ev e (at_row u row)) ≡ is_true (Ev e (at_row w row))

  abbrev P : Expr → Type 0
  P e = binds item name e ≡ true → Alike e

  abbrev P' : When → Type 0
  P' w = Unit {0}

  abbrev Known : Type 0
  Known = (e : Expr) × P e

  abbrev Known' : Type 0
  Known' = (w : When) × P' w

  same_free : (e : Expr) → has_macro e ≡ false → Alike e
  same_free e h = ap is_true (free u e h (at_row w row))

  conjunct : (value low high : Expr) → is_column item name value ≡ true → (b : Bounds) → LiesIn b t → (ends : Ends low high)
      → is_true (between (Ev value (at_row b row)) (Ev low (at_row b row)) (Ev high (at_row b row))) ≡ of_kind (row item name) ends.start
  conjunct value low high is b inside ends =
      (λ i. is_true (between (column_value b row item name value is i) (at_node b row low (Macro ends.start) ends.low_is i) (at_node b row high (Macro ends.end) ends.high_is i)))
      ∙ meets b inside.unit (row item name) t ends.start ends.end ends.ends at inside.low inside.high

  abbrev under : Expr-F Known Known' → Expr-F Expr When
  under y = map-Expr Known Known' Expr When (λ e. e.0) (λ e. e.0) y

  abbrev Layer : Expr-F Expr When → Type 0
  Layer x = binds_parts item name x ≡ true → is_true (node_value (valued x) (at_row u row)) ≡ is_true (node_value (valued x) (at_row w row))

  two : (o : Op) (left right : Expr) → is_and o ≡ true → Alike left → Alike right → is_true (node_value (valued (Binary o left right)) (at_row u row)) ≡ is_true (node_value (valued (Binary o left right)) (at_row w row))
  two o left right is l r =
      ap (λ z. is_true (node_value (valued (Binary z left right)) (at_row u row))) (is_the_and o is)
      ∙ true_both (Ev left (at_row u row)) (Ev right (at_row u row))
      ∙ (λ i. l i && r i)
      ∙ sym (true_both (Ev left (at_row w row)) (Ev right (at_row w row)))
      ∙ sym (ap (λ z. is_true (node_value (valued (Binary z left right)) (at_row w row))) (is_the_and o is))

  not_is : (b : Bool) → not b ≡ true → b ≡ false
  not_is true h = absurd (cc)
  not_is false h = refl

  sides : (o : Op) (left right : Known) → is_and o ≡ true → (b : Bool) → has_macro right.0 ≡ b → cond b (binds item name right.0 && not (has_macro left.0)) (binds item name left.0) ≡ true
      → is_true (node_value (valued (Binary o left.0 right.0)) (at_row u row)) ≡ is_true (node_value (valued (Binary o left.0 right.0)) (at_row w row))
  sides o left right is true has h = let p = and_parts (binds item name right.0) (not (has_macro left.0)) h in two o left.0 right.0 is (same_free left.0 (not_is (has_macro left.0) p.1)) (right.1 p.0)
  sides o left right is false has h = two o left.0 right.0 is (left.1 h) (same_free right.0 has)

  layer : (y : Expr-F Known Known') → Layer (under y)
  layer (Literal c) = λ h. absurd (cc)
  layer (Col i n) = λ h. absurd (cc)
  layer (Macro var) = λ h. absurd (cc)
  layer (Binary o left right) = λ h. let p = and_parts (is_and o) (cond (has_macro right.0) (binds item name right.0 && not (has_macro left.0)) (binds item name left.0)) h in sides o left right p.0 (has_macro right.0) refl p.1
  layer (Neg e) = λ h. absurd (cc)
  layer (Not e) = λ h. absurd (cc)
  layer (IsNull e) = λ h. absurd (cc)
  layer (Between value low high) = λ h.
      let p = and_parts (is_column item name value.0) (are_ends low.0 high.0) h in
      let ends = the_ends low.0 high.0 p.1 in
      conjunct value.0 low.0 high.0 p.0 u in_u ends ∙ sym (conjunct value.0 low.0 high.0 p.0 w in_w ends)
  layer (OneOf e of) = λ h. absurd (cc)
  layer (Cast to e) = λ h. absurd (cc)
  layer (Call func args) = λ h. absurd (cc)
  layer (Case ws otherwise) = λ h. absurd (cc)
  layer CountAll = λ h. absurd (cc)
  layer (Agg kind e) = λ h. absurd (cc)

  rolled : (x : Expr-F Expr When) → Layer x → P (roll-Expr x)
  rolled x l h =
      ap is_true (at_node u row (roll-Expr x) x (out-roll-Expr x))
      ∙ l (ap (binds_parts item name) (sym (out-roll-Expr x)) ∙ sym (binds_out item name (roll-Expr x)) ∙ h)
      ∙ sym (ap is_true (at_node w row (roll-Expr x) x (out-roll-Expr x)))

  pub bound_alike : (e : Expr) → binds item name e ≡ true → is_true (Ev e (at_row u row)) ≡ is_true (Ev e (at_row w row))
  bound_alike = ind-Expr P P' (λ x y e. subst (λ z. P (roll-Expr z)) e (rolled (under y) (layer y))) (λ x y e. tt)
