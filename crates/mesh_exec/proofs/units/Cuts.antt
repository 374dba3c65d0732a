-- The rows of a joinable definition for an interval, cut to a unit of it.
use Rattle.std.proofs.Common.{◌≡◌, ℕ, Bool, true, false, not, ◌&&◌, ◌||◌, cond, List, [], ◌∷◌, ◌++◌, map, Some, None, ℤ, ◌<ℤ◌, ◌≤ℤ◌, refl, sym, ap, ◌∙◌, subst, arith}
use Rattle.std.specs.Int.Signed.{le_z, lt_z}
use Rattle.std.specs.List.{All, filter, flat_map, fold, list_any}
use Rattle.std.specs.declared.option.Option.{Option}
use Rattle.std.proofs.lemmas.Bool.{and_parts, not-true as not_true, or_parts as neither}
use Rattle.std.proofs.lemmas.List.{append-nil}
use Rattle.std.proofs.lemmas.List.Elements.{All-cons}
use Rattle.std.proofs.lemmas.Int.{ints}
use Rattle.jiff_core.proofs.SignedLemmas.{signed_arith}
use Rattle.mesh_base_values.specs.Kinds.{time_column}
use Rattle.mesh_base_values.specs.Picked.{cell_of, same_text}
use Rattle.mesh_base_values.specs.declared.kinds.Kind.{Kind}
use Rattle.mesh_base_values.specs.declared.kinds.Kind.TheVariants.{Full, View, Seed as SeedKind, Incremental}
use Rattle.mesh_base_values.specs.declared.times.Bounds.{Bounds}
use Rattle.mesh_base_values.specs.declared.values.Cell.{Cell}
use Rattle.mesh_base_values.specs.declared.values.Column.{Column}
use Rattle.mesh_base_values.proofs.Tests.{le_true as le_told, lt_true as lt_told}
use Rattle.mesh_base.specs.Outputs.{defn_columns, item_columns, select_columns}
use Rattle.mesh_base.specs.declared.definitions.Defn.{Defn}
use Rattle.mesh_base.specs.declared.definitions.Defn.TheVariants.{Seed, Sql}
use Rattle.mesh_base.specs.declared.definitions.Own.{Own}
use Rattle.mesh_base.specs.declared.expressions.Expr.{Expr, out-Expr}
use Rattle.mesh_base.specs.declared.expressions.Expr.TheOpen.{Expr-F, Literal, Col, Macro, Binary, Neg, Not, IsNull, Between, OneOf, Cast, Call, Case, CountAll, Agg}
use Rattle.mesh_base.specs.declared.expressions.When.{When}
use Rattle.mesh_base.specs.declared.jobs.Input.{Input}
use Rattle.mesh_base.specs.declared.queries.FromItem.{FromItem}
use Rattle.mesh_base.specs.declared.queries.Item.{Item}
use Rattle.mesh_base.specs.declared.queries.Select.{Select}
use Rattle.mesh_time_days.specs.seconds.Times.{is_within, lies_in, time_of}
use Rattle.mesh_spec_query.specs.Aggregates.{distinct}
use Rattle.mesh_spec_query.specs.Cells.{is_true}
use Rattle.mesh_spec_query.specs.Ev.{Ev, Scope, Seen, at_row, seen}
use Rattle.mesh_spec_query.specs.Sel.{Joined, cte_inputs, from_columns, from_rows, grouped_rows, holds, item_row, join_item, kept, plain_rows, row_holds, row_scope, same_row, select_rows, union_rows}
use Rattle.mesh_spec_query.specs.Tables.{relation, rows_in}
use Rattle.mesh_spec_model.specs.Scratch.{defn_rows, is_of_unit, lies_by, piece_over}
use Rattle.mesh_spec_changes.specs.Changes.{ascending}
use Rattle.mesh_exec_wave.proofs.wave.Ascending.{cut_ascending}
use Rattle.mesh_lineage.specs.Joinable.{binds, binds_in, has_macro, has_macro_in, has_macro_elsewhere, is_bound_here, is_item_bound, is_joinable, is_joinable_as, is_joinable_query, is_joinable_select, item_named}
use Rattle.mesh_exec.specs.units.Units.{Adjoin, AreUnits, IsInDays, IsPartOf, IsUnit, end_of, run_of}
use Rattle.mesh_exec.proofs.units.Free.{free}
use Rattle.mesh_exec.proofs.units.Bound.{at_node, bound_alike, lies}

-- What has no macro is the same for two intervals.
module _ (u w : Bounds) where
  same_condition : (columns : List (List Column)) (on : Option Expr) → has_macro_in on ≡ false → row_holds u columns on ≡ row_holds w columns on
  same_condition columns on h = λ i row. go on h row i
    where
      go : (on : Option Expr) → has_macro_in on ≡ false → (row : Joined) → holds on (row_scope u columns row) ≡ holds on (row_scope w columns row)
      go None h row = refl
      go (Some e) h row = ap is_true (free u e h (row_scope w columns row))

  module _ (columns : List (List Column)) (inputs ctes : List Input) where
    same_join : (f : FromItem) → has_macro_in f.on ≡ false → (lefts : List Joined) → join_item u columns inputs ctes lefts f ≡ join_item w columns inputs ctes lefts f
    same_join f h lefts = ap (λ (test : Joined → Bool). flat_map (λ left. kept f.join left (filter test (map (λ row. left ++ row ∷ []) (rows_in (relation inputs ctes f.rel))))) lefts) (same_condition columns f.on h)

    same_from : (froms : List FromItem) → list_any (λ (f : FromItem). has_macro_in f.on) froms ≡ false → (lefts : List Joined) → fold (join_item u columns inputs ctes) lefts froms ≡ fold (join_item w columns inputs ctes) lefts froms
    same_from [] h lefts = refl
    same_from (f ∷ fs) h lefts =
        let p = neither (has_macro_in f.on) (list_any (λ (f : FromItem). has_macro_in f.on) fs) h in
        ap (λ l. fold (join_item u columns inputs ctes) l fs) (same_join f p.0 lefts) ∙ same_from fs p.1 (join_item w columns inputs ctes lefts f)

  same_items : (items : List Item) → list_any (λ (i : Item). has_macro i.expr) items ≡ false → (row : Seen) → item_row items (at_row u row) ≡ item_row items (at_row w row)
  same_items [] h row = refl
  same_items (x ∷ xs) h row =
      let p = neither (has_macro x.expr) (list_any (λ (i : Item). has_macro i.expr) xs) h in
      λ i. free u x.expr p.0 (at_row w row) i ∷ same_items xs p.1 row i

-- the cell of a column is the value of the item of its name
cell_is : (items : List Item) (s : Scope) (time : List ℕ) (x : Item) → item_named items time ≡ Some x → cell_of (item_columns items) (item_row items s) time ≡ Ev x.expr s
cell_is [] s time x e = absurd (cc)
cell_is (i ∷ is) s time x e = go (same_text i.name time) e (cell_is is s time x)
  where
    go : (b : Bool) → cond b (Some i) (item_named is time) ≡ Some x → (item_named is time ≡ Some x → cell_of (item_columns is) (item_row is s) time ≡ Ev x.expr s) → cond b (Ev i.expr s) (cell_of (item_columns is) (item_row is s) time) ≡ Ev x.expr s
    go true e rest = let same : i ≡ x = cc in ap (λ (z : Item). Ev z.expr s) same
    go false e rest = rest e

-- Rows that are tested before and after they are made: it is enough that the tests agree on those that are kept.
module _ {X Y : Type 0} (p : Y → Bool) (f : X → Y) (h k : X → Bool) (alike : (x : X) → p (f x) ≡ true → h x ≡ k x) where
  left_out : (c : Bool) (x : X) (xs : List X) → p (f x) ≡ false → filter p (map f (cond c (x ∷ xs) xs)) ≡ filter p (map f xs)
  left_out true x xs out = ap (λ (b : Bool). cond b (f x ∷ filter p (map f xs)) (filter p (map f xs))) out
  left_out false x xs out = refl

  kept_on : (c : Bool) (x : X) (xs ys : List X) → filter p (map f xs) ≡ filter p (map f ys) → filter p (map f (cond c (x ∷ xs) xs)) ≡ filter p (map f (cond c (x ∷ ys) ys))
  kept_on true x xs ys rest = ap (λ l. cond (p (f x)) (f x ∷ l) l) rest
  kept_on false x xs ys rest = rest

  cut_alike : (xs : List X) → filter p (map f (filter h xs)) ≡ filter p (map f (filter k xs))
  cut_alike [] = refl
  cut_alike (x ∷ xs) = go (p (f x)) refl (cut_alike xs)
    where
      go : (b : Bool) → p (f x) ≡ b → filter p (map f (filter h xs)) ≡ filter p (map f (filter k xs)) → filter p (map f (filter h (x ∷ xs))) ≡ filter p (map f (filter k (x ∷ xs)))
      go true is rest = ap (λ c. filter p (map f (cond c (x ∷ filter h xs) (filter h xs)))) (alike x is) ∙ kept_on (k x) x (filter h xs) (filter k xs) rest
      go false is rest = left_out (h x) x (filter h xs) is ∙ rest ∙ sym (left_out (k x) x (filter k xs) is)

-- what a time column is bound by
record Binding (q : Select) (time : List ℕ) : Type 0 where
  x : Item
  item : ℕ
  name : List ℕ
  e : Expr
  named : item_named q.items time ≡ Some x
  column : out-Expr x.expr ≡ Col item name
  condition : q.filter ≡ Some e
  bound : binds item name e ≡ true

binding : (q : Select) (time : List ℕ) → is_item_bound q.filter (item_named q.items time) ≡ true → Binding q time
binding q time h = at_item (item_named q.items time) refl h
  where
    at_filter : (x : Item) (item : ℕ) (name : List ℕ) → item_named q.items time ≡ Some x → out-Expr x.expr ≡ Col item name → (o : Option Expr) → q.filter ≡ o → binds_in item name o ≡ true → Binding q time
    at_filter x item name is col None cond h = absurd (cc)
    at_filter x item name is col (Some e) cond h = record { x = x; item = item; name = name; e = e; named = is; column = col; condition = cond; bound = h }

    at_column : (x : Item) → item_named q.items time ≡ Some x → (d : Expr-F Expr When) → out-Expr x.expr ≡ d → is_bound_here q.filter d ≡ true → Binding q time
    at_column x is (Col item name) col h = at_filter x item name is col q.filter refl h
    at_column x is (Literal c) col h = absurd (cc)
    at_column x is (Macro var) col h = absurd (cc)
    at_column x is (Binary op left right) col h = absurd (cc)
    at_column x is (Neg value) col h = absurd (cc)
    at_column x is (Not value) col h = absurd (cc)
    at_column x is (IsNull value) col h = absurd (cc)
    at_column x is (Between value low high) col h = absurd (cc)
    at_column x is (OneOf value of) col h = absurd (cc)
    at_column x is (Cast to value) col h = absurd (cc)
    at_column x is (Call func args) col h = absurd (cc)
    at_column x is (Case whens otherwise) col h = absurd (cc)
    at_column x is CountAll col h = absurd (cc)
    at_column x is (Agg kind value) col h = absurd (cc)

    at_item : (o : Option Item) → item_named q.items time ≡ o → is_item_bound q.filter o ≡ true → Binding q time
    at_item None is h = absurd (cc)
    at_item (Some x) is h = at_column x is (out-Expr x.expr) refl h

-- a time that lies in a unit lies in an interval that has it
record Timed (u : Bounds) (o : Option ℤ) : Type 0 where
  t : ℤ
  is : o ≡ Some t
  low : u.start ≤ℤ t
  high : t <ℤ u.end

timed : (u : Bounds) (o : Option ℤ) → is_within u o ≡ true → Timed u o
timed u None h = absurd (cc)
timed u (Some t) h =
    let p = and_parts (le_z u.start t) (lt_z t u.end) h in
    let low = p.0 in
    let high = p.1 in
    record { t = t; is = refl; low = omega (arith, signed_arith, low); high = omega (arith, signed_arith, high) }

module _ (u w : Bounds) (unit : IsUnit u) (whole : IsUnit w) (part : IsPartOf u w) where
  wider : (t : ℤ) → u.start ≤ℤ t → t <ℤ u.end → (w.start ≤ℤ t) × (t <ℤ w.end)
  wider t low high = let begins = part.0 in let ends = part.1 in (omega (arith, signed_arith, low, begins), omega (arith, signed_arith, high, ends))

  within_wider : (o : Option ℤ) → is_within u o ≡ true → is_within w o ≡ true
  within_wider None h = h
  within_wider (Some t) h =
      let in_u = timed u (Some t) h in
      let same : in_u.t ≡ t = let e = in_u.is in cc in
      let p = wider in_u.t in_u.low in_u.high in
      let low : le_z w.start t ≡ true = subst (λ (z : ℤ). le_z w.start z ≡ true) same (le_told w.start in_u.t p.0) in
      let high : lt_z t w.end ≡ true = subst (λ (z : ℤ). lt_z z w.end ≡ true) same (lt_told in_u.t w.end p.1) in
      λ i. low i && high i

  -- a row that lies in the unit meets the condition for both
  module _ (q : Select) (time : List ℕ) (b : Binding q time) (columns : List (List Column)) where
    made : Joined → List Cell
    made row = item_row q.items (row_scope u columns row)

    time_cell : (row : Joined) → cell_of (item_columns q.items) (item_row q.items (row_scope u columns row)) time ≡ seen columns row b.item b.name
    time_cell row = cell_is q.items (row_scope u columns row) time b.x b.named ∙ at_node u (seen columns row) b.x.expr (Col b.item b.name) b.column

    alike : (row : Joined) → lies_in (item_columns q.items) time u (item_row q.items (row_scope u columns row)) ≡ true → row_holds w columns q.filter row ≡ row_holds u columns q.filter row
    alike row h =
        let in_u : Timed u (time_of (seen columns row b.item b.name)) = timed u (time_of (seen columns row b.item b.name)) (ap (λ c. is_within u (time_of c)) (sym (time_cell row)) ∙ h) in
        let p = wider in_u.t in_u.low in_u.high in
        let same = bound_alike b.item b.name (seen columns row) in_u.t in_u.is u w (lies u in_u.t unit in_u.low in_u.high) (lies w in_u.t whole p.0 p.1) b.e b.bound in
        ap (λ c. holds c (row_scope w columns row)) b.condition ∙ sym same ∙ sym (ap (λ c. holds c (row_scope u columns row)) b.condition)

  module _ (inputs ctes : List Input) (q : Select) (time : List ℕ) (joinable : is_joinable_select time q ≡ true) where
    abbrev columns : List (List Column)
    columns = from_columns inputs ctes q.from

    abbrev rows_of : Bounds → List Joined
    rows_of v = from_rows v columns inputs ctes q.from

    abbrev plain : Bounds → List (List Cell)
    plain v = plain_rows v columns q (filter (row_holds v columns q.filter) (rows_of v))

    parts : (not q.distinct ≡ true) × (not q.grouped ≡ true) × (not (has_macro_elsewhere q) ≡ true) × (is_item_bound q.filter (item_named q.items time) ≡ true)
    parts =
        let a = and_parts (not q.distinct) (not q.grouped && (not (has_macro_elsewhere q) && is_item_bound q.filter (item_named q.items time))) joinable in
        let c = and_parts (not q.grouped) (not (has_macro_elsewhere q) && is_item_bound q.filter (item_named q.items time)) a.1 in
        let d = and_parts (not (has_macro_elsewhere q)) (is_item_bound q.filter (item_named q.items time)) c.1 in
        (a.0, c.0, d.0, d.1)

    free_items : list_any (λ (i : Item). has_macro i.expr) q.items ≡ false
    free_items = (neither (list_any (λ (i : Item). has_macro i.expr) q.items) (list_any (λ (f : FromItem). has_macro_in f.on) q.from || (list_any has_macro q.keys || has_macro_in q.having)) (not_true (has_macro_elsewhere q) parts.2)).0

    free_on : list_any (λ (f : FromItem). has_macro_in f.on) q.from ≡ false
    free_on =
        let rest = (neither (list_any (λ (i : Item). has_macro i.expr) q.items) (list_any (λ (f : FromItem). has_macro_in f.on) q.from || (list_any has_macro q.keys || has_macro_in q.having)) (not_true (has_macro_elsewhere q) parts.2)).1 in
        (neither (list_any (λ (f : FromItem). has_macro_in f.on) q.from) (list_any has_macro q.keys || has_macro_in q.having) rest).0

    is_plain : (v : Bounds) → select_rows inputs v ctes q ≡ plain v
    is_plain v =
        let rows = filter (row_holds v columns q.filter) (rows_of v) in
        let made = cond q.grouped (grouped_rows v columns q rows) (plain_rows v columns q rows) in
        ap (λ d. cond d (distinct same_row made) made) (not_true q.distinct parts.0)
        ∙ ap (λ g. cond g (grouped_rows v columns q rows) (plain_rows v columns q rows)) (not_true q.grouped parts.1)

    abbrev Lies : List Cell → Bool
    Lies row = lies_in (item_columns q.items) time u row

    same_from_rows : rows_of w ≡ rows_of u
    same_from_rows = sym (same_from u w columns inputs ctes q.from free_on ([] ∷ []))

    same_made : ◌≡◌ {A = Joined → List Cell} (λ row. item_row q.items (row_scope w columns row)) (λ row. item_row q.items (row_scope u columns row))
    same_made = λ i row. sym (same_items u w q.items free_items (seen columns row)) i

    pub cut_select : filter (λ row. lies_in (item_columns q.items) time u row) (select_rows inputs w ctes q) ≡ filter (λ row. lies_in (item_columns q.items) time u row) (select_rows inputs u ctes q)
    cut_select =
        ap (filter Lies) (is_plain w)
        ∙ ap (λ rows. filter Lies (plain_rows w columns q (filter (row_holds w columns q.filter) rows))) same_from_rows
        ∙ ap (λ (f : Joined → List Cell). filter Lies (map f (filter (row_holds w columns q.filter) (rows_of u)))) same_made
        ∙ cut_alike Lies (λ row. item_row q.items (row_scope u columns row)) (row_holds w columns q.filter) (row_holds u columns q.filter) (alike q time (binding q time parts.3) columns) (rows_of u)
        ∙ sym (ap (filter Lies) (is_plain u))

  cut_query : (inputs : List Input) (time : List ℕ) (ctes : List (List Select)) (selects : List Select) → is_joinable_query time ctes selects ≡ true
      → filter (λ row. lies_in (select_columns selects) time u row) (union_rows inputs w (cte_inputs inputs w ctes) selects) ≡ filter (λ row. lies_in (select_columns selects) time u row) (union_rows inputs u (cte_inputs inputs u ctes) selects)
  cut_query inputs time [] (s ∷ []) h =
      ap (filter (λ row. lies_in (item_columns s.items) time u row)) (append-nil (select_rows inputs w [] s))
      ∙ cut_select inputs [] s time h
      ∙ sym (ap (filter (λ row. lies_in (item_columns s.items) time u row)) (append-nil (select_rows inputs u [] s)))
  cut_query inputs time [] [] h = absurd (cc)
  cut_query inputs time [] (s ∷ r ∷ ss) h = absurd (cc)
  cut_query inputs time (c ∷ cs) selects h = absurd (cc)

  cut_defn : (inputs : List Input) (d : Defn) (k : Kind) → is_joinable_as d k ≡ true
      → filter (λ row. lies_by (time_column k) (defn_columns d) u row) (defn_rows d inputs w) ≡ filter (λ row. lies_by (time_column k) (defn_columns d) u row) (defn_rows d inputs u)
  cut_defn inputs (Sql q) (Incremental time lookback) h = cut_query inputs time q.ctes q.selects h
  cut_defn inputs (Seed columns rows) (Incremental time lookback) h = absurd (cc)
  cut_defn inputs d Full h = absurd (cc)
  cut_defn inputs d View h = absurd (cc)
  cut_defn inputs d SeedKind h = absurd (cc)

  cut_unit : (own : Own) (inputs : List Input) → is_joinable own ≡ true → filter (is_of_unit own u) (defn_rows own.defn inputs w) ≡ piece_over own inputs u
  cut_unit own inputs h = cut_defn inputs own.defn own.kind h

  of_wider : (k : Option (List ℕ)) (shape : List Column) (row : List Cell) → lies_by k shape u row ≡ true → lies_by k shape w row ≡ true
  of_wider None shape row h = h
  of_wider (Some time) shape row h = within_wider (time_of (cell_of shape row time)) h

  twice : (p r : List Cell → Bool) → ((x : List Cell) → p x ≡ true → r x ≡ true) → (xs : List (List Cell)) → filter p (filter r xs) ≡ filter p xs
  twice p r f [] = refl
  twice p r f (x ∷ xs) = go (p x) (r x) refl refl (twice p r f xs)
    where
      go : (b c : Bool) → p x ≡ b → r x ≡ c → filter p (filter r xs) ≡ filter p xs → filter p (cond (r x) (x ∷ filter r xs) (filter r xs)) ≡ cond (p x) (x ∷ filter p xs) (filter p xs)
      go b true is also rest = ap (λ t. filter p (cond t (x ∷ filter r xs) (filter r xs))) also ∙ ap (λ l. cond (p x) (x ∷ l) l) rest
      go true false is also rest = absurd (let e = f x is in cc)
      go false false is also rest = ap (λ t. filter p (cond t (x ∷ filter r xs) (filter r xs))) also ∙ rest ∙ sym (ap (λ t. cond t (x ∷ filter p xs) (filter p xs)) is)

  cut_sorted : (own : Own) (inputs : List Input) → is_joinable own ≡ true → filter (is_of_unit own u) (ascending (piece_over own inputs w)) ≡ ascending (piece_over own inputs u)
  cut_sorted own inputs h =
      cut_ascending (is_of_unit own u) (piece_over own inputs w)
      ∙ ap ascending (twice (is_of_unit own u) (is_of_unit own w) (of_wider (time_column own.kind) (defn_columns own.defn)) (defn_rows own.defn inputs w) ∙ cut_unit own inputs h)

pub unit_rows : (own : Own) (inputs : List Input) (u w : Bounds) → is_joinable own ≡ true → IsUnit u → IsUnit w → IsPartOf u w → filter (is_of_unit own u) (defn_rows own.defn inputs w) ≡ piece_over own inputs u
unit_rows own inputs u w h unit whole part = cut_unit u w unit whole part own inputs h

pub sorted_rows : (own : Own) (inputs : List Input) (u w : Bounds) → is_joinable own ≡ true → IsUnit u → IsUnit w → IsPartOf u w → filter (is_of_unit own u) (ascending (piece_over own inputs w)) ≡ ascending (piece_over own inputs u)
sorted_rows own inputs u w h unit whole part = cut_sorted u w unit whole part own inputs h

-- a run has each of its units, and is an interval of the calendar
later : (u : Bounds) (us : List Bounds) → AreUnits (u ∷ us) → Adjoin u us → u.start <ℤ end_of u us
later u [] units adjoining = units.0.0
later u (v ∷ vs) units adjoining =
    let begins = units.0.0 in
    let meet = adjoining.0 in
    let rest = later v vs units.1 adjoining.1 in
    omega (arith, signed_arith, begins, meet, rest)

in_days : (u : Bounds) (us : List Bounds) → AreUnits (u ∷ us) → IsInDays (end_of u us)
in_days u [] units = units.0.2
in_days u (v ∷ vs) units = in_days v vs units.1

run_is_unit : (u : Bounds) (us : List Bounds) → AreUnits (u ∷ us) → Adjoin u us → IsUnit (run_of u us)
run_is_unit u us units adjoining = (later u us units adjoining, units.0.1, in_days u us units)

each_unit : (P : Bounds → Type 0) (w : Bounds) → ((v : Bounds) → IsUnit v → IsPartOf v w → P v) → (u : Bounds) (us : List Bounds) → AreUnits (u ∷ us) → Adjoin u us → w.start ≤ℤ u.start → end_of u us ≤ℤ w.end → All P (u ∷ us)
each_unit P w holds_of u [] units adjoining low high = All-cons P u [] (holds_of u units.0 (low, high)) (λ k d lt. absurd (omega arith))
each_unit P w holds_of u (v ∷ vs) units adjoining low high =
    let begins = units.0.0 in
    let meet = adjoining.0 in
    let rest = later v vs units.1 adjoining.1 in
    let ends : u.end ≤ℤ w.end = omega (arith, signed_arith, meet, rest, high) in
    let next : w.start ≤ℤ v.start = omega (arith, signed_arith, begins, meet, low) in
    All-cons P u (v ∷ vs) (holds_of u units.0 (low, ends)) (each_unit P w holds_of v vs units.1 adjoining.1 next high)

pub run_rows : (own : Own) (inputs : List Input) (u : Bounds) (us : List Bounds) → is_joinable own ≡ true → AreUnits (u ∷ us) → Adjoin u us
    → All (λ v. filter (is_of_unit own v) (defn_rows own.defn inputs (run_of u us)) ≡ piece_over own inputs v) (u ∷ us)
run_rows own inputs u us h units adjoining =
    each_unit (λ v. filter (is_of_unit own v) (defn_rows own.defn inputs (run_of u us)) ≡ piece_over own inputs v) (run_of u us)
    (λ v unit part. unit_rows own inputs v (run_of u us) h unit (run_is_unit u us units adjoining) part)
    u us units adjoining (omega (arith, signed_arith)) (omega (arith, signed_arith))

pub run_sorted : (own : Own) (inputs : List Input) (u : Bounds) (us : List Bounds) → is_joinable own ≡ true → AreUnits (u ∷ us) → Adjoin u us
    → All (λ v. filter (is_of_unit own v) (ascending (piece_over own inputs (run_of u us))) ≡ ascending (piece_over own inputs v)) (u ∷ us)
run_sorted own inputs u us h units adjoining =
    each_unit (λ v. filter (is_of_unit own v) (ascending (piece_over own inputs (run_of u us))) ≡ ascending (piece_over own inputs v)) (run_of u us)
    (λ v unit part. sorted_rows own inputs v (run_of u us) h unit (run_is_unit u us units adjoining) part)
    u us units adjoining (omega (arith, signed_arith)) (omega (arith, signed_arith))
