-- Each form of an expression has operands of the types that it takes.
use Rattle.std.proofs.Common.{◌≡◌, ℕ, ℤ, pos, Bool, true, false, cond, ◌&&◌, ◌||◌, nat_le, Option, Some, None, Ok, List, [], ◌∷◌, ◌++◌, map, refl, ap, subst}
use Rattle.std.specs.List.{All, AllByRecursion as Each, AllZip, list_all, list_any}
use Rattle.std.specs.Option.{ForSome}
use Rattle.std.proofs.lemmas.Bool.{and_parts, and_from}
use Rattle.std.proofs.lemmas.List.Elements.{recursion_from_All}
use Rattle.mesh_base_values.specs.declared.times.Bounds.{Bounds}
use Rattle.mesh_base_values.specs.declared.values.Cell.{Cell}
use Rattle.mesh_base_values.specs.declared.values.Cell.TheVariants as cell
use Rattle.mesh_base_values.specs.declared.values.ColType.{ColType}
use Rattle.mesh_base_values.specs.declared.values.ColType.TheVariants as type
use Rattle.mesh_base_values.specs.declared.values.Column.{Column}
use Rattle.mesh_base.specs.declared.expressions.AggKind.{AggKind}
use Rattle.mesh_base.specs.declared.expressions.AggKind.TheVariants as agg
use Rattle.mesh_base.specs.declared.expressions.Expr.{Expr, out-Expr}
use Rattle.mesh_base.specs.declared.expressions.Expr as expr
use Rattle.mesh_base.specs.declared.expressions.Expr.TheOpen.{Expr-F, Literal, Macro}
use Rattle.mesh_base.specs.declared.expressions.Func.{Func}
use Rattle.mesh_base.specs.declared.expressions.Func.TheVariants as func
use Rattle.mesh_base.specs.declared.expressions.Op.{Op}
use Rattle.mesh_base.specs.declared.expressions.Op.TheVariants as op
use Rattle.mesh_base.specs.declared.expressions.Var.TheVariants.{StartDate, EndDate, StartDs, EndDs}
use Rattle.mesh_base.specs.declared.expressions.When.{When}
use Rattle.mesh_query_grammar.specs.declared.surface.signs.AddSign.{AddSign}
use Rattle.mesh_query_grammar.specs.declared.surface.signs.Cmp.{Cmp}
use Rattle.mesh_query_grammar.specs.declared.surface.signs.Cmp.TheVariants as cmp
use Rattle.mesh_query_grammar.specs.declared.surface.signs.Function.{Function}
use Rattle.mesh_query_grammar.specs.declared.surface.signs.Function.TheVariants as function
use Rattle.mesh_query_grammar.specs.declared.surface.signs.MulSign.{MulSign}
use Rattle.mesh_query_grammar.specs.declared.surface.signs.MulSign.TheVariants as factor
use Rattle.mesh_query_grammar.specs.declared.surface.expressions.OrExpr.{OrExpr}
use Rattle.mesh_query_tokens.specs.Gives.{◌>>=◌}
use Rattle.mesh_query_tokens.specs.Walk.{along, all_of, one_more}
use Rattle.mesh_time_days.specs.casts.Dates.{day_named}
use Rattle.mesh_model_csv.specs.seeds.Fits.{is_of}
use Rattle.mesh_spec_query.specs.Ev.{Ev, Scope, Seen, at_row}
use Rattle.mesh_resolve_types.specs.declared.typed.Typed.{Typed}
use Rattle.mesh_resolve_types.specs.Faults.{mismatch, too_large_number, largest_number}
use Rattle.mesh_resolve_types.specs.rules.Kinds.{Kind, may_be, are_alike, first_kind, are_one_kind, sum_kind, may_cast}
use Rattle.mesh_resolve_types.specs.Kinds.{kind_of, is_date, as_date, dated, node_as_date, day_text_as_date}
use Rattle.mesh_resolve_types.specs.Forms.{Read, leaf, expr_of, over_two, over_one, uniform, either, both, joined, multiplied, factor_op, added, sum_op, sum_of_kind, negated, denied, null_test, turned, compare_op, compared, compared_as_they_are, between, within, range, one_of, among, member, are_all_alike, cast, called, unary, alternatives, call, aggregate, only, counted, summed, extreme, starred, distinct, cased, arm, test, when, else_or_null, values_of, choice, case_of}
use Rattle.mesh_resolve_scope.specs.declared.sight.sight.Sight.{Sight}
use Rattle.mesh_resolve_scope.specs.Expressions.{number, typed}
use Rattle.mesh_resolve_scope.specs.sight.Sight.{column, column_typed, qualified, the_one, meant, macro_typed, macro_or_fault, macro_named, macro_kind}
use Rattle.mesh_base.specs.declared.expressions.Var.{Var}
use Rattle.mesh_law_reading.specs.Operands.{agg_fits, agg_takes, are_of_one_type, func_takes, op_takes, operands_fit}
use Rattle.mesh_law_reading.specs.Typed.{HasColumns, HasKind, HasTypeOver, RowFits, ScopeFits}
use Rattle.mesh_law_reading.proofs.Keeps.{Keeps}
use Rattle.mesh_law_reading.proofs.Walks.{walk_keeps}
use Rattle.mesh_law_reading.proofs.TypingCells as cells
use Rattle.mesh_law_reading.proofs.TypingForms as forms
use Rattle.mesh_law_reading.proofs.TypingForms.{held, passed, same_ok}
use Rattle.mesh_law_reading.proofs.TypingLists.{each_append, each_map}
use Rattle.mesh_law_reading.proofs.TypingOperands as fit
use Rattle.mesh_law_reading.proofs.TypingSight as sights

both_taken : (k : ColType) (x y : Cell) → is_of k x ≡ true → is_of k y ≡ true → (is_of k x && is_of k y) ≡ true
both_taken k x y p q = and_from (is_of k x) (is_of k y) p q

module _ (columns : List (List Column)) where
  -- the operands within an expression fit wherever it stands
  abbrev pub Meets : Expr → Type 0
  Meets e = (s : Scope) → ScopeFits columns s → operands_fit e s ≡ true

  abbrev pub Holds : Typed → Type 0
  Holds t = HasTypeOver columns t.kind t.expr × Meets t.expr

  abbrev IsMet : Typed → Type 0
  IsMet t = Meets t.expr

  -- a BOOL whose operands fit
  abbrev IsTest : Typed → Type 0
  IsTest t = (t.kind ≡ Some type.Bool) × Meets t.expr

  literal_holds : (k : Kind) (c : Cell) → HasKind k c → HasTypeOver columns k (expr.Literal c) × Meets (expr.Literal c)
  literal_holds k c h = (forms.literal columns k c h, λ s f. fit.of_literal c s)

  number_holds : (at value : ℕ) (t : Typed) → number at value ≡ Ok t → Holds t
  number_holds at value t e = (
    forms.number_fits columns at value t e,
    subst IsMet (held (nat_le value largest_number) (leaf at (Some type.Int) (expr.Literal (cell.Int (pos value)))) t (too_large_number at) e).1
        (λ s f. fit.of_literal (cell.Int (pos value)) s),
  )

  macro_holds : (sight : Sight) (at : ℕ) (word : List ℕ) (t : Typed) → macro_typed sight at word ≡ Ok t → Holds t
  unfolding macro_typed
  macro_holds sight at word t e = (sights.macro_fits columns sight at word t e, go (cond sight.macros (macro_named word) None) e)
    where
      go : (o : Option Var) → macro_or_fault at word o ≡ Ok t → IsMet t
      go None e = absurd (cc)
      go (Some var) e = subst IsMet (same_ok (leaf at (Some (macro_kind var)) (expr.Macro var)) t e) (λ s f. fit.of_macro var s)

  column_holds : (sight : Sight) → HasColumns columns sight → (at : ℕ) (item : Option (List ℕ)) (name : List ℕ) (t : Typed) → column sight at item name ≡ Ok t → Holds t
  unfolding column
  column_holds sight h at item name t e =
      let (there, _, found) = passed (qualified at item sight.from) (λ there. the_one at name (meant item name sight.from) >>= λ m. Ok (column_typed at name m.item m.kind)) t e in
      let (m, one, made) = passed (the_one at name (meant item name sight.from)) (λ m. Ok (column_typed at name m.item m.kind)) t found in
      (sights.column_fits columns sight h at item name t e, subst IsMet (same_ok (column_typed at name m.item m.kind) t made) (λ s f. fit.of_column m.item name s))

  -- a text beside a date
  day_holds : (t : Typed) → Holds t → (o : Option ℤ) → Holds (day_text_as_date t o)
  day_holds t h None = h
  day_holds t h (Some d) = literal_holds (Some type.Date) (cell.Date d) refl

  node_holds : (t : Typed) → Holds t → (d : Expr-F Expr When) → Holds (node_as_date t d)
  node_holds t h (Literal (cell.Text text)) = day_holds t h (day_named text)
  node_holds t h (Macro StartDs) = (sights.macro_here columns StartDate, λ s f. fit.of_macro StartDate s)
  node_holds t h (Macro EndDs) = (sights.macro_here columns EndDate, λ s f. fit.of_macro EndDate s)
  node_holds t h d = h

  as_date_holds : (t : Typed) → Holds t → Holds (as_date t)
  as_date_holds t h = node_holds t h (out-Expr t.expr)

  dated_holds : (turn : Bool) (t : Typed) → Holds t → Holds (dated turn t)
  dated_holds true t h = as_date_holds t h
  dated_holds false t h = h

  -- operators
  binary : (o : Op) (l r : Typed) → Holds l → Holds r → ((x y : Cell) → HasKind l.kind x → HasKind r.kind y → op_takes o x y ≡ true) → Meets (expr.Binary o l.expr r.expr)
  binary o l r p q law s f = fit.of_binary o l.expr r.expr s (law (Ev l.expr s) (Ev r.expr s) (p.0 s f) (q.0 s f)) (p.1 s f) (q.1 s f)

  uniform_meets : (k : ColType) (o : Op) → ((x y : Cell) → is_of k x ≡ true → is_of k y ≡ true → op_takes o x y ≡ true) → (at : ℕ) (l r t : Typed) → Holds l → Holds r
      → uniform k o at l r ≡ Ok t → IsMet t
  unfolding uniform
  uniform_meets k o law at l r t p q e =
      let (may, is) = held (may_be k l.kind && may_be k r.kind) (over_two at k o l r) t (mismatch at) e in
      let m = and_parts (may_be k l.kind) (may_be k r.kind) may in
      subst IsMet is (binary o l r p q (λ x y hx hy. law x y (cells.taken k l.kind x m.0 hx) (cells.taken k r.kind y m.1 hy)))

  either_holds : (at : ℕ) (l r t : Typed) → Holds l → Holds r → either at l r ≡ Ok t → Holds t
  either_holds at l r t p q e = (forms.either_fits columns at l r t p.0 q.0 e, uniform_meets type.Bool op.Or (both_taken type.Bool) at l r t p q e)

  both_holds : (at : ℕ) (l r t : Typed) → Holds l → Holds r → both at l r ≡ Ok t → Holds t
  both_holds at l r t p q e = (forms.both_fits columns at l r t p.0 q.0 e, uniform_meets type.Bool op.And (both_taken type.Bool) at l r t p q e)

  joined_holds : (at : ℕ) (l r t : Typed) → Holds l → Holds r → joined at l r ≡ Ok t → Holds t
  joined_holds at l r t p q e = (forms.joined_fits columns at l r t p.0 q.0 e, uniform_meets type.Text op.Cat (both_taken type.Text) at l r t p q e)

  factor_taken : (s : MulSign) (x y : Cell) → is_of type.Int x ≡ true → is_of type.Int y ≡ true → op_takes (factor_op s) x y ≡ true
  factor_taken factor.Times x y p q = both_taken type.Int x y p q
  factor_taken factor.Over x y p q = both_taken type.Int x y p q
  factor_taken factor.Modulo x y p q = both_taken type.Int x y p q

  multiplied_holds : (s : MulSign) (at : ℕ) (l r t : Typed) → Holds l → Holds r → multiplied s at l r ≡ Ok t → Holds t
  multiplied_holds s at l r t p q e = (forms.multiplied_fits columns s at l r t p.0 q.0 e, uniform_meets type.Int (factor_op s) (factor_taken s) at l r t p q e)

  sum_meets : (s : AddSign) (at : ℕ) (l r t : Typed) (o : Option ColType) → sum_kind s l.kind r.kind ≡ o → Holds l → Holds r → sum_of_kind s at l r o ≡ Ok t → IsMet t
  sum_meets s at l r t None is p q e = absurd (cc)
  sum_meets s at l r t (Some k) is p q e = subst IsMet (same_ok (over_two at k (sum_op s) l r) t e)
      (binary (sum_op s) l r p q (λ x y hx hy. fit.sum_takes s l.kind r.kind k x y is hx hy))

  added_holds : (s : AddSign) (at : ℕ) (l r t : Typed) → Holds l → Holds r → added s at l r ≡ Ok t → Holds t
  unfolding added
  added_holds s at l r t p q e = (forms.added_fits columns s at l r t p.0 q.0 e, sum_meets s at l r t (sum_kind s l.kind r.kind) refl p q e)

  negated_holds : (at : ℕ) (x t : Typed) → Holds x → negated at x ≡ Ok t → Holds t
  unfolding negated
  negated_holds at x t p e =
      let (may, is) = held (may_be type.Int x.kind) (over_one at type.Int (expr.Neg x.expr) x) t (mismatch at) e in
      (forms.negated_fits columns at x t p.0 e, subst IsMet is (λ s f. fit.of_neg x.expr s (cells.taken type.Int x.kind (Ev x.expr s) may (p.0 s f)) (p.1 s f)))

  denial : (x : Typed) → may_be type.Bool x.kind ≡ true → Holds x → Meets (expr.Not x.expr)
  denial x may p s f = fit.of_not x.expr s (cells.taken type.Bool x.kind (Ev x.expr s) may (p.0 s f)) (p.1 s f)

  denied_holds : (at : ℕ) (x t : Typed) → Holds x → denied at x ≡ Ok t → Holds t
  unfolding denied
  denied_holds at x t p e =
      let (may, is) = held (may_be type.Bool x.kind) (over_one at type.Bool (expr.Not x.expr) x) t (mismatch at) e in
      (forms.denied_fits columns at x t p.0 e, subst IsMet is (denial x may p))

  turned_meets : (not : Bool) (t : Typed) → HasTypeOver columns t.kind t.expr → IsTest t → IsMet (turned not t)
  turned_meets false t h k = k.1
  turned_meets true t h k = denial t (ap (may_be type.Bool) k.0) (h, k.1)

  tested_holds : (not_null : Bool) (at : ℕ) (x : Typed) → Holds x → Holds (turned not_null (null_test at x))
  tested_holds not_null at x p = (
    forms.tested_fits columns not_null at x p.0,
    turned_meets not_null (null_test at x) (forms.tested_fits columns false at x p.0)
        (refl, λ s f. fit.of_is_null x.expr s (p.1 s f)),
  )

  -- comparisons
  as_they_are : (c : Cmp) (at : ℕ) (l r t : Typed) → Holds l → Holds r → compared_as_they_are (compare_op c) at l r ≡ Ok t → IsTest t
  as_they_are c at l r t p q e =
      let (alike, is) = held (are_alike l.kind r.kind) (over_two at type.Bool (compare_op c) l r) t (mismatch at) e in
      subst IsTest is (refl, binary (compare_op c) l r p q (λ x y hx hy. fit.comparison_takes c x y (fit.of_kinds l.kind r.kind x y alike hx hy)))

  compared_test : (c : Cmp) (at : ℕ) (l r t : Typed) → Holds l → Holds r → compared (compare_op c) at l r ≡ Ok t → IsTest t
  unfolding compared
  compared_test c at l r t p q e = go (is_date l) (is_date r) e
    where
      go : (a b : Bool) → cond a (compared_as_they_are (compare_op c) at l (as_date r)) (cond b (compared_as_they_are (compare_op c) at (as_date l) r) (compared_as_they_are (compare_op c) at l r)) ≡ Ok t → IsTest t
      go true b e = as_they_are c at l (as_date r) t p (as_date_holds r q) e
      go false true e = as_they_are c at (as_date l) r t (as_date_holds l p) q e
      go false false e = as_they_are c at l r t p q e

  compared_holds : (c : Cmp) (at : ℕ) (l r t : Typed) → Holds l → Holds r → compared (compare_op c) at l r ≡ Ok t → Holds t
  compared_holds c at l r t p q e = (forms.compared_fits columns c at l r t p.0 q.0 e, (compared_test c at l r t p q e).1)

  within_test : (at : ℕ) (x low high t : Typed) → Holds x → Holds low → Holds high → within at x low high ≡ Ok t → IsTest t
  within_test at x low high t p q r e =
      let (alike, is) = held (are_alike x.kind low.kind && are_alike x.kind high.kind) (range at x low high) t (mismatch at) e in
      let m = and_parts (are_alike x.kind low.kind) (are_alike x.kind high.kind) alike in
      subst IsTest is (
        refl,
        λ s f. fit.of_between x.expr low.expr high.expr s
            (fit.of_kinds x.kind low.kind (Ev x.expr s) (Ev low.expr s) m.0 (p.0 s f) (q.0 s f))
            (fit.of_kinds x.kind high.kind (Ev x.expr s) (Ev high.expr s) m.1 (p.0 s f) (r.0 s f)) (p.1 s f) (q.1 s f) (r.1 s f),
      )

  between_holds : (not_within : Bool) (at : ℕ) (x low high t : Typed) → Holds x → Holds low → Holds high → between at x low high ≡ Ok t → Holds (turned not_within t)
  unfolding between
  between_holds not_within at x low high t p q r e =
      let turn : Bool = is_date x || is_date low || is_date high in (
        forms.between_fits columns not_within at x low high t p.0 q.0 r.0 e,
        turned_meets not_within t (forms.between_fits columns false at x low high t p.0 q.0 r.0 e)
            (within_test at (dated turn x) (dated turn low) (dated turn high) t (dated_holds turn x p) (dated_holds turn low q) (dated_holds turn high r) e),
      )

  all_meet : (s : Scope) → ScopeFits columns s → (ts : List Typed) → Each Holds ts → list_all (λ e. operands_fit e s) (map expr_of ts) ≡ true
  all_meet s f [] h = refl
  all_meet s f (t ∷ ts) h = and_from (operands_fit t.expr s) (list_all (λ e. operands_fit e s) (map expr_of ts)) (h.0.1 s f) (all_meet s f ts h.1)

  members_alike : (s : Scope) → ScopeFits columns s → (x : Typed) → Holds x → (ts : List Typed) → Each Holds ts → are_all_alike x.kind ts ≡ true
      → list_all (λ e. are_of_one_type (Ev x.expr s ∷ Ev e s ∷ [])) (map expr_of ts) ≡ true
  members_alike s f x p [] h a = refl
  members_alike s f x p (t ∷ ts) h a =
      let m = and_parts (are_alike x.kind t.kind) (are_all_alike x.kind ts) a in
      and_from (are_of_one_type (Ev x.expr s ∷ Ev t.expr s ∷ [])) (list_all (λ e. are_of_one_type (Ev x.expr s ∷ Ev e s ∷ [])) (map expr_of ts))
      (fit.of_kinds x.kind t.kind (Ev x.expr s) (Ev t.expr s) m.0 (p.0 s f) (h.0.0 s f)) (members_alike s f x p ts h.1 m.1)

  among_test : (at : ℕ) (x : Typed) (ts : List Typed) (t : Typed) → Holds x → Each Holds ts → among at x ts ≡ Ok t → IsTest t
  among_test at x ts t p h e =
      let (alike, is) = held (are_all_alike x.kind ts) (member at x ts) t (mismatch at) e in
      subst IsTest is (refl, λ s f. fit.of_one_of x.expr (map expr_of ts) s (members_alike s f x p ts h alike) (p.1 s f) (all_meet s f ts h))

  types_of : (ts : List Typed) → Each Holds ts → Each (λ (t : Typed). HasTypeOver columns t.kind t.expr) ts
  types_of [] h = tt
  types_of (t ∷ ts) h = (h.0.0, types_of ts h.1)

  one_of_holds : (none_of : Bool) (at : ℕ) (x : Typed) (of : List Typed) (t : Typed) → Holds x → Each Holds of → one_of at x of ≡ Ok t → Holds (turned none_of t)
  unfolding one_of
  one_of_holds none_of at x of t p h e =
      let turn : Bool = is_date x || list_any is_date of in (
        forms.one_of_fits columns none_of at x of t p.0 (types_of of h) e,
        turned_meets none_of t (forms.one_of_fits columns false at x of t p.0 (types_of of h) e)
            (among_test at (dated turn x) (map (dated turn) of) t (dated_holds turn x p) (each_map Holds Holds (dated turn) (dated_holds turn) of h) e),
      )

  cast_holds : (at : ℕ) (to : ColType) (x t : Typed) → Holds x → cast at to x ≡ Ok t → Holds t
  unfolding cast
  cast_holds at to x t p e =
      let (may, is) = held (may_cast to x.kind) (over_one at to (expr.Cast to x.expr) x) t (mismatch at) e in
      (forms.cast_fits columns at to x t p.0 e, subst IsMet is (λ s f. fit.of_cast to x.expr s (fit.cast_taken to x.kind (Ev x.expr s) may (p.0 s f)) (p.1 s f)))

  -- functions
  unary_meets : (at : ℕ) (f : Func) (from to : ColType) → ((x : Cell) → is_of from x ≡ true → func_takes f (x ∷ []) ≡ true) → (ts : List Typed) (t : Typed)
      → Each Holds ts → unary at f from to ts ≡ Ok t → IsMet t
  unary_meets at f from to law [] t h e = absurd (cc)
  unary_meets at f from to law (x ∷ y ∷ ys) t h e = absurd (cc)
  unary_meets at f from to law (x ∷ []) t h e =
      let (may, is) = held (may_be from x.kind) (call at (Some to) f (x ∷ [])) t (mismatch at) e in
      subst IsMet is (λ s g. fit.of_call f (x.expr ∷ []) s (law (Ev x.expr s) (cells.taken from x.kind (Ev x.expr s) may (h.0.0 s g))) (all_meet s g (x ∷ []) h))

  alternatives_meet : (at : ℕ) (f : Func) → ((cs : List Cell) → are_of_one_type cs ≡ true → func_takes f cs ≡ true) → (ts : List Typed) (t : Typed) → Each Holds ts
      → alternatives at f ts ≡ Ok t → IsMet t
  alternatives_meet at f law ts t h e =
      let (alike, is) = held (are_one_kind (map kind_of ts)) (call at (first_kind (map kind_of ts)) f ts) t (mismatch at) e in
      subst IsMet is (λ s g. fit.of_call f (map expr_of ts) s
      (law (map (λ e. Ev e s) (map expr_of ts)) (fit.of_kind (first_kind (map kind_of ts)) (map (λ e. Ev e s) (map expr_of ts))
      (cells.of_one_kind (map kind_of ts) (map (λ e. Ev e s) (map expr_of ts)) alike (forms.each_has columns s g ts (types_of ts h))))) (all_meet s g ts h))

  -- aggregates
  rows_meet : (u : Bounds) (e : Expr) → Meets e → (rows : List Seen) → Each (RowFits columns) rows → list_all (λ row. operands_fit e (at_row u row)) rows ≡ true
  rows_meet u e p [] f = refl
  rows_meet u e p (row ∷ rows) f =
      and_from (operands_fit e (at_row u row)) (list_all (λ row. operands_fit e (at_row u row)) rows)
      (p (at_row u row) (record { row = f.0; group = λ rows e. absurd (cc); keys = λ e c. absurd (forms.none_within e c) })) (rows_meet u e p rows f.1)

  aggregate_meets : (a : AggKind) (x : Typed) → Holds x → ((cs : List Cell) → Each (HasKind x.kind) cs → agg_takes a cs ≡ true) → Meets (expr.Agg a x.expr)
  aggregate_meets a x p law s f = fit.of_agg a x.expr s (go s.bounds s.group f.group)
    where
      go : (u : Bounds) (g : Option (List Seen)) → ForSome g (All (RowFits columns)) → agg_fits a (x.expr, operands_fit x.expr) u g ≡ true
      go u None f = refl
      go u (Some rows) f =
          let all = recursion_from_All (RowFits columns) rows (f rows refl) in
          and_from (agg_takes a (map (λ row. Ev x.expr (at_row u row)) rows)) (list_all (λ row. operands_fit x.expr (at_row u row)) rows)
          (law (map (λ row. Ev x.expr (at_row u row)) rows) (forms.at_rows columns u x.kind x.expr p.0 rows all)) (rows_meet u x.expr p.1 rows all)

  of_only : (at : ℕ) (ts : List Typed) (form : Typed → Read) (t : Typed) → Each Holds ts → ((x : Typed) → Holds x → form x ≡ Ok t → IsMet t)
      → (only at ts >>= form) ≡ Ok t → IsMet t
  of_only at [] form t h law e = absurd (cc)
  of_only at (x ∷ y ∷ ys) form t h law e = absurd (cc)
  of_only at (x ∷ []) form t h law e = law x h.0 e

  counted_meets : (at : ℕ) (a : AggKind) → ((cs : List Cell) → agg_takes a cs ≡ true) → (x t : Typed) → Holds x → counted at a x ≡ Ok t → IsMet t
  counted_meets at a law x t p e = subst IsMet (same_ok (aggregate at a (Some type.Int) x) t e) (aggregate_meets a x p (λ cs h. law cs))

  extreme_meets : (at : ℕ) (a : AggKind) → ((cs : List Cell) → are_of_one_type cs ≡ true → agg_takes a cs ≡ true) → (x t : Typed) → Holds x → extreme at a x ≡ Ok t → IsMet t
  extreme_meets at a law x t p e = subst IsMet (same_ok (aggregate at a x.kind x) t e) (aggregate_meets a x p (λ cs h. law cs (fit.of_kind x.kind cs h)))

  each_taken : (k : ColType) (kind : Kind) → may_be k kind ≡ true → (cs : List Cell) → Each (HasKind kind) cs → list_all (is_of k) cs ≡ true
  each_taken k kind may [] h = refl
  each_taken k kind may (c ∷ cs) h = and_from (is_of k c) (list_all (is_of k) cs) (cells.taken k kind c may h.0) (each_taken k kind may cs h.1)

  summed_meets : (at : ℕ) (x t : Typed) → Holds x → summed at x ≡ Ok t → IsMet t
  summed_meets at x t p e =
      let (may, is) = held (may_be type.Int x.kind) (aggregate at agg.Sum (Some type.Int) x) t (mismatch at) e in
      subst IsMet is (aggregate_meets agg.Sum x p (λ cs h. each_taken type.Int x.kind may cs h))

  one_taken : (k : ColType) (x : Cell) → is_of k x ≡ true → list_all (is_of k) (x ∷ []) ≡ true
  one_taken k x h = and_from (is_of k x) true h refl

  called_meets : (at : ℕ) (f : Function) (of : List Typed) (t : Typed) → Each Holds of → called at f of ≡ Ok t → IsMet t
  unfolding called
  called_meets at function.Abs ts t h e = unary_meets at func.Abs type.Int type.Int (one_taken type.Int) ts t h e
  called_meets at function.Length ts t h e = unary_meets at func.Length type.Text type.Int (one_taken type.Text) ts t h e
  called_meets at function.Upper ts t h e = unary_meets at func.Upper type.Text type.Text (one_taken type.Text) ts t h e
  called_meets at function.Lower ts t h e = unary_meets at func.Lower type.Text type.Text (one_taken type.Text) ts t h e
  called_meets at function.Nullif ts t h e = alternatives_meet at func.Nullif (λ cs a. a) ts t h e
  called_meets at function.Coalesce ts t h e = alternatives_meet at func.Coalesce (λ cs a. a) ts t h e
  called_meets at function.Count ts t h e = of_only at ts (counted at agg.Count) t h (λ x p e. counted_meets at agg.Count (λ cs. refl) x t p e) e
  called_meets at function.Sum ts t h e = of_only at ts (summed at) t h (λ x p e. summed_meets at x t p e) e
  called_meets at function.Min ts t h e = of_only at ts (extreme at agg.Min) t h (λ x p e. extreme_meets at agg.Min (λ cs a. a) x t p e) e
  called_meets at function.Max ts t h e = of_only at ts (extreme at agg.Max) t h (λ x p e. extreme_meets at agg.Max (λ cs a. a) x t p e) e

  starred_meets : (at : ℕ) (f : Function) (t : Typed) → starred at f ≡ Ok t → IsMet t
  starred_meets at function.Count t e = subst IsMet (same_ok (record { at = at; kind = Some type.Int; expr = expr.CountAll; marks = at ∷ [] }) t e) (λ s f. fit.of_count s)
  starred_meets at f t e = absurd (cc)

  distinct_meets : (at : ℕ) (f : Function) (x t : Typed) → Holds x → distinct at f x ≡ Ok t → IsMet t
  distinct_meets at function.Count x t p e = counted_meets at agg.Countd (λ cs. refl) x t p e
  distinct_meets at f x t p e = absurd (cc)

  -- CASE
  abbrev ArmHolds : Typed × Typed → Type 0
  ArmHolds a = Holds a.0 × Holds a.1

  abbrev ArmTests : Typed × Typed → Type 0
  ArmTests a = (may_be type.Bool a.0.kind ≡ true) × Holds a.0 × Holds a.1

  test_holds : (at : ℕ) (operand : Option Typed) → ForSome operand Holds → (x t : Typed) → Holds x → test at operand x ≡ Ok t → (may_be type.Bool t.kind ≡ true) × Holds t
  test_holds at None o x t p e =
      let (may, is) = held (may_be type.Bool x.kind) x t (mismatch at) e in
      subst (λ (t : Typed). (may_be type.Bool t.kind ≡ true) × Holds t) is (may, p)
  test_holds at (Some operand) o x t p e =
      let q = o operand refl in
      let tested = compared_test cmp.Eq at operand x t q p e in
      (ap (may_be type.Bool) tested.0, (forms.compared_fits columns cmp.Eq at operand x t q.0 p.0 e, tested.1))

  arm_holds : (at : ℕ) (operand : Option Typed) → ForSome operand Holds → (a b : Typed × Typed) → ArmHolds a → arm at operand a ≡ Ok b → ArmTests b
  arm_holds at operand o a b h e =
      let (t, is, made) = passed (test at operand a.0) (λ t. Ok (t, a.1)) b e in
      let r = test_holds at operand o a.0 t h.0 is in
      subst ArmTests (same_ok (t, a.1) b made) (r.0, r.1, h.1)

  arms_hold : (at : ℕ) (operand : Option Typed) → ForSome operand Holds → (so_far arms made : List (Typed × Typed)) → Each ArmTests so_far → Each ArmHolds arms
      → along one_more so_far (map (arm at operand) arms) ≡ Ok made → Each ArmTests made
  unfolding along
  arms_hold at operand o so_far [] made p h e = subst (Each ArmTests) (same_ok so_far made e) p
  arms_hold at operand o so_far (a ∷ arms) made p h e =
      let (next, is, rest) = passed (one_more so_far (arm at operand a)) (λ next. along one_more next (map (arm at operand) arms)) made e in
      let (b, was, stepped) = passed (arm at operand a) (λ x. Ok (so_far ++ x ∷ [])) next is in
      arms_hold at operand o next arms made
      (subst (Each ArmTests) (same_ok (so_far ++ b ∷ []) next stepped) (each_append ArmTests so_far (b ∷ []) p (arm_holds at operand o a b h.0 was, tt))) h.1 rest

  tests_hold : (s : Scope) → ScopeFits columns s → (arms : List (Typed × Typed)) → Each ArmTests arms
      → list_all (λ (w : When). is_of type.Bool (Ev w.test s)) (map when arms) ≡ true
  tests_hold s f [] h = refl
  tests_hold s f (a ∷ arms) h =
      and_from (is_of type.Bool (Ev a.0.expr s)) (list_all (λ (w : When). is_of type.Bool (Ev w.test s)) (map when arms))
      (cells.taken type.Bool a.0.kind (Ev a.0.expr s) h.0.0 (h.0.1.0 s f)) (tests_hold s f arms h.1)

  parts_hold : (s : Scope) → ScopeFits columns s → (arms : List (Typed × Typed)) → Each ArmTests arms
      → list_all (λ (w : When). operands_fit w.test s && operands_fit w.value s) (map when arms) ≡ true
  parts_hold s f [] h = refl
  parts_hold s f (a ∷ arms) h =
      and_from (operands_fit a.0.expr s && operands_fit a.1.expr s) (list_all (λ (w : When). operands_fit w.test s && operands_fit w.value s) (map when arms))
      (and_from (operands_fit a.0.expr s) (operands_fit a.1.expr s) (h.0.1.1 s f) (h.0.2.1 s f)) (parts_hold s f arms h.1)

  values_have : (s : Scope) → ScopeFits columns s → (arms : List (Typed × Typed)) (otherwise : Typed) → Each ArmTests arms → Holds otherwise
      → AllZip HasKind (values_of arms otherwise) (map (λ (w : When). Ev w.value s) (map when arms) ++ Ev otherwise.expr s ∷ [])
  values_have s f [] otherwise h o = (o.0 s f, tt)
  values_have s f (a ∷ arms) otherwise h o = (h.0.2.0 s f, values_have s f arms otherwise h.1 o)

  choice_meets : (at : ℕ) (arms : List (Typed × Typed)) (otherwise t : Typed) → Each ArmTests arms → Holds otherwise → case_of at otherwise arms ≡ Ok t → IsMet t
  choice_meets at arms otherwise t h o e =
      let (alike, is) = held (are_one_kind (values_of arms otherwise)) (choice at (first_kind (values_of arms otherwise)) arms otherwise) t (mismatch at) e in
      subst IsMet is (λ s f. fit.of_case (map when arms) otherwise.expr s (tests_hold s f arms h)
      (fit.of_kind (first_kind (values_of arms otherwise)) (map (λ (w : When). Ev w.value s) (map when arms) ++ Ev otherwise.expr s ∷ [])
      (cells.of_one_kind (values_of arms otherwise) (map (λ (w : When). Ev w.value s) (map when arms) ++ Ev otherwise.expr s ∷ []) alike (values_have s f arms otherwise h o)))
      (parts_hold s f arms h) (o.1 s f))

  else_holds : (at : ℕ) (otherwise : Option Typed) → ForSome otherwise Holds → Holds (else_or_null at otherwise)
  else_holds at None h = literal_holds None cell.Null refl
  else_holds at (Some t) h = h t refl

  cased_meets : (at : ℕ) (operand : Option Typed) (arms : List (Typed × Typed)) (otherwise : Option Typed) (t : Typed) → ForSome operand Holds → Each ArmHolds arms
      → ForSome otherwise Holds
      → cased at operand arms otherwise ≡ Ok t → IsMet t
  unfolding cased
  cased_meets at operand arms otherwise t p h o e =
      let (made, is, rest) = passed (all_of (map (arm at operand) arms)) (case_of at (else_or_null at otherwise)) t e in
      choice_meets at made (else_or_null at otherwise) t (arms_hold at operand p [] arms made tt h is) (else_holds at otherwise o) rest

  arm_types : (arms : List (Typed × Typed)) → Each ArmHolds arms → Each (λ (a : Typed × Typed). HasTypeOver columns a.0.kind a.0.expr × HasTypeOver columns a.1.kind a.1.expr) arms
  arm_types [] h = tt
  arm_types (a ∷ arms) h = ((h.0.0.0, h.0.1.0), arm_types arms h.1)

  -- every form keeps both
  keeps : (sight : Sight) → HasColumns columns sight → Keeps sight Holds
  keeps sight h = record {
    number = number_holds;
    text = λ at text. literal_holds (Some type.Text) (cell.Text text) refl;
    date = λ at day. literal_holds (Some type.Date) (cell.Date day) refl;
    truth = λ at value. literal_holds (Some type.Bool) (cell.Bool value) refl;
    null = λ at. literal_holds None cell.Null refl;
    macro = macro_holds sight;
    column = column_holds sight h;
    either = either_holds;
    both = both_holds;
    joined = joined_holds;
    multiplied = multiplied_holds;
    added = added_holds;
    negated = negated_holds;
    denied = denied_holds;
    tested = tested_holds;
    compared = compared_holds;
    between = between_holds;
    one_of = one_of_holds;
    cast = cast_holds;
    called = λ at f of t p e. (forms.called_fits columns at f of t (types_of of p) e, called_meets at f of t p e);
    starred = λ at f t e. (forms.starred_fits columns at f t e, starred_meets at f t e);
    distinct = λ at f x t p e. (forms.distinct_fits columns at f x t p.0 e, distinct_meets at f x t p e);
    cased = λ at operand arms otherwise t p h o e. (
      forms.cased_fits columns at operand arms otherwise t (λ x is. (p x is).0) (arm_types arms h)
          (λ x is. (o x is).0) e,
      cased_meets at operand arms otherwise t p h o e,
    );
  }

  pub typed_holds : (sight : Sight) → HasColumns columns sight → (e : OrExpr) (t : Typed) → typed sight e ≡ Ok t → Holds t
  typed_holds sight h = walk_keeps sight Holds (keeps sight h)
