-- Each form of an expression has values of its type, where its operands have.
use Rattle.std.proofs.Common.{◌≡◌, ℕ, zero, suc, ◌<◌, pos, Bool, true, false, cond, ◌&&◌, ◌||◌, nat_le, inl, inr, ◌⊎◌, Option, Some, None, Result, Ok, Err, List, [], ◌∷◌, ◌++◌, map, refl, sym, subst, arith}
use Rattle.std.specs.List.{All, AllByRecursion as Each, AllZip, Contains, list_any}
use Rattle.std.proofs.lemmas.List.Elements.{recursion_from_All}
use Rattle.std.specs.Option.{ForSome}
use Rattle.mesh_base_values.specs.declared.values.Cell.{Cell}
use Rattle.mesh_base_values.specs.declared.values.Cell.TheVariants as cell
use Rattle.mesh_base_values.specs.declared.values.ColType.{ColType}
use Rattle.mesh_base_values.specs.declared.values.ColType.TheVariants as type
use Rattle.mesh_base_values.specs.declared.values.Column.{Column}
use Rattle.mesh_base.specs.declared.expressions.AggKind.{AggKind}
use Rattle.mesh_base.specs.declared.expressions.AggKind.TheVariants as agg
use Rattle.mesh_base.specs.declared.expressions.Expr.{Expr}
use Rattle.mesh_base.specs.declared.expressions.Expr as expr
use Rattle.mesh_base.specs.declared.expressions.Func.{Func}
use Rattle.mesh_base.specs.declared.expressions.Func.TheVariants as func
use Rattle.mesh_base.specs.declared.expressions.Op.{Op}
use Rattle.mesh_base.specs.declared.expressions.Op.TheVariants as op
use Rattle.mesh_base.specs.declared.expressions.When.{When}
use Rattle.mesh_query_grammar.specs.declared.surface.signs.AddSign.{AddSign}
use Rattle.mesh_query_grammar.specs.declared.surface.signs.Cmp.{Cmp}
use Rattle.mesh_query_grammar.specs.declared.surface.signs.Function.{Function}
use Rattle.mesh_query_grammar.specs.declared.surface.signs.Function.TheVariants as function
use Rattle.mesh_query_grammar.specs.declared.surface.signs.MulSign.{MulSign}
use Rattle.mesh_query_grammar.specs.declared.surface.signs.MulSign.TheVariants as factor
use Rattle.mesh_query_tokens.specs.Gives.{◌>>=◌}
use Rattle.mesh_query_tokens.specs.Walk.{provided, along, all_of, one_more}
use Rattle.mesh_query_tokens.specs.declared.faults.ReadFault.{ReadFault}
use Rattle.mesh_base_values.specs.declared.times.Bounds.{Bounds}
use Rattle.mesh_model_csv.specs.seeds.Fits.{is_of}
use Rattle.mesh_spec_query.specs.Cells.{op_value, func_value}
use Rattle.mesh_spec_query.specs.Aggregates.{agg_value}
use Rattle.mesh_spec_query.specs.Ev.{Ev, Scope, Seen, at_row, same_expr}
use Rattle.mesh_base.proofs.Equal.{exact, is_equality}
use Rattle.mesh_spec_query.proofs.Nodes as nodes
use Rattle.mesh_resolve_types.specs.declared.typed.Typed.{Typed}
use Rattle.mesh_resolve_types.specs.Faults.{mismatch, too_large_number, largest_number}
use Rattle.mesh_resolve_types.specs.rules.Kinds.{Kind, may_be, are_alike, first_kind, are_one_kind, sum_kind, may_cast}
use Rattle.mesh_resolve_types.specs.Kinds.{kind_of, is_date, as_date, dated}
use Rattle.mesh_resolve_types.specs.Forms.{Read, leaf, expr_of, over_two, over_one, uniform, either, both, joined, multiplied, added, sum_op, sum_of_kind, negated, denied, null_test, turned, compare_op, compared, compared_as_they_are, between, within, range, one_of, among, member, are_all_alike, cast, called, unary, alternatives, call, aggregate, only, counted, summed, extreme, starred, distinct, cased, arm, test, when, else_or_null, values_of, choice, case_of}
use Rattle.mesh_resolve_scope.specs.Expressions.{number}
use Rattle.mesh_law_reading.specs.Typed.{HasKind, RowFits, ScopeFits, HasTypeOver}
use Rattle.mesh_law_reading.proofs.TypingCells as cells

-- what is provided is what there is
pub held : {A : Type 0} (b : Bool) (x y : A) (fault : ReadFault) → provided b x fault ≡ Ok y → (b ≡ true) × (x ≡ y)
held true x y fault e = (refl, cc)
held false x y fault e = absurd (cc)

pub same_ok : {A : Type 0} (x y : A) → ◌≡◌ {A = Result A ReadFault} (Ok x) (Ok y) → x ≡ y
same_ok x y e = cc

-- what comes of two steps comes of what the first one gave
pub passed : {A B : Type 0} (r : Result A ReadFault) (f : A → Result B ReadFault) (y : B) → (r >>= f) ≡ Ok y → (x : A) × (r ≡ Ok x) × (f x ≡ Ok y)
passed (Ok x) f y e = (x, refl, e)
passed (Err fault) f y e = absurd (cc)

pub none_within : (e : Expr) → ¬ Contains [] e
none_within e c = let l : c.0 < 0 = c.1 in absurd (omega arith)

-- whether some key is the expression
is_key : (keys : List Expr) (e : Expr) → Contains keys e ⊎ ¬ Contains keys e
is_key [] e = inr (none_within e)
is_key (k ∷ ks) e = go (same_expr k e) refl (is_key ks e)
  where
    go : (b : Bool) → same_expr k e ≡ b → Contains ks e ⊎ ¬ Contains ks e → Contains (k ∷ ks) e ⊎ ¬ Contains (k ∷ ks) e
    go true p r = inl (0, omega arith, exact k e p)
    go false p (inl (n, l, h)) = inl (suc n, omega arith, h)
    go false p (inr none) = inr (λ c. elsewhere c)
      where
        elsewhere : Contains (k ∷ ks) e → ⊥
        elsewhere (zero, l, h) = let same = (is_equality k e).1 h in cc
        elsewhere (suc n, l, h) = none (n, omega arith, h)

each_push : {X : Type 0} (P : X → Type 0) (xs : List X) (x : X) → Each P xs → P x → Each P (xs ++ x ∷ [])
each_push P [] x h p = (p, tt)
each_push P (y ∷ ys) x h p = (h.0, each_push P ys x h.1 p)

module _ (columns : List (List Column)) where
  -- a row that fits is a scope that fits
  pub at_row_fits : (s : Scope) (row : Seen) → RowFits columns row → ScopeFits columns (at_row s.bounds row)
  at_row_fits s row fits = record { row = fits; group = λ rows e. absurd (cc); keys = λ e c. absurd (none_within e c) }

  -- an expression has its type where its node has
  pub by_form : (k : Kind) (e : Expr) → ((s : Scope) → ScopeFits columns s → ¬ Contains s.keys e → HasKind k (Ev e s)) → HasTypeOver columns k e
  by_form k e h s f = go (is_key s.keys e)
    where
      go : Contains s.keys e ⊎ ¬ Contains s.keys e → HasKind k (Ev e s)
      go (inr none) = h s f none
      go (inl c) =
          let (row, fits, is) = f.keys e c in
          subst (λ v. HasKind k v) (sym is) (h (at_row s.bounds row) (at_row_fits s row fits) (none_within e))

  abbrev pub HasType : Typed → Type 0
  HasType t = HasTypeOver columns t.kind t.expr

  pub literal : (k : Kind) (c : Cell) → HasKind k c → HasTypeOver columns k (expr.Literal c)
  literal k c h = by_form k (expr.Literal c) (λ s f none. subst (λ v. HasKind k v) (sym (nodes.of_literal c s none)) h)

  pub number_fits : (at value : ℕ) (t : Typed) → number at value ≡ Ok t → HasType t
  number_fits at value t e = subst HasType (held (nat_le value largest_number) (leaf at (Some type.Int) (expr.Literal (cell.Int (pos value)))) t
      (too_large_number at) e).1 (literal (Some type.Int) (cell.Int (pos value)) refl)

  pub literal_fits : (at : ℕ) (k : Kind) (c : Cell) → HasKind k c → HasType (leaf at k (expr.Literal c))
  literal_fits at k c h = literal k c h

  -- operators, of whatever operands
  binary : (k : ColType) (o : Op) (l r : Expr) → ((x y : Cell) → is_of k (op_value o x y) ≡ true) → HasTypeOver columns (Some k) (expr.Binary o l r)
  binary k o l r law = by_form (Some k) (expr.Binary o l r) (λ s f none. subst (λ v. is_of k v ≡ true) (sym (nodes.of_binary o l r s none)) (law (Ev l s) (Ev r s)))

  uniform_fits : (k : ColType) (o : Op) → ((x y : Cell) → is_of k (op_value o x y) ≡ true) → (at : ℕ) (l r t : Typed) → uniform k o at l r ≡ Ok t → HasType t
  unfolding uniform
  uniform_fits k o law at l r t e = subst HasType (held (may_be k l.kind && may_be k r.kind) (over_two at k o l r) t (mismatch at) e).1 (binary k o l.expr r.expr law)

  pub either_fits : (at : ℕ) (l r t : Typed) → HasType l → HasType r → either at l r ≡ Ok t → HasType t
  either_fits at l r t p q e = uniform_fits type.Bool op.Or cells.either_is at l r t e

  pub both_fits : (at : ℕ) (l r t : Typed) → HasType l → HasType r → both at l r ≡ Ok t → HasType t
  both_fits at l r t p q e = uniform_fits type.Bool op.And cells.both_is at l r t e

  pub joined_fits : (at : ℕ) (l r t : Typed) → HasType l → HasType r → joined at l r ≡ Ok t → HasType t
  joined_fits at l r t p q e = uniform_fits type.Text op.Cat cells.joined_is at l r t e

  pub multiplied_fits : (s : MulSign) (at : ℕ) (l r t : Typed) → HasType l → HasType r → multiplied s at l r ≡ Ok t → HasType t
  multiplied_fits factor.Times at l r t p q e = uniform_fits type.Int op.Mul cells.product_is at l r t e
  multiplied_fits factor.Over at l r t p q e = uniform_fits type.Int op.Div cells.quotient_is at l r t e
  multiplied_fits factor.Modulo at l r t p q e = uniform_fits type.Int op.Rem cells.remainder_is at l r t e

  -- sums, whose operands' types decide theirs
  sum_fits : (s : AddSign) (at : ℕ) (l r t : Typed) (o : Option ColType) → sum_kind s l.kind r.kind ≡ o → HasType l → HasType r → sum_of_kind s at l r o ≡ Ok t → HasType t
  sum_fits s at l r t None is p q e = absurd (cc)
  sum_fits s at l r t (Some k) is p q e =
      subst HasType (same_ok (over_two at k (sum_op s) l r) t e)
      (by_form (Some k) (expr.Binary (sum_op s) l.expr r.expr)
      (λ c f none. subst (λ v. is_of k v ≡ true) (sym (nodes.of_binary (sum_op s) l.expr r.expr c none))
      (cells.sum_is s l.kind r.kind k (Ev l.expr c) (Ev r.expr c) is (p c f) (q c f))))

  pub added_fits : (s : AddSign) (at : ℕ) (l r t : Typed) → HasType l → HasType r → added s at l r ≡ Ok t → HasType t
  unfolding added
  added_fits s at l r t p q e = sum_fits s at l r t (sum_kind s l.kind r.kind) refl p q e

  pub negated_fits : (at : ℕ) (x t : Typed) → HasType x → negated at x ≡ Ok t → HasType t
  unfolding negated
  negated_fits at x t p e =
      subst HasType (held (may_be type.Int x.kind) (over_one at type.Int (expr.Neg x.expr) x) t (mismatch at) e).1
      (by_form (Some type.Int) (expr.Neg x.expr) (λ s f none. subst (λ v. is_of type.Int v ≡ true) (sym (nodes.of_neg x.expr s none)) (cells.negative_is (Ev x.expr s))))

  denial : (x : Expr) → HasTypeOver columns (Some type.Bool) (expr.Not x)
  denial x = by_form (Some type.Bool) (expr.Not x) (λ s f none. subst (λ v. is_of type.Bool v ≡ true) (sym (nodes.of_not x s none)) (cells.opposite_is (Ev x s)))

  pub denied_fits : (at : ℕ) (x t : Typed) → HasType x → denied at x ≡ Ok t → HasType t
  unfolding denied
  denied_fits at x t p e = subst HasType (held (may_be type.Bool x.kind) (over_one at type.Bool (expr.Not x.expr) x) t (mismatch at) e).1 (denial x.expr)

  -- what is negated is a BOOL as before
  turned_fits : (not : Bool) (t : Typed) → t.kind ≡ Some type.Bool → HasType t → HasType (turned not t)
  turned_fits false t k p = p
  turned_fits true t k p = subst (λ kind. HasTypeOver columns kind (expr.Not t.expr)) (sym k) (denial t.expr)

  pub tested_fits : (not_null : Bool) (at : ℕ) (x : Typed) → HasType x → HasType (turned not_null (null_test at x))
  tested_fits not_null at x p =
      turned_fits not_null (null_test at x) refl
      (by_form (Some type.Bool) (expr.IsNull x.expr) (λ s f none. subst (λ v. is_of type.Bool v ≡ true) (sym (nodes.of_is_null x.expr s none)) refl))

  as_they_are : (o : Op) → ((x y : Cell) → is_of type.Bool (op_value o x y) ≡ true) → (at : ℕ) (l r t : Typed) → compared_as_they_are o at l r ≡ Ok t → HasType t
  as_they_are o law at l r t e = subst HasType (held (are_alike l.kind r.kind) (over_two at type.Bool o l r) t (mismatch at) e).1 (binary type.Bool o l.expr r.expr law)

  comparison_fits : (o : Op) → ((x y : Cell) → is_of type.Bool (op_value o x y) ≡ true) → (at : ℕ) (l r t : Typed) → compared o at l r ≡ Ok t → HasType t
  unfolding compared
  comparison_fits o law at l r t e = go (is_date l) (is_date r) e
    where
      go : (a b : Bool) → cond a (compared_as_they_are o at l (as_date r)) (cond b (compared_as_they_are o at (as_date l) r) (compared_as_they_are o at l r)) ≡ Ok t → HasType t
      go true b e = as_they_are o law at l (as_date r) t e
      go false true e = as_they_are o law at (as_date l) r t e
      go false false e = as_they_are o law at l r t e

  pub compared_fits : (cmp : Cmp) (at : ℕ) (l r t : Typed) → HasType l → HasType r → compared (compare_op cmp) at l r ≡ Ok t → HasType t
  compared_fits c at l r t p q e = comparison_fits (compare_op c) (cells.comparison_is c) at l r t e

  pub between_fits : (not_within : Bool) (at : ℕ) (x low high t : Typed) → HasType x → HasType low → HasType high → between at x low high ≡ Ok t → HasType (turned not_within t)
  unfolding between
  between_fits not_within at x low high t p q r e = go (dated turn x) (dated turn low) (dated turn high) e
    where
      turn : Bool
      turn = is_date x || is_date low || is_date high

      go : (a b c : Typed) → within at a b c ≡ Ok t → HasType (turned not_within t)
      go a b c e =
          subst (λ (z : Typed). HasType (turned not_within z)) (held (are_alike a.kind b.kind && are_alike a.kind c.kind) (range at a b c) t (mismatch at) e).1
          (turned_fits not_within (range at a b c) refl
          (by_form (Some type.Bool) (expr.Between a.expr b.expr c.expr)
          (λ s f none. subst (λ v. is_of type.Bool v ≡ true) (sym (nodes.of_between a.expr b.expr c.expr s none)) (cells.between_is (Ev a.expr s) (Ev b.expr s) (Ev c.expr s)))))

  pub one_of_fits : (none_of : Bool) (at : ℕ) (x : Typed) (of : List Typed) (t : Typed) → HasType x → Each HasType of → one_of at x of ≡ Ok t → HasType (turned none_of t)
  unfolding one_of
  one_of_fits none_of at x of t p q e = go (dated turn x) (map (dated turn) of) e
    where
      turn : Bool
      turn = is_date x || list_any is_date of

      go : (a : Typed) (bs : List Typed) → among at a bs ≡ Ok t → HasType (turned none_of t)
      go a bs e =
          subst (λ (z : Typed). HasType (turned none_of z)) (held (are_all_alike a.kind bs) (member at a bs) t (mismatch at) e).1
          (turned_fits none_of (member at a bs) refl
          (by_form (Some type.Bool) (expr.OneOf a.expr (map expr_of bs))
          (λ s f none. subst (λ v. is_of type.Bool v ≡ true) (sym (nodes.of_one_of a.expr (map expr_of bs) s none))
          (cells.one_of_is (Ev a.expr s) (map (λ b. Ev b s) (map expr_of bs))))))

  pub cast_fits : (at : ℕ) (to : ColType) (x t : Typed) → HasType x → cast at to x ≡ Ok t → HasType t
  unfolding cast
  cast_fits at to x t p e =
      subst HasType (held (may_cast to x.kind) (over_one at to (expr.Cast to x.expr) x) t (mismatch at) e).1
      (by_form (Some to) (expr.Cast to x.expr) (λ s f none. subst (λ v. is_of to v ≡ true) (sym (nodes.of_cast to x.expr s none)) (cells.cast_is to (Ev x.expr s))))

  -- functions of one argument
  unary_fits : (at : ℕ) (f : Func) (from to : ColType) → ((x : Cell) → is_of to (func_value f (x ∷ [])) ≡ true) → (ts : List Typed) (t : Typed)
      → unary at f from to ts ≡ Ok t → HasType t
  unary_fits at f from to law [] t e = absurd (cc)
  unary_fits at f from to law (x ∷ y ∷ ys) t e = absurd (cc)
  unary_fits at f from to law (x ∷ []) t e =
      subst HasType (held (may_be from x.kind) (call at (Some to) f (x ∷ [])) t (mismatch at) e).1
      (by_form (Some to) (expr.Call f (x.expr ∷ [])) (λ s _ none. subst (λ v. is_of to v ≡ true) (sym (nodes.of_call f (x.expr ∷ []) s none)) (law (Ev x.expr s))))

  -- the values of several
  pub each_has : (s : Scope) → ScopeFits columns s → (ts : List Typed) → Each HasType ts → AllZip HasKind (map kind_of ts) (map (λ e. Ev e s) (map expr_of ts))
  each_has s f [] h = tt
  each_has s f (t ∷ ts) h = (h.0 s f, each_has s f ts h.1)

  alternatives_fit : (at : ℕ) (f : Func) → ((k : Kind) (cs : List Cell) → Each (HasKind k) cs → HasKind k (func_value f cs)) → (ts : List Typed) (t : Typed)
      → Each HasType ts → alternatives at f ts ≡ Ok t → HasType t
  alternatives_fit at f law ts t h e =
      let (alike, is) = held (are_one_kind (map kind_of ts)) (call at (first_kind (map kind_of ts)) f ts) t (mismatch at) e in
      subst HasType is (by_form (first_kind (map kind_of ts)) (expr.Call f (map expr_of ts))
      (λ s fits none. subst (λ v. HasKind (first_kind (map kind_of ts)) v) (sym (nodes.of_call f (map expr_of ts) s none))
      (law (first_kind (map kind_of ts)) (map (λ e. Ev e s) (map expr_of ts))
      (cells.of_one_kind (map kind_of ts) (map (λ e. Ev e s) (map expr_of ts)) alike (each_has s fits ts h)))))

  -- aggregates
  pub at_rows : (u : Bounds) (k : Kind) (e : Expr) → HasTypeOver columns k e → (rows : List Seen) → Each (RowFits columns) rows
      → Each (HasKind k) (map (λ row. Ev e (at_row u row)) rows)
  at_rows u k e h [] f = tt
  at_rows u k e h (row ∷ rows) f = (h (at_row u row) (record { row = f.0; group = λ rows e. absurd (cc); keys = λ e c. absurd (none_within e c) }), at_rows u k e h rows f.1)

  aggregate_fits : (at : ℕ) (a : AggKind) (k : Kind) (x : Typed) → HasType x → ((cs : List Cell) → Each (HasKind x.kind) cs → HasKind k (agg_value a cs))
      → HasType (aggregate at a k x)
  aggregate_fits at a k x p law = by_form k (expr.Agg a x.expr) (λ s f none. go s none s.group refl f.group)
    where
      go : (s : Scope) → ¬ Contains s.keys (expr.Agg a x.expr) → (g : Option (List Seen)) → s.group ≡ g → ForSome s.group (All (RowFits columns))
          → HasKind k (Ev (expr.Agg a x.expr) s)
      go s none None is f = subst (λ v. HasKind k v) (sym (nodes.agg_outside a x.expr s none is)) (cells.null_has k)
      go s none (Some rows) is f = subst (λ v. HasKind k v) (sym (nodes.agg_inside a x.expr s rows none is))
          (law (map (λ row. Ev x.expr (at_row s.bounds row)) rows) (at_rows s.bounds x.kind x.expr p rows (recursion_from_All (RowFits columns) rows (f rows is))))

  of_only : (at : ℕ) (ts : List Typed) (form : Typed → Read) (t : Typed) → Each HasType ts → ((x : Typed) → HasType x → form x ≡ Ok t → HasType t)
      → (only at ts >>= form) ≡ Ok t → HasType t
  of_only at [] form t h law e = absurd (cc)
  of_only at (x ∷ y ∷ ys) form t h law e = absurd (cc)
  of_only at (x ∷ []) form t h law e = law x h.0 e

  pub counted_fits : (at : ℕ) (a : AggKind) → ((cs : List Cell) → is_of type.Int (agg_value a cs) ≡ true) → (x t : Typed) → HasType x → counted at a x ≡ Ok t → HasType t
  counted_fits at a law x t p e = subst HasType (same_ok (aggregate at a (Some type.Int) x) t e) (aggregate_fits at a (Some type.Int) x p (λ cs h. law cs))

  extreme_fits : (at : ℕ) (a : AggKind) → ((k : Kind) (cs : List Cell) → Each (HasKind k) cs → HasKind k (agg_value a cs)) → (x t : Typed) → HasType x
      → extreme at a x ≡ Ok t → HasType t
  extreme_fits at a law x t p e = subst HasType (same_ok (aggregate at a x.kind x) t e) (aggregate_fits at a x.kind x p (law x.kind))

  summed_fits : (at : ℕ) (x t : Typed) → HasType x → summed at x ≡ Ok t → HasType t
  summed_fits at x t p e =
      subst HasType (held (may_be type.Int x.kind) (aggregate at agg.Sum (Some type.Int) x) t (mismatch at) e).1
      (aggregate_fits at agg.Sum (Some type.Int) x p (λ cs h. cells.total_is cs))

  pub called_fits : (at : ℕ) (f : Function) (of : List Typed) (t : Typed) → Each HasType of → called at f of ≡ Ok t → HasType t
  unfolding called
  called_fits at function.Abs ts t h e = unary_fits at func.Abs type.Int type.Int cells.absolute_is ts t e
  called_fits at function.Length ts t h e = unary_fits at func.Length type.Text type.Int cells.length_is ts t e
  called_fits at function.Upper ts t h e = unary_fits at func.Upper type.Text type.Text cells.upper_is ts t e
  called_fits at function.Lower ts t h e = unary_fits at func.Lower type.Text type.Text cells.lower_is ts t e
  called_fits at function.Nullif ts t h e = alternatives_fit at func.Nullif cells.nullif_has ts t h e
  called_fits at function.Coalesce ts t h e = alternatives_fit at func.Coalesce cells.coalesce_has ts t h e
  called_fits at function.Count ts t h e = of_only at ts (counted at agg.Count) t h (λ x p e. counted_fits at agg.Count (λ cs. refl) x t p e) e
  called_fits at function.Sum ts t h e = of_only at ts (summed at) t h (λ x p e. summed_fits at x t p e) e
  called_fits at function.Min ts t h e = of_only at ts (extreme at agg.Min) t h (λ x p e. extreme_fits at agg.Min cells.min_has x t p e) e
  called_fits at function.Max ts t h e = of_only at ts (extreme at agg.Max) t h (λ x p e. extreme_fits at agg.Max cells.max_has x t p e) e

  count_all : HasTypeOver columns (Some type.Int) expr.CountAll
  count_all = by_form (Some type.Int) expr.CountAll (λ s f none. go s none s.group refl)
    where
      go : (s : Scope) → ¬ Contains s.keys expr.CountAll → (g : Option (List Seen)) → s.group ≡ g → is_of type.Int (Ev expr.CountAll s) ≡ true
      go s none None is = subst (λ v. is_of type.Int v ≡ true) (sym (nodes.count_outside s none is)) refl
      go s none (Some rows) is = subst (λ v. is_of type.Int v ≡ true) (sym (nodes.count_inside s rows none is)) refl

  pub starred_fits : (at : ℕ) (f : Function) (t : Typed) → starred at f ≡ Ok t → HasType t
  starred_fits at function.Count t e = subst HasType (same_ok (record { at = at; kind = Some type.Int; expr = expr.CountAll; marks = at ∷ [] }) t e) count_all
  starred_fits at f t e = absurd (cc)

  pub distinct_fits : (at : ℕ) (f : Function) (x t : Typed) → HasType x → distinct at f x ≡ Ok t → HasType t
  distinct_fits at function.Count x t p e = counted_fits at agg.Countd (λ cs. refl) x t p e
  distinct_fits at f x t p e = absurd (cc)

  -- CASE: the values of the arms stay as their tests are made
  abbrev ArmFits : Typed × Typed → Type 0
  ArmFits a = HasType a.1

  arm_fits : (at : ℕ) (operand : Option Typed) (a b : Typed × Typed) → ArmFits a → arm at operand a ≡ Ok b → ArmFits b
  arm_fits at operand a b h e =
      let (t, is, made) = passed (test at operand a.0) (λ t. Ok (t, a.1)) b e in
      subst ArmFits (same_ok (t, a.1) b made) h

  arms_fit : (at : ℕ) (operand : Option Typed) (so_far arms made : List (Typed × Typed)) → Each ArmFits so_far → Each ArmFits arms
      → along one_more so_far (map (arm at operand) arms) ≡ Ok made → Each ArmFits made
  unfolding along
  arms_fit at operand so_far [] made p h e = subst (Each ArmFits) (same_ok so_far made e) p
  arms_fit at operand so_far (a ∷ arms) made p h e =
      let (next, is, rest) = passed (one_more so_far (arm at operand a)) (λ next. along one_more next (map (arm at operand) arms)) made e in
      let (b, was, stepped) = passed (arm at operand a) (λ x. Ok (so_far ++ x ∷ [])) next is in
      arms_fit at operand next arms made (subst (Each ArmFits) (same_ok (so_far ++ b ∷ []) next stepped) (each_push ArmFits so_far b p (arm_fits at operand a b h.0 was))) h.1 rest

  whens_have : (s : Scope) → ScopeFits columns s → (arms : List (Typed × Typed)) (otherwise : Typed) → Each ArmFits arms → HasType otherwise
      → AllZip HasKind (values_of arms otherwise) (map (λ (w : Cell × Cell). w.1) (map (λ (w : When). (Ev w.test s, Ev w.value s)) (map when arms)) ++ Ev otherwise.expr s ∷ [])
  whens_have s f [] otherwise h o = (o s f, tt)
  whens_have s f (a ∷ arms) otherwise h o = (h.0 s f, whens_have s f arms otherwise h.1 o)

  choice_fits : (at : ℕ) (arms : List (Typed × Typed)) (otherwise t : Typed) → Each ArmFits arms → HasType otherwise → case_of at otherwise arms ≡ Ok t → HasType t
  choice_fits at arms otherwise t h o e =
      let (alike, is) = held (are_one_kind (values_of arms otherwise)) (choice at (first_kind (values_of arms otherwise)) arms otherwise) t (mismatch at) e in
      subst HasType is (by_form (first_kind (values_of arms otherwise)) (expr.Case (map when arms) otherwise.expr)
      (λ s f none. subst (λ v. HasKind (first_kind (values_of arms otherwise)) v) (sym (nodes.of_case (map when arms) otherwise.expr s none))
      (cells.case_of_values (first_kind (values_of arms otherwise)) (map (λ (w : When). (Ev w.test s, Ev w.value s)) (map when arms)) (Ev otherwise.expr s)
      (cells.of_one_kind (values_of arms otherwise) (map (λ (w : Cell × Cell). w.1)
      (map (λ (w : When). (Ev w.test s, Ev w.value s)) (map when arms)) ++ Ev otherwise.expr s ∷ []) alike (whens_have s f arms otherwise h o)))))

  else_fits : (at : ℕ) (otherwise : Option Typed) → ForSome otherwise HasType → HasType (else_or_null at otherwise)
  else_fits at None h = literal None cell.Null refl
  else_fits at (Some t) h = h t refl

  value_of_arm : (arms : List (Typed × Typed)) → Each (λ (a : Typed × Typed). HasType a.0 × HasType a.1) arms → Each ArmFits arms
  value_of_arm [] h = tt
  value_of_arm (a ∷ arms) h = (h.0.1, value_of_arm arms h.1)

  pub cased_fits : (at : ℕ) (operand : Option Typed) (arms : List (Typed × Typed)) (otherwise : Option Typed) (t : Typed)
      → ForSome operand HasType → Each (λ (a : Typed × Typed). HasType a.0 × HasType a.1) arms → ForSome otherwise HasType → cased at operand arms otherwise ≡ Ok t → HasType t
  unfolding cased
  cased_fits at operand arms otherwise t p h o e =
      let (made, is, rest) = passed (all_of (map (arm at operand) arms)) (case_of at (else_or_null at otherwise)) t e in
      choice_fits at made (else_or_null at otherwise) t (arms_fit at operand [] arms made tt (value_of_arm arms h) is) (else_fits at otherwise o) rest
