-- A property of expressions that every constructor keeps is one that every form keeps.
use Rattle.std.proofs.Common.{ℕ, ℤ, Bool, true, false, cond, ◌&&◌, ◌||◌, List, [], ◌∷◌, map, Option, Some, None, Ok, pos, nat_le, refl}
use Rattle.std.specs.List.{AllByRecursion, list_any}
use Rattle.std.specs.Option.{ForSome}
use Rattle.mesh_base_values.specs.declared.values.Cell.{Cell}
use Rattle.mesh_base_values.specs.declared.values.Cell.TheVariants as cell
use Rattle.mesh_base_values.specs.declared.values.ColType.{ColType}
use Rattle.mesh_base_values.specs.declared.values.ColType.TheVariants.{Int, Text, Bool as Truth}
use Rattle.mesh_base.specs.declared.expressions.AggKind.{AggKind}
use Rattle.mesh_base.specs.declared.expressions.AggKind.TheVariants as agg
use Rattle.mesh_base.specs.declared.expressions.Expr.{Expr, out-Expr}
use Rattle.mesh_base.specs.declared.expressions.Expr as expr
use Rattle.mesh_base.specs.declared.expressions.Expr.TheOpen.{Expr-F, Literal, Col, Macro, Binary, Neg, Not, IsNull, Between, OneOf, Cast, Call, Case, CountAll, Agg}
use Rattle.mesh_base.specs.declared.expressions.Func.{Func}
use Rattle.mesh_base.specs.declared.expressions.Func.TheVariants as func
use Rattle.mesh_base.specs.declared.expressions.Op.{Op}
use Rattle.mesh_base.specs.declared.expressions.Op.TheVariants as op
use Rattle.mesh_base.specs.declared.expressions.Var.{Var}
use Rattle.mesh_base.specs.declared.expressions.Var.TheVariants.{StartDate, EndDate, StartDs, EndDs, StartEpoch, EndEpoch}
use Rattle.mesh_base.specs.declared.expressions.When.{When}
use Rattle.mesh_query_grammar.specs.declared.surface.signs.AddSign.{AddSign}
use Rattle.mesh_query_grammar.specs.declared.surface.signs.Function.{Function}
use Rattle.mesh_query_grammar.specs.declared.surface.signs.Function.TheVariants as function
use Rattle.mesh_query_tokens.specs.Walk.{all_of}
use Rattle.mesh_resolve_types.specs.declared.typed.Typed.{Typed}
use Rattle.mesh_resolve_types.specs.Faults.{mismatch, unwritten, too_large_number, largest_number, bad_macro}
use Rattle.mesh_resolve_types.specs.rules.Kinds.{Kind, are_alike, are_one_kind, first_kind, may_be, may_cast, sum_kind}
use Rattle.mesh_resolve_types.specs.Kinds.{as_date, dated, day_text_as_date, is_date, kind_of, node_as_date}
use Rattle.mesh_resolve_types.specs.Forms.{Read, compare_op, factor_op, null_test, added, aggregate, alternatives, among, are_all_alike, arm, between, call, called, case_of, cased, cast, choice, compared, compared_as_they_are, denied, distinct, else_or_null, expr_of, leaf, member, negated, one_of, only, over_one, over_two, range, starred, sum_of_kind, sum_op, summed, test, turned, unary, uniform, values_of, when, within}
use Rattle.mesh_resolve_scope.specs.declared.sight.sight.Sight.{Sight}
use Rattle.mesh_resolve_scope.specs.Expressions.{number}
use Rattle.mesh_resolve_scope.specs.sight.Sight.{column, macro_kind, macro_named, macro_or_fault, macro_typed}
use Rattle.mesh_law_reading.proofs.Good.{Good, given, refused, then_good, all_good, provided_good}
use Rattle.mesh_law_reading.proofs.Keeps.{Keeps}

-- every constructor but that of a column gives what has the property, where its parts have it
pub record Closed (P : Expr → Type 0) : Type 0 where
  pub literal : (c : Cell) → P (expr.Literal c)
  pub macro : (var : Var) → P (expr.Macro var)
  pub binary : (o : Op) (l r : Expr) → P l → P r → P (expr.Binary o l r)
  pub neg : (e : Expr) → P e → P (expr.Neg e)
  pub not : (e : Expr) → P e → P (expr.Not e)
  pub is_null : (e : Expr) → P e → P (expr.IsNull e)
  pub between : (e low high : Expr) → P e → P low → P high → P (expr.Between e low high)
  pub one_of : (e : Expr) (of : List Expr) → P e → AllByRecursion P of → P (expr.OneOf e of)
  pub cast : (to : ColType) (e : Expr) → P e → P (expr.Cast to e)
  pub call : (f : Func) (of : List Expr) → AllByRecursion P of → P (expr.Call f of)
  pub choice : (whens : List When) (e : Expr) → AllByRecursion (λ (w : When). P w.test × P w.value) whens → P e → P (expr.Case whens e)
  pub count_all : P expr.CountAll
  pub agg : (kind : AggKind) (e : Expr) → P e → P (expr.Agg kind e)

module _ (P : Expr → Type 0) (closed : Closed P) where
  abbrev Q : Typed → Type 0
  Q t = P t.expr

  abbrev Both : Typed × Typed → Type 0
  Both a = Q a.0 × Q a.1

  either_way : (b : Bool) (x y : Read) → Good Q x → Good Q y → Good Q (cond b x y)
  either_way true x y g h = g
  either_way false x y g h = h

  exprs : (ts : List Typed) → AllByRecursion Q ts → AllByRecursion P (map expr_of ts)
  exprs [] all = tt
  exprs (t ∷ ts) all = (all.0, exprs ts all.1)

  -- a text literal as a date
  as_day : (t : Typed) (day : Option ℤ) → Q t → Q (day_text_as_date t day)
  as_day t None q = q
  as_day t (Some day) q = closed.literal (cell.Date day)

  literal_as_date : (t : Typed) (c : Cell) → Q t → Q (node_as_date t (Literal c))
  literal_as_date t cell.Null q = q
  literal_as_date t (cell.Int n) q = q
  literal_as_date t (cell.Text text) q = as_day t _ q
  literal_as_date t (cell.Date day) q = q
  literal_as_date t (cell.Bool b) q = q

  macro_as_date : (t : Typed) (var : Var) → Q t → Q (node_as_date t (Macro var))
  macro_as_date t StartDate q = q
  macro_as_date t EndDate q = q
  macro_as_date t StartDs q = closed.macro StartDate
  macro_as_date t EndDs q = closed.macro EndDate
  macro_as_date t StartEpoch q = q
  macro_as_date t EndEpoch q = q

  node_dated : (t : Typed) (n : Expr-F Expr When) → Q t → Q (node_as_date t n)
  node_dated t (Literal c) q = literal_as_date t c q
  node_dated t (Col item name) q = q
  node_dated t (Macro var) q = macro_as_date t var q
  node_dated t (Binary o l r) q = q
  node_dated t (Neg e) q = q
  node_dated t (Not e) q = q
  node_dated t (IsNull e) q = q
  node_dated t (Between e low high) q = q
  node_dated t (OneOf e of) q = q
  node_dated t (Cast to e) q = q
  node_dated t (Call f of) q = q
  node_dated t (Case whens e) q = q
  node_dated t CountAll q = q
  node_dated t (Agg kind e) q = q

  as_date_kept : (t : Typed) → Q t → Q (as_date t)
  as_date_kept t q = node_dated t (out-Expr t.expr) q

  dated_kept : (turn : Bool) (t : Typed) → Q t → Q (dated turn t)
  dated_kept true t q = as_date_kept t q
  dated_kept false t q = q

  all_dated : (turn : Bool) (ts : List Typed) → AllByRecursion Q ts → AllByRecursion Q (map (dated turn) ts)
  all_dated turn [] all = tt
  all_dated turn (t ∷ ts) all = (dated_kept turn t all.0, all_dated turn ts all.1)

  turned_kept : (b : Bool) (t : Typed) → Q t → Q (turned b t)
  turned_kept true t q = closed.not t.expr q
  turned_kept false t q = q

  -- the forms
  uniform_kept : (kind : ColType) (o : Op) (at : ℕ) (l r : Typed) → Q l → Q r → Good Q (uniform kind o at l r)
  unfolding uniform
  uniform_kept kind o at l r p q = provided_good Q (may_be kind l.kind && may_be kind r.kind) (over_two at kind o l r) (mismatch at) (λ fits. closed.binary o l.expr r.expr p q)

  sum_kept : (s : AddSign) (at : ℕ) (l r : Typed) (kind : Option ColType) → Q l → Q r → Good Q (sum_of_kind s at l r kind)
  sum_kept s at l r None p q = refused Q (mismatch at)
  sum_kept s at l r (Some kind) p q = given Q (over_two at kind (sum_op s) l r) (closed.binary (sum_op s) l.expr r.expr p q)

  added_kept : (s : AddSign) (at : ℕ) (l r : Typed) → Q l → Q r → Good Q (added s at l r)
  unfolding added
  added_kept s at l r p q = sum_kept s at l r (sum_kind s l.kind r.kind) p q

  negated_kept : (at : ℕ) (x : Typed) → Q x → Good Q (negated at x)
  unfolding negated
  negated_kept at x q = provided_good Q (may_be Int x.kind) (over_one at Int (expr.Neg x.expr) x) (mismatch at) (λ fits. closed.neg x.expr q)

  denied_kept : (at : ℕ) (x : Typed) → Q x → Good Q (denied at x)
  unfolding denied
  denied_kept at x q = provided_good Q (may_be Truth x.kind) (over_one at Truth (expr.Not x.expr) x) (mismatch at) (λ fits. closed.not x.expr q)

  sides_kept : (o : Op) (at : ℕ) (l r : Typed) → Q l → Q r → Good Q (compared_as_they_are o at l r)
  sides_kept o at l r p q = provided_good Q (are_alike l.kind r.kind) (over_two at Truth o l r) (mismatch at) (λ fits. closed.binary o l.expr r.expr p q)

  compared_kept : (o : Op) (at : ℕ) (l r : Typed) → Q l → Q r → Good Q (compared o at l r)
  unfolding compared
  compared_kept o at l r p q =
      either_way (is_date l) _ _ (sides_kept o at l (as_date r) p (as_date_kept r q)) (either_way (is_date r) _ _ (sides_kept o at (as_date l) r (as_date_kept l p) q) (sides_kept o at l r p q))

  within_kept : (at : ℕ) (x low high : Typed) → Q x → Q low → Q high → Good Q (within at x low high)
  within_kept at x low high p q r =
      provided_good Q (are_alike x.kind low.kind && are_alike x.kind high.kind) (range at x low high) (mismatch at) (λ fits. closed.between x.expr low.expr high.expr p q r)

  between_kept : (at : ℕ) (x low high : Typed) → Q x → Q low → Q high → Good Q (between at x low high)
  unfolding between
  between_kept at x low high p q r =
      let turn : Bool = is_date x || is_date low || is_date high in
      within_kept at (dated turn x) (dated turn low) (dated turn high) (dated_kept turn x p) (dated_kept turn low q) (dated_kept turn high r)

  among_kept : (at : ℕ) (x : Typed) (of : List Typed) → Q x → AllByRecursion Q of → Good Q (among at x of)
  among_kept at x of q all = provided_good Q (are_all_alike x.kind of) (member at x of) (mismatch at) (λ fits. closed.one_of x.expr (map expr_of of) q (exprs of all))

  one_of_kept : (at : ℕ) (x : Typed) (of : List Typed) → Q x → AllByRecursion Q of → Good Q (one_of at x of)
  unfolding one_of
  one_of_kept at x of q all =
      let turn : Bool = is_date x || list_any is_date of in
      among_kept at (dated turn x) (map (dated turn) of) (dated_kept turn x q) (all_dated turn of all)

  cast_kept : (at : ℕ) (to : ColType) (x : Typed) → Q x → Good Q (cast at to x)
  unfolding cast
  cast_kept at to x q = provided_good Q (may_cast to x.kind) (over_one at to (expr.Cast to x.expr) x) (mismatch at) (λ fits. closed.cast to x.expr q)

  call_kept : (at : ℕ) (kind : Kind) (f : Func) (of : List Typed) → AllByRecursion Q of → Q (call at kind f of)
  call_kept at kind f of all = closed.call f (map expr_of of) (exprs of all)

  unary_kept : (at : ℕ) (f : Func) (from to : ColType) (of : List Typed) → AllByRecursion Q of → Good Q (unary at f from to of)
  unary_kept at f from to [] all = refused Q (unwritten at)
  unary_kept at f from to (x ∷ []) all = provided_good Q (may_be from x.kind) (call at (Some to) f (x ∷ [])) (mismatch at) (λ fits. call_kept at (Some to) f (x ∷ []) all)
  unary_kept at f from to (x ∷ y ∷ ys) all = refused Q (unwritten at)

  alternatives_kept : (at : ℕ) (f : Func) (of : List Typed) → AllByRecursion Q of → Good Q (alternatives at f of)
  alternatives_kept at f of all =
      provided_good Q (are_one_kind (map kind_of of)) (call at (first_kind (map kind_of of)) f of) (mismatch at) (λ fits. call_kept at (first_kind (map kind_of of)) f of all)

  only_kept : (at : ℕ) (of : List Typed) → AllByRecursion Q of → Good Q (only at of)
  only_kept at [] all = refused Q (unwritten at)
  only_kept at (x ∷ []) all = given Q x all.0
  only_kept at (x ∷ y ∷ ys) all = refused Q (unwritten at)

  aggregate_kept : (at : ℕ) (kind : AggKind) (type : Kind) (x : Typed) → Q x → Good Q (Ok (aggregate at kind type x))
  aggregate_kept at kind type x q = given Q (aggregate at kind type x) (closed.agg kind x.expr q)

  called_kept : (at : ℕ) (f : Function) (of : List Typed) → AllByRecursion Q of → Good Q (called at f of)
  unfolding called
  called_kept at function.Abs of all = unary_kept at func.Abs Int Int of all
  called_kept at function.Length of all = unary_kept at func.Length Text Int of all
  called_kept at function.Upper of all = unary_kept at func.Upper Text Text of all
  called_kept at function.Lower of all = unary_kept at func.Lower Text Text of all
  called_kept at function.Nullif of all = alternatives_kept at func.Nullif of all
  called_kept at function.Coalesce of all = alternatives_kept at func.Coalesce of all
  called_kept at function.Count of all = then_good Q Q (only at of) _ (only_kept at of all) (λ x q. aggregate_kept at agg.Count (Some Int) x q)
  called_kept at function.Sum of all =
      then_good Q Q (only at of) (summed at) (only_kept at of all) (λ x q. provided_good Q (may_be Int x.kind) (aggregate at agg.Sum (Some Int) x) (mismatch at) (λ fits. closed.agg agg.Sum x.expr q))
  called_kept at function.Min of all = then_good Q Q (only at of) _ (only_kept at of all) (λ x q. aggregate_kept at agg.Min x.kind x q)
  called_kept at function.Max of all = then_good Q Q (only at of) _ (only_kept at of all) (λ x q. aggregate_kept at agg.Max x.kind x q)

  starred_kept : (at : ℕ) (f : Function) → Good Q (starred at f)
  starred_kept at function.Count = given Q _ closed.count_all
  starred_kept at function.Abs = refused Q (unwritten at)
  starred_kept at function.Length = refused Q (unwritten at)
  starred_kept at function.Upper = refused Q (unwritten at)
  starred_kept at function.Lower = refused Q (unwritten at)
  starred_kept at function.Nullif = refused Q (unwritten at)
  starred_kept at function.Coalesce = refused Q (unwritten at)
  starred_kept at function.Sum = refused Q (unwritten at)
  starred_kept at function.Min = refused Q (unwritten at)
  starred_kept at function.Max = refused Q (unwritten at)

  distinct_kept : (at : ℕ) (f : Function) (x : Typed) → Q x → Good Q (distinct at f x)
  distinct_kept at function.Count x q = aggregate_kept at agg.Countd (Some Int) x q
  distinct_kept at function.Abs x q = refused Q (unwritten at)
  distinct_kept at function.Length x q = refused Q (unwritten at)
  distinct_kept at function.Upper x q = refused Q (unwritten at)
  distinct_kept at function.Lower x q = refused Q (unwritten at)
  distinct_kept at function.Nullif x q = refused Q (unwritten at)
  distinct_kept at function.Coalesce x q = refused Q (unwritten at)
  distinct_kept at function.Sum x q = refused Q (unwritten at)
  distinct_kept at function.Min x q = refused Q (unwritten at)
  distinct_kept at function.Max x q = refused Q (unwritten at)

  -- the arms of a CASE
  test_kept : (at : ℕ) (operand : Option Typed) (x : Typed) → ForSome operand Q → Q x → Good Q (test at operand x)
  test_kept at None x p q = provided_good Q (may_be Truth x.kind) x (mismatch at) (λ fits. q)
  test_kept at (Some o) x p q = compared_kept op.Eq at o x (p o refl) q

  arm_kept : (at : ℕ) (operand : Option Typed) (a : Typed × Typed) → ForSome operand Q → Both a → Good Both (arm at operand a)
  arm_kept at operand a p q = then_good Q Both (test at operand a.0) (λ t. Ok (t, a.1)) (test_kept at operand a.0 p q.0) (λ t r. given Both (t, a.1) (r, q.1))

  arms_kept : (at : ℕ) (operand : Option Typed) (arms : List (Typed × Typed)) → ForSome operand Q → AllByRecursion Both arms → AllByRecursion (Good Both) (map (arm at operand) arms)
  arms_kept at operand [] p all = tt
  arms_kept at operand (a ∷ arms) p all = (arm_kept at operand a p all.0, arms_kept at operand arms p all.1)

  whens_kept : (arms : List (Typed × Typed)) → AllByRecursion Both arms → AllByRecursion (λ (w : When). P w.test × P w.value) (map when arms)
  whens_kept [] all = tt
  whens_kept (a ∷ arms) all = (all.0, whens_kept arms all.1)

  else_kept : (at : ℕ) (otherwise : Option Typed) → ForSome otherwise Q → Q (else_or_null at otherwise)
  else_kept at None p = closed.literal cell.Null
  else_kept at (Some t) p = p t refl

  cased_kept : (at : ℕ) (operand : Option Typed) (arms : List (Typed × Typed)) (otherwise : Option Typed) → ForSome operand Q → AllByRecursion Both arms → ForSome otherwise Q
      → Good Q (cased at operand arms otherwise)
  unfolding cased
  cased_kept at operand arms otherwise p all q =
      let last : Typed = else_or_null at otherwise in
      then_good (AllByRecursion Both) Q (all_of (map (arm at operand) arms)) (case_of at last) (all_good Both (map (arm at operand) arms) (arms_kept at operand arms p all))
      (λ done r. provided_good Q (are_one_kind (values_of done last)) (choice at (first_kind (values_of done last)) done last) (mismatch at)
      (λ fits. closed.choice (map when done) last.expr (whens_kept done r) (else_kept at otherwise q)))

  -- macros
  macro_kept : (at : ℕ) (word : List ℕ) (var : Option Var) → Good Q (macro_or_fault at word var)
  macro_kept at word None = refused Q (bad_macro at word)
  macro_kept at word (Some var) = given Q (leaf at (Some (macro_kind var)) (expr.Macro var)) (closed.macro var)

  macro_typed_kept : (sight : Sight) (at : ℕ) (word : List ℕ) → Good Q (macro_typed sight at word)
  unfolding macro_typed
  macro_typed_kept sight at word = macro_kept at word (cond sight.macros (macro_named word) None)

  number_kept : (at value : ℕ) → Good Q (number at value)
  number_kept at value = provided_good Q (nat_le value largest_number) (leaf at (Some Int) (expr.Literal (cell.Int (pos value)))) (too_large_number at) (λ fits. closed.literal (cell.Int (pos value)))

  -- where the columns in sight have it too
  pub kept : (sight : Sight) → ((at : ℕ) (item : Option (List ℕ)) (name : List ℕ) → Good Q (column sight at item name)) → Keeps sight Q
  kept sight columns = record {
    number = number_kept;
    text = λ at text. closed.literal (cell.Text text);
    date = λ at day. closed.literal (cell.Date day);
    truth = λ at value. closed.literal (cell.Bool value);
    null = λ at. closed.literal cell.Null;
    macro = macro_typed_kept sight;
    column = columns;
    either = λ at l r t p q e. uniform_kept Truth op.Or at l r p q t e;
    both = λ at l r t p q e. uniform_kept Truth op.And at l r p q t e;
    joined = λ at l r t p q e. uniform_kept Text op.Cat at l r p q t e;
    multiplied = λ s at l r t p q e. uniform_kept Int (factor_op s) at l r p q t e;
    added = λ s at l r t p q e. added_kept s at l r p q t e;
    negated = λ at x t q e. negated_kept at x q t e;
    denied = λ at x t q e. denied_kept at x q t e;
    tested = λ not_null at x q. turned_kept not_null (null_test at x) (closed.is_null x.expr q);
    compared = λ cmp at l r t p q e. compared_kept (compare_op cmp) at l r p q t e;
    between = λ not_within at x low high t p q r e. turned_kept not_within t (between_kept at x low high p q r t e);
    one_of = λ none_of at x of t q all e. turned_kept none_of t (one_of_kept at x of q all t e);
    cast = λ at to x t q e. cast_kept at to x q t e;
    called = λ at f of t all e. called_kept at f of all t e;
    starred = λ at f t e. starred_kept at f t e;
    distinct = λ at f x t q e. distinct_kept at f x q t e;
    cased = λ at operand arms otherwise t p all q e. cased_kept at operand arms otherwise p all q t e;
  }
