-- When the operands of an expression fit, by its form.
use Rattle.std.proofs.Common.{◌≡◌, ℕ, Bool, true, false, cond, ◌&&◌, ◌||◌, Option, Some, None, List, [], ◌∷◌, ◌++◌, map, refl, ap, sym, ◌∙◌}
use Rattle.std.specs.List.{AllByRecursion as Each, list_all, list_any}
use Rattle.std.proofs.lemmas.Bool.{and_parts, and_from, or_left as or_first, or_right as or_second}
use Rattle.mesh_base_values.specs.declared.values.Cell.{Cell}
use Rattle.mesh_base_values.specs.declared.values.Cell.TheVariants as cell
use Rattle.mesh_base_values.specs.declared.values.ColType.{ColType}
use Rattle.mesh_base_values.specs.declared.values.ColType.TheVariants as type
use Rattle.mesh_base.specs.declared.expressions.AggKind.{AggKind}
use Rattle.mesh_base.specs.declared.expressions.Expr.{Expr, roll-Expr, para-roll-Expr, map-Expr}
use Rattle.mesh_base.specs.declared.expressions.Expr as expr
use Rattle.mesh_base.specs.declared.expressions.Expr.TheOpen.{Expr-F, Literal, Col, Macro, Binary, Neg, Not, IsNull, Between, OneOf, Cast, Call, Case, CountAll, Agg}
use Rattle.mesh_base.specs.declared.expressions.Func.{Func}
use Rattle.mesh_base.specs.declared.expressions.Op.{Op}
use Rattle.mesh_base.specs.declared.expressions.Op.TheVariants as op
use Rattle.mesh_base.specs.declared.expressions.Var.{Var}
use Rattle.mesh_base.specs.declared.expressions.When.{When, para-roll-When, out-When, roll-out-When}
use Rattle.mesh_model_csv.specs.seeds.Fits.{is_of}
use Rattle.mesh_spec_query.specs.Ev.{Ev, Scope}
use Rattle.mesh_query_grammar.specs.declared.surface.signs.AddSign.{AddSign}
use Rattle.mesh_query_grammar.specs.declared.surface.signs.AddSign.TheVariants as sign
use Rattle.mesh_query_grammar.specs.declared.surface.signs.Cmp.{Cmp}
use Rattle.mesh_query_grammar.specs.declared.surface.signs.Cmp.TheVariants as cmp
use Rattle.mesh_resolve_types.specs.rules.Kinds.{sum_kind, casts, may_cast, Kind, are_alike, may_be}
use Rattle.mesh_resolve_types.specs.Forms.{sum_op, compare_op}
use Rattle.mesh_law_reading.specs.Operands.{Part, ArmPart, are_both_of, are_of_one_type, agg_fits, cast_takes, func_takes, node_fits, op_takes, operands_fit, when_fits, when_operands_fit}
use Rattle.mesh_law_reading.specs.Typed.{HasKind}
use Rattle.mesh_law_reading.proofs.TypingCells.{taken}

rolled : (d : Expr-F Expr When) → operands_fit (roll-Expr d) ≡ node_fits (map-Expr Expr When Part ArmPart (λ e. (e, operands_fit e)) (λ w. (w, when_operands_fit w)) d)
rolled d = para-roll-Expr (Scope → Bool) (Scope → Bool) node_fits when_fits d

pub of_literal : (c : Cell) (s : Scope) → operands_fit (expr.Literal c) s ≡ true
unfolding roll-Expr denote.Hole.Carrier.roll
of_literal c s = ap (λ v. v s) (rolled (Literal c))

pub of_column : (item : ℕ) (name : List ℕ) (s : Scope) → operands_fit (expr.Col item name) s ≡ true
unfolding roll-Expr denote.Hole.Carrier.roll
of_column item name s = ap (λ v. v s) (rolled (Col item name))

pub of_macro : (var : Var) (s : Scope) → operands_fit (expr.Macro var) s ≡ true
unfolding roll-Expr denote.Hole.Carrier.roll
of_macro var s = ap (λ v. v s) (rolled (Macro var))

pub of_binary : (o : Op) (l r : Expr) (s : Scope) → op_takes o (Ev l s) (Ev r s) ≡ true → operands_fit l s ≡ true → operands_fit r s ≡ true
    → operands_fit (expr.Binary o l r) s ≡ true
unfolding roll-Expr denote.Hole.Carrier.roll
of_binary o l r s h p q =
    ap (λ v. v s) (rolled (Binary o l r)) ∙ and_from (op_takes o (Ev l s) (Ev r s)) (operands_fit l s && operands_fit r s) h (and_from (operands_fit l s) (operands_fit r s) p q)

pub of_neg : (x : Expr) (s : Scope) → is_of type.Int (Ev x s) ≡ true → operands_fit x s ≡ true → operands_fit (expr.Neg x) s ≡ true
unfolding roll-Expr denote.Hole.Carrier.roll
of_neg x s h p = ap (λ v. v s) (rolled (Neg x)) ∙ and_from (is_of type.Int (Ev x s)) (operands_fit x s) h p

pub of_not : (x : Expr) (s : Scope) → is_of type.Bool (Ev x s) ≡ true → operands_fit x s ≡ true → operands_fit (expr.Not x) s ≡ true
unfolding roll-Expr denote.Hole.Carrier.roll
of_not x s h p = ap (λ v. v s) (rolled (Not x)) ∙ and_from (is_of type.Bool (Ev x s)) (operands_fit x s) h p

pub of_is_null : (x : Expr) (s : Scope) → operands_fit x s ≡ true → operands_fit (expr.IsNull x) s ≡ true
unfolding roll-Expr denote.Hole.Carrier.roll
of_is_null x s p = ap (λ v. v s) (rolled (IsNull x)) ∙ p

pub of_between : (x low high : Expr) (s : Scope) → are_of_one_type (Ev x s ∷ Ev low s ∷ []) ≡ true → are_of_one_type (Ev x s ∷ Ev high s ∷ []) ≡ true
    → operands_fit x s ≡ true → operands_fit low s ≡ true → operands_fit high s ≡ true → operands_fit (expr.Between x low high) s ≡ true
unfolding roll-Expr denote.Hole.Carrier.roll
of_between x low high s h k p q r =
    ap (λ v. v s) (rolled (Between x low high))
    ∙ and_from (are_of_one_type (Ev x s ∷ Ev low s ∷ []) && are_of_one_type (Ev x s ∷ Ev high s ∷ [])) (operands_fit x s && (operands_fit low s && operands_fit high s))
    (and_from (are_of_one_type (Ev x s ∷ Ev low s ∷ [])) (are_of_one_type (Ev x s ∷ Ev high s ∷ [])) h k)
    (and_from (operands_fit x s) (operands_fit low s && operands_fit high s) p (and_from (operands_fit low s) (operands_fit high s) q r))

-- the same of each part
parts : (test : Expr → Bool) (es : List Expr) → list_all (λ (p : Part). test p.0) (map (λ e. (e, operands_fit e)) es) ≡ list_all test es
parts test [] = refl
parts test (e ∷ es) = ap (λ b. test e && b) (parts test es)

answers : (s : Scope) (es : List Expr) → list_all (λ (p : Part). p.1 s) (map (λ e. (e, operands_fit e)) es) ≡ list_all (λ e. operands_fit e s) es
answers s [] = refl
answers s (e ∷ es) = ap (λ b. operands_fit e s && b) (answers s es)

values : (s : Scope) (es : List Expr) → map (λ (p : Part). Ev p.0 s) (map (λ e. (e, operands_fit e)) es) ≡ map (λ e. Ev e s) es
values s [] = refl
values s (e ∷ es) = ap (λ l. Ev e s ∷ l) (values s es)

pub of_one_of : (x : Expr) (es : List Expr) (s : Scope) → list_all (λ e. are_of_one_type (Ev x s ∷ Ev e s ∷ [])) es ≡ true → operands_fit x s ≡ true
    → list_all (λ e. operands_fit e s) es ≡ true → operands_fit (expr.OneOf x es) s ≡ true
unfolding roll-Expr denote.Hole.Carrier.roll
of_one_of x es s h p q =
    ap (λ v. v s) (rolled (OneOf x es))
    ∙ and_from (list_all (λ (p : Part). are_of_one_type (Ev x s ∷ Ev p.0 s ∷ [])) (map (λ e. (e, operands_fit e)) es))
    (operands_fit x s && list_all (λ (p : Part). p.1 s) (map (λ e. (e, operands_fit e)) es))
    (parts (λ e. are_of_one_type (Ev x s ∷ Ev e s ∷ [])) es ∙ h)
    (and_from (operands_fit x s) (list_all (λ (p : Part). p.1 s) (map (λ e. (e, operands_fit e)) es)) p (answers s es ∙ q))

pub of_cast : (to : ColType) (x : Expr) (s : Scope) → cast_takes to (Ev x s) ≡ true → operands_fit x s ≡ true → operands_fit (expr.Cast to x) s ≡ true
unfolding roll-Expr denote.Hole.Carrier.roll
of_cast to x s h p = ap (λ v. v s) (rolled (Cast to x)) ∙ and_from (cast_takes to (Ev x s)) (operands_fit x s) h p

pub of_call : (f : Func) (es : List Expr) (s : Scope) → func_takes f (map (λ e. Ev e s) es) ≡ true → list_all (λ e. operands_fit e s) es ≡ true
    → operands_fit (expr.Call f es) s ≡ true
unfolding roll-Expr denote.Hole.Carrier.roll
of_call f es s h p =
    ap (λ v. v s) (rolled (Call f es))
    ∙ and_from (func_takes f (map (λ (p : Part). Ev p.0 s) (map (λ e. (e, operands_fit e)) es))) (list_all (λ (p : Part). p.1 s) (map (λ e. (e, operands_fit e)) es))
    (ap (func_takes f) (values s es) ∙ h) (answers s es ∙ p)

pub of_count : (s : Scope) → operands_fit expr.CountAll s ≡ true
unfolding roll-Expr denote.Hole.Carrier.roll
of_count s = ap (λ v. v s) (rolled CountAll)

pub of_agg : (a : AggKind) (x : Expr) (s : Scope) → agg_fits a (x, operands_fit x) s.bounds s.group ≡ true → operands_fit (expr.Agg a x) s ≡ true
unfolding roll-Expr denote.Hole.Carrier.roll
of_agg a x s h = ap (λ v. v s) (rolled (Agg a x)) ∙ h

-- the arms of a CASE
when_answer : (w : When) (s : Scope) → when_operands_fit w s ≡ (operands_fit w.test s && operands_fit w.value s)
when_answer w s = ap (λ x. when_operands_fit x s) (sym (roll-out-When w)) ∙ ap (λ v. v s) (para-roll-When (Scope → Bool) (Scope → Bool) node_fits when_fits (out-When w))

abbrev arm_parts : List When → List ArmPart
arm_parts ws = map (λ w. (w, when_operands_fit w)) ws

tests_fit : (s : Scope) (ws : List When) → list_all (λ (w : ArmPart). is_of type.Bool (Ev w.0.test s)) (arm_parts ws) ≡ list_all (λ (w : When). is_of type.Bool (Ev w.test s)) ws
tests_fit s [] = refl
tests_fit s (w ∷ ws) = ap (λ b. is_of type.Bool (Ev w.test s) && b) (tests_fit s ws)

arm_values : (s : Scope) (last : Cell) (ws : List When) → (map (λ (w : ArmPart). Ev w.0.value s) (arm_parts ws) ++ last ∷ []) ≡ (map (λ (w : When). Ev w.value s) ws ++ last ∷ [])
arm_values s last [] = refl
arm_values s last (w ∷ ws) = ap (λ l. Ev w.value s ∷ l) (arm_values s last ws)

arm_answers : (s : Scope) (ws : List When) → list_all (λ (w : ArmPart). w.1 s) (arm_parts ws) ≡ list_all (λ (w : When). operands_fit w.test s && operands_fit w.value s) ws
arm_answers s [] = refl
arm_answers s (w ∷ ws) = λ i. when_answer w s i && arm_answers s ws i

pub of_case : (ws : List When) (otherwise : Expr) (s : Scope) → list_all (λ (w : When). is_of type.Bool (Ev w.test s)) ws ≡ true
    → are_of_one_type (map (λ (w : When). Ev w.value s) ws ++ Ev otherwise s ∷ []) ≡ true → list_all (λ (w : When). operands_fit w.test s && operands_fit w.value s) ws ≡ true
    → operands_fit otherwise s ≡ true → operands_fit (expr.Case ws otherwise) s ≡ true
unfolding roll-Expr denote.Hole.Carrier.roll
of_case ws otherwise s t v a o =
    ap (λ v. v s) (rolled (Case ws otherwise))
    ∙ and_from (list_all (λ (w : ArmPart). is_of type.Bool (Ev w.0.test s)) (arm_parts ws) && are_of_one_type
    (map (λ (w : ArmPart). Ev w.0.value s) (arm_parts ws) ++ Ev otherwise s ∷ []))
    (list_all (λ (w : ArmPart). w.1 s) (arm_parts ws) && operands_fit otherwise s)
    (and_from (list_all (λ (w : ArmPart). is_of type.Bool (Ev w.0.test s)) (arm_parts ws))
    (are_of_one_type (map (λ (w : ArmPart). Ev w.0.value s) (arm_parts ws) ++ Ev otherwise s ∷ []))
    (tests_fit s ws ∙ t) (ap are_of_one_type (arm_values s (Ev otherwise s) ws) ∙ v))
    (and_from (list_all (λ (w : ArmPart). w.1 s) (arm_parts ws)) (operands_fit otherwise s) (arm_answers s ws ∙ a) o)

-- cells of one type

any_of : List Cell → List ColType → Bool
any_of cells kinds = list_any (λ kind. list_all (is_of kind) cells) kinds

pub of_type : (k : ColType) (cells : List Cell) → list_all (is_of k) cells ≡ true → are_of_one_type cells ≡ true
unfolding any_of
of_type type.Int cells h = or_first (list_all (is_of type.Int) cells) (any_of cells (type.Text ∷ type.Date ∷ type.Bool ∷ [])) h
of_type type.Text cells h = or_second (list_all (is_of type.Int) cells) (any_of cells (type.Text ∷ type.Date ∷ type.Bool ∷ []))
    (or_first (list_all (is_of type.Text) cells) (any_of cells (type.Date ∷ type.Bool ∷ [])) h)
of_type type.Date cells h =
    or_second (list_all (is_of type.Int) cells) (any_of cells (type.Text ∷ type.Date ∷ type.Bool ∷ []))
    (or_second (list_all (is_of type.Text) cells) (any_of cells (type.Date ∷ type.Bool ∷ [])) (or_first (list_all (is_of type.Date) cells) (any_of cells (type.Bool ∷ [])) h))
of_type type.Bool cells h =
    or_second (list_all (is_of type.Int) cells) (any_of cells (type.Text ∷ type.Date ∷ type.Bool ∷ []))
    (or_second (list_all (is_of type.Text) cells) (any_of cells (type.Date ∷ type.Bool ∷ []))
    (or_second (list_all (is_of type.Date) cells) (any_of cells (type.Bool ∷ [])) (or_first (list_all (is_of type.Bool) cells) false h)))

pub all_of_type : (k : ColType) (cells : List Cell) → Each (HasKind (Some k)) cells → list_all (is_of k) cells ≡ true
all_of_type k [] h = refl
all_of_type k (c ∷ cs) h = and_from (is_of k c) (list_all (is_of k) cs) h.0 (all_of_type k cs h.1)

all_null : (cells : List Cell) → Each (HasKind None) cells → list_all (is_of type.Int) cells ≡ true
all_null [] h = refl
all_null (c ∷ cs) h = and_from (is_of type.Int c) (list_all (is_of type.Int) cs) (ap (is_of type.Int) h.0) (all_null cs h.1)

pub of_kind : (k : Kind) (cells : List Cell) → Each (HasKind k) cells → are_of_one_type cells ≡ true
of_kind None cells h = of_type type.Int cells (all_null cells h)
of_kind (Some k) cells h = of_type k cells (all_of_type k cells h)

beside_null : (y : Cell) → are_of_one_type (cell.Null ∷ y ∷ []) ≡ true
beside_null cell.Null = refl
beside_null (cell.Int n) = refl
beside_null (cell.Text t) = refl
beside_null (cell.Date d) = refl
beside_null (cell.Bool b) = refl

pub of_kinds : (a b : Kind) (x y : Cell) → are_alike a b ≡ true → HasKind a x → HasKind b y → are_of_one_type (x ∷ y ∷ []) ≡ true
of_kinds None b x y m p q = ap (λ c. are_of_one_type (c ∷ y ∷ [])) p ∙ beside_null y
of_kinds (Some k) b x y m p q = of_type k (x ∷ y ∷ []) (and_from (is_of k x) (is_of k y && true) p (and_from (is_of k y) true (taken k b y m q) refl))

-- sums
kept_sum : (b : Bool) (k kind : ColType) → ◌≡◌ {A = Option ColType} (cond b (Some k) None) (Some kind) → b ≡ true
kept_sum true k kind e = refl
kept_sum false k kind e = absurd (cc)

both_of_type : (k : ColType) (x y : Cell) → is_of k x ≡ true → is_of k y ≡ true → are_both_of k x y ≡ true
both_of_type k x y p q = and_from (is_of k x) (is_of k y) p q

numbers_taken : (a b : Kind) (kind : ColType) (x y : Cell) → ◌≡◌ {A = Option ColType} (cond (may_be type.Int a && may_be type.Int b) (Some type.Int) None) (Some kind)
    → HasKind a x → HasKind b y
    → are_both_of type.Int x y ≡ true
numbers_taken a b kind x y e p q =
    let m = and_parts (may_be type.Int a) (may_be type.Int b) (kept_sum (may_be type.Int a && may_be type.Int b) type.Int kind e) in
    both_of_type type.Int x y (taken type.Int a x m.0 p) (taken type.Int b y m.1 q)

days_taken : (b : Kind) (kind : ColType) (x y : Cell) → ◌≡◌ {A = Option ColType} (cond (may_be type.Int b) (Some type.Date) None) (Some kind) → is_of type.Date x ≡ true
    → HasKind b y
    → (is_of type.Date x && is_of type.Int y) ≡ true
days_taken b kind x y e p q = and_from (is_of type.Date x) (is_of type.Int y) p (taken type.Int b y (kept_sum (may_be type.Int b) type.Date kind e) q)

dates_taken : (a : Kind) (kind : ColType) (x y : Cell) → ◌≡◌ {A = Option ColType} (cond (may_be type.Date a) (Some type.Int) None) (Some kind) → HasKind a x
    → is_of type.Date y ≡ true
    → are_both_of type.Date x y ≡ true
dates_taken a kind x y e p q = both_of_type type.Date x y (taken type.Date a x (kept_sum (may_be type.Date a) type.Int kind e) p) q

add_first : (x y : Cell) → are_both_of type.Int x y ≡ true → op_takes op.Add x y ≡ true
add_first x y h = or_first (are_both_of type.Int x y) (is_of type.Date x && is_of type.Int y) h

add_second : (x y : Cell) → (is_of type.Date x && is_of type.Int y) ≡ true → op_takes op.Add x y ≡ true
add_second x y h = or_second (are_both_of type.Int x y) (is_of type.Date x && is_of type.Int y) h

sub_first : (x y : Cell) → are_both_of type.Int x y ≡ true → op_takes op.Sub x y ≡ true
sub_first x y h = or_first (are_both_of type.Int x y) ((is_of type.Date x && is_of type.Int y) || are_both_of type.Date x y) h

sub_second : (x y : Cell) → (is_of type.Date x && is_of type.Int y) ≡ true → op_takes op.Sub x y ≡ true
sub_second x y h = or_second (are_both_of type.Int x y) ((is_of type.Date x && is_of type.Int y) || are_both_of type.Date x y)
    (or_first (is_of type.Date x && is_of type.Int y) (are_both_of type.Date x y) h)

sub_third : (x y : Cell) → are_both_of type.Date x y ≡ true → op_takes op.Sub x y ≡ true
sub_third x y h = or_second (are_both_of type.Int x y) ((is_of type.Date x && is_of type.Int y) || are_both_of type.Date x y)
    (or_second (is_of type.Date x && is_of type.Int y) (are_both_of type.Date x y) h)

pub sum_takes : (s : AddSign) (a b : Kind) (kind : ColType) (x y : Cell) → sum_kind s a b ≡ Some kind → HasKind a x → HasKind b y → op_takes (sum_op s) x y ≡ true
sum_takes sign.Plus (Some type.Date) b kind x y e p q = add_second x y (days_taken b kind x y e p q)
sum_takes sign.Plus a b kind x y e p q = add_first x y (numbers_taken a b kind x y e p q)
sum_takes sign.Minus a (Some type.Date) kind x y e p q = sub_third x y (dates_taken a kind x y e p q)
sum_takes sign.Minus (Some type.Date) b kind x y e p q = sub_second x y (days_taken b kind x y e p q)
sum_takes sign.Minus a b kind x y e p q = sub_first x y (numbers_taken a b kind x y e p q)

-- comparisons
pub comparison_takes : (c : Cmp) (x y : Cell) → are_of_one_type (x ∷ y ∷ []) ≡ true → op_takes (compare_op c) x y ≡ true
comparison_takes cmp.Eq x y h = h
comparison_takes cmp.Ne x y h = h
comparison_takes cmp.Lt x y h = h
comparison_takes cmp.Le x y h = h
comparison_takes cmp.Gt x y h = h
comparison_takes cmp.Ge x y h = h

-- casts
no : false ≡ true → ⊥
no h = cc

cast_of : (to from : ColType) (x : Cell) → casts from to ≡ true → is_of from x ≡ true → cast_takes to x ≡ true
cast_of type.Text from x c h = refl
cast_of type.Int type.Date (cell.Date d) c h = absurd (no c)
cast_of type.Int from (cell.Date d) c h = absurd (no h)
cast_of type.Int from cell.Null c h = refl
cast_of type.Int from (cell.Int n) c h = refl
cast_of type.Int from (cell.Text t) c h = refl
cast_of type.Int from (cell.Bool b) c h = refl
cast_of type.Bool type.Date (cell.Date d) c h = absurd (no c)
cast_of type.Bool from (cell.Date d) c h = absurd (no h)
cast_of type.Bool from cell.Null c h = refl
cast_of type.Bool from (cell.Int n) c h = refl
cast_of type.Bool from (cell.Text t) c h = refl
cast_of type.Bool from (cell.Bool b) c h = refl
cast_of type.Date type.Int (cell.Int n) c h = absurd (no c)
cast_of type.Date from (cell.Int n) c h = absurd (no h)
cast_of type.Date type.Bool (cell.Bool b) c h = absurd (no c)
cast_of type.Date from (cell.Bool b) c h = absurd (no h)
cast_of type.Date from cell.Null c h = refl
cast_of type.Date from (cell.Text t) c h = refl
cast_of type.Date from (cell.Date d) c h = refl

cast_of_null : (to : ColType) → cast_takes to cell.Null ≡ true
cast_of_null type.Int = refl
cast_of_null type.Text = refl
cast_of_null type.Date = refl
cast_of_null type.Bool = refl

pub cast_taken : (to : ColType) (k : Kind) (x : Cell) → may_cast to k ≡ true → HasKind k x → cast_takes to x ≡ true
cast_taken to None x m h = ap (cast_takes to) h ∙ cast_of_null to
cast_taken to (Some from) x m h = cast_of to from x m h
