-- An expression that the walk gives names columns that are there.
use Rattle.std.proofs.Common.{◌≡◌, ℕ, Bool, true, false, cond, List, [], ◌∷◌, ◌++◌, map, Option, Some, Ok, refl, sym, ap, ◌∙◌, append_assoc}
use Rattle.std.specs.List.{AllByRecursion, flat_map, list_all, slice_get}
use Rattle.std.proofs.lemmas.Bool.{or_right as or_true, or_left as true_or, and_from as and_both}
use Rattle.mesh_base_values.specs.Picked.{same_text}
use Rattle.mesh_base_values.specs.declared.values.Column.{Column}
use Rattle.mesh_base.specs.declared.expressions.Expr.{Expr, fold-roll-Expr}
use Rattle.mesh_base.specs.declared.expressions.Expr as expr
use Rattle.mesh_base.specs.declared.expressions.Expr.TheOpen.{Literal, Col, Macro, Binary, Neg, Not, IsNull, Between, OneOf, Cast, Call, Case, CountAll, Agg}
use Rattle.mesh_base.specs.declared.expressions.Expr.TheVariants as the_expr
use Rattle.mesh_base.specs.declared.expressions.When.{When, out-When, roll-out-When, fold-roll-When}
use Rattle.mesh_base.specs.rules.Seen.{column_at, has_column, has_in, sees, sees_here, sees_when, when_sees}
use Rattle.mesh_query_grammar.specs.declared.surface.expressions.OrExpr.{OrExpr}
use Rattle.mesh_resolve_types.specs.declared.typed.Typed.{Typed}
use Rattle.mesh_resolve_types.specs.Faults.{ambiguous, unknown_column}
use Rattle.mesh_resolve_scope.specs.declared.sight.sight.Meant.{Meant}
use Rattle.mesh_resolve_scope.specs.declared.sight.sight.Seen.{Seen}
use Rattle.mesh_resolve_scope.specs.declared.sight.sight.Sight.{Sight}
use Rattle.mesh_resolve_scope.specs.Expressions.{typed}
use Rattle.mesh_resolve_scope.specs.sight.Sight.{answers_to, column, column_typed, meant, meant_by, meant_column, meant_in, qualified, the_one}
use Rattle.mesh_law_reading.proofs.Good.{Good, given, refused, then_good}
use Rattle.mesh_law_reading.proofs.Kept.{Closed, kept}
use Rattle.mesh_law_reading.proofs.Walks.{walk_keeps}

-- each of a list made of parts, and of two lists
pub each_append : {X : Type 0} (P : X → Type 0) (xs ys : List X) → AllByRecursion P xs → AllByRecursion P ys → AllByRecursion P (xs ++ ys)
each_append P [] ys p q = q
each_append P (x ∷ xs) ys p q = (p.0, each_append P xs ys p.1 q)

pub each_flat : {X Y : Type 0} (P : X → Type 0) (R : Y → Type 0) (f : X → List Y) → ((x : X) → P x → AllByRecursion R (f x)) → (xs : List X) → AllByRecursion P xs → AllByRecursion R (flat_map f xs)
each_flat P R f h [] all = tt
each_flat P R f h (x ∷ xs) all = each_append R (f x) (flat_map f xs) (h x all.0) (each_flat P R f h xs all.1)

-- columns of a list have their own names

-- the columns of a FROM item stand at its place
abbrev pub Stands : List (List Column) → Seen → Type 0
Stands all d = slice_get all d.place ≡ Some d.columns

abbrev pub Standing : List (List Column) → List Seen → Type 0
Standing all from = AllByRecursion (Stands all) from

pub there : (all : List (List Column)) (d : Seen) (name : List ℕ) → Stands all d → has_column d.columns name ≡ true → column_at all d.place name ≡ true
there all d name at is = ap (λ o. has_in o name) at ∙ is

-- each member of a list, beside those before and behind it
pub each_member : {X : Type 0} (R : X → Type 0) (all : List X) → ((before after : List X) (x : X) → before ++ x ∷ after ≡ all → R x) → (before xs : List X) → before ++ xs ≡ all → AllByRecursion R xs
each_member R all h before [] e = tt
each_member R all h before (x ∷ xs) e = (h before xs x e, each_member R all h (before ++ x ∷ []) xs (append_assoc before (x ∷ []) xs ∙ e))

has_it : (before after : List Column) (c : Column) (name : List ℕ) → same_text c.name name ≡ true → has_column (before ++ c ∷ after) name ≡ true
has_it [] after c name e = true_or (same_text c.name name) (has_column after name) e
has_it (b ∷ before) after c name e = or_true (same_text b.name name) (has_column (before ++ c ∷ after) name) (has_it before after c name e)

pub in_columns : (cs : List Column) → AllByRecursion (λ (c : Column). (name : List ℕ) → same_text c.name name ≡ true → has_column cs name ≡ true) cs
in_columns cs =
    each_member (λ c. (name : List ℕ) → same_text c.name name ≡ true → has_column cs name ≡ true) cs (λ before after c e name is. ap (λ (l : List Column). has_column l name) (sym e) ∙ has_it before after c name is) [] cs refl

module _ (all : List (List Column)) where
  abbrev P : Expr → Type 0
  P e = sees all e ≡ true

  sees_of_when : (w : When) → P w.test → P w.value → sees_when all w ≡ true
  sees_of_when w t v = ap (sees_when all) (sym (roll-out-When w)) ∙ fold-roll-When Bool Bool (sees_here all) when_sees (out-When w) ∙ and_both _ _ t v

  exprs_see : (es : List Expr) → AllByRecursion P es → list_all (λ b. b) (map (sees all) es) ≡ true
  exprs_see [] ps = refl
  exprs_see (e ∷ es) ps = and_both (sees all e) (list_all (λ b. b) (map (sees all) es)) ps.0 (exprs_see es ps.1)

  whens_see : (ws : List When) → AllByRecursion (λ (w : When). P w.test × P w.value) ws → list_all (λ b. b) (map (sees_when all) ws) ≡ true
  whens_see [] ps = refl
  whens_see (w ∷ ws) ps = and_both (sees_when all w) (list_all (λ b. b) (map (sees_when all) ws)) (sees_of_when w ps.0.0 ps.0.1) (whens_see ws ps.1)

  pub sees_columns : (item : ℕ) (name : List ℕ) → column_at all item name ≡ true → P (expr.Col item name)
  sees_columns item name e = ap (sees all) (sym (the_expr.rolls-Col item name)) ∙ fold-roll-Expr Bool Bool (sees_here all) when_sees (Col item name) ∙ e

  closed : Closed P
  closed = record {
    literal = λ c. ap (sees all) (sym (the_expr.rolls-Literal c)) ∙ fold-roll-Expr Bool Bool (sees_here all) when_sees (Literal c);
    macro = λ v. ap (sees all) (sym (the_expr.rolls-Macro v)) ∙ fold-roll-Expr Bool Bool (sees_here all) when_sees (Macro v);
    binary = λ o l r p q. ap (sees all) (sym (the_expr.rolls-Binary o l r)) ∙ fold-roll-Expr Bool Bool (sees_here all) when_sees (Binary o l r) ∙ and_both (sees all l) (sees all r) p q;
    neg = λ e p. ap (sees all) (sym (the_expr.rolls-Neg e)) ∙ fold-roll-Expr Bool Bool (sees_here all) when_sees (Neg e) ∙ p;
    not = λ e p. ap (sees all) (sym (the_expr.rolls-Not e)) ∙ fold-roll-Expr Bool Bool (sees_here all) when_sees (Not e) ∙ p;
    is_null = λ e p. ap (sees all) (sym (the_expr.rolls-IsNull e)) ∙ fold-roll-Expr Bool Bool (sees_here all) when_sees (IsNull e) ∙ p;
    between = λ e low high p q r. ap (sees all) (sym (the_expr.rolls-Between e low high)) ∙ fold-roll-Expr Bool Bool (sees_here all) when_sees (Between e low high) ∙ and_both _ _ (and_both (sees all e) (sees all low) p q) r;
    one_of = λ e of p ps. ap (sees all) (sym (the_expr.rolls-OneOf e of)) ∙ fold-roll-Expr Bool Bool (sees_here all) when_sees (OneOf e of) ∙ and_both (sees all e) _ p (exprs_see of ps);
    cast = λ to e p. ap (sees all) (sym (the_expr.rolls-Cast to e)) ∙ fold-roll-Expr Bool Bool (sees_here all) when_sees (Cast to e) ∙ p;
    call = λ f of ps. ap (sees all) (sym (the_expr.rolls-Call f of)) ∙ fold-roll-Expr Bool Bool (sees_here all) when_sees (Call f of) ∙ exprs_see of ps;
    choice = λ ws e ps p. ap (sees all) (sym (the_expr.rolls-Case ws e)) ∙ fold-roll-Expr Bool Bool (sees_here all) when_sees (Case ws e) ∙ and_both _ (sees all e) (whens_see ws ps) p;
    count_all = ap (sees all) (sym the_expr.rolls-CountAll) ∙ fold-roll-Expr Bool Bool (sees_here all) when_sees CountAll;
    agg = λ kind e p. ap (sees all) (sym (the_expr.rolls-Agg kind e)) ∙ fold-roll-Expr Bool Bool (sees_here all) when_sees (Agg kind e) ∙ p;
  }

  -- what a name may mean is there
  abbrev IsThere : List ℕ → Meant → Type 0
  IsThere name m = column_at all m.item name ≡ true

  of_column : (name : List ℕ) (d : Seen) → Stands all d → (c : Column) → ((n : List ℕ) → same_text c.name n ≡ true → has_column d.columns n ≡ true) → AllByRecursion (IsThere name) (meant_column name d c)
  of_column name d at c is = by_name (same_text c.name name) refl
    where
      by_name : (b : Bool) → same_text c.name name ≡ b → AllByRecursion (IsThere name) (cond b ((record { item = d.place; kind = c.kind }) ∷ []) [])
      by_name true e = (there all d name at (is name e), tt)
      by_name false e = tt

  of_one : (item : Option (List ℕ)) (name : List ℕ) (d : Seen) → Stands all d → AllByRecursion (IsThere name) (meant_by item name d)
  of_one item name d at = by_answer (answers_to item d)
    where
      by_answer : (b : Bool) → AllByRecursion (IsThere name) (cond b (meant_in name d) [])
      by_answer true = each_flat _ (IsThere name) (meant_column name d) (λ c is. of_column name d at c is) d.columns (in_columns d.columns)
      by_answer false = tt

  chosen : (at : ℕ) (name : List ℕ) (ms : List Meant) → AllByRecursion (IsThere name) ms → Good (IsThere name) (the_one at name ms)
  chosen at name [] ps = refused (IsThere name) (unknown_column at name)
  chosen at name (m ∷ []) ps = given (IsThere name) m ps.0
  chosen at name (m ∷ n ∷ ms) ps = refused (IsThere name) (ambiguous at name)

  module _ (sight : Sight) (standing : Standing all sight.from) where
    column_seen : (at : ℕ) (item : Option (List ℕ)) (name : List ℕ) → Good (λ (t : Typed). P t.expr) (column sight at item name)
    unfolding column
    column_seen at item name =
        then_good (λ u. Unit {0}) (λ t. P t.expr) (qualified at item sight.from) _ (λ u e. tt)
        (λ u known. then_good (IsThere name) (λ t. P t.expr) (the_one at name (meant item name sight.from)) (λ m. Ok (column_typed at name m.item m.kind))
        (chosen at name (meant item name sight.from) (each_flat (Stands all) (IsThere name) (meant_by item name) (λ d at. of_one item name d at) sight.from standing))
        (λ m is. given (λ t. P t.expr) (column_typed at name m.item m.kind) (sees_columns m.item name is)))

    -- an expression names columns of the FROM items in sight
    pub typed_seen : (e : OrExpr) (t : Typed) → typed sight e ≡ Ok t → sees all t.expr ≡ true
    typed_seen = walk_keeps sight (λ t. P t.expr) (kept P closed sight column_seen)
