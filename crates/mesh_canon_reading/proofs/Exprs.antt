-- Expressions that were written are read again, by induction on the expression.
use Rattle.std.proofs.Common.{◌≡◌, ℕ, suc, ◌+◌, ◌-◌, ◌^◌, ◌<◌, ◌≤◌, Bool, true, ◌&&◌, List, [], ◌∷◌, ◌++◌, length, map, Option, Some, None, refl, sym, ap, subst, arith}
use Rattle.std.specs.Prelude.{codes, nat_lt}
use Rattle.std.specs.List.{list_all}
use Rattle.std.proofs.lemmas.Bool.{and_parts, ltb-true}
use Rattle.std.proofs.lemmas.List.{length-append}
use denote.Hole.Carrier.{roll}
use Rattle.mesh_base.specs.declared.expressions.Expr.{Expr, roll-Expr, map-Expr, fold-roll-Expr, ind-Expr}
use Rattle.mesh_base.specs.declared.expressions.Expr.TheOpen.{Expr-F, When-F, Literal, Col, Macro, Binary, Neg, Not, IsNull, Between, OneOf, Cast, Call, Case, CountAll, Agg}
use Rattle.mesh_base.specs.declared.expressions.When.{When, roll-When, map-When, fold-roll-When}
use Rattle.mesh_canon_text.specs.Text.{agg_word, expr_here, expr_text, func_word, list_of, op_word, option_text, spaced, type_word, when_here, when_text}
use Rattle.mesh_canon_reading.specs.Fits.{expr_fits, fits_here, option_fits, text_fits, when_fits, when_fits_here}
use Rattle.mesh_canon_words.specs.Words.{after}
use Rattle.mesh_canon_reading.specs.Reading.{any_expr_at, expr_at, list_at, option_at, when_at}
use Rattle.mesh_canon_reading.proofs.Lists.{Each, Member, list_again, list_long, list_mapped, spaced_one}
use Rattle.mesh_canon_reading.proofs.Nodes.{Again, AgainAll, AgainWhen, agg_again, between_again, binary_again, call_again, case_again, cast_again, col_again, count_again, in_again, isnull_again, literal_again, macro_again, neg_again, not_again, when_again}
use Rattle.mesh_canon_reading.proofs.Values.{cell_long, cell_opens, cell_some}

-- what is shown of each expression: its text begins neither as a list ends nor as `none`, and is read again
pub record Reads (t : List ℕ) (fits : Bool) (e : Expr) : Type 0 where
  pub opens : (rest : List ℕ) → after (codes "]") (t ++ rest) ≡ None
  pub some : (rest : List ℕ) → after (codes "none") (t ++ rest) ≡ None
  pub again : fits ≡ true → (n : ℕ) → length t ≤ n → Again n t e

pub record ReadsWhen (t : List ℕ) (fits : Bool) (w : When) : Type 0 where
  pub opens : (rest : List ℕ) → after (codes "]") (t ++ rest) ≡ None
  pub again : fits ≡ true → (n : ℕ) → length t ≤ n → AgainWhen n t w

abbrev P : Expr → Type 0
P e = Reads (expr_text e) (expr_fits e) e

abbrev P' : When → Type 0
P' w = ReadsWhen (when_text w) (when_fits w) w

abbrev Known : Type 0
Known = (e : Expr) × P e

abbrev Known' : Type 0
Known' = (w : When) × P' w

abbrev plain : List Known → List Expr
plain es = map (λ e. e.0) es

abbrev plain' : List Known' → List When
plain' ws = map (λ w. w.0) ws

abbrev under : Expr-F Known Known' → Expr-F Expr When
under y = map-Expr Known Known' Expr When (λ e. e.0) (λ w. w.0) y

-- a node reads at least one byte, so that its parts have one less
from_suc : (n : ℕ) (x : Expr-F Expr When) → 0 < n → Again (suc (n - 1)) (expr_here (map-Expr Expr When (List ℕ) (List ℕ) expr_text when_text x)) (roll-Expr x) → Again n (expr_here (map-Expr Expr When (List ℕ) (List ℕ) expr_text when_text x)) (roll-Expr x)
from_suc n x lt a =
    let is : suc (n - 1) ≡ n = omega arith in
    subst (λ m. Again m (expr_here (map-Expr Expr When (List ℕ) (List ℕ) expr_text when_text x)) (roll-Expr x)) is a

each_expr : (n : ℕ) (es : List Known) → list_all (λ b. b) (map expr_fits (plain es)) ≡ true → length (spaced expr_text (plain es)) ≤ n → Each (expr_at n) expr_text (plain es)
each_expr n [] fits le = tt
each_expr n (e ∷ es) fits le =
    let p = and_parts (expr_fits e.0) (list_all (λ b. b) (map expr_fits (plain es))) fits in
    let long = spaced_one expr_text e.0 (plain es) in
    (record { opens = e.1.opens; again = e.1.again p.0 n (omega arith) }, each_expr n es p.1 (omega arith))

each_when : (n : ℕ) (ws : List Known') → list_all (λ b. b) (map when_fits (plain' ws)) ≡ true → length (spaced when_text (plain' ws)) ≤ n → Each (when_at (expr_at n)) when_text (plain' ws)
each_when n [] fits le = tt
each_when n (w ∷ ws) fits le =
    let p = and_parts (when_fits w.0) (list_all (λ b. b) (map when_fits (plain' ws))) fits in
    let long = spaced_one when_text w.0 (plain' ws) in
    (record { opens = w.1.opens; again = w.1.again p.0 n (omega arith) }, each_when n ws p.1 (omega arith))

exprs_again : (n : ℕ) (es : List Known) → list_all (λ b. b) (map expr_fits (plain es)) ≡ true → length (list_of (λ t. t) (map expr_text (plain es))) ≤ n → AgainAll n (list_of (λ t. t) (map expr_text (plain es))) (plain es)
exprs_again n es fits le =
    let is = list_mapped expr_text (plain es) in
    let long = list_long expr_text (plain es) in
    let less : length (spaced expr_text (plain es)) ≤ n = omega (arith, ap length is) in
    subst (λ t. AgainAll n t (plain es)) (sym is) (list_again (expr_at n) expr_text (plain es) (each_expr n es fits less))

whens_again : (n : ℕ) (ws : List Known') → list_all (λ b. b) (map when_fits (plain' ws)) ≡ true → length (list_of (λ t. t) (map when_text (plain' ws))) ≤ n → (more : List ℕ) → list_at (when_at (expr_at n)) (list_of (λ t. t) (map when_text (plain' ws)) ++ more) ≡ Some (plain' ws, more)
whens_again n ws fits le =
    let is = list_mapped when_text (plain' ws) in
    let long = list_long when_text (plain' ws) in
    let less : length (spaced when_text (plain' ws)) ≤ n = omega (arith, ap length is) in
    subst (λ t. (more : List ℕ) → list_at (when_at (expr_at n)) (t ++ more) ≡ Some (plain' ws, more)) (sym is) (list_again (when_at (expr_at n)) when_text (plain' ws) (each_when n ws fits less))

abbrev Layer : Expr-F Expr When → Type 0
Layer x = Reads (expr_here (map-Expr Expr When (List ℕ) (List ℕ) expr_text when_text x)) (fits_here (map-Expr Expr When Bool Bool expr_fits when_fits x)) (roll-Expr x)

one_long : (v : List ℕ) → length (v ++ (41 ∷ [])) ≡ length v + 1
one_long v = length-append v (41 ∷ [])

two_long : (v w : List ℕ) → length (v ++ (32 ∷ (w ++ (41 ∷ [])))) ≡ length v + length w + 2
two_long v w = omega (arith, length-append v (32 ∷ (w ++ (41 ∷ []))), length-append w (41 ∷ []))

three_long : (u v w : List ℕ) → length (u ++ (32 ∷ (v ++ (32 ∷ (w ++ (41 ∷ [])))))) ≡ length u + length v + length w + 3
three_long u v w = omega (arith, length-append u (32 ∷ (v ++ (32 ∷ (w ++ (41 ∷ []))))), two_long v w)

layer : (y : Expr-F Known Known') → Layer (under y)
unfolding expr_here after roll-Expr roll
layer (Literal c) = record { opens = cell_opens c; some = cell_some c; again = λ fits n le. from_suc n (under (Literal c)) (omega (arith, cell_long c)) (literal_again (n - 1) c fits) }
layer (Col item name) = record {
  opens = λ rest. refl;
  some = λ rest. refl;
  again = λ fits n le. let p = and_parts (nat_lt item (2 ^ 32)) (text_fits name) fits in from_suc n (under (Col item name)) (omega arith) (col_again (n - 1) item name (ltb-true item (2 ^ 32) p.0) p.1);
}
layer (Macro var) = record { opens = λ rest. refl; some = λ rest. refl; again = λ fits n le. from_suc n (under (Macro var)) (omega arith) (macro_again (n - 1) var) }
layer (Binary op left right) = record {
  opens = λ rest. refl;
  some = λ rest. refl;
  again = λ fits n le.
      let p = and_parts (expr_fits left.0) (expr_fits right.0) fits in
      let l = length-append (op_word op) (32 ∷ (expr_text left.0 ++ (32 ∷ (expr_text right.0 ++ (41 ∷ []))))) in
      let long = two_long (expr_text left.0) (expr_text right.0) in
      from_suc n (under (Binary op left right)) (omega arith) (binary_again (n - 1) op left.0 right.0 _ _ (left.1.again p.0 (n - 1) (omega arith)) (right.1.again p.1 (n - 1) (omega arith)));
}
layer (Neg v) = record { opens = λ rest. refl; some = λ rest. refl; again = λ fits n le. let long = one_long (expr_text v.0) in from_suc n (under (Neg v)) (omega arith) (neg_again (n - 1) v.0 _ (v.1.again fits (n - 1) (omega arith))) }
layer (Not v) = record { opens = λ rest. refl; some = λ rest. refl; again = λ fits n le. let long = one_long (expr_text v.0) in from_suc n (under (Not v)) (omega arith) (not_again (n - 1) v.0 _ (v.1.again fits (n - 1) (omega arith))) }
layer (IsNull v) = record { opens = λ rest. refl; some = λ rest. refl; again = λ fits n le. let long = one_long (expr_text v.0) in from_suc n (under (IsNull v)) (omega arith) (isnull_again (n - 1) v.0 _ (v.1.again fits (n - 1) (omega arith))) }
layer (Between v low high) = record {
  opens = λ rest. refl;
  some = λ rest. refl;
  again = λ fits n le.
      let p = and_parts (expr_fits v.0) (expr_fits low.0 && expr_fits high.0) fits in
      let q = and_parts (expr_fits low.0) (expr_fits high.0) p.1 in
      let long = three_long (expr_text v.0) (expr_text low.0) (expr_text high.0) in
      from_suc n (under (Between v low high)) (omega arith) (between_again (n - 1) v.0 low.0 high.0 _ _ _ (v.1.again p.0 (n - 1) (omega arith)) (low.1.again q.0 (n - 1) (omega arith)) (high.1.again q.1 (n - 1) (omega arith)));
}
layer (OneOf v of) = record {
  opens = λ rest. refl;
  some = λ rest. refl;
  again = λ fits n le.
      let p = and_parts (expr_fits v.0) (list_all (λ b. b) (map expr_fits (plain of))) fits in
      let long = two_long (expr_text v.0) (list_of (λ t. t) (map expr_text (plain of))) in
      from_suc n (under (OneOf v of)) (omega arith) (in_again (n - 1) v.0 (plain of) _ _ (v.1.again p.0 (n - 1) (omega arith)) (exprs_again (n - 1) of p.1 (omega arith)));
}
layer (Cast to v) = record {
  opens = λ rest. refl;
  some = λ rest. refl;
  again = λ fits n le.
      let long = two_long (type_word to) (expr_text v.0) in
      from_suc n (under (Cast to v)) (omega arith) (cast_again (n - 1) to v.0 _ (v.1.again fits (n - 1) (omega arith)));
}
layer (Call func args) = record {
  opens = λ rest. refl;
  some = λ rest. refl;
  again = λ fits n le.
      let long = two_long (func_word func) (list_of (λ t. t) (map expr_text (plain args))) in
      from_suc n (under (Call func args)) (omega arith) (call_again (n - 1) func (plain args) _ (exprs_again (n - 1) args fits (omega arith)));
}
layer (Case ws otherwise) = record {
  opens = λ rest. refl;
  some = λ rest. refl;
  again = λ fits n le.
      let p = and_parts (list_all (λ b. b) (map when_fits (plain' ws))) (expr_fits otherwise.0) fits in
      let long = two_long (list_of (λ t. t) (map when_text (plain' ws))) (expr_text otherwise.0) in
      from_suc n (under (Case ws otherwise)) (omega arith) (case_again (n - 1) (plain' ws) otherwise.0 _ _ (whens_again (n - 1) ws p.0 (omega arith)) (otherwise.1.again p.1 (n - 1) (omega arith)));
}
layer CountAll = record { opens = λ rest. refl; some = λ rest. refl; again = λ fits n le. from_suc n (under CountAll) (omega arith) (count_again (n - 1)) }
layer (Agg kind v) = record {
  opens = λ rest. refl;
  some = λ rest. refl;
  again = λ fits n le.
      let long = two_long (agg_word kind) (expr_text v.0) in
      from_suc n (under (Agg kind v)) (omega arith) (agg_again (n - 1) kind v.0 _ (v.1.again fits (n - 1) (omega arith)));
}

rolled : (x : Expr-F Expr When) → Layer x → P (roll-Expr x)
rolled x l =
    subst (λ (t : List ℕ). Reads t (expr_fits (roll-Expr x)) (roll-Expr x)) (sym (fold-roll-Expr (List ℕ) (List ℕ) expr_here when_here x))
    (subst (λ (b : Bool). Reads (expr_here (map-Expr Expr When (List ℕ) (List ℕ) expr_text when_text x)) b (roll-Expr x)) (sym (fold-roll-Expr Bool Bool fits_here when_fits_here x)) l)

abbrev under_when : When-F Known Known' → When-F Expr When
under_when w = map-When Known Known' Expr When (λ e. e.0) (λ w. w.0) w

layer_when : (w : When-F Known Known') → ReadsWhen (when_here (map-When Expr When (List ℕ) (List ℕ) expr_text when_text (under_when w))) (when_fits_here (map-When Expr When Bool Bool expr_fits when_fits (under_when w))) (roll-When (under_when w))
unfolding when_here after
layer_when w = record {
  opens = λ rest. refl;
  again = λ fits n le.
      let p = and_parts (expr_fits w.test.0) (expr_fits w.value.0) fits in
      let long = two_long (expr_text w.test.0) (expr_text w.value.0) in
      when_again n w.test.0 w.value.0 _ _ (w.test.1.again p.0 n (omega arith)) (w.value.1.again p.1 n (omega arith));
}

rolled_when : (w : When-F Known Known') → P' (roll-When (under_when w))
rolled_when w =
    let x = under_when w in
    subst (λ (t : List ℕ). ReadsWhen t (when_fits (roll-When x)) (roll-When x)) (sym (fold-roll-When (List ℕ) (List ℕ) expr_here when_here x))
    (subst (λ (b : Bool). ReadsWhen (when_here (map-When Expr When (List ℕ) (List ℕ) expr_text when_text x)) b (roll-When x)) (sym (fold-roll-When Bool Bool fits_here when_fits_here x)) (layer_when w))

pub reads_expr : (e : Expr) → Reads (expr_text e) (expr_fits e) e
reads_expr = ind-Expr P P' (λ x y e. subst (λ z. P (roll-Expr z)) e (rolled (under y) (layer y))) (λ x y e. subst (λ z. P' (roll-When z)) e (rolled_when y))

pub expr_member : (e : Expr) → expr_fits e ≡ true → Member any_expr_at expr_text e
expr_member e fits = record {
  opens = (reads_expr e).opens;
  again = λ rest. (reads_expr e).again fits (length (expr_text e ++ rest)) (omega (arith, length-append (expr_text e) rest)) rest;
}

none_again : (rest : List ℕ) → option_at (codes "none" ++ rest) ≡ Some (None, rest)
unfolding option_at after
none_again rest = refl

pub option_again : (o : Option Expr) (rest : List ℕ) → option_fits o ≡ true → option_at (option_text o ++ rest) ≡ Some (o, rest)
unfolding option_at option_text
option_again None rest fits = none_again rest
option_again (Some e) rest fits = rw ((reads_expr e).some rest, (expr_member e fits).again rest) refl
