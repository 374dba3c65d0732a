-- How the functions of the descent end, and steps of more than one token.
use Rattle.std.proofs.Common.{◌≡◌, ℕ, ℤ, ◌+◌, ◌-◌, ◌<◌, ◌≤◌, List, [], ◌∷◌, ◌++◌, codes, Bool, true, false, ◌&&◌, ◌||◌, Option, Result, Ok, Err, MatchResult, IsErr, IsErrAnd, length, drop, get_or, refl, ap, sym, ◌∙◌, subst, inl, inr, ◌⊎◌}
use Rattle.std.specs.Str.{bytes_eq}
use Rattle.std.proofs.lemmas.List.{drop_more, drop_all, drop-drop}
use Rattle.std.proofs.lemmas.Bool.{cases_lt, cases_Bool, or_parts}
use Rattle.mesh_query_tokens.specs.declared.tokens.Token.{Token}
use Rattle.mesh_query_tokens.specs.declared.tokens.TokenKind.{TokenKind}
use Rattle.mesh_query_tokens.specs.declared.tokens.TokenKind.TheVariants.{Number}
use Rattle.mesh_base_values.specs.declared.values.ColType.{ColType}
use Rattle.mesh_query_grammar.specs.declared.surface.signs.AddSign.{AddSign}
use Rattle.mesh_query_grammar.specs.declared.surface.signs.MulSign.{MulSign}
use Rattle.mesh_query_grammar.specs.declared.surface.expressions.AddStep.{AddStep, roll-AddStep}
use Rattle.mesh_query_grammar.specs.declared.surface.expressions.MulExpr.{MulExpr}
use Rattle.mesh_query_grammar.specs.declared.surface.expressions.MulStep.{MulStep, roll-MulStep}
use Rattle.mesh_query_grammar.specs.declared.surface.expressions.Unary.{Unary}
use Rattle.mesh_query_grammar.specs.declared.surface.expressions.Primary.{Primary}
use Rattle.mesh_query_grammar.specs.declared.surface.signs.Function.{Function}
use Rattle.mesh_query_grammar.specs.declared.surface.signs.Function.TheVariants as the_function
use Rattle.mesh_query_grammar.specs.Signs.{place, Next, IsDay, IsName, IsSign, IsType, add_text, mul_text}
use Rattle.mesh_query_grammar.specs.Words.{is_reserved}
use Rattle.mesh_query_grammar.specs.Rules.{Rule, Tree, product, signed, more_sums, more_products, more_casts, value, named, arguments}
use Rattle.mesh_query_grammar.specs.Plans.{Plan, done, stuck, accept, peek, read, nest, day, star, plan, said, kind_is_word, is_word, is_sign, is_text, is_name, call_plan, is_number, is_macro, is_any, negated, ends_items, begins_join, column_plan, named_plan, literal_plan}
use Rattle.mesh_query_grammar.specs.Machine.{begins, begins_star, are_star, days, stars, Cause, syntax, nesting, reads, ends, fails_here, fails_deep, fails_day, fails_behind_day, fails_first, fails_then, fails_inside, fails_starred}
use Rattle.mesh_query_grammar.proofs.Heads.{name_at}
use Rattle.mesh_query_grammar.proofs.Takes.{name_taken, sign_taken}
use Rattle.mesh_query_grammar.specs.declared.lookahead.fault.Fault.{Fault}
use Rattle.mesh_query_grammar.specs.declared.lookahead.fault.Fault.TheVariants as fault
use Rattle.mesh_query_grammar.specs.lookahead.Answers.{IsNot}
use Rattle.mesh_query.specs.Counts.{is_node, less, inside, entered, left_behind, left_at, Goes, Reads, GoesWrong}
use Rattle.mesh_query.specs.Answers.{Failed, Onward, IsNoDay, function_in, kind_calls}
use Rattle.mesh_query.specs.Rests.{one_alone, word_plan}
use Rattle.mesh_query.proofs.Counted.{First, Then, parts_of_read, fault_of_read}
use Rattle.mesh_query.proofs.Steps.{started, noted, past, past_sign, past_type, past_add, past_mul, without, missed, saw, has_read, is_done}

-- what is answered is handed on
pub handed : {A : Type 0} (P Q : A × ℕ → Type 0) (F G : Fault → Type 0) (r : Result (A × ℕ) Fault) → MatchResult r P F → ((x : A × ℕ) → P x → Q x) → ((e : Fault) → F e → G e) → MatchResult r Q G
handed P Q F G (Ok x) h f g = f x h
handed P Q F G (Err e) h f g = g e h

pub stuck_here : {i : Bool} {n c d : ℕ} {r : Rule} {s : List Token} (ts : List Token) (q : ℕ) → Onward i n r s stuck (drop q ts) c d → Failed i n r s ts c d (fault.Syntax q)
stuck_here {d = d} ts q I = I.fails_on syntax (drop q ts) d (fails_here, refl)

pub lacks : {i : Bool} {n c d : ℕ} {r : Rule} {s : List Token} {test : Token → Bool} {f : Token → Plan r} (ts : List Token) (q : ℕ) (e : Fault) → Onward i n r s (accept test f stuck) (drop q ts) c d → IsNot test ts q e → Failed i n r s ts c d e
lacks ts q fault.Memory I g = tt
lacks {i = i} {n = n} {c = c} {d = d} {r = r} {s = s} ts q (fault.Syntax at) I g = subst (λ (z : ℕ). Failed i n r s ts c d (fault.Syntax z)) (sym g.0) (stuck_here ts q (without I g.1))
lacks ts q fault.Nesting I g = absurd g

pub fails_in : {i : Bool} {n c d : ℕ} (b : ℕ) {r o : Rule} {s m : List Token} {f : Tree o → Plan r} (ts : List Token) (e : Fault) → Onward i n r s (read o f) m c d → Failed (inside i o) n o m ts (entered i r o d) b e → Failed i n r s ts c b e
fails_in b ts fault.Memory I x = tt
fails_in b ts (fault.Syntax q) I x = I.fails_on syntax (drop q ts) b (fails_first x.0, x.1)
fails_in b ts fault.Nesting I x = (x.0, I.fails_on nesting x.0 b (fails_first x.1.0, x.1.1))

pub fails_nested : {i : Bool} {n c d : ℕ} (b j : ℕ) {r o : Rule} {s m : List Token} {f : Tree o → Plan r} (ts : List Token) (e : Fault) → Onward i n r s (nest o f) m c d → n ≡ j + 1 → Failed (inside i o) j o m ts (entered i r o d) b e → Failed i n r s ts c b e
fails_nested b j ts fault.Memory I h x = tt
fails_nested b j ts (fault.Syntax q) I h x = I.fails_on syntax (drop q ts) b (fails_inside h x.0, x.1)
fails_nested b j ts fault.Nesting I h x = (x.0, I.fails_on nesting x.0 b (fails_inside h x.1.0, x.1.1))

-- what fails with that number left fails with the same one told otherwise
pub failed_from : (i : Bool) (n : ℕ) {before other : ℕ} (now : ℕ) (r : Rule) (s ts : List Token) (e : Fault) → other ≡ before → Failed i n r s ts other now e → Failed i n r s ts before now e
failed_from i n now r s ts e h d = subst (λ (z : ℕ). Failed i n r s ts z now e) h d

-- no more can be opened
pub too_deep : {i : Bool} {n c d : ℕ} {r o : Rule} {s m : List Token} {f : Tree o → Plan r} (ts : List Token) (e : Fault) → Onward i n r s (nest o f) m c d → (n ≡ 0) × (e ≡ fault.Nesting) → Failed i n r s ts c d e
too_deep {i = i} {n = n} {c = c} {d = d} {r = r} {s = s} {m = m} ts e I h = subst (λ (z : Fault). Failed i n r s ts c d z) (sym h.1) (m, I.fails_on nesting m d (fails_deep h.0, refl))

-- a phrase that ends is read
pub closed : {i : Bool} {n c d b : ℕ} {r o : Rule} {s m e : List Token} {f : Tree o → Plan r} {a : Tree o} → Onward i n r s (read o f) m c d → Onward (inside i o) n o m (done a) e (entered i r o d) b → Onward i n r s (f a) e c b
closed {a = a} I J = has_read a I (is_done J)

-- the rule reads what is left of the phrase as the one that reads that does
abbrev pub Alike : Bool → Rule → Rule → Rule → Type 0
Alike i r o p = (inside i o ≡ i) × ((z : ℕ) → entered i o p z ≡ entered i r p z)

read_on : {i : Bool} {n c d b left : ℕ} {r o p : Rule} {s m e z : List Token} (h : Tree p → Tree o) (f : Tree o → Plan r) (t : Tree r) → Alike i r o p → Onward i n r s (read o f) m c d → Onward (inside i o) n o m (read p (λ x. done (h x))) e (entered i r o d) b → Goes i n r (read p (λ x. f (h x))) t e z b left → Reads i n r t s z c left
read_on {i = i} {n = n} {d = d} {b = b} {left = left} {r = r} {o = o} {p = p} {m = m} {e = e} {z = z} h f t A I J x =
    let y = parts_of_read x.0 in
    let J1 : Onward i n o m (read p (λ x. done (h x))) e (entered i r o d) b = subst (λ (v : Bool). Onward v n o m (read p (λ x. done (h x))) e (entered i r o d) b) A.0 J in
    let whole = J1.reads_on (h y.0) y.1 (left_behind (inside i p) y.2 (entered i o p b)) (reads y.2 ends, refl) in
    let last : left_behind i y.3 (left_behind (inside i p) y.2 (entered i o p b)) ≡ left = ap (λ (v : ℕ). left_behind i y.3 (left_behind (inside i p) y.2 v)) (A.1 b) ∙ sym (y.4 i b) ∙ x.1 in
    I.reads_on t z left (reads whole.0 y.3, ap (λ (v : Bool). left_behind i y.3 (left_behind v whole.0 (entered i r o d))) A.0 ∙ ap (left_behind i y.3) whole.1 ∙ last)

fail_on : {i : Bool} {n c d b left : ℕ} {r o p : Rule} {s m e z : List Token} {k : Cause} (h : Tree p → Tree o) (f : Tree o → Plan r) → Alike i r o p → Onward i n r s (read o f) m c d → Onward (inside i o) n o m (read p (λ x. done (h x))) e (entered i r o d) b → (x : GoesWrong i k n r (read p (λ x. f (h x))) e z b left) → GoesWrong i k n r (plan r) s z c left
fail_on {i = i} {n = n} {c = c} {d = d} {b = b} {left = left} {r = r} {o = o} {p = p} {s = s} {m = m} {e = e} {z = z} {k = k} h f A I J x = either (fault_of_read x.0)
  where
    F : Bool → ℕ → ℕ
    F i c = left_at i x.0 c

    J1 : Onward i n o m (read p (λ x. done (h x))) e (entered i r o d) b
    J1 = subst (λ (v : Bool). Onward v n o m (read p (λ x. done (h x))) e (entered i r o d) b) A.0 J

    either : First r p k n e z F ⊎ Then r p (λ x. f (h x)) k n n e z F → GoesWrong i k n r (plan r) s z c left
    either (inl y) =
        let whole = J1.fails_on k z (left_at (inside i p) y.0 (entered i o p b)) (fails_first y.0, refl) in
        let last : left_at (inside i p) y.0 (entered i o p b) ≡ left = ap (left_at (inside i p) y.0) (A.1 b) ∙ sym (y.1 i b) ∙ x.1 in
        I.fails_on k z left (fails_first whole.0, ap (λ (v : Bool). left_at v whole.0 (entered i r o d)) A.0 ∙ whole.1 ∙ last)
    either (inr y) =
        let whole = J1.reads_on (h y.0) y.1 (left_behind (inside i p) y.2 (entered i o p b)) (reads y.2 ends, refl) in
        let last : left_at i y.3 (left_behind (inside i p) y.2 (entered i o p b)) ≡ left = ap (λ (v : ℕ). left_at i y.3 (left_behind (inside i p) y.2 v)) (A.1 b) ∙ sym (y.4 i b) ∙ x.1 in
        I.fails_on k z left (fails_then whole.0 y.3, ap (λ (v : Bool). left_at i y.3 (left_behind v whole.0 (entered i r o d))) A.0 ∙ ap (left_at i y.3) whole.1 ∙ last)

-- what an inner phrase goes on with, the outer one does
pub goes_on : {i : Bool} {n c d b : ℕ} {r o p : Rule} {s m e : List Token} {f : Tree o → Plan r} (h : Tree p → Tree o) → Alike i r o p → Onward i n r s (read o f) m c d → Onward (inside i o) n o m (read p (λ x. done (h x))) e (entered i r o d) b → Onward i n r s (read p (λ x. f (h x))) e c b
goes_on {f = f} h A I J = record {
  reads_on = λ t z left x. read_on h f t A I J x;
  fails_on = λ k z left x. fail_on h f A I J x;
}

pub has_day : {i : Bool} {n c d : ℕ} {r : Rule} {s w m : List Token} {f : ℤ → Plan r} (x : ℤ) → Onward i n r s (day f) w c d → IsDay x w m → Onward i n r s (f x) m c d
has_day x I h = record { reads_on = λ t e z g. I.reads_on t e z (days x h g.0, g.1); fails_on = λ k e z g. I.fails_on k e z (fails_behind_day x h g.0, g.1) }

pub has_no_day : {i : Bool} {n c d : ℕ} {r : Rule} {s : List Token} {f : ℤ → Plan r} (ts : List Token) (q : ℕ) (e : Fault) → Onward i n r s (day f) (drop q ts) c d → IsNoDay ts q e → Failed i n r s ts c d e
has_no_day ts q fault.Memory I g = tt
has_no_day {i = i} {n = n} {c = c} {d = d} {r = r} {s = s} ts q (fault.Syntax at) I g = subst (λ (z : ℕ). Failed i n r s ts c d (fault.Syntax z)) (sym g.0) (I.fails_on syntax (drop q ts) d (fails_day g.1, refl))
has_no_day ts q fault.Nesting I g = absurd g

pub has_star : {i : Bool} {n c d : ℕ} {r : Rule} {s w e : List Token} {f : Token → Plan r} {q : Plan r} → Onward i n r s (star f q) w c d → (k l m : Token) → w ≡ k ∷ l ∷ m ∷ e → are_star k l m ≡ true → Onward i n r s (f k) e c d
has_star {i = i} {n = n} {d = d} {r = r} {f = f} {q = q} I k l m h g = record {
  reads_on = λ t e z x. I.reads_on t e z (subst (λ (y : List Token). Goes i n r (star f q) t y e d z) (sym h) (stars g x.0, x.1));
  fails_on = λ b e z x. I.fails_on b e z (subst (λ (y : List Token). GoesWrong i b n r (star f q) y e d z) (sym h) (fails_starred g x.0, x.1));
}

-- `date` alone, or a name that isn't `date`
pub undated : {i : Bool} {n at c d : ℕ} {x : List ℕ} {s m : List Token} (b : Bool) → (b && begins is_text m) ≡ false → Onward i n (named at x) s (named_plan at x b) m c d → Onward i n (named at x) s (column_plan at x) m c d
undated true h I = missed I h
undated false h I = I

-- a function that is none of three takes one value alone
pub alone : {i : Bool} {n c : ℕ} {s : List Token} (f : Function) → (f ≡ the_function.Count → ⊥) → (f ≡ the_function.Coalesce → ⊥) → (f ≡ the_function.Nullif → ⊥) → Onward i n (arguments f) s (one_alone f (place s)) s c c
alone the_function.Count a b c = absurd (a refl)
alone the_function.Coalesce a b c = absurd (b refl)
alone the_function.Nullif a b c = absurd (c refl)
alone the_function.Abs a b c = noted started
alone the_function.Length a b c = noted started
alone the_function.Upper a b c = noted started
alone the_function.Lower a b c = noted started
alone the_function.Sum a b c = noted started
alone the_function.Min a b c = noted started
alone the_function.Max a b c = noted started

-- an error that is passed on
pub told : {A : Type 0} (P : A → Type 0) (F : Fault → Type 0) (r : Result A Fault) {e : Fault} → IsErr r × IsErrAnd r (λ x. x ≡ e) → F e → MatchResult r P F
told P F (Ok x) h g = absurd h.1
told P F (Err x) h g = subst F (sym h.1) g

pub date_is_name : is_reserved (codes "date") ≡ false
unfolding is_reserved
date_is_name = refl

is_date : {x : List ℕ} {w m : List Token} → IsName x w m → begins (is_word (codes "date")) w ≡ bytes_eq x (codes "date")
is_date h = ap (begins (is_word (codes "date"))) h.0.1 ∙ ap (kind_is_word (codes "date")) h.0.2

-- behind a name that no text makes a date
pub name_left : {i : Bool} {n at c : ℕ} {x : List ℕ} (ts : List Token) (from next : ℕ) → next ≡ from + 1 → IsName x (drop from ts) (drop next ts) → (begins (is_word (codes "date")) (drop from ts) && begins is_text (drop (from + 1) ts)) ≡ false → Onward i n (named at x) (drop next ts) (column_plan at x) (drop next ts) c c
name_left {x = x} ts from next h g f =
    undated (bytes_eq x (codes "date")) (subst (λ (z : ℕ). (bytes_eq x (codes "date") && begins is_text (drop z ts)) ≡ false) (sym h) (subst (λ (b : Bool). (b && begins is_text (drop (from + 1) ts)) ≡ false) (is_date g) f)) started

pub unlike : (test : TokenKind → Bool) {kind : TokenKind} {w m : List Token} → Next kind w m → test kind ≡ false → begins (λ k. test k.kind) w ≡ false
unlike test h g = ap (begins (λ k. test k.kind)) h.1 ∙ ap test h.2 ∙ g

pub unnumbered : {i : Bool} {n at c d : ℕ} {s m : List Token} → Onward i n value s (literal_plan at) m c d → begins is_number m ≡ false → begins is_text m ≡ false → begins is_macro m ≡ false → Onward i n value s (word_plan at) m c d
unnumbered I a b c = without (without (without I a) b) c

pub unworded : {i : Bool} {n at c d : ℕ} {s m : List Token} → Onward i n value s (word_plan at) m c d → begins (is_word (codes "true")) m ≡ false → begins (is_word (codes "false")) m ≡ false → begins (is_word (codes "null")) m ≡ false → Onward i n value s stuck m c d
unworded I a b c = without (without (without I a) b) c

-- a token is taken of which the rest of the phrase has a part
pub past_said : {i : Bool} {n c d : ℕ} {r : Rule} {s w m : List Token} {A : Type 0} {test : Token → Bool} {says : Token → A} (F : A → Plan r) {q : Plan r} (a : A) (k : Token) → Onward i n r s (accept test (λ k. F (says k)) q) w c d → w ≡ k ∷ m → test k ≡ true → says k ≡ a → Onward i n r s (F a) m c (less (is_node r k.kind) d)
past_said {i = i} {n = n} {c = c} {d = d} {r = r} {s = s} {m = m} F a k I h g e = subst (λ (z : _). Onward i n r s (F z) m c (less (is_node r k.kind) d)) e (past I k h g)

-- the token that passes a test
taken_at : (test : Token → Bool) (ts : List Token) (at : ℕ) → begins test (drop at ts) ≡ true → (k : Token) × (drop at ts ≡ k ∷ drop (at + 1) ts) × (test k ≡ true)
taken_at test ts at h = within (cases_lt at (length ts))
  where
    d : Token
    d = record { start = 0; end = 0; kind = Number 0 }

    within : (at < length ts) ⊎ (length ts ≤ at) → (k : Token) × (drop at ts ≡ k ∷ drop (at + 1) ts) × (test k ≡ true)
    within (inl g) = let e = drop_more ts at d g in (get_or ts at d, e, sym (ap (begins test) e) ∙ h)
    within (inr g) = let f : false ≡ true = sym (ap (begins test) (drop_all at ts g)) ∙ h in absurd cc

-- the name that stands at a place
pub name_here : (ts : List Token) (at : ℕ) → begins is_name (drop at ts) ≡ true → (x : List ℕ) × IsName x (drop at ts) (drop (at + 1) ts)
name_here ts at h =
    let y = taken_at is_name ts at h in
    (said y.0, subst (λ (z : List Token). IsName (said y.0) z (drop (at + 1) ts)) (sym y.1) (name_at y.0 y.2 (drop (at + 1) ts)))

-- behind a name that a parenthesis makes a function's
pub call_left : {i : Bool} {n at c : ℕ} {x : List ℕ} (ts : List Token) (from : ℕ) (o : Option Function) → o ≡ function_in (drop from ts) → IsName x (drop from ts) (drop (from + 1) ts) →
    (begins (is_word (codes "date")) (drop from ts) && begins is_text (drop (from + 1) ts)) ≡ false → begins (is_sign (codes "(")) (drop (from + 1) ts) ≡ true → Onward i n (named at x) (drop (from + 1) ts) (call_plan at x o) (drop (from + 1) ts) c c
call_left {i = i} {n = n} {at = at} {c = c} {x = x} ts from o e g f p =
    subst (λ (z : Option Function). Onward i n (named at x) (drop (from + 1) ts) (call_plan at x z) (drop (from + 1) ts) c c) (sym (e ∙ ap function_in g.0.1 ∙ ap kind_calls g.0.2)) (saw (name_left ts from (from + 1) refl g f) p)

-- what was read is the whole
pub closed_by : {i : Bool} {n c d b : ℕ} {r o : Rule} {s m e : List Token} {f : Tree o → Plan r} (a : Tree o) → Onward i n r s (read o f) m c d → Reads (inside i o) n o a m e (entered i r o d) b → Onward i n r s (f a) e c b
closed_by a I d = has_read a I d

-- one of two tests that a token passes
pub one_of_two : (f g : Token → Bool) (s : List Token) → begins (λ k. f k || g k) s ≡ (begins f s || begins g s)
one_of_two f g [] = refl
one_of_two f g (k ∷ s) = refl

pub sum_begun : {n at c : ℕ} {x : MulExpr} {xs : List AddStep} {w m : List Token} (o : AddSign) → IsSign (add_text o) w m → Onward true n (more_sums at x xs) w (read product (λ y. read (more_sums at x (xs ++ roll-AddStep (record { at = place w; sign = o; part = y }) ∷ [])) done)) m c (c - 1)
sum_begun {at = at} {x = x} {xs = xs} o h = past_add o (λ a z. read product (λ y. read (more_sums at x (xs ++ roll-AddStep (record { at = a; sign = z; part = y }) ∷ [])) done)) started h

pub sum_on : {n at c b : ℕ} {x : MulExpr} {xs : List AddStep} {w m e : List Token} (o : AddSign) (y : MulExpr) → IsSign (add_text o) w m → Reads true n product y m e (c - 1) b → Onward true n (more_sums at x xs) w (read (more_sums at x (xs ++ roll-AddStep (record { at = place w; sign = o; part = y }) ∷ [])) done) e c b
sum_on o y h d = has_read y (sum_begun o h) d

pub product_begun : {n at c : ℕ} {x : Unary} {xs : List MulStep} {w m : List Token} (o : MulSign) → IsSign (mul_text o) w m → Onward true n (more_products at x xs) w (read signed (λ y. read (more_products at x (xs ++ roll-MulStep (record { at = place w; sign = o; part = y }) ∷ [])) done)) m c (c - 1)
product_begun {at = at} {x = x} {xs = xs} o h = past_mul o (λ a z. read signed (λ y. read (more_products at x (xs ++ roll-MulStep (record { at = a; sign = z; part = y }) ∷ [])) done)) started h

pub product_on : {n at c b : ℕ} {x : Unary} {xs : List MulStep} {w m e : List Token} (o : MulSign) (y : Unary) → IsSign (mul_text o) w m → Reads true n signed y m e (c - 1) b → Onward true n (more_products at x xs) w (read (more_products at x (xs ++ roll-MulStep (record { at = place w; sign = o; part = y }) ∷ [])) done) e c b
product_on o y h d = has_read y (product_begun o h) d

pub cast_on : {n at c : ℕ} {v : Primary} {ks : List ColType} {k : ColType} {w m e : List Token} → IsSign (codes "::") w m → IsType k m e → Onward true n (more_casts at v ks) w (read (more_casts at v (ks ++ k ∷ [])) done) e c (c - 1)
cast_on {at = at} {v = v} {ks = ks} h g = past_type (λ k. read (more_casts at v (ks ++ k ∷ [])) done) (past_sign (codes "::") started h) g

-- a token that is there is not at fault
pub no_fault : (i : Bool) (n c d : ℕ) (r : Rule) (s : List Token) (test : Token → Bool) (ts : List Token) (at : ℕ) (e : Fault) → IsNot test ts at e → (begins test (drop at ts) ≡ false → ⊥) → Failed i n r s ts c d e
no_fault i n c d r s test ts at fault.Memory g h = tt
no_fault i n c d r s test ts at (fault.Syntax q) g h = absurd (h g.1)
no_fault i n c d r s test ts at fault.Nesting g h = absurd g

-- a name, a dot and a star
pub all_of : {i : Bool} {n c d : ℕ} {r : Rule} {s w m j e : List Token} {x : List ℕ} (F : List ℕ → Plan r) {q : Plan r} → Onward i n r s (star (λ k. F (said k)) q) w c d → IsName x w m → IsSign (codes ".") m j → IsSign (codes "*") j e → Onward i n r s (F x) e c d
all_of {i = i} {n = n} {c = c} {d = d} {r = r} {s = s} {e = e} F I h g f =
    let name = name_taken h in
    let stars : are_star h.0.0 g.0 f.0 ≡ true = rw (name.0, sign_taken (codes ".") g.0 g.2, sign_taken (codes "*") f.0 f.2) refl in
    let whole = h.0.1 ∙ ap (λ (z : List Token). h.0.0 ∷ z) (g.1 ∙ ap (λ (z : List Token). g.0 ∷ z) f.1) in
    subst (λ (z : List ℕ). Onward i n r s (F z) e c d) name.1 (has_star I h.0.0 g.0 f.0 whole stars)

-- behind the comma behind the last item
pub items_over : {i : Bool} {n c d : ℕ} {r : Rule} {s m : List Token} {p q : Plan r} → Onward i n r s (peek ends_items p (peek is_any q p)) m c d → (negated (begins is_any m) || begins ends_items m) ≡ true → Onward i n r s p m c d
items_over {i = i} {n = n} {c = c} {d = d} {r = r} {s = s} {m = m} {p = p} I h = split (cases_Bool (begins ends_items m)) (cases_Bool (begins is_any m))
  where
    split : (begins ends_items m ≡ true) ⊎ (begins ends_items m ≡ false) → (begins is_any m ≡ true) ⊎ (begins is_any m ≡ false) → Onward i n r s p m c d
    split (inl g) _ = saw I g
    split (inr g) (inr f) = missed (missed I g) f
    split (inr g) (inl f) = let z : (negated true || false) ≡ true = subst (λ (b : Bool). (negated true || b) ≡ true) g (subst (λ (b : Bool). (negated b || begins ends_items m) ≡ true) f h) in absurd cc

-- behind a comma that another item follows
pub items_left : {i : Bool} {n c d : ℕ} {r : Rule} {s m : List Token} {p q : Plan r} → Onward i n r s (peek ends_items p (peek is_any q p)) m c d → (negated (begins is_any m) || begins ends_items m) ≡ false → Onward i n r s q m c d
items_left {m = m} I h =
    let y = or_parts (negated (begins is_any m)) (begins ends_items m) h in
    saw (missed I y.1) (any_there (begins is_any m) y.0)
  where
    any_there : (b : Bool) → negated b ≡ false → b ≡ true
    any_there true h = refl
    any_there false h = absurd cc

-- the tests of the next token, one by one
pub join_tests : (s : List Token) → begins begins_join s ≡ (begins (is_sign (codes ",")) s || begins (is_word (codes "cross")) s || begins (is_word (codes "inner")) s || begins (is_word (codes "join")) s || begins (is_word (codes "left")) s)
join_tests [] = refl
join_tests (k ∷ s) = refl

pub item_tests : (s : List Token) → begins ends_items s ≡ (begins (is_word (codes "from")) s || begins (is_word (codes "where")) s || begins (is_word (codes "group")) s || begins (is_word (codes "having")) s || begins (is_word (codes "union")) s || begins (is_sign (codes ")")) s || begins (is_sign (codes ";")) s)
item_tests [] = refl
item_tests (k ∷ s) = refl

pub any_at : (ts : List Token) (at : ℕ) → at < length ts → begins is_any (drop at ts) ≡ true
any_at ts at h = ap (begins is_any) (drop_more ts at (record { start = 0; end = 0; kind = Number 0 }) h)

pub any_past : (ts : List Token) (at : ℕ) → length ts ≤ at → begins is_any (drop at ts) ≡ false
any_past ts at h = ap (begins is_any) (drop_all at ts h)

-- a name, a dot and a star, one by one
pub star_tests : (ts : List Token) (at : ℕ) → begins_star (drop at ts) ≡ (begins is_name (drop at ts) && begins (is_sign (codes ".")) (drop (at + 1) ts) && begins (is_sign (codes "*")) (drop (at + 2) ts))
star_tests ts at = rw (← drop-drop 1 at ts, ← drop-drop 2 at ts) (of_list (drop at ts))
  where
    falls : (b : Bool) → (b && false) ≡ false
    falls true = refl
    falls false = refl

    of_list : (s : List Token) → begins_star s ≡ (begins is_name s && begins (is_sign (codes ".")) (drop 1 s) && begins (is_sign (codes "*")) (drop 2 s))
    of_list [] = refl
    of_list (k ∷ []) = sym (falls (is_name k && false))
    of_list (k ∷ d ∷ []) = sym (falls (is_name k && is_sign (codes ".") d))
    of_list (k ∷ d ∷ m ∷ s) = refl

pub both : {b : Bool} → b ≡ true → b ≡ false → ⊥
both h g = let e : true ≡ false = sym h ∙ g in absurd cc
