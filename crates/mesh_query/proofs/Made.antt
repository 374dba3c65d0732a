-- What is made of a phrase that has been read.
use Rattle.std.proofs.Common.{◌≡◌, ℕ, ◌+◌, ◌-◌, ◌<◌, ◌≤◌, List, codes, Bool, Result, Ok, Err, MatchResult, drop, refl, sym, subst, arith}
use Rattle.mesh_query_tokens.specs.declared.tokens.Token.{Token}
use Rattle.mesh_query_tokens.specs.declared.tokens.TokenKind.TheVariants.{Sign}
use Rattle.mesh_base_values.specs.declared.values.ColType.{ColType}
use Rattle.mesh_query_grammar.specs.Signs.{IsSign, IsType}
use Rattle.mesh_query_grammar.specs.Rules.{Rule, Tree, cast}
use Rattle.mesh_query_grammar.specs.Plans.{Plan, accept, stuck, nest, is_sign, is_type, type_named}
use Rattle.mesh_query_grammar.specs.lookahead.Answers.{IsNot}
use Rattle.mesh_query_grammar.specs.lookahead.Places.{Takes}
use Rattle.mesh_query.specs.Counts.{is_node, less, inside, entered, Reads}
use Rattle.mesh_query.specs.Answers.{Failed, Onward, IsUnopened}
use Rattle.mesh_query.proofs.Steps.{past_sign, past_type, counted, has_nested}
use Rattle.mesh_query.proofs.Descent.{lacks, too_deep, fails_nested}
use Rattle.mesh_query_grammar.specs.declared.lookahead.fault.Fault.{Fault}
use Rattle.mesh_query_grammar.specs.declared.lookahead.fault.Fault.TheVariants as fault

-- what is made of a phrase that has been read
pub with_read : {A : Type 0} (Q P : A → Type 0) (F : Fault → Type 0) (r : Result A Fault) {G : Type 0} → MatchResult r Q (λ f. ⊥) → MatchResult r P F → ((x : A) → Q x → P x → G) → G
with_read Q P F (Ok x) h g k = k x h g
with_read Q P F (Err e) h g k = absurd h

-- nothing is made of it: it isn't read, or memory is out
pub unread : {A : Type 0} (P : A → Type 0) (F : Fault → Type 0) (r : Result A Fault) {e : Fault} → MatchResult r (λ x. e ≡ fault.Memory) (λ f. e ≡ f) → MatchResult r P F → F fault.Memory → F e
unread P F (Ok x) h g m = subst F (sym h) m
unread P F (Err f) h g m = subst F (sym h) g

-- what is made keeps what was answered
pub kept : {A : Type 0} (P : A × ℕ → Type 0) (F : Fault → Type 0) (r q : Result (A × ℕ) Fault) → MatchResult q (λ p. MatchResult r (λ x. (p.0 ≡ x.0) × (p.1 ≡ x.1)) (λ f. ⊥)) (λ e. MatchResult r (λ x. e ≡ fault.Memory) (λ f. e ≡ f)) → MatchResult r P F → F fault.Memory → MatchResult q P F
kept {A = A} P F (Ok x) (Ok p) h g m = subst (λ (a : A). P (a, p.1)) (sym h.0) (subst (λ (n : ℕ). P (x.0, n)) (sym h.1) g)
kept P F (Ok x) (Err e) h g m = subst F (sym h) m
kept P F (Err f) (Ok p) h g m = absurd h
kept P F (Err f) (Err e) h g m = subst F (sym h) g

-- no parenthesis stands where one has to
pub not_there : (n : ℕ) (ts : List Token) (q : ℕ) (e : Fault) → IsNot (is_sign (codes "(")) ts q e → IsUnopened n ts q e
not_there n ts q fault.Memory h = tt
not_there n ts q (fault.Syntax at) h = h
not_there n ts q fault.Nesting h = absurd h

pub too_many_open : (n : ℕ) (ts : List Token) (q : ℕ) {e : Fault} {m : List Token} → IsSign (codes "(") (drop q ts) m → (n ≡ 0) × (e ≡ fault.Nesting) → IsUnopened n ts q e
too_many_open n ts q {m = m} h g = subst (λ (z : Fault). IsUnopened n ts q z) (sym g.1) (g.0, m, h)

pub shut_out : {i : Bool} {n c d : ℕ} {r o : Rule} {s : List Token} {f : Token → Tree o → Plan r} (ts : List Token) (q : ℕ) (e : Fault) → d ≡ less (is_node r (Sign (codes "("))) d → Onward i n r s (accept (is_sign (codes "(")) (λ k. nest o (f k)) stuck) (drop q ts) c d → IsUnopened n ts q e → Failed i n r s ts c d e
shut_out ts q fault.Memory h I g = tt
shut_out ts q (fault.Syntax at) h I g = lacks ts q (fault.Syntax at) I g
shut_out ts q fault.Nesting h I g = too_deep ts fault.Nesting (counted h (past_sign (codes "(") I g.2)) (g.0, refl)

-- the parenthesis that closes what was read doesn't stand there, or nothing was read
pub unclosed : {i : Bool} {n c d : ℕ} (j b from : ℕ) {r o : Rule} {s m : List Token} {h : Tree o → Token → Plan r} (ts : List Token) (e : Fault) → Onward i n r s (nest o (λ x. accept (is_sign (codes ")")) (h x) stuck)) m c d → n ≡ j + 1 → (found : Result (Tree o × ℕ) Fault) → MatchResult found (λ x. IsNot (is_sign (codes ")")) ts x.1 e) (λ f. e ≡ f) → MatchResult found (λ x. (from ≤ x.1) × Reads (inside i o) j o x.0 m (drop x.1 ts) (entered i r o d) b) (Failed (inside i o) j o m ts (entered i r o d) b) → Failed i n r s ts c b e
unclosed j b from ts e I g (Ok x) k p = lacks ts x.1 e (has_nested x.0 I g p.1) k
unclosed {i = i} {n = n} {c = c} j b from {r = r} {s = s} ts e I g (Err f) k p = subst (λ (z : Fault). Failed i n r s ts c b z) (sym k) (fails_nested b j ts f I g p)

-- the same behind the type of a CAST, or no type stands there
pub untyped : {i : Bool} {n c d : ℕ} {s : List Token} (h : ColType → Token → Plan cast) (ts : List Token) (q : ℕ) (e : Fault) → Onward i n cast s (accept is_type (λ k. accept (is_sign (codes ")")) (h (type_named k)) stuck) stuck) (drop q ts) c d → (found : Result (ColType × ℕ) Fault) → MatchResult found (λ x. IsNot (is_sign (codes ")")) ts x.1 e) (λ f. e ≡ f) → MatchResult found (λ x. Takes (IsType x.0) ts q x.1) (IsNot is_type ts q) → Failed i n cast s ts c d e
untyped h ts q e I (Ok x) k p = lacks ts x.1 e (past_type (λ y. accept (is_sign (codes ")")) (h y) stuck) I p.2) k
untyped h ts q e I (Err f) k p = lacks ts q e I (subst (λ (z : Fault). IsNot is_type ts q z) (sym k) p)

-- a phrase behind a token that is there comes nearer to the end
pub nearer : {n next end : ℕ} (at : ℕ) → at + 1 ≤ n → next ≡ end → at + 1 ≤ end → n - next < n - at
nearer at h e g = omega (arith, h, e, g)
