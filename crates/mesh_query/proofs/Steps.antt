-- Steps of the descent, and how it ends.
use Rattle.std.proofs.Common.{◌≡◌, ℕ, ◌+◌, List, ◌∷◌, Bool, true, false, refl, ap, sym, ◌∙◌, subst}
use Rattle.mesh_base_values.specs.declared.values.ColType.{ColType}
use Rattle.mesh_query_tokens.specs.declared.tokens.Token.{Token}
use Rattle.mesh_query_tokens.specs.declared.tokens.TokenKind.{TokenKind}
use Rattle.mesh_query_tokens.specs.declared.tokens.TokenKind.TheVariants.{Ident, Sign}
use Rattle.mesh_query_grammar.specs.declared.surface.signs.Cmp.{Cmp}
use Rattle.mesh_query_grammar.specs.declared.surface.signs.AddSign.{AddSign}
use Rattle.mesh_query_grammar.specs.declared.surface.signs.MulSign.{MulSign}
use Rattle.mesh_query_grammar.specs.Signs.{place, IsWord, IsSign, IsName, IsType, cmp_text, add_text, mul_text}
use Rattle.mesh_query_grammar.specs.Rules.{Rule, Tree}
use Rattle.mesh_query_grammar.specs.Plans.{Plan, done, accept, peek, note, read, nest, star, plan, said, type_named, is_word, is_sign, is_name, is_type, is_cmp, is_add, is_mul, cmp_said, add_said, mul_said}
use Rattle.mesh_query_grammar.specs.Machine.{begins, begins_star, ends, accepts, rejects, sees, misses, notes, reads, nests, starless, fails_after, fails_without, fails_seen, fails_missed, fails_noted, fails_then, fails_behind, fails_starless}
use Rattle.mesh_query_grammar.proofs.Takes.{word_taken, sign_taken, name_taken, type_taken, cmp_taken, add_taken, mul_taken}
use Rattle.mesh_query.specs.Counts.{is_node, less, inside, entered, left_behind, left_at, Goes, Reads, GoesWrong}
use Rattle.mesh_query.specs.Answers.{Onward}

pub started : {i : Bool} {n c : ℕ} {r : Rule} {s : List Token} → Onward i n r s (plan r) s c c
started = record { reads_on = λ t e z d. d; fails_on = λ k e z d. d }

-- the same number, told otherwise
pub counted : {i : Bool} {n c d f : ℕ} {r : Rule} {s m : List Token} {q : Plan r} → f ≡ d → Onward i n r s q m c d → Onward i n r s q m c f
counted {i = i} {n = n} {c = c} {r = r} {s = s} {m = m} {q = q} h I = subst (λ (z : ℕ). Onward i n r s q m c z) (sym h) I

pub noted : {i : Bool} {n c d : ℕ} {r : Rule} {s m : List Token} {f : ℕ → Plan r} → Onward i n r s (note f) m c d → Onward i n r s (f (place m)) m c d
noted I = record { reads_on = λ t e z d. I.reads_on t e z (notes d.0, d.1); fails_on = λ k e z d. I.fails_on k e z (fails_noted d.0, d.1) }

-- a token that passes the test is taken
pub past : {i : Bool} {n c d : ℕ} {r : Rule} {s w m : List Token} {test : Token → Bool} {f : Token → Plan r} {q : Plan r} → Onward i n r s (accept test f q) w c d → (k : Token) → w ≡ k ∷ m → test k ≡ true → Onward i n r s (f k) m c (less (is_node r k.kind) d)
past {i = i} {n = n} {d = d} {r = r} {test = test} {f = f} {q = q} I k h g = record {
  reads_on = λ t e z x. I.reads_on t e z (subst (λ (y : List Token). Goes i n r (accept test f q) t y e d z) (sym h) (accepts g x.0, x.1));
  fails_on = λ b e z x. I.fails_on b e z (subst (λ (y : List Token). GoesWrong i b n r (accept test f q) y e d z) (sym h) (fails_after g x.0, x.1));
}

-- the same of a token whose kind is known
past_kind : {i : Bool} {n c d : ℕ} {r : Rule} {s w m : List Token} {test : Token → Bool} {f : Token → Plan r} {q : Plan r} (kind : TokenKind) → Onward i n r s (accept test f q) w c d → (k : Token) → w ≡ k ∷ m → test k ≡ true → k.kind ≡ kind → Onward i n r s (f k) m c (less (is_node r kind) d)
past_kind {i = i} {n = n} {c = c} {d = d} {r = r} {s = s} {m = m} {f = f} kind I k h g e = subst (λ (y : TokenKind). Onward i n r s (f k) m c (less (is_node r y) d)) e (past I k h g)

pub past_word : {i : Bool} {n c d : ℕ} {r : Rule} {s w m : List Token} (x : List ℕ) {f : Token → Plan r} {q : Plan r} → Onward i n r s (accept (is_word x) f q) w c d → (h : IsWord x w m) → Onward i n r s (f h.0) m c (less (is_node r (Ident x)) d)
past_word x I h = past_kind (Ident x) I h.0 h.1 (word_taken x h.0 h.2) h.2

pub past_sign : {i : Bool} {n c d : ℕ} {r : Rule} {s w m : List Token} (x : List ℕ) {f : Token → Plan r} {q : Plan r} → Onward i n r s (accept (is_sign x) f q) w c d → (h : IsSign x w m) → Onward i n r s (f h.0) m c (less (is_node r (Sign x)) d)
past_sign x I h = past_kind (Sign x) I h.0 h.1 (sign_taken x h.0 h.2) h.2

turned : {i : Bool} {n c d : ℕ} {r : Rule} {s m : List Token} {A : Type 0} (F : A → Plan r) {a b : A} → a ≡ b → Onward i n r s (F a) m c d → Onward i n r s (F b) m c d
turned {i = i} {n = n} {c = c} {d = d} {r = r} {s = s} {m = m} F h I = subst (λ (z : _). Onward i n r s (F z) m c d) h I

pub past_name : {i : Bool} {n c d : ℕ} {r : Rule} {s w m : List Token} {x : List ℕ} (F : List ℕ → Plan r) {q : Plan r} → Onward i n r s (accept is_name (λ k. F (said k)) q) w c d → IsName x w m → Onward i n r s (F x) m c (less (is_node r (Ident x)) d)
past_name {x = x} F I h = turned F (name_taken h).1 (past_kind (Ident x) I h.0.0 h.0.1 (name_taken h).0 h.0.2)

pub past_type : {i : Bool} {n c d : ℕ} {r : Rule} {s w m : List Token} {x : ColType} (F : ColType → Plan r) {q : Plan r} → Onward i n r s (accept is_type (λ k. F (type_named k)) q) w c d → (h : IsType x w m) → Onward i n r s (F x) m c (less (is_node r (Ident h.0)) d)
past_type F I h = turned F (type_taken h).1 (past_kind (Ident h.0) I h.1.0 h.1.1 (type_taken h).0 h.1.2)

pub past_cmp : {i : Bool} {n c d : ℕ} {r : Rule} {s w m : List Token} (o : Cmp) (F : Cmp → Plan r) {q : Plan r} → Onward i n r s (accept is_cmp (λ k. F (cmp_said (said k))) q) w c d → IsSign (cmp_text o) w m → Onward i n r s (F o) m c (less (is_node r (Sign (cmp_text o))) d)
past_cmp o F I h = turned F (cmp_taken o h).1 (past_kind (Sign (cmp_text o)) I h.0 h.1 (cmp_taken o h).0 h.2)

pub past_add : {i : Bool} {n c d : ℕ} {r : Rule} {s w m : List Token} (o : AddSign) (F : ℕ → AddSign → Plan r) {q : Plan r} → Onward i n r s (accept is_add (λ k. F k.start (add_said (said k))) q) w c d → IsSign (add_text o) w m → Onward i n r s (F (place w) o) m c (less (is_node r (Sign (add_text o))) d)
past_add {w = w} o F I h = turned (λ z. F z o) (sym (ap place h.1)) (turned (F h.0.start) (add_taken o h).1 (past_kind (Sign (add_text o)) I h.0 h.1 (add_taken o h).0 h.2))

pub past_mul : {i : Bool} {n c d : ℕ} {r : Rule} {s w m : List Token} (o : MulSign) (F : ℕ → MulSign → Plan r) {q : Plan r} → Onward i n r s (accept is_mul (λ k. F k.start (mul_said (said k))) q) w c d → IsSign (mul_text o) w m → Onward i n r s (F (place w) o) m c (less (is_node r (Sign (mul_text o))) d)
past_mul {w = w} o F I h = turned (λ z. F z o) (sym (ap place h.1)) (turned (F h.0.start) (mul_taken o h).1 (past_kind (Sign (mul_text o)) I h.0 h.1 (mul_taken o h).0 h.2))

pub without : {i : Bool} {n c d : ℕ} {r : Rule} {s m : List Token} {test : Token → Bool} {f : Token → Plan r} {q : Plan r} → Onward i n r s (accept test f q) m c d → begins test m ≡ false → Onward i n r s q m c d
without I h = record { reads_on = λ t e z d. I.reads_on t e z (rejects h d.0, d.1); fails_on = λ k e z d. I.fails_on k e z (fails_without h d.0, d.1) }

pub saw : {i : Bool} {n c d : ℕ} {r : Rule} {s m : List Token} {test : Token → Bool} {p q : Plan r} → Onward i n r s (peek test p q) m c d → begins test m ≡ true → Onward i n r s p m c d
saw I h = record { reads_on = λ t e z d. I.reads_on t e z (sees h d.0, d.1); fails_on = λ k e z d. I.fails_on k e z (fails_seen h d.0, d.1) }

pub missed : {i : Bool} {n c d : ℕ} {r : Rule} {s m : List Token} {test : Token → Bool} {p q : Plan r} → Onward i n r s (peek test p q) m c d → begins test m ≡ false → Onward i n r s q m c d
missed I h = record { reads_on = λ t e z d. I.reads_on t e z (misses h d.0, d.1); fails_on = λ k e z d. I.fails_on k e z (fails_missed h d.0, d.1) }

pub has_read : {i : Bool} {n c d b : ℕ} {r o : Rule} {s m e : List Token} {f : Tree o → Plan r} (a : Tree o) → Onward i n r s (read o f) m c d → Reads (inside i o) n o a m e (entered i r o d) b → Onward i n r s (f a) e c b
has_read {i = i} a I g = record {
  reads_on = λ t e z x. I.reads_on t e z (reads g.0 x.0, ap (left_behind i x.0) g.1 ∙ x.1);
  fails_on = λ k e z x. I.fails_on k e z (fails_then g.0 x.0, ap (left_at i x.0) g.1 ∙ x.1);
}

pub has_nested : {i : Bool} {n j c d b : ℕ} {r o : Rule} {s m e : List Token} {f : Tree o → Plan r} (a : Tree o) → Onward i n r s (nest o f) m c d → n ≡ j + 1 → Reads (inside i o) j o a m e (entered i r o d) b → Onward i n r s (f a) e c b
has_nested {i = i} a I h g = record {
  reads_on = λ t e z x. I.reads_on t e z (nests h g.0 x.0, ap (left_behind i x.0) g.1 ∙ x.1);
  fails_on = λ k e z x. I.fails_on k e z (fails_behind h g.0 x.0, ap (left_at i x.0) g.1 ∙ x.1);
}

pub no_star_here : {i : Bool} {n c d : ℕ} {r : Rule} {s m : List Token} {f : Token → Plan r} {q : Plan r} → Onward i n r s (star f q) m c d → begins_star m ≡ false → Onward i n r s q m c d
no_star_here I h = record { reads_on = λ t e z d. I.reads_on t e z (starless h d.0, d.1); fails_on = λ k e z d. I.fails_on k e z (fails_starless h d.0, d.1) }

pub is_done : {i : Bool} {n c d : ℕ} {r : Rule} {s m : List Token} {t : Tree r} → Onward i n r s (done t) m c d → Reads i n r t s m c d
is_done {d = d} {m = m} {t = t} I = I.reads_on t m d (ends, refl)

-- a phrase that is read with that number left is read with the same one told otherwise
pub read_from : {i : Bool} {n before other now : ℕ} {r : Rule} {t : Tree r} {s e : List Token} → other ≡ before → Reads i n r t s e other now → Reads i n r t s e before now
read_from {i = i} {n = n} {now = now} {r = r} {t = t} {s = s} {e = e} h d = subst (λ (z : ℕ). Reads i n r t s e z now) h d
