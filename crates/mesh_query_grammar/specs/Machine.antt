-- The runs that the plans have, and those that fail.
use Rattle.std.specs.Prelude.{◌≡◌, ℕ, ℤ, ◌+◌, List, [], ◌∷◌, codes, Bool, true, false, ◌&&◌, Option, Some, None}
use Rattle.mesh_query_tokens.specs.declared.tokens.Token.{Token}
use Rattle.mesh_query_grammar.specs.Signs.{place, IsDay}
use Rattle.mesh_query_grammar.specs.Rules.{Rule, Tree}
use Rattle.mesh_query_grammar.specs.Plans.{Plan, done, stuck, accept, peek, note, read, nest, day, star, plan, is_name, is_sign}

-- the next token, or the end
abbrev pub next : List Token → Option Token
next [] = None
next (k ∷ ks) = Some k

abbrev pub passes : (Token → Bool) → Option Token → Bool
passes test None = false
passes test (Some k) = test k

-- the next token passes the test
abbrev pub begins : (Token → Bool) → List Token → Bool
begins test s = passes test (next s)

-- a name, a dot and a star
abbrev pub are_star : Token → Token → Token → Bool
are_star k d m = is_name k && is_sign (codes ".") d && is_sign (codes "*") m

abbrev pub begins_star : List Token → Bool
begins_star (k ∷ d ∷ m ∷ s) = are_star k d m
begins_star _ = false

-- From the first list on what is left of a phrase is read by the plan, which gives the tree, up to the second list. The
-- number is how many parentheses, CASEs, NOTs and minus signs may still be opened.
pub data Runs : ℕ → (r : Rule) → Plan r → Tree r → List Token → List Token → Type 0 where
  ends : {n : ℕ} {r : Rule} {t : Tree r} {s : List Token} → Runs n r (done t) t s s
  accepts : {n : ℕ} {r : Rule} {test : Token → Bool} {f : Token → Plan r} {q : Plan r} {t : Tree r} {k : Token} {s e : List Token} →
      test k ≡ true → Runs n r (f k) t s e → Runs n r (accept test f q) t (k ∷ s) e
  rejects : {n : ℕ} {r : Rule} {test : Token → Bool} {f : Token → Plan r} {q : Plan r} {t : Tree r} {s e : List Token} →
      begins test s ≡ false → Runs n r q t s e → Runs n r (accept test f q) t s e
  sees : {n : ℕ} {r : Rule} {test : Token → Bool} {p q : Plan r} {t : Tree r} {s e : List Token} →
      begins test s ≡ true → Runs n r p t s e → Runs n r (peek test p q) t s e
  misses : {n : ℕ} {r : Rule} {test : Token → Bool} {p q : Plan r} {t : Tree r} {s e : List Token} →
      begins test s ≡ false → Runs n r q t s e → Runs n r (peek test p q) t s e
  notes : {n : ℕ} {r : Rule} {f : ℕ → Plan r} {t : Tree r} {s e : List Token} →
      Runs n r (f (place s)) t s e → Runs n r (note f) t s e
  reads : {n : ℕ} {r o : Rule} {f : Tree o → Plan r} {a : Tree o} {t : Tree r} {s m e : List Token} →
      Runs n o (plan o) a s m → Runs n r (f a) t m e → Runs n r (read o f) t s e
  nests : {n i : ℕ} {r o : Rule} {f : Tree o → Plan r} {a : Tree o} {t : Tree r} {s m e : List Token} →
      n ≡ i + 1 → Runs i o (plan o) a s m → Runs n r (f a) t m e → Runs n r (nest o f) t s e
  days : {n : ℕ} {r : Rule} {f : ℤ → Plan r} {t : Tree r} {s m e : List Token} (d : ℤ) →
      IsDay d s m → Runs n r (f d) t m e → Runs n r (day f) t s e
  stars : {n : ℕ} {r : Rule} {f : Token → Plan r} {q : Plan r} {t : Tree r} {k d m : Token} {s e : List Token} →
      are_star k d m ≡ true → Runs n r (f k) t s e → Runs n r (star f q) t (k ∷ d ∷ m ∷ s) e
  starless : {n : ℕ} {r : Rule} {f : Token → Plan r} {q : Plan r} {t : Tree r} {s e : List Token} →
      begins_star s ≡ false → Runs n r q t s e → Runs n r (star f q) t s e

-- from the first list a phrase of the rule is read, up to the second
abbrev pub Reads : ℕ → (r : Rule) → Tree r → List Token → List Token → Type 0
Reads n r t s e = Runs n r (plan r) t s e

-- what is wrong at a token
pub data Cause : Type 0 where
  syntax : Cause
  nesting : Cause

-- From the first list on nothing is read by the plan, and the second list begins with what is at fault.
pub data Fails : Cause → ℕ → (r : Rule) → Plan r → List Token → List Token → Type 0 where
  fails_here : {n : ℕ} {r : Rule} {s : List Token} → Fails syntax n r stuck s s
  fails_deep : {n : ℕ} {r o : Rule} {f : Tree o → Plan r} {s : List Token} → n ≡ 0 → Fails nesting n r (nest o f) s s
  fails_day : {n : ℕ} {r : Rule} {f : ℤ → Plan r} {s : List Token} → ((d : ℤ) (m : List Token) → IsDay d s m → ⊥) → Fails syntax n r (day f) s s
  fails_behind_day : {c : Cause} {n : ℕ} {r : Rule} {f : ℤ → Plan r} {s m e : List Token} (d : ℤ) →
      IsDay d s m → Fails c n r (f d) m e → Fails c n r (day f) s e
  fails_after : {c : Cause} {n : ℕ} {r : Rule} {test : Token → Bool} {f : Token → Plan r} {q : Plan r} {k : Token} {s e : List Token} →
      test k ≡ true → Fails c n r (f k) s e → Fails c n r (accept test f q) (k ∷ s) e
  fails_without : {c : Cause} {n : ℕ} {r : Rule} {test : Token → Bool} {f : Token → Plan r} {q : Plan r} {s e : List Token} →
      begins test s ≡ false → Fails c n r q s e → Fails c n r (accept test f q) s e
  fails_seen : {c : Cause} {n : ℕ} {r : Rule} {test : Token → Bool} {p q : Plan r} {s e : List Token} →
      begins test s ≡ true → Fails c n r p s e → Fails c n r (peek test p q) s e
  fails_missed : {c : Cause} {n : ℕ} {r : Rule} {test : Token → Bool} {p q : Plan r} {s e : List Token} →
      begins test s ≡ false → Fails c n r q s e → Fails c n r (peek test p q) s e
  fails_noted : {c : Cause} {n : ℕ} {r : Rule} {f : ℕ → Plan r} {s e : List Token} →
      Fails c n r (f (place s)) s e → Fails c n r (note f) s e
  fails_first : {c : Cause} {n : ℕ} {r o : Rule} {f : Tree o → Plan r} {s e : List Token} →
      Fails c n o (plan o) s e → Fails c n r (read o f) s e
  fails_then : {c : Cause} {n : ℕ} {r o : Rule} {f : Tree o → Plan r} {a : Tree o} {s m e : List Token} →
      Runs n o (plan o) a s m → Fails c n r (f a) m e → Fails c n r (read o f) s e
  fails_inside : {c : Cause} {n i : ℕ} {r o : Rule} {f : Tree o → Plan r} {s e : List Token} →
      n ≡ i + 1 → Fails c i o (plan o) s e → Fails c n r (nest o f) s e
  fails_behind : {c : Cause} {n i : ℕ} {r o : Rule} {f : Tree o → Plan r} {a : Tree o} {s m e : List Token} →
      n ≡ i + 1 → Runs i o (plan o) a s m → Fails c n r (f a) m e → Fails c n r (nest o f) s e
  fails_starred : {c : Cause} {n : ℕ} {r : Rule} {f : Token → Plan r} {q : Plan r} {k d m : Token} {s e : List Token} →
      are_star k d m ≡ true → Fails c n r (f k) s e → Fails c n r (star f q) (k ∷ d ∷ m ∷ s) e
  fails_starless : {c : Cause} {n : ℕ} {r : Rule} {f : Token → Plan r} {q : Plan r} {s e : List Token} →
      begins_star s ≡ false → Fails c n r q s e → Fails c n r (star f q) s e
