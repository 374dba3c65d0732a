-- Reading tokens ends in one way: one place, one cause and one number of nodes that are left.
use Rattle.std.proofs.Common.{◌≡◌, ℕ, ℤ, ◌+◌, List, [], ◌∷◌, Bool, true, false, ◌⊎◌, inl, inr, refl, ap, sym, ◌∙◌, subst, arith}
use Rattle.mesh_query_tokens.specs.declared.tokens.Token.{Token}
use Rattle.mesh_query_grammar.specs.Signs.{IsDay}
use Rattle.mesh_query_grammar.specs.Rules.{Rule, Tree}
use Rattle.mesh_query_grammar.specs.Plans.{Plan, plan}
use Rattle.mesh_query_grammar.specs.Machine.{begins, are_star, begins_star, Runs, ends, accepts, rejects, sees, misses, notes, reads, nests, days, stars, starless, Cause, syntax, nesting, Fails, fails_here, fails_deep, fails_day, fails_behind_day, fails_after, fails_without, fails_seen, fails_missed, fails_noted, fails_first, fails_then, fails_inside, fails_behind, fails_starred, fails_starless}
use Rattle.mesh_query_tokens.specs.declared.tokens.TokenKind.TheVariants.{Text}
use Rattle.mesh_time_days.specs.Moments.{IsDayText}
use Rattle.mesh_time_days.proofs.TextLaws.{one_day}
use Rattle.mesh_query_grammar.proofs.Runs.{refused, Deep}
use Rattle.mesh_query_grammar.proofs.Endings.{all}
use Rattle.mesh_query.specs.Counts.{is_node, less, inside, entered, left_behind, left_at}
use Rattle.mesh_query.proofs.Counted.{Count, Like, Run, Twice, Took, TookStar, parts, Fault, First, Then, FailsBehind, FailsBehindStar, Here, faults}
use Rattle.mesh_query.proofs.Descent.{both}

-- the same tree, the same rest, and as many nodes left
abbrev pub Same : (r : Rule) → Tree r → Tree r → List Token → List Token → Count → Count → Type 0
Same r t b e g F G = (t ≡ b) × (e ≡ g) × Like F G

took_begins : {r : Rule} (test : Token → Bool) (f : Token → Plan r) (n : ℕ) (t : Tree r) (s e : List Token) (F : Count) → Took test f n t s e F → begins test s ≡ true
took_begins test f n t [] e F h = absurd h
took_begins test f n t (k ∷ s) e F h = h.0

took_star_begins : {r : Rule} (f : Token → Plan r) (n : ℕ) (t : Tree r) (s e : List Token) (F : Count) → TookStar f n t s e F → begins_star s ≡ true
took_star_begins f n t [] e F h = absurd h
took_star_begins f n t (k ∷ []) e F h = absurd h
took_star_begins f n t (k ∷ d ∷ []) e F h = absurd h
took_star_begins f n t (k ∷ d ∷ m ∷ s) e F h = h.0

failed_begins : {r : Rule} (test : Token → Bool) (f : Token → Plan r) (k : Cause) (n : ℕ) (s e : List Token) (F : Count) → FailsBehind test f k n s e F → begins test s ≡ true
failed_begins test f k n [] e F h = absurd h
failed_begins test f k n (x ∷ s) e F h = h.0

failed_star_begins : {r : Rule} (f : Token → Plan r) (k : Cause) (n : ℕ) (s e : List Token) (F : Count) → FailsBehindStar f k n s e F → begins_star s ≡ true
failed_star_begins f k n [] e F h = absurd h
failed_star_begins f k n (x ∷ []) e F h = absurd h
failed_star_begins f k n (x ∷ d ∷ []) e F h = absurd h
failed_star_begins f k n (x ∷ d ∷ m ∷ s) e F h = h.0

-- two runs of one plan from one list are one
abbrev One : {r : Rule} → Plan r → ℕ → Tree r → List Token → List Token → Count → Type 0
One {r = r} p l t s e F = (b : Tree r) (g : List Token) (k : Runs l r p b s g) → Same r t b e g F (λ i c. left_behind i k c)

by_run : {l : ℕ} {r : Rule} {p : Plan r} {t b : Tree r} {s e g : List Token} {F G : Count} → One p l t s e F → Run p l b s g G → Same r t b e g F G
by_run {b = b} {g = g} I y = let z = I b g y.0 in (z.0, z.1, λ i c. z.2 i c ∙ sym (y.1 i c))

one_taken : {l : ℕ} {r : Rule} (test : Token → Bool) (f : Token → Plan r) (q : Plan r) {k : Token} {t b : Tree r} {s e g : List Token} {F G : Count} → test k ≡ true → One (f k) l t s e F →
    Took test f l b (k ∷ s) g G ⊎ ((begins test (k ∷ s) ≡ false) × Run q l b (k ∷ s) g G) → Same r t b e g (λ i c. F i (less (is_node r k.kind) c)) G
one_taken {r = r} test f q {k = k} {b = b} {g = g} h I (inl y) = let z = I b g y.1.0 in (z.0, z.1, λ i c. z.2 i (less (is_node r k.kind) c) ∙ sym (y.1.1 i c))
one_taken test f q h I (inr y) = absurd (both h y.0)

one_rejected : {l : ℕ} {r : Rule} (test : Token → Bool) (f : Token → Plan r) (q : Plan r) {t b : Tree r} {s e g : List Token} {F G : Count} → begins test s ≡ false → One q l t s e F →
    Took test f l b s g G ⊎ ((begins test s ≡ false) × Run q l b s g G) → Same r t b e g F G
one_rejected {l = l} test f q {b = b} {s = s} {g = g} {G = G} h I (inl y) = absurd (both (took_begins test f l b s g G y) h)
one_rejected test f q h I (inr y) = by_run I y.1

one_seen : {l : ℕ} {r : Rule} (test : Token → Bool) (p q : Plan r) {t b : Tree r} {s e g : List Token} {F G : Count} → begins test s ≡ true → One p l t s e F →
    ((begins test s ≡ true) × Run p l b s g G) ⊎ ((begins test s ≡ false) × Run q l b s g G) → Same r t b e g F G
one_seen test p q h I (inl y) = by_run I y.1
one_seen test p q h I (inr y) = absurd (both h y.0)

one_missed : {l : ℕ} {r : Rule} (test : Token → Bool) (p q : Plan r) {t b : Tree r} {s e g : List Token} {F G : Count} → begins test s ≡ false → One q l t s e F →
    ((begins test s ≡ true) × Run p l b s g G) ⊎ ((begins test s ≡ false) × Run q l b s g G) → Same r t b e g F G
one_missed test p q h I (inl y) = absurd (both y.0 h)
one_missed test p q h I (inr y) = by_run I y.1

one_starred : {l : ℕ} {r : Rule} (f : Token → Plan r) (q : Plan r) {k d m : Token} {t b : Tree r} {s e g : List Token} {F G : Count} → are_star k d m ≡ true → One (f k) l t s e F →
    TookStar f l b (k ∷ d ∷ m ∷ s) g G ⊎ ((begins_star (k ∷ d ∷ m ∷ s) ≡ false) × Run q l b (k ∷ d ∷ m ∷ s) g G) → Same r t b e g F G
one_starred f q h I (inl y) = by_run I y.1
one_starred f q h I (inr y) = absurd (both h y.0)

one_starless : {l : ℕ} {r : Rule} (f : Token → Plan r) (q : Plan r) {t b : Tree r} {s e g : List Token} {F G : Count} → begins_star s ≡ false → One q l t s e F →
    TookStar f l b s g G ⊎ ((begins_star s ≡ false) × Run q l b s g G) → Same r t b e g F G
one_starless {l = l} f q {b = b} {s = s} {g = g} {G = G} h I (inl y) = absurd (both (took_star_begins f l b s g G y) h)
one_starless f q h I (inr y) = by_run I y.1

-- a part and the rest behind it
one_twice : {j l : ℕ} (q : Rule) {r o : Rule} (f : Tree o → Plan r) {a : Tree o} {t b : Tree r} {s m e g : List Token} {D F G : Count} → One (plan o) j a s m D → One (f a) l t m e F → Twice q o f l j b s g G →
    Same r t b e g (λ i c. F i (D (inside i o) (entered i q o c))) G
one_twice {l = l} q {r = r} {o = o} f {a = a} {b = b} {m = m} {g = g} {F = F} I J y =
    let x = I y.0 y.1 y.2 in
    let rest : Run (f a) l b m g (λ i c. left_behind i y.3 c) =
    subst (λ (z : List Token). Run (f a) l b z g (λ i c. left_behind i y.3 c)) (sym x.1) (subst (λ (z : Tree o). Run (f z) l b y.1 g (λ i c. left_behind i y.3 c)) (sym x.0) (y.3, λ i c. refl)) in
    let w = J b g rest.0 in (
      w.0,
      w.1,
      λ i c.
          ap (F i) (x.2 (inside i o) (entered i q o c)) ∙ w.2 i (left_behind (inside i o) y.2 (entered i q o c)) ∙ sym (rest.1 i (left_behind (inside i o) y.2 (entered i q o c))) ∙ sym (y.4 i c),
    )

one_nested : {n j : ℕ} (q : Rule) {r o : Rule} (f : Tree o → Plan r) {a : Tree o} {t b : Tree r} {s m e g : List Token} {D F G : Count} → One (plan o) j a s m D → One (f a) n t m e F → n ≡ j + 1 → ((h : ℕ) × (n ≡ h + 1) × Twice q o f n h b s g G) →
    Same r t b e g (λ i c. F i (D (inside i o) (entered i q o c))) G
one_nested {n = n} {j = j} q {o = o} f {b = b} {s = s} {g = g} {G = G} I J h y =
    let same : y.0 ≡ j = omega (arith, h, y.1) in
    one_twice q f I J (subst (λ (z : ℕ). Twice q o f n z b s g G) same y.2)

one_day_of : {d c : ℤ} {s x m : List Token} → IsDay d s x → IsDay c s m → (d ≡ c) × (x ≡ m)
one_day_of {d = d} h g =
    let whole : h.1.0 ∷ _ ≡ g.1.0 ∷ _ = sym h.1.1 ∙ g.1.1 in
    let same : h.1.0 ≡ g.1.0 = cc in
    let rest : _ ≡ _ = cc in
    let kinds : Text h.0 ≡ Text g.0 = sym h.1.2 ∙ ap (λ (z : Token). z.kind) same ∙ g.1.2 in
    let texts : h.0 ≡ g.0 = cc in
    (one_day _ _ g.0 (subst (λ (z : List ℕ). IsDayText d z) texts h.2) g.2, rest)

one_behind_day : {l : ℕ} {r : Rule} (f : ℤ → Plan r) {d : ℤ} {t b : Tree r} {s m e g : List Token} {F G : Count} → IsDay d s m → One (f d) l t m e F → ((c : ℤ) × (x : List Token) × IsDay c s x × Run (f c) l b x g G) → Same r t b e g F G
one_behind_day {l = l} f {d = d} {b = b} {g = g} {G = G} h I y =
    let z = one_day_of h y.2 in
    by_run I (subst (λ (v : List Token). Run (f d) l b v g G) (sym z.1) (subst (λ (v : ℤ). Run (f v) l b y.1 g G) (sym z.0) y.3))

pub one_run : {n : ℕ} {r : Rule} {p : Plan r} {t : Tree r} {s e : List Token} (d : Runs n r p t s e) → One p n t s e (λ i c. left_behind i d c)
one_run ends b g k = let y = parts k in (sym y.0, sym y.1, λ i c. sym (y.2 i c))
one_run (accepts {test = test} {f = f} {q = q} h d) b g k = one_taken test f q h (one_run d) (parts k)
one_run (rejects {test = test} {f = f} {q = q} h d) b g k = one_rejected test f q h (one_run d) (parts k)
one_run (sees {test = test} {p = p} {q = q} h d) b g k = one_seen test p q h (one_run d) (parts k)
one_run (misses {test = test} {p = p} {q = q} h d) b g k = one_missed test p q h (one_run d) (parts k)
one_run (notes d) b g k = by_run (one_run d) (parts k)
one_run (reads {r = r} {f = f} d w) b g k = one_twice r f (one_run d) (one_run w) (parts k)
one_run (nests {r = r} {f = f} h d w) b g k = one_nested r f (one_run d) (one_run w) h (parts k)
one_run (days {f = f} c h d) b g k = one_behind_day f h (one_run d) (parts k)
one_run (stars {f = f} {q = q} h d) b g k = one_starred f q h (one_run d) (parts k)
one_run (starless {f = f} {q = q} h d) b g k = one_starless f q h (one_run d) (parts k)

-- what fails isn't read
pub clash : {c : Cause} {n : ℕ} {o : Rule} {a : Tree o} {s e m : List Token} → Fails c n o (plan o) s e → Runs n o (plan o) a s m → ⊥
clash {c = c} {n = n} {o = o} {a = a} {e = e} {m = m} d k =
    let I = refused all d (all o).1 in
    I.no_run e refl n a m (as_deep c) (subst (λ (z : List Token). Runs n o (plan o) a z m) I.whole k)
  where
    as_deep : (c : Cause) → Deep c n n
    as_deep syntax = tt
    as_deep nesting = refl

-- the same cause and place, and as many nodes left
abbrev pub SameFault : Cause → Cause → List Token → List Token → Count → Count → Type 0
SameFault b k e g F G = (b ≡ k) × (e ≡ g) × Like F G

-- two failed runs of one plan from one list are one
abbrev OneFault : {r : Rule} → Plan r → Cause → ℕ → List Token → List Token → Count → Type 0
OneFault {r = r} p b n s e F = (k : Cause) (g : List Token) (d : Fails k n r p s g) → SameFault b k e g F (λ i c. left_at i d c)

by_fault : {b k : Cause} {n : ℕ} {r : Rule} {p : Plan r} {s e g : List Token} {F G : Count} → OneFault p b n s e F → Fault p k n s g G → SameFault b k e g F G
by_fault {k = k} {g = g} I y = let z = I k g y.0 in (z.0, z.1, λ i c. z.2 i c ∙ sym (y.1 i c))

fault_behind : {b k : Cause} {n : ℕ} {r : Rule} (test : Token → Bool) (f : Token → Plan r) (q : Plan r) {x : Token} {s e g : List Token} {F G : Count} → test x ≡ true → OneFault (f x) b n s e F →
    FailsBehind test f k n (x ∷ s) g G ⊎ ((begins test (x ∷ s) ≡ false) × Fault q k n (x ∷ s) g G) → SameFault b k e g (λ i c. F i (less (is_node r x.kind) c)) G
fault_behind {k = k} {r = r} test f q {x = x} {g = g} h I (inl y) = let z = I k g y.1.0 in (z.0, z.1, λ i c. z.2 i (less (is_node r x.kind) c) ∙ sym (y.1.1 i c))
fault_behind test f q h I (inr y) = absurd (both h y.0)

fault_without : {b k : Cause} {n : ℕ} {r : Rule} (test : Token → Bool) (f : Token → Plan r) (q : Plan r) {s e g : List Token} {F G : Count} → begins test s ≡ false → OneFault q b n s e F →
    FailsBehind test f k n s g G ⊎ ((begins test s ≡ false) × Fault q k n s g G) → SameFault b k e g F G
fault_without {k = k} {n = n} test f q {s = s} {g = g} {G = G} h I (inl y) = absurd (both (failed_begins test f k n s g G y) h)
fault_without test f q h I (inr y) = by_fault I y.1

fault_seen : {b k : Cause} {n : ℕ} {r : Rule} (test : Token → Bool) (p q : Plan r) {s e g : List Token} {F G : Count} → begins test s ≡ true → OneFault p b n s e F →
    ((begins test s ≡ true) × Fault p k n s g G) ⊎ ((begins test s ≡ false) × Fault q k n s g G) → SameFault b k e g F G
fault_seen test p q h I (inl y) = by_fault I y.1
fault_seen test p q h I (inr y) = absurd (both h y.0)

fault_missed : {b k : Cause} {n : ℕ} {r : Rule} (test : Token → Bool) (p q : Plan r) {s e g : List Token} {F G : Count} → begins test s ≡ false → OneFault q b n s e F →
    ((begins test s ≡ true) × Fault p k n s g G) ⊎ ((begins test s ≡ false) × Fault q k n s g G) → SameFault b k e g F G
fault_missed test p q h I (inl y) = absurd (both y.0 h)
fault_missed test p q h I (inr y) = by_fault I y.1

fault_starred : {b k : Cause} {n : ℕ} {r : Rule} (f : Token → Plan r) (q : Plan r) {x d m : Token} {s e g : List Token} {F G : Count} → are_star x d m ≡ true → OneFault (f x) b n s e F →
    FailsBehindStar f k n (x ∷ d ∷ m ∷ s) g G ⊎ ((begins_star (x ∷ d ∷ m ∷ s) ≡ false) × Fault q k n (x ∷ d ∷ m ∷ s) g G) → SameFault b k e g F G
fault_starred f q h I (inl y) = by_fault I y.1
fault_starred f q h I (inr y) = absurd (both h y.0)

fault_starless : {b k : Cause} {n : ℕ} {r : Rule} (f : Token → Plan r) (q : Plan r) {s e g : List Token} {F G : Count} → begins_star s ≡ false → OneFault q b n s e F →
    FailsBehindStar f k n s g G ⊎ ((begins_star s ≡ false) × Fault q k n s g G) → SameFault b k e g F G
fault_starless {k = k} {n = n} f q {s = s} {g = g} {G = G} h I (inl y) = absurd (both (failed_star_begins f k n s g G y) h)
fault_starless f q h I (inr y) = by_fault I y.1

-- the part fails, and so do both
fault_first : {b k : Cause} {n j : ℕ} (q : Rule) {r o : Rule} (f : Tree o → Plan r) {s e g : List Token} {D G : Count} → ((m : List Token) (a : Tree o) → Runs j o (plan o) a s m → ⊥) → OneFault (plan o) b j s e D → First q o k j s g G ⊎ Then q o f k n j s g G →
    SameFault b k e g (λ i c. D (inside i o) (entered i q o c)) G
fault_first {k = k} q {o = o} f {g = g} h I (inl y) = let z = I k g y.0 in (z.0, z.1, λ i c. z.2 (inside i o) (entered i q o c) ∙ sym (y.1 i c))
fault_first q f h I (inr y) = absurd (h y.1 y.0 y.2)

-- the part is read, and the rest fails
fault_then : {b k : Cause} {n j : ℕ} (q : Rule) {r o : Rule} (f : Tree o → Plan r) {a : Tree o} {s m e g : List Token} {D F G : Count} → Runs j o (plan o) a s m → One (plan o) j a s m D → OneFault (f a) b n m e F → First q o k j s g G ⊎ Then q o f k n j s g G →
    SameFault b k e g (λ i c. F i (D (inside i o) (entered i q o c))) G
fault_then q f d I J (inl y) = absurd (clash y.0 d)
fault_then {k = k} {n = n} q {r = r} {o = o} f {a = a} {m = m} {g = g} {F = F} d I J (inr y) =
    let x = I y.0 y.1 y.2 in
    let rest : Fault (f a) k n m g (λ i c. left_at i y.3 c) =
    subst (λ (z : List Token). Fault (f a) k n z g (λ i c. left_at i y.3 c)) (sym x.1) (subst (λ (z : Tree o). Fault (f z) k n y.1 g (λ i c. left_at i y.3 c)) (sym x.0) (y.3, λ i c. refl)) in
    let w = J k g rest.0 in (
      w.0,
      w.1,
      λ i c.
          ap (F i) (x.2 (inside i o) (entered i q o c)) ∙ w.2 i (left_behind (inside i o) y.2 (entered i q o c)) ∙ sym (rest.1 i (left_behind (inside i o) y.2 (entered i q o c))) ∙ sym (y.4 i c),
    )

-- what a failed run that goes deeper is made of
abbrev Deeper : {r : Rule} (q o : Rule) (f : Tree o → Plan r) → Cause → ℕ → List Token → List Token → Count → Type 0
Deeper q o f k n s g G = ((n ≡ 0) × Here nesting k s g G) ⊎ ((j : ℕ) × (n ≡ j + 1) × (First q o k j s g G ⊎ Then q o f k n j s g G))

fault_deep : {k : Cause} {n : ℕ} (q : Rule) {r o : Rule} (f : Tree o → Plan r) {s g : List Token} {G : Count} → n ≡ 0 → Deeper q o f k n s g G → SameFault nesting k s g (λ i c. c) G
fault_deep q f h (inl y) = (sym y.1.0, sym y.1.1, λ i c. sym (y.1.2 i c))
fault_deep q f h (inr y) = absurd (omega (arith, h, y.1))

-- the part one deeper
inner : {k : Cause} {n j : ℕ} (q : Rule) {r o : Rule} (f : Tree o → Plan r) {s g : List Token} {G : Count} → n ≡ j + 1 → Deeper q o f k n s g G → First q o k j s g G ⊎ Then q o f k n j s g G
inner q f h (inl y) = absurd (omega (arith, h, y.0))
inner {k = k} {n = n} {j = j} q {o = o} f {s = s} {g = g} {G = G} h (inr y) =
    let same : y.0 ≡ j = omega (arith, h, y.1) in
    subst (λ (z : ℕ). First q o k z s g G ⊎ Then q o f k n z s g G) same y.2

fault_no_day : {k : Cause} {n : ℕ} {r : Rule} (f : ℤ → Plan r) {s g : List Token} {G : Count} → ((d : ℤ) (m : List Token) → IsDay d s m → ⊥) →
    (((d : ℤ) (m : List Token) → IsDay d s m → ⊥) × Here syntax k s g G) ⊎ ((d : ℤ) × (m : List Token) × IsDay d s m × Fault (f d) k n m g G) → SameFault syntax k s g (λ i c. c) G
fault_no_day f h (inl y) = (sym y.1.0, sym y.1.1, λ i c. sym (y.1.2 i c))
fault_no_day f h (inr y) = absurd (h y.0 y.1 y.2)

fault_behind_day : {b k : Cause} {n : ℕ} {r : Rule} (f : ℤ → Plan r) {d : ℤ} {s m e g : List Token} {F G : Count} → IsDay d s m → OneFault (f d) b n m e F →
    (((d : ℤ) (m : List Token) → IsDay d s m → ⊥) × Here syntax k s g G) ⊎ ((d : ℤ) × (m : List Token) × IsDay d s m × Fault (f d) k n m g G) → SameFault b k e g F G
fault_behind_day f h I (inl y) = absurd (y.0 _ _ h)
fault_behind_day {k = k} {n = n} f {d = d} {g = g} {G = G} h I (inr y) =
    let z = one_day_of h y.2 in
    by_fault I (subst (λ (v : List Token). Fault (f d) k n v g G) (sym z.1) (subst (λ (v : ℤ). Fault (f v) k n y.1 g G) (sym z.0) y.3))

pub one_fault : {b : Cause} {n : ℕ} {r : Rule} {p : Plan r} {s e : List Token} (d : Fails b n r p s e) → OneFault p b n s e (λ i c. left_at i d c)
one_fault fails_here k g x = let y = faults x in (sym y.0, sym y.1, λ i c. sym (y.2 i c))
one_fault (fails_deep {r = r} {f = f} h) k g x = fault_deep r f h (faults x)
one_fault (fails_day {f = f} h) k g x = fault_no_day f h (faults x)
one_fault (fails_behind_day {f = f} c h d) k g x = fault_behind_day f h (one_fault d) (faults x)
one_fault (fails_after {test = test} {f = f} {q = q} h d) k g x = fault_behind test f q h (one_fault d) (faults x)
one_fault (fails_without {test = test} {f = f} {q = q} h d) k g x = fault_without test f q h (one_fault d) (faults x)
one_fault (fails_seen {test = test} {p = p} {q = q} h d) k g x = fault_seen test p q h (one_fault d) (faults x)
one_fault (fails_missed {test = test} {p = p} {q = q} h d) k g x = fault_missed test p q h (one_fault d) (faults x)
one_fault (fails_noted d) k g x = by_fault (one_fault d) (faults x)
one_fault (fails_first {r = r} {f = f} d) k g x = fault_first r f (λ m a w. clash d w) (one_fault d) (faults x)
one_fault (fails_then {r = r} {f = f} d w) k g x = fault_then r f d (one_run d) (one_fault w) (faults x)
one_fault (fails_inside {r = r} {f = f} h d) k g x = fault_first r f (λ m a w. clash d w) (one_fault d) (inner r f h (faults x))
one_fault (fails_behind {r = r} {f = f} h d w) k g x = fault_then r f d (one_run d) (one_fault w) (inner r f h (faults x))
one_fault (fails_starred {f = f} {q = q} h d) k g x = fault_starred f q h (one_fault d) (faults x)
one_fault (fails_starless {f = f} {q = q} h d) k g x = fault_starless f q h (one_fault d) (faults x)
