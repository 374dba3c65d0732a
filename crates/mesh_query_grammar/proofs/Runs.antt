-- A run is the only one on what it reads and the token after it. A run that fails is begun by some phrase, and no run
-- goes on from what it read and the token at fault.
use Rattle.std.proofs.Common.{◌≡◌, ℕ, ℤ, ◌+◌, List, [], ◌∷◌, ◌++◌, codes, Bool, true, false, ◌&&◌, Some, ◌⊎◌, inl, inr, refl, ap, sym, ◌∙◌, subst, arith}
use Rattle.std.proofs.lemmas.Bool.{false_from_ne_true as not_star}
use Rattle.mesh_list.proofs.Ascends.{and_left, and_right}
use Rattle.mesh_query_tokens.specs.declared.tokens.Token.{Token}
use Rattle.mesh_query_tokens.specs.declared.tokens.TokenKind.TheVariants.{Text}
use Rattle.mesh_time_days.specs.Moments.{IsDayText}
use Rattle.mesh_time_days.proofs.TextLaws.{one_day}
use Rattle.mesh_query_grammar.specs.Signs.{place, IsDay}
use Rattle.mesh_query_grammar.specs.Rules.{Rule, Tree}
use Rattle.mesh_query_grammar.specs.Plans.{Plan, done, stuck, accept, peek, note, read, nest, day, star, plan, is_name, is_sign}
use Rattle.mesh_query_grammar.specs.Machine.{next, passes, begins, are_star, begins_star, Runs, ends, accepts, rejects, sees, misses, notes, reads, nests, days, stars, starless, Cause, syntax, nesting, Fails, fails_here, fails_deep, fails_day, fails_behind_day, fails_after, fails_without, fails_seen, fails_missed, fails_noted, fails_first, fails_then, fails_inside, fails_behind, fails_starred, fails_starless}

-- tokens before any rest
abbrev pub Front : Type 0
Front = List Token → List Token

pub data Shape : Front → Type 0 where
  nothing : Shape (λ x. x)
  token : {u : Front} (k : Token) → Shape u → Shape (λ x. k ∷ u x)

pub behind : {u v : Front} → Shape u → Shape v → Shape (λ x. u (v x))
behind nothing b = b
behind (token k a) b = token k (behind a b)

pub listed : {u : Front} → Shape u → (l : List Token) × ((x : List Token) → u x ≡ l ++ x)
listed nothing = ([], λ x. refl)
listed (token k a) = let h = listed a in (k ∷ h.0, λ x. ap (λ z. k ∷ z) (h.1 x))

pub keeps : {u : Front} → Shape u → (x y : List Token) → next x ≡ next y → next (u x) ≡ next (u y)
keeps nothing x y h = h
keeps (token k a) x y h = refl

pub same_place : (x y : List Token) → next x ≡ next y → place x ≡ place y
same_place [] [] h = refl
same_place [] (k ∷ y) h = absurd cc
same_place (k ∷ x) [] h = absurd cc
same_place (k ∷ x) (j ∷ y) h = let e : k ≡ j = cc in ap (λ (z : Token). z.start) e

-- if it begins with a token, the place is the token's
abbrev pub Notes : ℕ → Front → Type 0
Notes at u = (k : Token) (v : Front) → u ≡ (λ x. k ∷ v x) → at ≡ k.start

-- What a plan can say, whatever it sees.
pub data Says : ℕ → (r : Rule) → Plan r → Tree r → Front → Type 0 where
  says_done : {n : ℕ} {r : Rule} {t : Tree r} → Says n r (done t) t (λ x. x)
  says_accept : {n : ℕ} {r : Rule} {test : Token → Bool} {f : Token → Plan r} {q : Plan r} {t : Tree r} {u : Front} (k : Token) →
      test k ≡ true → Says n r (f k) t u → Says n r (accept test f q) t (λ x. k ∷ u x)
  says_reject : {n : ℕ} {r : Rule} {test : Token → Bool} {f : Token → Plan r} {q : Plan r} {t : Tree r} {u : Front} →
      Says n r q t u → Says n r (accept test f q) t u
  says_see : {n : ℕ} {r : Rule} {test : Token → Bool} {p q : Plan r} {t : Tree r} {u : Front} →
      Says n r p t u → Says n r (peek test p q) t u
  says_miss : {n : ℕ} {r : Rule} {test : Token → Bool} {p q : Plan r} {t : Tree r} {u : Front} →
      Says n r q t u → Says n r (peek test p q) t u
  says_note : {n : ℕ} {r : Rule} {f : ℕ → Plan r} {t : Tree r} {u : Front} (at : ℕ) →
      Notes at u → Says n r (f at) t u → Says n r (note f) t u
  says_read : {n : ℕ} {r o : Rule} {f : Tree o → Plan r} {a : Tree o} {t : Tree r} {u v : Front} →
      Says n o (plan o) a u → Says n r (f a) t v → Says n r (read o f) t (λ x. u (v x))
  says_nest : {n i : ℕ} {r o : Rule} {f : Tree o → Plan r} {a : Tree o} {t : Tree r} {u v : Front} →
      n ≡ i + 1 → Says i o (plan o) a u → Says n r (f a) t v → Says n r (nest o f) t (λ x. u (v x))
  says_day : {n : ℕ} {r : Rule} {f : ℤ → Plan r} {t : Tree r} {u : Front} (d : ℤ) (text : List ℕ) (k : Token) →
      k.kind ≡ Text text → IsDayText d text → Says n r (f d) t u → Says n r (day f) t (λ x. k ∷ u x)
  says_star : {n : ℕ} {r : Rule} {f : Token → Plan r} {q : Plan r} {t : Tree r} {u : Front} (k d m : Token) →
      are_star k d m ≡ true → Says n r (f k) t u → Says n r (star f q) t (λ x. k ∷ d ∷ m ∷ u x)
  says_starless : {n : ℕ} {r : Rule} {f : Token → Plan r} {q : Plan r} {t : Tree r} {u : Front} →
      Says n r q t u → Says n r (star f q) t u

pub shape : {n : ℕ} {r : Rule} {p : Plan r} {t : Tree r} {u : Front} → Says n r p t u → Shape u
shape says_done = nothing
shape (says_accept k h d) = token k (shape d)
shape (says_reject d) = shape d
shape (says_see d) = shape d
shape (says_miss d) = shape d
shape (says_note at h d) = shape d
shape (says_read d g) = behind (shape d) (shape g)
shape (says_nest h d g) = behind (shape d) (shape g)
shape (says_day d text k h i g) = token k (shape g)
shape (says_star k d m h g) = token k (token d (token m (shape g)))
shape (says_starless d) = shape d

pub deeper : {n : ℕ} {r : Rule} {p : Plan r} {t : Tree r} {u : Front} → Says n r p t u → Says (n + 1) r p t u
deeper says_done = says_done
deeper (says_accept k h d) = says_accept k h (deeper d)
deeper (says_reject d) = says_reject (deeper d)
deeper (says_see d) = says_see (deeper d)
deeper (says_miss d) = says_miss (deeper d)
deeper (says_note at h d) = says_note at h (deeper d)
deeper (says_read d g) = says_read (deeper d) (deeper g)
deeper (says_nest h d g) = says_nest (ap (λ (z : ℕ). z + 1) h) (deeper d) (deeper g)
deeper (says_day d text k h i g) = says_day d text k h i (deeper g)
deeper (says_star k d m h g) = says_star k d m h (deeper g)
deeper (says_starless d) = says_starless (deeper d)

-- what a run of a plan is made of
abbrev pub Took : {r : Rule} → (Token → Bool) → (Token → Plan r) → ℕ → Tree r → List Token → List Token → Type 0
Took test f n t [] e = ⊥
Took {r = r} test f n t (k ∷ s) e = (test k ≡ true) × Runs n r (f k) t s e

abbrev pub TookStar : {r : Rule} → (Token → Plan r) → ℕ → Tree r → List Token → List Token → Type 0
TookStar {r = r} f n t (k ∷ d ∷ m ∷ s) e = (are_star k d m ≡ true) × Runs n r (f k) t s e
TookStar f n t _ e = ⊥

abbrev pub Parts : {r : Rule} → Plan r → ℕ → Tree r → List Token → List Token → Type 0
Parts (done a) n t s e = (t ≡ a) × (e ≡ s)
Parts stuck n t s e = ⊥
Parts {r = r} (accept test f q) n t s e = Took test f n t s e ⊎ ((begins test s ≡ false) × Runs n r q t s e)
Parts {r = r} (peek test p q) n t s e = ((begins test s ≡ true) × Runs n r p t s e) ⊎ ((begins test s ≡ false) × Runs n r q t s e)
Parts {r = r} (note f) n t s e = Runs n r (f (place s)) t s e
Parts {r = r} (read o f) n t s e = (a : Tree o) × (m : List Token) × Runs n o (plan o) a s m × Runs n r (f a) t m e
Parts {r = r} (nest o f) n t s e = (i : ℕ) × (n ≡ i + 1) × (a : Tree o) × (m : List Token) × Runs i o (plan o) a s m × Runs n r (f a) t m e
Parts {r = r} (day f) n t s e = (d : ℤ) × (m : List Token) × IsDay d s m × Runs n r (f d) t m e
Parts {r = r} (star f q) n t s e = TookStar f n t s e ⊎ ((begins_star s ≡ false) × Runs n r q t s e)

pub parts : {n : ℕ} {r : Rule} {p : Plan r} {t : Tree r} {s e : List Token} → Runs n r p t s e → Parts p n t s e
parts ends = (refl, refl)
parts (accepts h d) = inl (h, d)
parts (rejects h d) = inr (h, d)
parts (sees h d) = inl (h, d)
parts (misses h d) = inr (h, d)
parts (notes d) = d
parts (reads {a = a} {m = m} d g) = (a, m, d, g)
parts (nests {i = i} {a = a} {m = m} h d g) = (i, h, a, m, d, g)
parts (days {m = m} d h g) = (d, m, h, g)
parts (stars h d) = inl (h, d)
parts (starless h d) = inr (h, d)

took_begins : {r : Rule} (test : Token → Bool) (f : Token → Plan r) (n : ℕ) (t : Tree r) (s e : List Token) → Took test f n t s e → begins test s ≡ true
took_begins test f n t [] e h = absurd h
took_begins test f n t (k ∷ s) e h = h.0

took_star_begins : {r : Rule} (f : Token → Plan r) (n : ℕ) (t : Tree r) (s e : List Token) → TookStar f n t s e → begins_star s ≡ true
took_star_begins f n t [] e h = absurd h
took_star_begins f n t (k ∷ []) e h = absurd h
took_star_begins f n t (k ∷ d ∷ []) e h = absurd h
took_star_begins f n t (k ∷ d ∷ m ∷ s) e h = h.0

both : {b : Bool} → b ≡ true → b ≡ false → ⊥
both h g = cc

same_begin : (test : Token → Bool) (x y : List Token) → next x ≡ next y → begins test x ≡ begins test y
same_begin test x y h = ap (passes test) h

same_front : {u : Front} {s e : List Token} → Shape u → s ≡ u e → (x : List Token) → next x ≡ next e → next (u x) ≡ next s
same_front {e = e} a h x g = keeps a x e g ∙ sym (ap next h)

same_test : {u : Front} {s e : List Token} (test : Token → Bool) → Shape u → s ≡ u e → (x : List Token) → next x ≡ next e → begins test (u x) ≡ begins test s
same_test {u = u} {s = s} test a h x g = same_begin test (u x) s (same_front a h x g)

-- the place is that of the first token of the run
first_place : {u : Front} {s : List Token} (e : List Token) → s ≡ u e → Notes (place s) u
first_place e h k v g = ap place h ∙ ap (λ (z : Front). place (z e)) g

seen_third : {s : List Token} (k c m : Token) (e : List Token) → s ≡ k ∷ c ∷ e → begins_star s ≡ false → Some m ≡ next e → are_star k c m ≡ true → ⊥
seen_third k c m [] h f g i = absurd cc
seen_third k c m (j ∷ e) h f g i =
    let same : m ≡ j = cc in
    both i (ap (λ (z : Token). are_star k c z) same ∙ sym (ap begins_star h) ∙ f)

pub record Settled (n : ℕ) (r : Rule) (p : Plan r) (t : Tree r) (s e : List Token) : Type 0 where
  pub taken : Front
  pub whole : s ≡ taken e
  pub says : Says n r p t taken
  pub only : (x : List Token) → next x ≡ next e → (m : ℕ) (b : Tree r) (f : List Token) → Runs m r p b (taken x) f → (b ≡ t) × (f ≡ x)

-- two runs, one behind the other
chained : {n j l : ℕ} {r o : Rule} {p : Plan o} (f : Tree o → Plan r) {a b : Tree o} {t c : Tree r} {s m e : List Token} {i : ℕ} (I : Settled i o p a s m) (L : Settled n r (f a) t m e) (x : List Token) →
    next x ≡ next e → (w g : List Token) → Runs j o p b (I.taken (L.taken x)) w → Runs l r (f b) c w g → (c ≡ t) × (g ≡ x)
chained {j = j} {l = l} {r = r} f {a = a} {b = b} {c = c} {e = e} I L x h w g d k =
    let at = I.only (L.taken x) (same_front (shape L.says) L.whole x h) j b w d in
    L.only x h l c g (subst (λ (z : List Token). Runs l r (f a) c z g) at.1 (subst (λ (z : Tree _). Runs l r (f z) c w g) at.0 k))

-- the day of a text, and what stands behind it
one_text : {k : Token} {text : List ℕ} {d c : ℤ} {x m : List Token} → k.kind ≡ Text text → IsDayText d text → IsDay c (k ∷ x) m → (c ≡ d) × (m ≡ x)
one_text {k = k} {text = text} {d = d} {c = c} {x = x} {m = m} h i g =
    let same : k ≡ g.1.0 = let e = g.1.1 in cc in
    let rest : m ≡ x = let e = g.1.1 in cc in
    let kinds : Text text ≡ Text g.0 = sym h ∙ ap (λ (z : Token). z.kind) same ∙ g.1.2 in
    let texts : text ≡ g.0 = cc in
    (one_day c d g.0 g.2 (subst (λ (z : List ℕ). IsDayText d z) texts i), rest)

only_accept : {n : ℕ} {r : Rule} (test : Token → Bool) (f : Token → Plan r) (q : Plan r) {k : Token} {b : Tree r} {x g : List Token} →
    test k ≡ true → Parts (accept test f q) n b (k ∷ x) g → Runs n r (f k) b x g
only_accept test f q h (inl d) = d.1
only_accept test f q h (inr d) = absurd (both h d.0)

only_reject : {n : ℕ} {r : Rule} (test : Token → Bool) (f : Token → Plan r) (q : Plan r) {b : Tree r} {x g : List Token} →
    begins test x ≡ false → Parts (accept test f q) n b x g → Runs n r q b x g
only_reject {n = n} test f q {b = b} {x = x} {g = g} h (inl d) = absurd (both (took_begins test f n b x g d) h)
only_reject test f q h (inr d) = d.1

only_see : {n : ℕ} {r : Rule} (test : Token → Bool) (p q : Plan r) {b : Tree r} {x g : List Token} →
    begins test x ≡ true → Parts (peek test p q) n b x g → Runs n r p b x g
only_see test p q h (inl d) = d.1
only_see test p q h (inr d) = absurd (both h d.0)

only_miss : {n : ℕ} {r : Rule} (test : Token → Bool) (p q : Plan r) {b : Tree r} {x g : List Token} →
    begins test x ≡ false → Parts (peek test p q) n b x g → Runs n r q b x g
only_miss test p q h (inl d) = absurd (both d.0 h)
only_miss test p q h (inr d) = d.1

only_star : {n : ℕ} {r : Rule} (f : Token → Plan r) (q : Plan r) {k c m : Token} {b : Tree r} {x g : List Token} →
    are_star k c m ≡ true → Parts (star f q) n b (k ∷ c ∷ m ∷ x) g → Runs n r (f k) b x g
only_star f q h (inl d) = d.1
only_star f q h (inr d) = absurd (both h d.0)

only_starless : {n : ℕ} {r : Rule} (f : Token → Plan r) (q : Plan r) {b : Tree r} {x g : List Token} →
    begins_star x ≡ false → Parts (star f q) n b x g → Runs n r q b x g
only_starless {n = n} f q {b = b} {x = x} {g = g} h (inl d) = absurd (both (took_star_begins f n b x g d) h)
only_starless f q h (inr d) = d.1

-- A run of a plan that a star would end otherwise: it is no star, or a run of the plan stands in its place.
abbrev pub Named : {r : Rule} → Plan r → Type 0
Named {r = r} q = (n : ℕ) (k c : Token) → is_name k ≡ true → is_sign (codes ".") c ≡ true →
    ((t : Tree r) × Runs n r q t (k ∷ []) []) × ((t : Tree r) × Runs n r q t (k ∷ c ∷ k ∷ []) [])

-- whatever stands before it, the plan can be brought to an end
abbrev pub Ending : {r : Rule} → Plan r → Type 0
Ending {r = r} p = (n : ℕ) → (t : Tree r) × (u : Front) × Says (n + 1) r p t u

-- so can what is left of the plan behind each of its steps
abbrev pub Goes : {r : Rule} → Plan r → Type 0
Goes (done t) = Unit {0}
Goes stuck = Unit {0}
Goes (accept test f q) = ((k : Token) → test k ≡ true → Ending (f k) × Goes (f k)) × Goes q
Goes (peek test p q) = Goes p × Goes q
Goes (note f) = (at : ℕ) → Goes (f at)
Goes (read o f) = (a : Tree o) → Ending (f a) × Goes (f a)
Goes (nest o f) = (a : Tree o) → Ending (f a) × Goes (f a)
Goes (day f) = (d : ℤ) → Ending (f d) × Goes (f d)
Goes (star f q) = ((k : Token) → is_name k ≡ true → Ending (f k) × Goes (f k)) × Goes q × Named q

abbrev pub All : Type 0
All = (r : Rule) → Ending (plan r) × Goes (plan r)

pub is_named : (k c m : Token) → are_star k c m ≡ true → is_name k ≡ true
is_named k c m h = and_left (is_name k) (is_sign (codes ".") c) (and_left (is_name k && is_sign (codes ".") c) (is_sign (codes "*") m) h)

pub is_dot : (k c m : Token) → are_star k c m ≡ true → is_sign (codes ".") c ≡ true
is_dot k c m h = and_right (is_name k) (is_sign (codes ".") c) (and_left (is_name k && is_sign (codes ".") c) (is_sign (codes "*") m) h)

pub is_times : (k c m : Token) → are_star k c m ≡ true → is_sign (codes "*") m ≡ true
is_times k c m h = and_right (is_name k && is_sign (codes ".") c) (is_sign (codes "*") m) h

-- a run that a star would end otherwise has seen that there is no star
star_seen : {n : ℕ} {r : Rule} {q : Plan r} {t : Tree r} {s e : List Token} → Named q → (I : Settled n r q t s e) → {v : Front} → Shape v → I.taken ≡ v → begins_star s ≡ false →
    (x : List Token) → next x ≡ next e → begins_star (v x) ≡ true → ⊥
star_seen {n = n} {r = r} {q = q} N I nothing h f (k ∷ c ∷ m ∷ x) g i =
    let run = (N n k c (is_named k c m i) (is_dot k c m i)).0 in
    let o = I.only (k ∷ []) g n run.0 [] (subst (λ (z : Front). Runs n r q run.0 (z (k ∷ [])) []) (sym h) run.1) in
    let e = o.1 in absurd cc
star_seen {n = n} {r = r} {q = q} N I (token k nothing) h f (c ∷ m ∷ x) g i =
    let run = (N n k c (is_named k c m i) (is_dot k c m i)).1 in
    let o = I.only (c ∷ k ∷ []) g n run.0 [] (subst (λ (z : Front). Runs n r q run.0 (z (c ∷ k ∷ [])) []) (sym h) run.1) in
    let e = o.1 in absurd cc
star_seen {e = e} N I (token k (token c nothing)) h f (m ∷ x) g i = seen_third k c m e (I.whole ∙ ap (λ (z : Front). z e) h) f g i
star_seen {e = e} N I (token k (token c (token m a))) h f x g i = both i (sym (ap begins_star (I.whole ∙ ap (λ (z : Front). z e) h)) ∙ f)
star_seen N I nothing h f [] g i = absurd cc
star_seen N I nothing h f (k ∷ []) g i = absurd cc
star_seen N I nothing h f (k ∷ c ∷ []) g i = absurd cc
star_seen N I (token k nothing) h f [] g i = absurd cc
star_seen N I (token k nothing) h f (c ∷ []) g i = absurd cc
star_seen N I (token k (token c nothing)) h f [] g i = absurd cc

pub settled : (all : All) {n : ℕ} {r : Rule} {p : Plan r} {t : Tree r} {s e : List Token} → Runs n r p t s e → Goes p → Settled n r p t s e
settled all ends G = record { taken = λ x. x; whole = refl; says = says_done; only = λ x h m b f d. parts d }
settled all (accepts {n = n} {r = r} {test = test} {f = f} {q = q} {t = t} {k = k} {s = s} {e = e} h d) G =
    let I : Settled n r (f k) t s e = settled all d (G.0 k h).1 in
    record {
      taken = λ x. k ∷ I.taken x;
      whole = ap (λ z. k ∷ z) I.whole;
      says = says_accept k h I.says;
      only = λ x g m b w c. I.only x g m b w (only_accept test f q h (parts c));
    }
settled all (rejects {n = n} {r = r} {test = test} {f = f} {q = q} {t = t} {s = s} {e = e} h d) G =
    let I : Settled n r q t s e = settled all d G.1 in
    record {
      taken = I.taken;
      whole = I.whole;
      says = says_reject I.says;
      only = λ x g m b w c. I.only x g m b w (only_reject test f q (same_test test (shape I.says) I.whole x g ∙ h) (parts c));
    }
settled all (sees {n = n} {r = r} {test = test} {p = p} {q = q} {t = t} {s = s} {e = e} h d) G =
    let I : Settled n r p t s e = settled all d G.0 in
    record {
      taken = I.taken;
      whole = I.whole;
      says = says_see I.says;
      only = λ x g m b w c. I.only x g m b w (only_see test p q (same_test test (shape I.says) I.whole x g ∙ h) (parts c));
    }
settled all (misses {n = n} {r = r} {test = test} {p = p} {q = q} {t = t} {s = s} {e = e} h d) G =
    let I : Settled n r q t s e = settled all d G.1 in
    record {
      taken = I.taken;
      whole = I.whole;
      says = says_miss I.says;
      only = λ x g m b w c. I.only x g m b w (only_miss test p q (same_test test (shape I.says) I.whole x g ∙ h) (parts c));
    }
settled all (notes {n = n} {r = r} {f = f} {t = t} {s = s} {e = e} d) G =
    let I : Settled n r (f (place s)) t s e = settled all d (G (place s)) in
    record {
      taken = I.taken;
      whole = I.whole;
      says = says_note (place s) (first_place e I.whole) I.says;
      only = λ x g m b w c. I.only x g m b w (subst (λ (z : ℕ). Runs m r (f z) b (I.taken x) w) (same_place (I.taken x) s (same_front (shape I.says) I.whole x g)) (parts c));
    }
settled all (reads {n = n} {r = r} {o = o} {f = f} {a = a} {t = t} {s = s} {m = m} {e = e} d g) G =
    let I : Settled n o (plan o) a s m = settled all d (all o).1 in
    let L : Settled n r (f a) t m e = settled all g (G a).1 in
    record {
      taken = λ x. I.taken (L.taken x);
      whole = I.whole ∙ ap I.taken L.whole;
      says = says_read I.says L.says;
      only = λ x h j b w c. let y = parts c in chained f I L x h y.1 w y.2 y.3;
    }
settled all (nests {n = n} {i = i} {r = r} {o = o} {f = f} {a = a} {t = t} {s = s} {m = m} {e = e} h d g) G =
    let I : Settled i o (plan o) a s m = settled all d (all o).1 in
    let L : Settled n r (f a) t m e = settled all g (G a).1 in
    record {
      taken = λ x. I.taken (L.taken x);
      whole = I.whole ∙ ap I.taken L.whole;
      says = says_nest h I.says L.says;
      only = λ x l j b w c. let y = parts c in chained f I L x l y.3 w y.4 y.5;
    }
settled all (days {n = n} {r = r} {f = f} {t = t} {s = s} {m = m} {e = e} d h g) G =
    let I : Settled n r (f d) t m e = settled all g (G d).1 in
    record {
      taken = λ x. h.1.0 ∷ I.taken x;
      whole = h.1.1 ∙ ap (λ z. h.1.0 ∷ z) I.whole;
      says = says_day d h.0 h.1.0 h.1.2 h.2 I.says;
      only = λ x l j b w c.
          let y = parts c in
          let one = one_text h.1.2 h.2 y.2 in
          I.only x l j b w (subst (λ (z : List Token). Runs j r (f d) b z w) one.1 (subst (λ (z : ℤ). Runs j r (f z) b y.1 w) one.0 y.3));
    }
settled all (stars {n = n} {r = r} {f = f} {q = q} {t = t} {k = k} {d = d} {m = m} {s = s} {e = e} h g) G =
    let I : Settled n r (f k) t s e = settled all g (G.0 k (is_named k d m h)).1 in
    record {
      taken = λ x. k ∷ d ∷ m ∷ I.taken x;
      whole = ap (λ z. k ∷ d ∷ m ∷ z) I.whole;
      says = says_star k d m h I.says;
      only = λ x l j b w c. I.only x l j b w (only_star f q h (parts c));
    }
settled all (starless {n = n} {r = r} {f = f} {q = q} {t = t} {s = s} {e = e} h d) G =
    let I : Settled n r q t s e = settled all d G.1 in
    record {
      taken = I.taken;
      whole = I.whole;
      says = says_starless I.says;
      only = λ x l j b w c. I.only x l j b w (only_starless f q (not_star (begins_star (I.taken x)) (star_seen G.2 I (shape I.says) refl h x l)) (parts c));
    }

-- how deep a run is that a failure rules out: for a fault of syntax any, for one of nesting the same
abbrev pub Deep : Cause → ℕ → ℕ → Type 0
Deep syntax n m = Unit {0}
Deep nesting n m = m ≡ n

inner : (c : Cause) (n m i j : ℕ) → n ≡ i + 1 → m ≡ j + 1 → Deep c n m → Deep c i j
inner syntax n m i j h g e = tt
inner nesting n m i j h g e = omega (arith, h, g, e)

-- nothing is taken, or what is taken goes on to a whole phrase
abbrev pub Begun : ℕ → (r : Rule) → Plan r → Front → Type 0
Begun n r p u = (u ≡ (λ x. x)) ⊎ ((t : Tree r) × (v : Front) × Says (n + 1) r p t (λ x. u (v x)))

pub record Refused (c : Cause) (n : ℕ) (r : Rule) (p : Plan r) (s e : List Token) : Type 0 where
  pub taken : Front
  pub shaped : Shape taken
  pub whole : s ≡ taken e
  pub begun : Begun n r p taken
  pub no_run : (x : List Token) → next x ≡ next e → (m : ℕ) (b : Tree r) (f : List Token) → Deep c n m → Runs m r p b (taken x) f → ⊥

-- what is begun in a plan is begun in the one that goes over to it
begun_by : (m n : ℕ) (r o : Rule) (p : Plan r) (q : Plan o) {u : Front} → ((t : Tree o) (v : Front) → Says (m + 1) o q t (λ x. u (v x)) → Begun n r p u) → Begun m o q u → Begun n r p u
begun_by m n r o p q f (inl h) = inl h
begun_by m n r o p q f (inr h) = f h.0 h.1 h.2

-- what is begun behind a place that was noted
begun_noted : (n : ℕ) (r : Rule) (f : ℕ → Plan r) {u : Front} (s e : List Token) → Shape u → s ≡ u e → Begun n r (f (place s)) u → Begun n r (note f) u
begun_noted n r f s e nothing h b = inl refl
begun_noted n r f s e (token {u = u} j a) h (inl b) = inl b
begun_noted n r f s e (token {u = u} j a) h (inr b) = inr (b.0, b.1, says_note (place s) (λ k w g. ap place h ∙ ap (λ (z : Front). place (z [])) g) b.2)

-- what is begun behind a token, or at it
pub begun_behind : (n : ℕ) (r : Rule) (q : Plan r) {u : Front} → Ending q → Begun n r q u → (t : Tree r) × (v : Front) × Says (n + 1) r q t (λ x. u (v x))
begun_behind n r q E (inl h) = let z = E n in (z.0, z.1, subst (λ (y : Front). Says (n + 1) r q z.0 (λ x. y (z.1 x))) (sym h) z.2)
begun_behind n r q E (inr h) = h

-- where the second run is, the first one is over
past : {j l : ℕ} {r o : Rule} {p : Plan o} (f : Tree o → Plan r) {a b : Tree o} {c : Tree r} {s m : List Token} {i : ℕ} (I : Settled i o p a s m) (y : List Token) →
    next y ≡ next m → (w g : List Token) → Runs j o p b (I.taken y) w → Runs l r (f b) c w g → Runs l r (f a) c y g
past {j = j} {l = l} {r = r} f {a = a} {b = b} {c = c} I y h w g d k =
    let at = I.only y h j b w d in
    subst (λ (z : List Token). Runs l r (f a) c z g) at.1 (subst (λ (z : Tree _). Runs l r (f z) c w g) at.0 k)

-- a failure that a star would end otherwise has seen that there is no star
star_missed : {c : Cause} {n : ℕ} {r : Rule} {q : Plan r} {s e : List Token} → Named q → (I : Refused c n r q s e) → Deep c n n → {v : Front} → Shape v → I.taken ≡ v → begins_star s ≡ false →
    (x : List Token) → next x ≡ next e → begins_star (v x) ≡ true → ⊥
star_missed {n = n} {r = r} {q = q} N I D nothing h f (k ∷ c ∷ m ∷ x) g i =
    let run = (N n k c (is_named k c m i) (is_dot k c m i)).0 in
    I.no_run (k ∷ []) g n run.0 [] D (subst (λ (z : Front). Runs n r q run.0 (z (k ∷ [])) []) (sym h) run.1)
star_missed {n = n} {r = r} {q = q} N I D (token k nothing) h f (c ∷ m ∷ x) g i =
    let run = (N n k c (is_named k c m i) (is_dot k c m i)).1 in
    I.no_run (c ∷ k ∷ []) g n run.0 [] D (subst (λ (z : Front). Runs n r q run.0 (z (c ∷ k ∷ [])) []) (sym h) run.1)
star_missed {e = e} N I D (token k (token c nothing)) h f (m ∷ x) g i = seen_third k c m e (I.whole ∙ ap (λ (z : Front). z e) h) f g i
star_missed {e = e} N I D (token k (token c (token m a))) h f x g i = both i (sym (ap begins_star (I.whole ∙ ap (λ (z : Front). z e) h)) ∙ f)
star_missed N I D nothing h f [] g i = absurd cc
star_missed N I D nothing h f (k ∷ []) g i = absurd cc
star_missed N I D nothing h f (k ∷ c ∷ []) g i = absurd cc
star_missed N I D (token k nothing) h f [] g i = absurd cc
star_missed N I D (token k nothing) h f (c ∷ []) g i = absurd cc
star_missed N I D (token k (token c nothing)) h f [] g i = absurd cc

deep_here : (c : Cause) (n : ℕ) → Deep c n n
deep_here syntax n = tt
deep_here nesting n = refl

-- no day stands behind a token that is the same
no_day : {s x : List Token} → ((d : ℤ) (m : List Token) → IsDay d s m → ⊥) → next x ≡ next s → (d : ℤ) (m : List Token) → IsDay d x m → ⊥
no_day {s = []} {x = x} h g d m i = let e = ap next i.1.1 in absurd cc
no_day {s = j ∷ s} {x = x} h g d m i =
    let same : j ≡ i.1.0 = let e = ap next i.1.1 in cc in
    h d s (i.0, (i.1.0, ap (λ (z : Token). z ∷ s) same, i.1.2), i.2)

pub refused : (all : All) {c : Cause} {n : ℕ} {r : Rule} {p : Plan r} {s e : List Token} → Fails c n r p s e → Goes p → Refused c n r p s e
refused all fails_here G = record { taken = λ x. x; shaped = nothing; whole = refl; begun = inl refl; no_run = λ x h m b f a d. parts d }
refused all (fails_deep h) G = record {
  taken = λ x. x;
  shaped = nothing;
  whole = refl;
  begun = inl refl;
  no_run = λ x l m b f a d. let y = parts d in let e = y.1 in absurd (omega (arith, h, a, e));
}
refused all (fails_day h) G = record { taken = λ x. x; shaped = nothing; whole = refl; begun = inl refl; no_run = λ x l m b f a d. let y = parts d in no_day h l y.0 y.1 y.2 }
refused all (fails_behind_day {c = c} {n = n} {r = r} {f = f} {s = s} {m = m} {e = e} d h g) G =
    let I : Refused c n r (f d) m e = refused all g (G d).1 in
    let z = begun_behind n r (f d) (G d).0 I.begun in
    record {
      taken = λ x. h.1.0 ∷ I.taken x;
      shaped = token h.1.0 I.shaped;
      whole = h.1.1 ∙ ap (λ z. h.1.0 ∷ z) I.whole;
      begun = inr (z.0, z.1, says_day d h.0 h.1.0 h.1.2 h.2 z.2);
      no_run = λ x l j b w a i.
          let y = parts i in
          let one = one_text h.1.2 h.2 y.2 in
          I.no_run x l j b w a (subst (λ (z : List Token). Runs j r (f d) b z w) one.1 (subst (λ (z : ℤ). Runs j r (f z) b y.1 w) one.0 y.3));
    }
refused all (fails_after {c = c} {n = n} {r = r} {test = test} {f = f} {q = q} {k = k} {s = s} {e = e} h d) G =
    let I : Refused c n r (f k) s e = refused all d (G.0 k h).1 in
    let z = begun_behind n r (f k) (G.0 k h).0 I.begun in
    record {
      taken = λ x. k ∷ I.taken x;
      shaped = token k I.shaped;
      whole = ap (λ z. k ∷ z) I.whole;
      begun = inr (z.0, z.1, says_accept k h z.2);
      no_run = λ x l m b w a i. I.no_run x l m b w a (only_accept test f q h (parts i));
    }
refused all (fails_without {c = c} {n = n} {r = r} {test = test} {f = f} {q = q} {s = s} {e = e} h d) G =
    let I : Refused c n r q s e = refused all d G.1 in
    record {
      taken = I.taken;
      shaped = I.shaped;
      whole = I.whole;
      begun = begun_by n n r r (accept test f q) q (λ t v i. inr (t, v, says_reject i)) I.begun;
      no_run = λ x l m b w a i. I.no_run x l m b w a (only_reject test f q (same_test test I.shaped I.whole x l ∙ h) (parts i));
    }
refused all (fails_seen {c = c} {n = n} {r = r} {test = test} {p = p} {q = q} {s = s} {e = e} h d) G =
    let I : Refused c n r p s e = refused all d G.0 in
    record {
      taken = I.taken;
      shaped = I.shaped;
      whole = I.whole;
      begun = begun_by n n r r (peek test p q) p (λ t v i. inr (t, v, says_see i)) I.begun;
      no_run = λ x l m b w a i. I.no_run x l m b w a (only_see test p q (same_test test I.shaped I.whole x l ∙ h) (parts i));
    }
refused all (fails_missed {c = c} {n = n} {r = r} {test = test} {p = p} {q = q} {s = s} {e = e} h d) G =
    let I : Refused c n r q s e = refused all d G.1 in
    record {
      taken = I.taken;
      shaped = I.shaped;
      whole = I.whole;
      begun = begun_by n n r r (peek test p q) q (λ t v i. inr (t, v, says_miss i)) I.begun;
      no_run = λ x l m b w a i. I.no_run x l m b w a (only_miss test p q (same_test test I.shaped I.whole x l ∙ h) (parts i));
    }
refused all (fails_noted {c = c} {n = n} {r = r} {f = f} {s = s} {e = e} d) G =
    let I : Refused c n r (f (place s)) s e = refused all d (G (place s)) in
    record {
      taken = I.taken;
      shaped = I.shaped;
      whole = I.whole;
      begun = begun_noted n r f s e I.shaped I.whole I.begun;
      no_run = λ x l m b w a i. I.no_run x l m b w a (subst (λ (z : ℕ). Runs m r (f z) b (I.taken x) w) (same_place (I.taken x) s (same_front I.shaped I.whole x l)) (parts i));
    }
refused all (fails_first {c = c} {n = n} {r = r} {o = o} {f = f} {s = s} {e = e} d) G =
    let I : Refused c n o (plan o) s e = refused all d (all o).1 in
    record {
      taken = I.taken;
      shaped = I.shaped;
      whole = I.whole;
      begun = begun_by n n r o (read o f) (plan o) (λ t v i. let z = (G t).0 n in inr (z.0, λ x. v (z.1 x), says_read i z.2)) I.begun;
      no_run = λ x l m b w a i. let y = parts i in I.no_run x l m y.0 y.1 a y.2;
    }
refused all (fails_then {c = c} {n = n} {r = r} {o = o} {f = f} {a = a} {s = s} {m = m} {e = e} d g) G =
    let I : Settled n o (plan o) a s m = settled all d (all o).1 in
    let L : Refused c n r (f a) m e = refused all g (G a).1 in
    let z = begun_behind n r (f a) (G a).0 L.begun in
    record {
      taken = λ x. I.taken (L.taken x);
      shaped = behind (shape I.says) L.shaped;
      whole = I.whole ∙ ap I.taken L.whole;
      begun = inr (z.0, z.1, says_read (deeper I.says) z.2);
      no_run = λ x l j b w h i. let y = parts i in L.no_run x l j b w h (past f I (L.taken x) (same_front L.shaped L.whole x l) y.1 w y.2 y.3);
    }
refused all (fails_inside {c = c} {n = n} {i = i} {r = r} {o = o} {f = f} {s = s} {e = e} h d) G =
    let I : Refused c i o (plan o) s e = refused all d (all o).1 in
    record {
      taken = I.taken;
      shaped = I.shaped;
      whole = I.whole;
      begun = begun_by i n r o (nest o f) (plan o) (λ t v g. let z = (G t).0 n in inr (z.0, λ x. v (z.1 x), says_nest (ap (λ (z : ℕ). z + 1) h) g z.2)) I.begun;
      no_run = λ x l m b w a g. let y = parts g in I.no_run x l y.0 y.2 y.3 (inner c n m i y.0 h y.1 a) y.4;
    }
refused all (fails_behind {c = c} {n = n} {i = i} {r = r} {o = o} {f = f} {a = a} {s = s} {m = m} {e = e} h d g) G =
    let I : Settled i o (plan o) a s m = settled all d (all o).1 in
    let L : Refused c n r (f a) m e = refused all g (G a).1 in
    let z = begun_behind n r (f a) (G a).0 L.begun in
    record {
      taken = λ x. I.taken (L.taken x);
      shaped = behind (shape I.says) L.shaped;
      whole = I.whole ∙ ap I.taken L.whole;
      begun = inr (z.0, z.1, says_nest (ap (λ (z : ℕ). z + 1) h) (deeper I.says) z.2);
      no_run = λ x l j b w h i. let y = parts i in L.no_run x l j b w h (past f I (L.taken x) (same_front L.shaped L.whole x l) y.3 w y.4 y.5);
    }
refused all (fails_starred {c = c} {n = n} {r = r} {f = f} {q = q} {k = k} {d = d} {m = m} {s = s} {e = e} h g) G =
    let I : Refused c n r (f k) s e = refused all g (G.0 k (is_named k d m h)).1 in
    let z = begun_behind n r (f k) (G.0 k (is_named k d m h)).0 I.begun in
    record {
      taken = λ x. k ∷ d ∷ m ∷ I.taken x;
      shaped = token k (token d (token m I.shaped));
      whole = ap (λ z. k ∷ d ∷ m ∷ z) I.whole;
      begun = inr (z.0, z.1, says_star k d m h z.2);
      no_run = λ x l j b w a i. I.no_run x l j b w a (only_star f q h (parts i));
    }
refused all (fails_starless {c = c} {n = n} {r = r} {f = f} {q = q} {s = s} {e = e} h d) G =
    let I : Refused c n r q s e = refused all d G.1 in
    record {
      taken = I.taken;
      shaped = I.shaped;
      whole = I.whole;
      begun = begun_by n n r r (star f q) q (λ t v i. inr (t, v, says_starless i)) I.begun;
      no_run = λ x l m b w a i.
          I.no_run x l m b w a (only_starless f q (not_star (begins_star (I.taken x)) (star_missed G.2 I (deep_here c n) I.shaped refl h x l)) (parts i));
    }
