-- What a run is made of, and how many nodes are left behind its parts.
use Rattle.std.proofs.Common.{◌≡◌, ℕ, ℤ, ◌+◌, List, [], ◌∷◌, Bool, true, false, ◌⊎◌, inl, inr, refl}
use Rattle.mesh_query_tokens.specs.declared.tokens.Token.{Token}
use Rattle.mesh_query_grammar.specs.Signs.{place, IsDay}
use Rattle.mesh_query_grammar.specs.Rules.{Rule, Tree}
use Rattle.mesh_query_grammar.specs.Plans.{Plan, done, stuck, accept, peek, note, read, nest, day, star, plan}
use Rattle.mesh_query_grammar.specs.Machine.{begins, are_star, begins_star, Runs, ends, accepts, rejects, sees, misses, notes, reads, nests, days, stars, starless, Cause, syntax, nesting, Fails, fails_here, fails_deep, fails_day, fails_behind_day, fails_after, fails_without, fails_seen, fails_missed, fails_noted, fails_first, fails_then, fails_inside, fails_behind, fails_starred, fails_starless}
use Rattle.mesh_query.specs.Counts.{is_node, less, inside, entered, left_behind, left_at}

-- how many nodes are left, by how many there were
abbrev pub Count : Type 0
Count = Bool → ℕ → ℕ

abbrev pub Like : Count → Count → Type 0
Like F G = (i : Bool) (c : ℕ) → F i c ≡ G i c

-- a run that leaves so many
abbrev pub Run : {r : Rule} → Plan r → ℕ → Tree r → List Token → List Token → Count → Type 0
Run {r = r} p n t s e F = (d : Runs n r p t s e) × Like F (λ i c. left_behind i d c)

-- a run of a rule and then of the rest
abbrev pub Twice : {r : Rule} (q o : Rule) (f : Tree o → Plan r) → ℕ → ℕ → Tree r → List Token → List Token → Count → Type 0
Twice {r = r} q o f n j t s e F = (a : Tree o) × (m : List Token) × (d : Runs j o (plan o) a s m) × (g : Runs n r (f a) t m e) × Like F (λ i c. left_behind i g (left_behind (inside i o) d (entered i q o c)))

abbrev pub Took : {r : Rule} → (Token → Bool) → (Token → Plan r) → ℕ → Tree r → List Token → List Token → Count → Type 0
Took test f n t [] e F = ⊥
Took {r = r} test f n t (k ∷ s) e F = (test k ≡ true) × ((d : Runs n r (f k) t s e) × Like F (λ i c. left_behind i d (less (is_node r k.kind) c)))

abbrev pub TookStar : {r : Rule} → (Token → Plan r) → ℕ → Tree r → List Token → List Token → Count → Type 0
TookStar {r = r} f n t (k ∷ d ∷ m ∷ s) e F = (are_star k d m ≡ true) × Run (f k) n t s e F
TookStar f n t _ e F = ⊥

abbrev pub Parts : {r : Rule} → Plan r → ℕ → Tree r → List Token → List Token → Count → Type 0
Parts (done a) n t s e F = (t ≡ a) × (e ≡ s) × Like F (λ i c. c)
Parts stuck n t s e F = ⊥
Parts (accept test f q) n t s e F = Took test f n t s e F ⊎ ((begins test s ≡ false) × Run q n t s e F)
Parts (peek test p q) n t s e F = ((begins test s ≡ true) × Run p n t s e F) ⊎ ((begins test s ≡ false) × Run q n t s e F)
Parts (note f) n t s e F = Run (f (place s)) n t s e F
Parts {r = r} (read o f) n t s e F = Twice r o f n n t s e F
Parts {r = r} (nest o f) n t s e F = (j : ℕ) × (n ≡ j + 1) × Twice r o f n j t s e F
Parts (day f) n t s e F = (d : ℤ) × (m : List Token) × IsDay d s m × Run (f d) n t m e F
Parts (star f q) n t s e F = TookStar f n t s e F ⊎ ((begins_star s ≡ false) × Run q n t s e F)

pub parts : {n : ℕ} {r : Rule} {p : Plan r} {t : Tree r} {s e : List Token} (d : Runs n r p t s e) → Parts p n t s e (λ i c. left_behind i d c)
parts ends = (refl, refl, λ i c. refl)
parts (accepts h d) = inl (h, (d, λ i c. refl))
parts (rejects h d) = inr (h, (d, λ i c. refl))
parts (sees h d) = inl (h, (d, λ i c. refl))
parts (misses h d) = inr (h, (d, λ i c. refl))
parts (notes d) = (d, λ i c. refl)
parts (reads {a = a} {m = m} d g) = (a, m, d, g, λ i c. refl)
parts (nests {i = j} {a = a} {m = m} h d g) = (j, h, (a, m, d, g, λ i c. refl))
parts (days {m = m} c h d) = (c, m, h, (d, λ i z. refl))
parts (stars h d) = inl (h, (d, λ i c. refl))
parts (starless h d) = inr (h, (d, λ i c. refl))

pub parts_of_read : {n : ℕ} {r o : Rule} {f : Tree o → Plan r} {t : Tree r} {s e : List Token} (d : Runs n r (read o f) t s e) → Twice r o f n n t s e (λ i c. left_behind i d c)
parts_of_read d = parts d

-- a run that fails and leaves so many
abbrev pub Fault : {r : Rule} → Plan r → Cause → ℕ → List Token → List Token → Count → Type 0
Fault {r = r} p k n s e F = (d : Fails k n r p s e) × Like F (λ i c. left_at i d c)

-- a run of a rule fails, or that of the rest does
abbrev pub First : (q o : Rule) → Cause → ℕ → List Token → List Token → Count → Type 0
First q o k n s e F = (d : Fails k n o (plan o) s e) × Like F (λ i c. left_at (inside i o) d (entered i q o c))

abbrev pub Then : {r : Rule} (q o : Rule) (f : Tree o → Plan r) → Cause → ℕ → ℕ → List Token → List Token → Count → Type 0
Then {r = r} q o f k n j s e F = (a : Tree o) × (m : List Token) × (d : Runs j o (plan o) a s m) × (g : Fails k n r (f a) m e) × Like F (λ i c. left_at i g (left_behind (inside i o) d (entered i q o c)))

abbrev pub FailsBehind : {r : Rule} → (Token → Bool) → (Token → Plan r) → Cause → ℕ → List Token → List Token → Count → Type 0
FailsBehind test f k n [] e F = ⊥
FailsBehind {r = r} test f k n (x ∷ s) e F = (test x ≡ true) × ((d : Fails k n r (f x) s e) × Like F (λ i c. left_at i d (less (is_node r x.kind) c)))

abbrev pub FailsBehindStar : {r : Rule} → (Token → Plan r) → Cause → ℕ → List Token → List Token → Count → Type 0
FailsBehindStar {r = r} f k n (x ∷ d ∷ m ∷ s) e F = (are_star x d m ≡ true) × Fault (f x) k n s e F
FailsBehindStar f k n _ e F = ⊥

-- it fails right here
abbrev pub Here : Cause → Cause → List Token → List Token → Count → Type 0
Here b k s e F = (k ≡ b) × (e ≡ s) × Like F (λ i c. c)

abbrev pub Faults : {r : Rule} → Plan r → Cause → ℕ → List Token → List Token → Count → Type 0
Faults (done a) k n s e F = ⊥
Faults stuck k n s e F = Here syntax k s e F
Faults (accept test f q) k n s e F = FailsBehind test f k n s e F ⊎ ((begins test s ≡ false) × Fault q k n s e F)
Faults (peek test p q) k n s e F = ((begins test s ≡ true) × Fault p k n s e F) ⊎ ((begins test s ≡ false) × Fault q k n s e F)
Faults (note f) k n s e F = Fault (f (place s)) k n s e F
Faults {r = r} (read o f) k n s e F = First r o k n s e F ⊎ Then r o f k n n s e F
Faults {r = r} (nest o f) k n s e F = ((n ≡ 0) × Here nesting k s e F) ⊎ ((j : ℕ) × (n ≡ j + 1) × (First r o k j s e F ⊎ Then r o f k n j s e F))
Faults (day f) k n s e F = (((d : ℤ) (m : List Token) → IsDay d s m → ⊥) × Here syntax k s e F) ⊎ ((d : ℤ) × (m : List Token) × IsDay d s m × Fault (f d) k n m e F)
Faults (star f q) k n s e F = FailsBehindStar f k n s e F ⊎ ((begins_star s ≡ false) × Fault q k n s e F)

pub faults : {k : Cause} {n : ℕ} {r : Rule} {p : Plan r} {s e : List Token} (d : Fails k n r p s e) → Faults p k n s e (λ i c. left_at i d c)
faults fails_here = (refl, refl, λ i c. refl)
faults (fails_deep h) = inl (h, (refl, refl, λ i c. refl))
faults (fails_day h) = inl (h, (refl, refl, λ i c. refl))
faults (fails_behind_day {m = m} c h d) = inr (c, m, h, (d, λ i z. refl))
faults (fails_after h d) = inl (h, (d, λ i c. refl))
faults (fails_without h d) = inr (h, (d, λ i c. refl))
faults (fails_seen h d) = inl (h, (d, λ i c. refl))
faults (fails_missed h d) = inr (h, (d, λ i c. refl))
faults (fails_noted d) = (d, λ i c. refl)
faults (fails_first d) = inl (d, λ i c. refl)
faults (fails_then {a = a} {m = m} d g) = inr (a, m, d, g, λ i c. refl)
faults (fails_inside {i = j} h d) = inr (j, h, inl (d, λ i c. refl))
faults (fails_behind {i = j} {a = a} {m = m} h d g) = inr (j, h, inr (a, m, d, g, λ i c. refl))
faults (fails_starred h d) = inl (h, (d, λ i c. refl))
faults (fails_starless h d) = inr (h, (d, λ i c. refl))

pub fault_of_read : {k : Cause} {n : ℕ} {r o : Rule} {f : Tree o → Plan r} {s e : List Token} (d : Fails k n r (read o f) s e) → First r o k n s e (λ i c. left_at i d c) ⊎ Then r o f k n n s e (λ i c. left_at i d c)
fault_of_read d = faults d
