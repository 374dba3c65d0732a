-- Numbers are drawn once each.
use Rattle.std.proofs.Common.{◌≡◌, ◌<◌, ◌≤◌, ◌≢◌, ℕ, zero, suc, ◌%◌, ◌^◌, Bool, true, false, List, [], ◌∷◌, length, refl, sym, ap, ◌∙◌, arith, ⊎_elim}
use Rattle.std.specs.Prelude.{nat_eq, if◌then◌else◌}
use Rattle.std.proofs.lemmas.Bool.Decides.{eqb_tells}
use Rattle.mesh_base_values.proofs.Tests.{by_lt}
use Rattle.mesh_exec_wave.specs.claims.Claims.{AreAll, below, one_if, times, weigh}

-- how many numbers there are
counted : (xs : List ℕ) → weigh (λ x. 1) xs ≡ length xs
unfolding weigh
counted [] = refl
counted (x ∷ xs) = let e = counted xs in omega arith

as_many : (k : ℕ) → below (λ x. 1) k ≡ k
unfolding below
as_many zero = refl
as_many (suc k) = let e = as_many k in omega arith

same : (i x : ℕ) → x ≡ i → one_if i x ≡ 1
same i x is = ⊎_elim (λ (t : (nat_eq x i ≡ true) × (x ≡ i)). ap (λ (b : Bool). if b then 1 else 0) t.0) (λ (t : (nat_eq x i ≡ false) × (x ≢ i)). absurd (t.1 is)) (eqb_tells x i)

other : (i x : ℕ) → x ≢ i → one_if i x ≡ 0
other i x apart = ⊎_elim (λ (t : (nat_eq x i ≡ true) × (x ≡ i)). absurd (apart t.1)) (λ (t : (nat_eq x i ≡ false) × (x ≢ i)). ap (λ (b : Bool). if b then 1 else 0) t.0) (eqb_tells x i)

-- a number from k on isn't among those below k, and a smaller one is there once
none_below : (i k : ℕ) → k ≤ 2 ^ 64 → k ≤ i → below (one_if i) k ≡ 0
unfolding below
none_below i zero few up = refl
none_below i (suc k) few up =
    let e = none_below i k (omega arith) (omega arith) in
    let here : k % 2 ^ 64 ≡ k = omega arith in
    let o = other i (k % 2 ^ 64) (λ is. omega arith) in
    omega (arith, e, o)

at_last : (i k : ℕ) → suc k ≤ 2 ^ 64 → k ≡ i → below (one_if i) k ≡ 0 → below (one_if i) (suc k) ≡ 1
unfolding below
at_last i k few is none =
    let here : k % 2 ^ 64 ≡ k = omega arith in
    let o = same i (k % 2 ^ 64) (here ∙ is) in
    omega (arith, none, o)

before_last : (i k : ℕ) → suc k ≤ 2 ^ 64 → k ≢ i → below (one_if i) k ≡ 1 → below (one_if i) (suc k) ≡ 1
unfolding below
before_last i k few apart one =
    let here : k % 2 ^ 64 ≡ k = omega arith in
    let o = other i (k % 2 ^ 64) (λ is. apart (sym here ∙ is)) in
    omega (arith, one, o)

one_below : (i k : ℕ) → k ≤ 2 ^ 64 → i < k → below (one_if i) k ≡ 1
one_below i zero few down = absurd (omega arith)
one_below i (suc k) few down = ⊎_elim
    (λ (t : (nat_eq k i ≡ true) × (k ≡ i)). at_last i k few t.1 (none_below i k (omega arith) (omega (arith, t.1))))
    (λ (t : (nat_eq k i ≡ false) × (k ≢ i)). let less : i < k = omega (arith, t.1) in before_last i k few t.1 (one_below i k (omega arith) less))
    (eqb_tells k i)

size : (word : ℕ) (drawn : List ℕ) (all : AreAll word drawn) → length drawn ≡ all.0
size word drawn all = sym (counted drawn) ∙ all.2 (λ x. 1) ∙ as_many all.0

pub once : (word : ℕ) (drawn : List ℕ) (n last : ℕ) → AreAll word drawn → length drawn < 2 ^ 64 → 0 < times last drawn → n ≤ last → (i : ℕ) → i < n → times i drawn ≡ 1
once word drawn n last all few some le i lt = by_lt last all.0 found lost
  where
    found : last < all.0 → times i drawn ≡ 1
    found in_k = all.2 (one_if i) ∙ one_below i all.0 (omega (arith, size word drawn all)) (omega arith)

    lost : all.0 ≤ last → times i drawn ≡ 1
    lost past = let e : times last drawn ≡ 0 = all.2 (one_if last) ∙ none_below last all.0 (omega (arith, size word drawn all)) past in absurd (omega (arith, e))

pub at_most_once : (word : ℕ) (drawn : List ℕ) → AreAll word drawn → length drawn < 2 ^ 64 → (i : ℕ) → times i drawn ≤ 1
at_most_once word drawn all few i = by_lt i all.0
    (λ down. let e : times i drawn ≡ 1 = all.2 (one_if i) ∙ one_below i all.0 (omega (arith, size word drawn all)) down in omega (arith, e))
    (λ up. let e : times i drawn ≡ 0 = all.2 (one_if i) ∙ none_below i all.0 (omega (arith, size word drawn all)) up in omega (arith, e))
