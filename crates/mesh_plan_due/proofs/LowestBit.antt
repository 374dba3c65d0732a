-- The lowest bit of a word, and the word without it.
use Rattle.std.proofs.Common.{◌≡◌, ◌≢◌, ℕ, zero, suc, ◌-◌, ◌/◌, ◌%◌, ◌^◌, ◌<◌, ◌≤◌, ◌⊎◌, inl, inr, min, bit_and, sym, ap, ◌∙◌, arith, w64}
use Rattle.std.specs.Int.{bit_at, trailing_zeros}
use Rattle.std.proofs.lemmas.Nat.Bits.{bit_at-suc, bit_at-trailing_zeros, bit_at_and, bit_at_lowest}
use Rattle.std.proofs.lemmas.Bool.{cases_lt}
use Rattle.mesh_plan_due.specs.Numbered.{HasNone, IsLowest, IsWithout}

-- one less has other bits up to the lowest alone
one_less : (t x : ℕ) → IsLowest x t → (bit_at (x - 1) t ≡ 0) × ((i : ℕ) → t < i → bit_at (x - 1) i ≡ bit_at x i)
one_less zero x (set, none) =
    let odd : x % 2 ≡ 1 = sym (bit_at_lowest x) ∙ set in
    let half : (x - 1) / 2 ≡ x / 2 = omega (arith, odd) in
    (bit_at_lowest (x - 1) ∙ omega (arith, odd), above half)
  where
    above : (x - 1) / 2 ≡ x / 2 → (i : ℕ) → 0 < i → bit_at (x - 1) i ≡ bit_at x i
    above half zero l = absurd (omega (arith, l))
    above half (suc i) l = bit_at-suc (x - 1) i ∙ ap (λ n. bit_at n i) half ∙ sym (bit_at-suc x i)
one_less (suc t) x (set, none) =
    let even : x % 2 ≡ 0 = sym (bit_at_lowest x) ∙ none 0 (omega arith) (omega arith) in
    let some : bit_at (x / 2) t ≡ 1 = sym (bit_at-suc x t) ∙ set in
    let lower : HasNone (x / 2) 0 t = (λ b up l. sym (bit_at-suc x b) ∙ none (suc b) (omega arith) (omega (arith, l))) in
    let half : (x - 1) / 2 ≡ x / 2 - 1 = omega (arith, even) in
    let more = one_less t (x / 2) (some, lower) in
    (bit_at-suc (x - 1) t ∙ ap (λ n. bit_at n t) half ∙ more.0, above half more.1)
  where
    above : (x - 1) / 2 ≡ x / 2 - 1 → ((i : ℕ) → t < i → bit_at (x / 2 - 1) i ≡ bit_at (x / 2) i) → (i : ℕ) → suc t < i → bit_at (x - 1) i ≡ bit_at x i
    above half more zero l = absurd (omega (arith, l))
    above half more (suc i) l = bit_at-suc (x - 1) i ∙ ap (λ n. bit_at n i) half ∙ more i (omega (arith, l)) ∙ sym (bit_at-suc x i)

module _ (x : ℕ) (some : 0 < x) (fits : x < 2 ^ 64) where
  pub lowest_few : trailing_zeros w64 x < 64
  lowest_few = (bit_at-trailing_zeros w64 x some fits).0

  pub is_lowest : IsLowest x (trailing_zeros w64 x)
  is_lowest =
      let h = bit_at-trailing_zeros w64 x some fits in
      (h.1, λ b up l. h.2 b l)

pub without_lowest : (x t : ℕ) → IsLowest x t → IsWithout x t (bit_and x (x - 1))
without_lowest x t (set, none) =
    let less = one_less t x (set, none) in
    (bit_at_and x (x - 1) t ∙ omega (arith, less.0), λ b other. bit_at_and x (x - 1) b ∙ go b other less.1 (cases_lt b t))
  where
    go : (b : ℕ) → b ≢ t → ((i : ℕ) → t < i → bit_at (x - 1) i ≡ bit_at x i) → (b < t) ⊎ (t ≤ b) → min (bit_at x b) (bit_at (x - 1) b) ≡ bit_at x b
    go b other more (inl l) = omega (arith, none b (omega arith) l)
    go b other more (inr g) = omega (arith, more b (above (cases_lt t b)))
      where
        above : (t < b) ⊎ (b ≤ t) → t < b
        above (inl l) = l
        above (inr k) = let same : b ≡ t = omega (arith, g, k) in absurd (other same)
