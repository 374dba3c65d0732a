-- Rows of bits.
use Rattle.std.proofs.Common.{◌≡◌, ◌≢◌, ℕ, zero, suc, ◌+◌, ◌*◌, ◌/◌, ◌%◌, ◌^◌, ◌<◌, ◌≤◌, max, ◌⊎◌, inl, inr, Bool, true, false, ◌||◌, cond, nat_eq, nat_lt, bit_or, List, [], ◌∷◌, ◌++◌, length, get_or, set, refl, sym, ap, ◌∙◌, arith}
use Rattle.std.specs.Int.{bit_at}
use Rattle.std.proofs.lemmas.Bool.Decides.{nat_tests}
use Rattle.std.proofs.lemmas.Bool.{cases_lt}
use Rattle.std.proofs.lemmas.List.{get_or-set_same, get_or-set_other}
use Rattle.std.proofs.lemmas.Nat.Bits.{bit_at-zero, bit_at-lt, bit_at_or, bit_at_set_same, bit_at_set_other}
use Rattle.std.proofs.Common.{w64}
use Rattle.mesh_plan_due.specs.Lineages.{has_bit}

-- what stands behind a list
pub get_beyond : (xs : List ℕ) (k : ℕ) → length xs ≤ k → get_or xs k 0 ≡ 0
get_beyond [] zero h = refl
get_beyond [] (suc k) h = refl
get_beyond (x ∷ xs) zero h = absurd (omega (arith, h))
get_beyond (x ∷ xs) (suc k) h = get_beyond xs k (omega (arith, h))

pub no_word : (xs : List ℕ) (p : ℕ) → length xs ≤ p / 64 → has_bit xs p ≡ false
no_word xs p h = ap (λ w. nat_eq (bit_at w (p % 64)) 1) (get_beyond xs (p / 64) h) ∙ ap (λ n. nat_eq n 1) (bit_at-zero (p % 64))

-- one word without bits more
zero_more : (row : List ℕ) (k : ℕ) → (get_or (row ++ 0 ∷ []) k 0 ≡ get_or row k 0) ⊎ (get_or (row ++ 0 ∷ []) k 0 ≡ 0)
zero_more [] zero = inr refl
zero_more [] (suc k) = inr (get_beyond [] k (omega arith))
zero_more (x ∷ row) zero = inl refl
zero_more (x ∷ row) (suc k) = zero_more row k

pub none_more : (row : List ℕ) → ((p : ℕ) → has_bit row p ≡ false) → (p : ℕ) → has_bit (row ++ 0 ∷ []) p ≡ false
none_more row h p = go (zero_more row (p / 64))
  where
    go : (get_or (row ++ 0 ∷ []) (p / 64) 0 ≡ get_or row (p / 64) 0) ⊎ (get_or (row ++ 0 ∷ []) (p / 64) 0 ≡ 0) → has_bit (row ++ 0 ∷ []) p ≡ false
    go (inl e) = ap (λ w. nat_eq (bit_at w (p % 64)) 1) e ∙ h p
    go (inr e) = ap (λ w. nat_eq (bit_at w (p % 64)) 1) e ∙ ap (λ n. nat_eq n 1) (bit_at-zero (p % 64))

-- one bit is set
same_place : (p place : ℕ) → p / 64 ≡ place / 64 → p % 64 ≡ place % 64 → p ≡ place
same_place p place e f = omega (arith, e, f)

pub bit_set : (row : List ℕ) (place w : ℕ) → place / 64 < length row → w ≡ get_or row (place / 64) 0 → (p : ℕ)
    → has_bit (set row (place / 64) (bit_or w (1 * 2 ^ (place % 64) % 18446744073709551616))) p ≡ (nat_eq p place || has_bit row p)
bit_set row place w inside here p = by_test (nat_eq (p / 64) (place / 64)) refl
  where
    same_word : p / 64 ≡ place / 64 → has_bit (set row (place / 64) (bit_or w (1 * 2 ^ (place % 64) % 18446744073709551616))) p ≡ (nat_eq p place || has_bit row p)
    same_word e = by_bit (nat_eq (p % 64) (place % 64)) refl
      where
        word : get_or (set row (place / 64) (bit_or w (1 * 2 ^ (place % 64) % 18446744073709551616))) (p / 64) 0 ≡ bit_or w (1 * 2 ^ (place % 64) % 18446744073709551616)
        word = ap (λ k. get_or (set row (place / 64) (bit_or w (1 * 2 ^ (place % 64) % 18446744073709551616))) k 0) e ∙ get_or-set_same row (place / 64) (bit_or w (1 * 2 ^ (place % 64) % 18446744073709551616)) 0 inside

        old : w ≡ get_or row (p / 64) 0
        old = here ∙ ap (λ k. get_or row k 0) (sym e)

        by_bit : (b : Bool) → nat_eq (p % 64) (place % 64) ≡ b → has_bit (set row (place / 64) (bit_or w (1 * 2 ^ (place % 64) % 18446744073709551616))) p ≡ (nat_eq p place || has_bit row p)
        by_bit true f =
            let bits : p % 64 ≡ place % 64 = grind (arith, nat_tests) in
            let all : p ≡ place = same_place p place e bits in
            let yes : nat_eq p place ≡ true = grind (arith, nat_tests) in
            ap (λ v. nat_eq (bit_at v (p % 64)) 1) word ∙ ap (λ k. nat_eq (bit_at (bit_or w (1 * 2 ^ (place % 64) % 18446744073709551616)) k) 1) bits
            ∙ ap (λ n. nat_eq n 1) (bit_at_set_same w64 w (place % 64) (omega arith)) ∙ ap (λ b. b || has_bit row p) (sym yes)
        by_bit false f =
            let bits : p % 64 ≢ place % 64 = (λ g. let t : nat_eq (p % 64) (place % 64) ≡ true = grind (arith, nat_tests) in absurd (cc)) in
            let no : nat_eq p place ≡ false = grind (arith, nat_tests) in
            ap (λ v. nat_eq (bit_at v (p % 64)) 1) word ∙ ap (λ n. nat_eq n 1) (bit_at_set_other w64 w (place % 64) (omega arith) (p % 64) bits)
            ∙ ap (λ v. nat_eq (bit_at v (p % 64)) 1) old ∙ ap (λ b. b || has_bit row p) (sym no)

    by_test : (b : Bool) → nat_eq (p / 64) (place / 64) ≡ b → has_bit (set row (place / 64) (bit_or w (1 * 2 ^ (place % 64) % 18446744073709551616))) p ≡ (nat_eq p place || has_bit row p)
    by_test true e = same_word (grind (arith, nat_tests))
    by_test false e =
        let words : p / 64 ≢ place / 64 = (λ g. let t : nat_eq (p / 64) (place / 64) ≡ true = grind (arith, nat_tests) in absurd (cc)) in
        let no : nat_eq p place ≡ false = grind (arith, nat_tests) in
        ap (λ v. nat_eq (bit_at v (p % 64)) 1) (get_or-set_other row (place / 64) (p / 64) (bit_or w (1 * 2 ^ (place % 64) % 18446744073709551616)) 0 words) ∙ ap (λ b. b || has_bit row p) (sym no)

-- the bits of both
either_bit : (a b k : ℕ) → nat_eq (bit_at (bit_or a b) k) 1 ≡ (nat_eq (bit_at a k) 1 || nat_eq (bit_at b k) 1)
either_bit a b k = ap (λ n. nat_eq n 1) (bit_at_or a b k) ∙ go (bit_at a k) (bit_at b k) (bit_at-lt a k) (bit_at-lt b k)
  where
    go : (x y : ℕ) → x < 2 → y < 2 → nat_eq (max x y) 1 ≡ (nat_eq x 1 || nat_eq y 1)
    go x y h g = grind (arith, nat_tests)

-- the words up to a place are those of both, and the others as they were
abbrev pub Joined : List ℕ → List ℕ → ℕ → List ℕ → Type 0
Joined old other at row = (k : ℕ) → get_or row k 0 ≡ cond (nat_lt k at) (bit_or (get_or old k 0) (get_or other k 0)) (get_or old k 0)

pub joined_more : (old other row : List ℕ) (at w v : ℕ) → at < length row → w ≡ get_or row at 0 → v ≡ get_or other at 0 → Joined old other at row → Joined old other (at + 1) (set row at (bit_or w v))
joined_more old other row at w v inside here there j k = by_test (nat_eq k at) refl
  where
    by_test : (b : Bool) → nat_eq k at ≡ b → get_or (set row at (bit_or w v)) k 0 ≡ cond (nat_lt k (at + 1)) (bit_or (get_or old k 0) (get_or other k 0)) (get_or old k 0)
    by_test true e =
        let same : k ≡ at = grind (arith, nat_tests) in
        let yes : nat_lt k (at + 1) ≡ true = grind (arith, nat_tests) in
        let no : nat_lt at at ≡ false = grind (arith, nat_tests) in
        let was : w ≡ get_or old k 0 = here ∙ j at ∙ ap (λ b. cond b (bit_or (get_or old at 0) (get_or other at 0)) (get_or old at 0)) no ∙ ap (λ i. get_or old i 0) (sym same) in
        ap (λ i. get_or (set row at (bit_or w v)) i 0) same ∙ get_or-set_same row at (bit_or w v) 0 inside
        ∙ (λ i. bit_or (was i) ((there ∙ ap (λ n. get_or other n 0) (sym same)) i))
        ∙ ap (λ b. cond b (bit_or (get_or old k 0) (get_or other k 0)) (get_or old k 0)) (sym yes)
    by_test false e =
        let other_word : k ≢ at = (λ g. let t : nat_eq k at ≡ true = grind (arith, nat_tests) in absurd (cc)) in
        let same : nat_lt k at ≡ nat_lt k (at + 1) = grind (arith, nat_tests) in
        get_or-set_other row at k (bit_or w v) 0 other_word ∙ j k ∙ ap (λ b. cond b (bit_or (get_or old k 0) (get_or other k 0)) (get_or old k 0)) same

pub all_joined : (old other row : List ℕ) (at : ℕ) → length other ≤ at → length other ≡ length old → Joined old other at row → (p : ℕ) → has_bit row p ≡ (has_bit old p || has_bit other p)
all_joined old other row at over long j p = ap (λ w. nat_eq (bit_at w (p % 64)) 1) (j (p / 64)) ∙ go (cases_lt (p / 64) at)
  where
    go : (p / 64 < at) ⊎ (at ≤ p / 64) → nat_eq (bit_at (cond (nat_lt (p / 64) at) (bit_or (get_or old (p / 64) 0) (get_or other (p / 64) 0)) (get_or old (p / 64) 0)) (p % 64)) 1 ≡ (has_bit old p || has_bit other p)
    go (inl l) =
        let yes : nat_lt (p / 64) at ≡ true = grind (arith, nat_tests) in
        ap (λ b. nat_eq (bit_at (cond b (bit_or (get_or old (p / 64) 0) (get_or other (p / 64) 0)) (get_or old (p / 64) 0)) (p % 64)) 1) yes ∙ either_bit (get_or old (p / 64) 0) (get_or other (p / 64) 0) (p % 64)
    go (inr g) =
        let no : nat_lt (p / 64) at ≡ false = grind (arith, nat_tests) in
        ap (λ b. nat_eq (bit_at (cond b (bit_or (get_or old (p / 64) 0) (get_or other (p / 64) 0)) (get_or old (p / 64) 0)) (p % 64)) 1) no
        ∙ or_none (has_bit old p) (has_bit other p) (no_word other p (omega (arith, over, g)))
      where
        or_none : (a b : Bool) → b ≡ false → a ≡ (a || b)
        or_none true b e = refl
        or_none false b e = sym e

pub any_default : (xs : List ℕ) (k d e : ℕ) → k < length xs → get_or xs k d ≡ get_or xs k e
any_default [] k d e h = absurd (omega (arith, h))
any_default (x ∷ xs) zero d e h = refl
any_default (x ∷ xs) (suc k) d e h = any_default xs k d e (omega (arith, h))
