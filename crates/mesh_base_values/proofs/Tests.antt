-- What a test says of what it tests, and what follows of two tests at once.
use Rattle.std.proofs.Common.{◌≡◌, ℕ, ◌<◌, ◌≤◌, zero, suc, Bool, true, false, ◌&&◌, ◌||◌, ◌⊎◌, inl, inr, refl, sym, ℤ, ◌≤ℤ◌, ◌<ℤ◌, arith, nat_lt}
use Rattle.std.specs.Int.Signed.{lt_z, le_z}
use Rattle.std.proofs.lemmas.Int.{ints}

pub both_parts : (a b : Bool) → (a && b) ≡ true → (a ≡ true) × (b ≡ true)
both_parts true b h = (refl, h)
both_parts false b h = cc

pub either_part : (a b : Bool) → (a || b) ≡ true → (a ≡ true) ⊎ (b ≡ true)
either_part true b h = inl refl
either_part false b h = inr h

pub or_cases : {P : Type 0} (a b : Bool) → (a || b) ≡ true → (a ≡ true → P) → (b ≡ true → P) → P
or_cases true b h f g = f refl
or_cases false b h f g = g h

pub same_truth : (a b : Bool) → (a ≡ true → b ≡ true) → (b ≡ true → a ≡ true) → a ≡ b
same_truth true b f g = sym (f refl)
same_truth false true f g = g refl
same_truth false false f g = refl

pub by_lt : {A : Type 0} (i k : ℕ) → (i < k → A) → (k ≤ i → A) → A
by_lt i zero down up = up (omega arith)
by_lt zero (suc k) down up = down (omega arith)
by_lt (suc i) (suc k) down up = by_lt i k (λ h. down (omega arith)) (λ h. up (omega arith))

pub below_true : (m n : ℕ) → m < n → nat_lt m n ≡ true
below_true m n h = grind arith

pub below_false : (m n : ℕ) → n ≤ m → nat_lt m n ≡ false
below_false m n h = grind arith

pub lt_says : (a b : ℤ) → lt_z a b ≡ true → a <ℤ b
lt_says a b h = grind (arith, ints)

pub le_says : (a b : ℤ) → le_z a b ≡ true → a ≤ℤ b
le_says a b h = grind (arith, ints)

pub lt_true : (a b : ℤ) → a <ℤ b → lt_z a b ≡ true
lt_true a b h = grind (arith, ints)

pub le_true : (a b : ℤ) → a ≤ℤ b → le_z a b ≡ true
le_true a b h = grind (arith, ints)
