use Rattle.std.proofs.Common.{◌≡◌, ℕ, zero, suc, ◌+◌, ◌*◌, ◌^◌, ◌<◌, ◌≤◌, Bool, true, false, ◌||◌, refl, sym, ap, ◌∙◌, subst, arith, cond, add-one, inl, inr}
use Rattle.std.proofs.Math.Nat.{pow-suc, pow-le-pow_right}
use Rattle.std.proofs.lemmas.Bool.{cases_eq, or_right}
use Rattle.mesh_base_values.specs.Crons.{some_below}
use Rattle.mesh_time.specs.CronText.{set_of}

pub set_more : (p : ℕ → Bool) (n : ℕ) → set_of p (n + 1) ≡ set_of p n + cond (p n) (2 ^ n) 0
unfolding set_of
set_more p n = rw add-one refl

pub set_none : (p : ℕ → Bool) → set_of p 0 ≡ 0
unfolding set_of
set_none p = refl

pub twice : (n : ℕ) → 2 ^ (n + 1) ≡ 2 * 2 ^ n
twice n = rw add-one (rw pow-suc (omega arith))

pub bit_fits : (n : ℕ) → n < 60 → 2 ^ n ≤ 2 ^ 59
bit_fits n h = let one : 1 ≤ 2 = omega arith in let le : n ≤ 59 = omega arith in pow-le-pow_right one le

next_bound : (there : Bool) (n set next : ℕ) → set < 2 ^ n → next ≡ set + cond there (2 ^ n) 0 → next < 2 ^ (n + 1)
next_bound true n set next h is = let power = twice n in omega arith
next_bound false n set next h is = let power = twice n in omega arith

pub set_step : (p : ℕ → Bool) (n set next : ℕ) → set ≡ set_of p n → set < 2 ^ n → next ≡ set + cond (p n) (2 ^ n) 0 → (next ≡ set_of p (n + 1)) × (next < 2 ^ (n + 1))
set_step p n set next e h is =
    let power = twice n in
    let more = set_more p n in
    (is ∙ ap (λ k. k + cond (p n) (2 ^ n) 0) e ∙ sym more, next_bound (p n) n set next h is)

pub some_more : (p : ℕ → Bool) (n : ℕ) → some_below p n ≡ false → p n ≡ false → some_below p (n + 1) ≡ false
unfolding some_below
some_more p n none here = rw (add-one, here, none) refl

pub some_none : (p : ℕ → Bool) → some_below p 0 ≡ false
unfolding some_below
some_none p = refl

pub some_from : (p : ℕ → Bool) (n k : ℕ) → k < n → p k ≡ true → some_below p n ≡ true
unfolding some_below
some_from p zero k lt h = absurd (omega arith)
some_from p (suc n) k lt h =
    elim (cases_eq k n) [
      | inl e ↦ ap (λ t. t || some_below p n) (subst (λ m. p m ≡ true) e h)
      | inr ne ↦ or_right (p n) (some_below p n) (some_from p n k (omega arith) h)
    ]

pub set_bound : (p : ℕ → Bool) (n : ℕ) → set_of p n < 2 ^ n
unfolding set_of
set_bound p zero = omega arith
set_bound p (suc n) =
    let below = set_bound p n in
    let more = next_bound (p n) n (set_of p n) (set_of p n + cond (p n) (2 ^ n) 0) below refl in
    subst (λ k. set_of p n + cond (p n) (2 ^ n) 0 < 2 ^ k) (add-one n) more
