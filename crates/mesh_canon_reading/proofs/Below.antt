-- What passes a test below a number, one number on.
use Rattle.std.proofs.Common.{◌≡◌, ℕ, zero, suc, ◌+◌, ◌<◌, Bool, true, false, cond, ◌||◌, refl, ap, subst, arith, add-one, inl, inr}
use Rattle.std.proofs.lemmas.Bool.{cases_eq, or_right}
use Rattle.mesh_base_values.specs.Crons.{count_below, some_below}

pub some_more : (p : ℕ → Bool) (n : ℕ) → some_below p n ≡ false → p n ≡ false → some_below p (n + 1) ≡ false
unfolding some_below
some_more p n none here = rw (add-one, here, none) refl

pub some_none : (p : ℕ → Bool) → some_below p 0 ≡ false
unfolding some_below
some_none p = refl

pub some_from : (p : ℕ → Bool) (n k : ℕ) → k < n → p k ≡ true → some_below p n ≡ true
unfolding some_below
some_from p zero k lt h = absurd (omega arith)
some_from p (suc n) k lt h =
    elim (cases_eq k n) [
      | inl e ↦ ap (λ t. t || some_below p n) (subst (λ m. p m ≡ true) e h)
      | inr ne ↦ or_right (p n) (some_below p n) (some_from p n k (omega arith) h)
    ]

pub count_more : (p : ℕ → Bool) (n : ℕ) → count_below p (n + 1) ≡ count_below p n + cond (p n) 1 0
unfolding count_below
count_more p n = rw add-one refl
