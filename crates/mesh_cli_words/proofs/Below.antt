-- Elements of a list that are passed over one after another.
use Rattle.std.proofs.Common.{◌≡◌, ◌∙◌, ◌<◌, ◌+◌, ◌++◌, ◌∷◌, [], ◌⊎◌, inl, inr, refl, sym, ap, subst, arith, ℕ, zero, suc, List, map, take, length, get_or}
use Rattle.std.proofs.lemmas.List.{get_or_default, map-append}
use Rattle.std.proofs.Math.Seq.{take-suc}

below_next : (k n : ℕ) → k < n + 1 → (k < n) ⊎ (k ≡ n)
below_next zero zero h = inr refl
below_next zero (suc n) h = inl (omega arith)
below_next (suc k) zero h = absurd (omega (arith, h))
below_next (suc k) (suc n) h = elim (below_next k n (omega (arith, h))) [
  | inl less ↦ inl (omega (arith, less))
  | inr same ↦ inr (ap suc same)
]

-- P holds of each so far, and of the next one
pub one_more : {X : Type 0} (P : X → Type 0) (xs : List X) (n : ℕ) (d : X) → n < length xs
    → ((k : ℕ) (e : X) → k < n → P (get_or xs k e)) → P (get_or xs n d) → (k : ℕ) (e : X) → k < n + 1 → P (get_or xs k e)
one_more P xs n d within before now k e h = elim (below_next k n h) [
  | inl less ↦ before k e less
  | inr same ↦ subst (λ i. P (get_or xs i e)) (sym same) (subst P (get_or_default xs n d e within) now)
]

next : (n : ℕ) → suc n ≡ n + 1
next n = omega arith

-- the values so far are those of the elements, and so is the next one
pub one_more_value : {A X : Type 0} (f : A → X) (as_ : List A) (xs : List X) (n : ℕ) (a : A) (d : X) → n < length xs
    → map f as_ ≡ take n xs → f a ≡ get_or xs n d → map f (as_ ++ a ∷ []) ≡ take (n + 1) xs
one_more_value f as_ xs n a d within before now =
    map-append f as_ (a ∷ []) ∙ (ap (λ ys. ys ++ f a ∷ []) before ∙ (ap (λ y. take n xs ++ y ∷ []) now ∙ (sym (take-suc xs n d within) ∙ ap (λ k. take k xs) (next n))))
