-- Two lists that are one have one first item, and the same others.
use Rattle.std.proofs.Common.{◌≡◌, List, ◌∷◌}

pub cons_is : {A : Type 0} (x y : A) (xs ys : List A) → ◌≡◌ {A = List A} (x ∷ xs) (y ∷ ys) → (x ≡ y) × (xs ≡ ys)
cons_is x y xs ys e = (cc, cc)
