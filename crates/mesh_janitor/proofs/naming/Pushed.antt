-- What was made of one item more stands behind what was made of those before it.
use Rattle.std.proofs.Common.{◌≡◌, ℕ, ◌+◌, ◌<◌, Ok, Result, List, [], ◌∷◌, ◌++◌, map, length, take, get_or, sym, ap, subst, ◌∙◌, append_assoc}
use Rattle.std.specs.Prelude.{IfOk}
use Rattle.std.proofs.lemmas.List.{map-append, take_more}

pub one_more_made : {X Y E : Type 0} (f : X → Y) (first : List Y) (xs : List X) (i : ℕ) (x : X) (was new : List Y) (r : Result Y E) → i < length xs → x ≡ get_or xs i x → was ≡ first ++ map f (take i xs)
    → IfOk r (λ y. y ≡ f x) → (y : Y) × (r ≡ Ok y) × (new ≡ was ++ y ∷ []) → new ≡ first ++ map f (take (i + 1) xs)
one_more_made {X} {Y} {E} f first xs i x was new r lt here before made (y, is, pushed) =
    let same : y ≡ f x = subst (λ (q : Result Y E). IfOk q (λ z. z ≡ f x)) is made in
    let more : take (i + 1) xs ≡ take i xs ++ x ∷ [] = take_more xs i x lt ∙ ap (λ (z : X). take i xs ++ z ∷ []) (sym here) in
    pushed
    ∙ (λ k. before k ++ same k ∷ [])
    ∙ append_assoc first (map f (take i xs)) (f x ∷ [])
    ∙ ap (λ (l : List Y). first ++ l) (sym (map-append f (take i xs) (x ∷ [])) ∙ ap (map f) (sym more))
