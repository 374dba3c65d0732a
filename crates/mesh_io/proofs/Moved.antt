-- The first bytes of a list are moved out.
use Rattle.std.proofs.Common.{◌≡◌, ◌↔◌, ℕ, zero, suc, ◌+◌, ◌<◌, ◌≤◌, List, [], ◌∷◌, ◌++◌, length, take, drop, refl, sym, ◌∙◌, ap, arith}
use Rattle.std.proofs.lemmas.List.{drop-drop}

front_and_back : (n : ℕ) (xs : List ℕ) → xs ≡ take n xs ++ drop (length (take n xs)) xs
front_and_back zero xs = refl
front_and_back (suc n) [] = refl
front_and_back (suc n) (x ∷ xs) = ap (λ (l : List ℕ). x ∷ l) (front_and_back n xs)

length_front : (n : ℕ) (xs : List ℕ) → length (take n xs) ≤ n
length_front zero xs = omega arith
length_front (suc n) [] = omega arith
length_front (suc n) (x ∷ xs) = omega (arith, length_front n xs)

front_empty : (n : ℕ) (xs : List ℕ) → 0 < n → take n xs ≡ [] → xs ≡ []
front_empty zero xs some e = absurd (omega arith)
front_empty (suc n) [] some e = refl
front_empty (suc n) (x ∷ xs) some e = cc

empty_front : (n : ℕ) (xs : List ℕ) → xs ≡ [] → take n xs ≡ []
empty_front zero xs e = refl
empty_front (suc n) [] e = refl
empty_front (suc n) (x ∷ xs) e = cc

pub piece_and_rest : (bytes piece : List ℕ) (at most : ℕ) → piece ≡ take most (drop at bytes) → drop at bytes ≡ piece ++ drop (at + length piece) bytes
piece_and_rest bytes piece at most is =
    rw is (front_and_back most (drop at bytes) ∙ ap (λ (l : List ℕ). take most (drop at bytes) ++ l) (drop-drop (length (take most (drop at bytes))) at bytes))

pub piece_within : (bytes piece : List ℕ) (at most : ℕ) → piece ≡ take most (drop at bytes) → length piece ≤ most
piece_within bytes piece at most is = rw is (length_front most (drop at bytes))

pub piece_at_end : (bytes piece : List ℕ) (at most : ℕ) → piece ≡ take most (drop at bytes) → 0 < most → (piece ≡ []) ↔ (drop at bytes ≡ [])
piece_at_end bytes piece at most is some =
    ((λ e. front_empty most (drop at bytes) some (sym is ∙ e)), (λ e. is ∙ empty_front most (drop at bytes) e))
