-- Texts of records that are written one after another.
use Rattle.std.proofs.Common.{◌≡◌, ◌∙◌, ◌<◌, ◌≤◌, ◌+◌, ◌++◌, ◌∷◌, [], sym, ap, arith, ℕ, suc, List, map, take, length, get_or}
use Rattle.std.specs.List.{flat_map}
use Rattle.std.proofs.lemmas.Grind.{flat_map-append}
use Rattle.std.proofs.lemmas.List.{append_assoc, append-nil, map-append, take_all, take_more}
use Rattle.std.proofs.Math.Seq.{take-suc}

module _ {A : Type 0} (text : A → List ℕ) where
  one : (x : A) → flat_map text (x ∷ []) ≡ text x
  one x = append-nil (text x)

  -- one more behind those so far
  pub grown : {R : Type 0} (f : R → A) (xs : List R) (n : ℕ) (d x : R) (front : List ℕ) → n < length xs → x ≡ get_or xs n d
      → (front ++ flat_map text (map f (take n xs))) ++ text (f x) ≡ front ++ flat_map text (map f (take (n + 1) xs))
  grown f xs n d x front within is =
      ap (λ y. (front ++ flat_map text (map f (take n xs))) ++ text (f y)) is ∙ (append_assoc front _ _ ∙ ap (λ back. front ++ back) (
      ap (λ last. flat_map text (map f (take n xs)) ++ last) (sym (one (f (get_or xs n d))))
      ∙ (sym (flat_map-append text (map f (take n xs)) (f (get_or xs n d) ∷ []))
      ∙ (ap (flat_map text) (sym (map-append f (take n xs) (get_or xs n d ∷ [])))
      ∙ (ap (λ ys. flat_map text (map f ys)) (sym (take-suc xs n d within) ∙ ap (λ k. take k xs) (next n)))))))
    where
      next : (n : ℕ) → suc n ≡ n + 1
      next n = omega arith

-- what was made of one item more stands behind what was made of those before it
pub one_made : {X Y : Type 0} (f : X → Y) (xs : List X) (i : ℕ) (x : X) (was now : List Y) → i < length xs → x ≡ get_or xs i x → was ≡ map f (take i xs) → now ≡ was ++ f x ∷ [] → now ≡ map f (take (i + 1) xs)
one_made {X} {Y} f xs i x was now lt here before put =
    let more : take (i + 1) xs ≡ take i xs ++ x ∷ [] = take_more xs i x lt ∙ ap (λ (z : X). take i xs ++ z ∷ []) (sym here) in
    put ∙ ap (λ (l : List Y). l ++ f x ∷ []) before ∙ sym (map-append f (take i xs) (x ∷ [])) ∙ ap (map f) (sym more)

pub all_made : {X Y : Type 0} (f : X → Y) (xs : List X) (i : ℕ) (now : List Y) → length xs ≤ i → now ≡ map f (take i xs) → now ≡ map f xs
all_made f xs i now le before = before ∙ ap (map f) (take_all i xs le)
