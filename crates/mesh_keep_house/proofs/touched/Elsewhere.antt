-- What an edit of a list leaves under the other keys.
use Rattle.std.proofs.Common.{◌≡◌, Bool, true, false, cond, ◌&&◌, List, [], ◌∷◌, Some, None, refl, sym, ◌∙◌, ap}
use Rattle.std.specs.declared.cmp.Ordering.{Ordering}
use Rattle.std.specs.declared.cmp.Ordering.TheVariants.{Less, Equal, Greater}
use Rattle.std.specs.Ordering.{is_eq}
use Rattle.std.specs.Cmp.{IsTotalOrder, Equal-is}
use Rattle.std.specs.List.{list_all}
use Rattle.std.proofs.lemmas.Bool.{and_parts, and_from}
use Rattle.std.proofs.lemmas.Map.Lookups.{CmpEqualImpliesEq}
use Rattle.mesh_list.specs.Keyed.{ascends, below_first, exchanged, found, placed, put_by, without}
use Rattle.mesh_list.proofs.Ascends.{and_right}
use Rattle.mesh_list.proofs.Each.{found-behind}
use Rattle.mesh_list.proofs.Found.{found-placed}

module _ {A K : Type 0} (R : K → K → Ordering) (exact : CmpEqualImpliesEq R) (key : A → K) (k : K) where
  pub found_beside : (y : A) (xs : List A) → is_eq (R (key y) k) ≡ false → found R key k (placed R key y xs) ≡ found R key k xs
  found_beside y xs other = found-placed R exact key y k xs ∙ ap (λ b. cond b (Some y) (found R key k xs)) other

  pub found_without : (j : K) (xs : List A) → is_eq (R j k) ≡ false → found R key k (without R key j xs) ≡ found R key k xs
  found_without j [] other = refl
  found_without j (x ∷ xs) other = at (is_eq (R (key x) j)) refl (found_without j xs other)
    where
      at : (b : Bool) → is_eq (R (key x) j) ≡ b → found R key k (without R key j xs) ≡ found R key k xs → found R key k (cond b xs (x ∷ without R key j xs)) ≡ cond (is_eq (R (key x) k)) (Some x) (found R key k xs)
      at true e more =
          let same : key x ≡ j = exact (key x) j ((Equal-is (R (key x) j)).0 e) in
          sym (ap (λ b. cond b (Some x) (found R key k xs)) (ap (λ n. is_eq (R n k)) same ∙ other))
      at false e more = ap (cond (is_eq (R (key x) k)) (Some x)) more

  pub found_exchanged : (y : A) (xs : List A) → is_eq (R (key y) k) ≡ false → found R key k (exchanged R key y xs) ≡ found R key k xs
  found_exchanged y [] other = refl
  found_exchanged y (x ∷ xs) other = at (is_eq (R (key x) (key y))) refl (found_exchanged y xs other)
    where
      at : (b : Bool) → is_eq (R (key x) (key y)) ≡ b → found R key k (exchanged R key y xs) ≡ found R key k xs → found R key k (cond b (y ∷ xs) (x ∷ exchanged R key y xs)) ≡ cond (is_eq (R (key x) k)) (Some x) (found R key k xs)
      at true e more =
          let same : key x ≡ key y = exact (key x) (key y) ((Equal-is (R (key x) (key y))).0 e) in
          ap (λ b. cond b (Some y) (found R key k xs)) other
          ∙ sym (ap (λ b. cond b (Some x) (found R key k xs)) (ap (λ n. is_eq (R n k)) same ∙ other))
      at false e more = ap (cond (is_eq (R (key x) k)) (Some x)) more

  -- an item that was taken out of a list in order is gone
  pub found_gone : IsTotalOrder R → (xs : List A) → ascends R key xs ≡ true → found R key k (without R key k xs) ≡ None
  found_gone total [] up = refl
  found_gone total (x ∷ xs) up = at (R (key x) k) refl (found_gone total xs (and_right (below_first R key (key x) xs) (ascends R key xs) up))
    where
      at : (o : Ordering) → R (key x) k ≡ o → found R key k (without R key k xs) ≡ None → found R key k (cond (is_eq o) xs (x ∷ without R key k xs)) ≡ None
      at Less e more = ap (λ p. cond (is_eq p) (Some x) (found R key k (without R key k xs))) e ∙ more
      at Equal e more = found-behind R total key x xs k e up
      at Greater e more = ap (λ p. cond (is_eq p) (Some x) (found R key k (without R key k xs))) e ∙ more

-- what holds of all keys of a list holds after an edit
module _ {A K : Type 0} (R : K → K → Ordering) (exact : CmpEqualImpliesEq R) (key : A → K) (q : K → Bool) where
  abbrev pub all_keys : List A → Bool
  all_keys = list_all (λ x. q (key x))

  pub all_placed : (y : A) (xs : List A) → q (key y) ≡ true → all_keys (placed R key y xs) ≡ all_keys xs
  all_placed y [] h = ap (λ b. b && true) h
  all_placed y (x ∷ xs) h = at (R (key x) (key y)) refl (all_placed y xs h)
    where
      at : (o : Ordering) → R (key x) (key y) ≡ o → all_keys (placed R key y xs) ≡ all_keys xs → all_keys (put_by o x y xs (placed R key y xs)) ≡ (q (key x) && all_keys xs)
      at Less e more = ap (λ b. q (key x) && b) more
      at Equal e more = ap (λ n. q n && all_keys xs) (sym (exact (key x) (key y) e))
      at Greater e more = ap (λ b. b && (q (key x) && all_keys xs)) h

  pub all_without : (j : K) (xs : List A) → q j ≡ true → all_keys (without R key j xs) ≡ all_keys xs
  all_without j [] h = refl
  all_without j (x ∷ xs) h = at (is_eq (R (key x) j)) refl (all_without j xs h)
    where
      at : (b : Bool) → is_eq (R (key x) j) ≡ b → all_keys (without R key j xs) ≡ all_keys xs → all_keys (cond b xs (x ∷ without R key j xs)) ≡ (q (key x) && all_keys xs)
      at true e more = sym (ap (λ b. b && all_keys xs) (ap q (exact (key x) j ((Equal-is (R (key x) j)).0 e)) ∙ h))
      at false e more = ap (λ b. q (key x) && b) more

  pub all_exchanged : (y : A) (xs : List A) → all_keys (exchanged R key y xs) ≡ all_keys xs
  all_exchanged y [] = refl
  all_exchanged y (x ∷ xs) = at (is_eq (R (key x) (key y))) refl (all_exchanged y xs)
    where
      at : (b : Bool) → is_eq (R (key x) (key y)) ≡ b → all_keys (exchanged R key y xs) ≡ all_keys xs → all_keys (cond b (y ∷ xs) (x ∷ exchanged R key y xs)) ≡ (q (key x) && all_keys xs)
      at true e more = ap (λ n. q n && all_keys xs) (sym (exact (key x) (key y) ((Equal-is (R (key x) (key y))).0 e)))
      at false e more = ap (λ b. q (key x) && b) more

  -- also where an item goes of which that isn't known
  pub all_fewer : (j : K) (xs : List A) → all_keys xs ≡ true → all_keys (without R key j xs) ≡ true
  all_fewer j [] h = refl
  all_fewer j (x ∷ xs) h =
      let both = and_parts (q (key x)) (all_keys xs) h in
      at (is_eq (R (key x) j)) both.0 both.1 (all_fewer j xs both.1)
    where
      at : (b : Bool) → q (key x) ≡ true → all_keys xs ≡ true → all_keys (without R key j xs) ≡ true → all_keys (cond b xs (x ∷ without R key j xs)) ≡ true
      at true first rest more = rest
      at false first rest more = and_from (q (key x)) (all_keys (without R key j xs)) first more
