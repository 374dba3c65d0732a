-- What is found in a list whose items get other keys, no two of them the same.
use Rattle.std.proofs.Common.{◌≡◌, refl, sym, ◌∙◌, ap, Bool, true, false, cond, ◌||◌, ℕ, ◌≤◌, ◌+◌, List, [], ◌∷◌, map, Some, None, arith, nat_lt}
use Rattle.std.specs.declared.option.Option.{Option}
use Rattle.std.specs.declared.cmp.Ordering.{Ordering}
use Rattle.std.specs.declared.cmp.Ordering.TheVariants.{Equal}
use Rattle.std.specs.Cmp.{IsTotalOrder, Equal-is}
use Rattle.std.specs.List.{list_any}
use Rattle.std.specs.Ordering.{is_eq}
use Rattle.std.proofs.lemmas.Cmp.{tied_itself}
use Rattle.std.proofs.lemmas.List.Sums.{sum_by-cons}
use Rattle.std.proofs.lemmas.Map.Lookups.{CmpEqualImpliesEq}
use Rattle.mesh_list.specs.Keyed.{found}
use Rattle.mesh_list.proofs.Found.{found-placed}
use Rattle.mesh_base_values.proofs.Tests.{below_false}
use Rattle.mesh_house_book.proofs.moves.Sorting.{times, twins, ordered}

left_none : (a b : Bool) → (a || b) ≡ false → a ≡ false
left_none true b h = h
left_none false b h = refl

right_none : (a b : Bool) → (a || b) ≡ false → b ≡ false
right_none true b h = absurd (let no : true ≡ false = h in cc)
right_none false b h = h

none_less : {A : Type 0} (p q : A → Bool) (xs : List A) → ((x : A) → q x ≡ false → p x ≡ false) → list_any q xs ≡ false → list_any p xs ≡ false
none_less p q [] f h = refl
none_less p q (x ∷ xs) f h = ap (λ (t : Bool). t || list_any p xs) (f x (left_none (q x) (list_any q xs) h)) ∙ none_less p q xs f (right_none (q x) (list_any q xs) h)

not_below : (m n : ℕ) → nat_lt m n ≡ false → n ≤ m
not_below m n h = grind arith

module _ {A K : Type 0} (R : K → K → Ordering) (total : IsTotalOrder R) (exact : CmpEqualImpliesEq R) (key : A → K) where
  one_more : (k : K) (x : A) (xs : List A) → times R total exact key k (x ∷ xs) ≡ cond (is_eq (R k (key x))) 1 0 + times R total exact key k xs
  one_more k x xs = sum_by-cons (λ (s : A). cond (is_eq (R k (key s))) 1 0) x xs

  no_more : (k : K) (x : A) (xs : List A) → nat_lt 1 (times R total exact key k (x ∷ xs)) ≡ false → nat_lt 1 (times R total exact key k xs) ≡ false
  no_more k x xs h = at (is_eq (R k (key x))) (one_more k x xs)
    where
      at : (b : Bool) → times R total exact key k (x ∷ xs) ≡ cond b 1 0 + times R total exact key k xs → nat_lt 1 (times R total exact key k xs) ≡ false
      at true e = below_false _ _ (let low = not_below _ _ h in omega arith)
      at false e = below_false _ _ (let low = not_below _ _ h in omega arith)

  pub rest_distinct : (x : A) (xs : List A) → twins R total exact key (x ∷ xs) ≡ false → twins R total exact key xs ≡ false
  rest_distinct x xs h =
      none_less (λ (s : A). nat_lt 1 (times R total exact key (key s) xs)) (λ (s : A). nat_lt 1 (times R total exact key (key s) (x ∷ xs))) xs (λ y. no_more (key y) x xs)
      (right_none (nat_lt 1 (times R total exact key (key x) (x ∷ xs))) (list_any (λ (s : A). nat_lt 1 (times R total exact key (key s) (x ∷ xs))) xs) h)

  turned : (k : K) (x : A) → is_eq (R (key x) k) ≡ true → R k (key x) ≡ Equal
  turned k x e = ap (R k) (exact (key x) k ((Equal-is (R (key x) k)).0 e)) ∙ tied_itself total k

  counted : (k : K) (xs : List A) (y : A) → found R key k xs ≡ Some y → 1 ≤ times R total exact key k xs
  counted k [] y h = absurd (let no : None ≡ Some y = h in cc)
  counted k (x ∷ xs) y h = at (is_eq (R (key x) k)) refl (counted k xs y) h
    where
      at : (b : Bool) → is_eq (R (key x) k) ≡ b → (found R key k xs ≡ Some y → 1 ≤ times R total exact key k xs) → cond b (Some x) (found R key k xs) ≡ Some y → 1 ≤ times R total exact key k (x ∷ xs)
      at true e more g =
          let one : times R total exact key k (x ∷ xs) ≡ 1 + times R total exact key k xs = one_more k x xs ∙ ap (λ (o : Ordering). cond (is_eq o) 1 0 + times R total exact key k xs) (turned k x e) in
          omega (arith, one)
      at false e more g =
          let low = more g in
          go (is_eq (R k (key x))) (one_more k x xs) low
        where
          go : (b : Bool) → times R total exact key k (x ∷ xs) ≡ cond b 1 0 + times R total exact key k xs → 1 ≤ times R total exact key k xs → 1 ≤ times R total exact key k (x ∷ xs)
          go true e low = omega (arith, e, low)
          go false e low = omega (arith, e, low)

  -- the first item's key is not that of another
  pub first_alone : (x : A) (xs : List A) → twins R total exact key (x ∷ xs) ≡ false → found R key (key x) xs ≡ None
  first_alone x xs h = at (found R key (key x) xs) refl
    where
      at : (o : Option A) → found R key (key x) xs ≡ o → found R key (key x) xs ≡ None
      at None e = e
      at (Some y) e =
          let low = counted (key x) xs y e in
          let one : times R total exact key (key x) (x ∷ xs) ≡ 1 + times R total exact key (key x) xs = one_more (key x) x xs ∙ ap (λ (o : Ordering). cond (is_eq o) 1 0 + times R total exact key (key x) xs) (tied_itself total (key x)) in
          let high = not_below _ _ (left_none (nat_lt 1 (times R total exact key (key x) (x ∷ xs))) (list_any (λ (s : A). nat_lt 1 (times R total exact key (key s) (x ∷ xs))) xs) h) in
          absurd (omega (arith, low, one, high))

  -- what is found in a list is found in its items in order
  pub found_ordered : (k : K) (xs : List A) → found R key k (ordered R total exact key xs) ≡ found R key k xs
  found_ordered k [] = refl
  found_ordered k (x ∷ xs) = found-placed R exact key x k (ordered R total exact key xs) ∙ ap (cond (is_eq (R (key x) k)) (Some x)) (found_ordered k xs)

  -- an item is found under its new key
  module _ (f : A → A) (new : K → K) (its : (x : A) → key (f x) ≡ new (key x)) where
    pub found_anew : (k : K) (xs : List A) (s : A) → twins R total exact key (map f xs) ≡ false → found R key k xs ≡ Some s → found R key (new k) (map f xs) ≡ Some (f s)
    found_anew k [] s fine h = absurd (let no : None ≡ Some s = h in cc)
    found_anew k (x ∷ xs) s fine h = at (is_eq (R (key x) k)) refl (found_anew k xs s (rest_distinct (f x) (map f xs) fine)) h
      where
        at : (b : Bool) → is_eq (R (key x) k) ≡ b → (found R key k xs ≡ Some s → found R key (new k) (map f xs) ≡ Some (f s)) → cond b (Some x) (found R key k xs) ≡ Some s → found R key (new k) (map f (x ∷ xs)) ≡ Some (f s)
        at true e more g =
            let is : x ≡ s = cc in
            let key_is : key (f x) ≡ new k = its x ∙ ap new (exact (key x) k ((Equal-is (R (key x) k)).0 e)) in
            let equal : R (key (f x)) (new k) ≡ Equal = ap (λ (n : K). R n (new k)) key_is ∙ tied_itself total (new k) in
            ap (λ (o : Ordering). cond (is_eq o) (Some (f x)) (found R key (new k) (map f xs))) equal ∙ ap (λ (y : A). Some (f y)) is
        at false e more g = go (is_eq (R (key (f x)) (new k))) refl
          where
            there : found R key (new k) (map f xs) ≡ Some (f s)
            there = more g

            go : (b : Bool) → is_eq (R (key (f x)) (new k)) ≡ b → found R key (new k) (map f (x ∷ xs)) ≡ Some (f s)
            go false d = ap (λ (t : Bool). cond t (Some (f x)) (found R key (new k) (map f xs))) d ∙ there
            go true d =
                let same : key (f x) ≡ new k = exact (key (f x)) (new k) ((Equal-is (R (key (f x)) (new k))).0 d) in
                let clash : None ≡ Some (f s) = sym (first_alone (f x) (map f xs) fine) ∙ ap (λ (n : K). found R key n (map f xs)) same ∙ there in
                absurd cc
