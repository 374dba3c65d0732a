-- In a list in order each item is the one that is found by its key.
use Rattle.std.proofs.Common.{◌≡◌, true, cond, List, [], ◌∷◌, Some, None, refl, sym, ◌∙◌, ap}
use Rattle.std.specs.declared.cmp.Ordering.{Ordering}
use Rattle.std.specs.declared.cmp.Ordering.TheVariants.{Less, Equal, Greater}
use Rattle.std.specs.Ordering.{is_lt, is_eq, ordering_reverse}
use Rattle.std.specs.List.{AllByRecursion}
use Rattle.std.specs.Cmp.{IsTotalOrder}
use Rattle.std.proofs.lemmas.Cmp.{tied_itself}
use Rattle.mesh_list.specs.Keyed.{found, below_first, ascends}
use Rattle.mesh_list.proofs.Ascends.{and_left, and_right}

pub lt_is : (o : Ordering) → is_lt o ≡ true → o ≡ Less
lt_is Less h = refl
lt_is Equal h = cc
lt_is Greater h = cc

module _ {A K : Type 0} (R : K → K → Ordering) (total : IsTotalOrder R) (key : A → K) where
  pub below_later : (k : K) (x : A) (xs : List A) → R k (key x) ≡ Less → below_first R key (key x) xs ≡ true → below_first R key k xs ≡ true
  below_later k x [] less h = refl
  below_later k x (z ∷ zs) less h = ap is_lt (total.trans k (key x) (key z) less (lt_is _ h))

  pub found-later : (x : A) (xs : List A) (k : K) → R (key x) k ≡ Less → found R key k (x ∷ xs) ≡ found R key k xs
  found-later x xs k less = ap (λ (o : Ordering). cond (is_eq o) (Some x) (found R key k xs)) less

  pub found-itself : (x : A) (xs : List A) (k : K) → R (key x) k ≡ Equal → found R key k (x ∷ xs) ≡ Some x
  found-itself x xs k equal = ap (λ (o : Ordering). cond (is_eq o) (Some x) (found R key k xs)) equal

  -- a key that is below all is not found
  pub found-above : (k : K) (xs : List A) → below_first R key k xs ≡ true → ascends R key xs ≡ true → found R key k xs ≡ None
  found-above k [] below up = refl
  found-above k (x ∷ xs) below up =
      let less : R k (key x) ≡ Less = lt_is _ below in
      let greater : R (key x) k ≡ Greater = total.antisymm (key x) k ∙ ap ordering_reverse less in
      ap (λ (o : Ordering). cond (is_eq o) (Some x) (found R key k xs)) greater
      ∙ found-above k xs (below_later k x xs less (and_left _ _ up)) (and_right _ _ up)

  -- a key that ties with the first is not found behind it
  pub found-behind : (x : A) (xs : List A) (k : K) → R (key x) k ≡ Equal → ascends R key (x ∷ xs) ≡ true → found R key k xs ≡ None
  found-behind x [] k equal up = refl
  found-behind x (z ∷ zs) k equal up =
      found-above k (z ∷ zs) (ap is_lt (sym (total.congr (key x) k (key z) equal)) ∙ and_left _ _ up) (and_right _ _ up)

  behind : (x : A) (xs ys : List A) → below_first R key (key x) ys ≡ true → ascends R key ys ≡ true
      → AllByRecursion (λ (y : A). found R key (key y) xs ≡ Some y) ys → AllByRecursion (λ (y : A). found R key (key y) (x ∷ xs) ≡ Some y) ys
  behind x xs [] below up all = tt
  behind x xs (y ∷ ys) below up all = (
    found-later x xs (key y) (lt_is _ below) ∙ all.0,
    behind x xs ys (below_later (key x) y ys (lt_is _ below) (and_left _ _ up)) (and_right _ _ up) all.1,
  )

  pub each_found : (xs : List A) → ascends R key xs ≡ true → AllByRecursion (λ (y : A). found R key (key y) xs ≡ Some y) xs
  each_found [] up = tt
  each_found (x ∷ xs) up = (
    found-itself x xs (key x) (tied_itself total (key x)),
    behind x xs xs (and_left _ _ up) (and_right _ _ up) (each_found xs (and_right _ _ up)),
  )
