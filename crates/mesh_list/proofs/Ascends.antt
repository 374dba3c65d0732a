-- A list stays in order where an item is put at its place.
use Rattle.std.proofs.Common.{◌≡◌, Bool, true, false, ◌&&◌, List, [], ◌∷◌, refl, sym, ◌∙◌, ap}
use Rattle.std.specs.declared.cmp.Ordering.{Ordering}
use Rattle.std.specs.declared.cmp.Ordering.TheVariants.{Less, Equal, Greater}
use Rattle.std.specs.Ordering.{is_lt, ordering_reverse}
use Rattle.std.specs.Cmp.{IsTotalOrder}
use Rattle.std.proofs.lemmas.Bool.{and_from as and_both}
use Rattle.mesh_list.specs.Keyed.{put_by, placed, below_first, ascends}

pub and_left : (a b : Bool) → (a && b) ≡ true → a ≡ true
and_left true b h = refl
and_left false b h = h

pub and_right : (a b : Bool) → (a && b) ≡ true → b ≡ true
and_right true b h = h
and_right false b h = cc

module _ {A K : Type 0} (R : K → K → Ordering) (total : IsTotalOrder R) (key : A → K) (y : A) where
  -- a key that is below that of y and of the first item is below the first item once y is placed
  below_put : (k : K) (z : A) (zs placed_rest : List A) (o : Ordering) → is_lt (R k (key y)) ≡ true → is_lt (R k (key z)) ≡ true → below_first R key k (put_by o z y zs placed_rest) ≡ true
  below_put k z zs rest Less p q = q
  below_put k z zs rest Equal p q = p
  below_put k z zs rest Greater p q = p

  below_placed : (k : K) (xs : List A) → is_lt (R k (key y)) ≡ true → below_first R key k xs ≡ true → below_first R key k (placed R key y xs) ≡ true
  below_placed k [] p q = p
  below_placed k (z ∷ zs) p q = below_put k z zs (placed R key y zs) (R (key z) (key y)) p q

  pub below_same : (x : A) (xs : List A) → R (key x) (key y) ≡ Equal → below_first R key (key x) xs ≡ true → below_first R key (key y) xs ≡ true
  below_same x [] is h = refl
  below_same x (z ∷ zs) is h = ap is_lt (sym (total.congr (key x) (key y) (key z) is)) ∙ h

  by_order : (o : Ordering) (x : A) (xs : List A) → R (key x) (key y) ≡ o → ascends R key (x ∷ xs) ≡ true → ascends R key (placed R key y xs) ≡ true → ascends R key (put_by o x y xs (placed R key y xs)) ≡ true
  by_order Less x xs is h more = and_both _ _ (below_placed (key x) xs (ap is_lt is) (and_left _ _ h)) more
  by_order Equal x xs is h more = and_both _ _ (below_same x xs is (and_left _ _ h)) (and_right _ _ h)
  by_order Greater x xs is h more = and_both _ _ (ap is_lt (total.antisymm (key y) (key x) ∙ ap ordering_reverse is)) h

  pub ascends-placed : (xs : List A) → ascends R key xs ≡ true → ascends R key (placed R key y xs) ≡ true
  ascends-placed [] h = refl
  ascends-placed (x ∷ xs) h = by_order (R (key x) (key y)) x xs refl h (ascends-placed xs (and_right (below_first R key (key x) xs) (ascends R key xs) h))
