-- A list whose items all pass a test, where one that passes is put at its place or in another's, and where one goes.
use Rattle.std.proofs.Common.{◌≡◌, Bool, true, false, cond, List, [], ◌∷◌, refl}
use Rattle.std.specs.List.{list_all}
use Rattle.std.specs.declared.cmp.Ordering.{Ordering}
use Rattle.std.specs.declared.cmp.Ordering.TheVariants.{Less, Equal, Greater}
use Rattle.std.specs.Ordering.{is_eq}
use Rattle.std.proofs.lemmas.Bool.{and_from as and_both}
use Rattle.mesh_list.specs.Keyed.{put_by, placed, exchanged, without}
use Rattle.mesh_list.proofs.Ascends.{and_left, and_right}

module _ {A K : Type 0} (R : K → K → Ordering) (key : A → K) (P : A → Bool) where
  module _ (y : A) (y_is : P y ≡ true) where
    by_order : (o : Ordering) (x : A) (xs placed_rest : List A) → list_all P (x ∷ xs) ≡ true → list_all P placed_rest ≡ true → list_all P (put_by o x y xs placed_rest) ≡ true
    by_order Less x xs placed_rest h more = and_both _ _ (and_left _ _ h) more
    by_order Equal x xs placed_rest h more = and_both _ _ y_is (and_right _ _ h)
    by_order Greater x xs placed_rest h more = and_both _ _ y_is h

    pub all-placed : (xs : List A) → list_all P xs ≡ true → list_all P (placed R key y xs) ≡ true
    all-placed [] h = and_both _ _ y_is refl
    all-placed (x ∷ xs) h = by_order (R (key x) (key y)) x xs (placed R key y xs) h (all-placed xs (and_right (P x) (list_all P xs) h))

    exchanged_at : (b : Bool) (x : A) (xs more : List A) → list_all P (x ∷ xs) ≡ true → list_all P more ≡ true → list_all P (cond b (y ∷ xs) (x ∷ more)) ≡ true
    exchanged_at true x xs more h rest = and_both _ _ y_is (and_right _ _ h)
    exchanged_at false x xs more h rest = and_both _ _ (and_left _ _ h) rest

    pub all-exchanged : (xs : List A) → list_all P xs ≡ true → list_all P (exchanged R key y xs) ≡ true
    all-exchanged [] h = refl
    all-exchanged (x ∷ xs) h = exchanged_at (is_eq (R (key x) (key y))) x xs (exchanged R key y xs) h (all-exchanged xs (and_right (P x) (list_all P xs) h))

  without_at : (b : Bool) (x : A) (xs more : List A) → list_all P (x ∷ xs) ≡ true → list_all P more ≡ true → list_all P (cond b xs (x ∷ more)) ≡ true
  without_at true x xs more h rest = and_right _ _ h
  without_at false x xs more h rest = and_both _ _ (and_left _ _ h) rest

  pub all-without : (k : K) (xs : List A) → list_all P xs ≡ true → list_all P (without R key k xs) ≡ true
  all-without k [] h = refl
  all-without k (x ∷ xs) h = without_at (is_eq (R (key x) k)) x xs (without R key k xs) h (all-without k xs (and_right (P x) (list_all P xs) h))
