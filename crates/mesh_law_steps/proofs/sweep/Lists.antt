-- What is found in lists without the items of some keys.
use Rattle.std.proofs.Common.{◌≡◌, Bool, true, false, cond, inl, inr, List, [], ◌∷◌, Some, None, refl, sym, ap, ◌∙◌}
use Rattle.std.specs.Cmp.{Equal-is, IsTotalOrder}
use Rattle.std.specs.List.{filter}
use Rattle.std.specs.Ordering.{is_eq}
use Rattle.std.specs.declared.cmp.Ordering.{Ordering}
use Rattle.std.specs.declared.option.Option.{Option}
use Rattle.std.proofs.lemmas.Cmp.{tied_itself}
use Rattle.std.proofs.lemmas.Map.Lookups.{CmpEqualImpliesEq}
use Rattle.std.proofs.lemmas.Bool.{false_from_ne_true as not_true}
use Rattle.mesh_list.specs.Keyed.{ascends, below_first, found, without}
use Rattle.mesh_list.proofs.Ascends.{and_left, and_right}
use Rattle.mesh_list.proofs.Standing.{ascends-without}
use Rattle.mesh_law_query.proofs.Has.{Has, Has_filter_from}
use Rattle.mesh_spec_changes.proofs.listed.Lists.{below_each}
use Rattle.mesh_law_changes.proofs.Rising.{found-without}
use Rattle.mesh_law_steps.proofs.again.Lists.{all_without}

module _ {A K : Type 0} (R : K → K → Ordering) (total : IsTotalOrder R) (exact : CmpEqualImpliesEq R) (key : A → K) where
  is_itself : (k q : K) → k ≡ q → is_eq (R k q) ≡ true
  is_itself k q same = ap (λ (n : K). is_eq (R k n)) (sym same) ∙ (Equal-is (R k k)).1 (tied_itself total k)

  one_left : (k : K) (xs : List A) (q : K) (y : A) → ascends R key xs ≡ true → found R key q (without R key k xs) ≡ Some y → (found R key q xs ≡ Some y) × (k ≡ q → ⊥)
  one_left k xs q y up h = go (is_eq (R k q)) (is_itself k q) (sym (found-without R total exact key k q xs up) ∙ h)
    where
      go : (b : Bool) → (k ≡ q → b ≡ true) → cond b None (found R key q xs) ≡ Some y → (found R key q xs ≡ Some y) × (k ≡ q → ⊥)
      go true same f = absurd (let clash : None ≡ Some y = f in cc)
      go false same f = (f, λ e. let clash : false ≡ true = same e in cc)

  -- what is found without some keys was found before, by another key than these
  pub found_left : (ks : List K) (xs : List A) (q : K) (y : A) → ascends R key xs ≡ true → found R key q (all_without R key ks xs) ≡ Some y → (found R key q xs ≡ Some y) × (Has q ks → ⊥)
  found_left [] xs q y up h = (h, λ none. none)
  found_left (k ∷ ks) xs q y up h =
      let later = found_left ks (without R key k xs) q y (ascends-without R total key k xs up) h in
      let first = one_left k xs q y up later.0 in
      (first.0, neither first.1 later.1)
    where
      neither : (k ≡ q → ⊥) → (Has q ks → ⊥) → Has q (k ∷ ks) → ⊥
      neither f g (inl e) = f e
      neither f g (inr i) = g i

  -- another key than these finds what it found before
  pub found_still : (ks : List K) (xs : List A) (q : K) → ascends R key xs ≡ true → (Has q ks → ⊥) → found R key q (all_without R key ks xs) ≡ found R key q xs
  found_still [] xs q up other = refl
  found_still (k ∷ ks) xs q up other =
      found_still ks (without R key k xs) q (ascends-without R total key k xs up) (λ i. other (inr i))
      ∙ found-without R total exact key k q xs up
      ∙ ap (λ (b : Bool). cond b None (found R key q xs)) (not_true (is_eq (R k q)) (λ e. other (inl (exact k q ((Equal-is (R k q)).0 e)))))

  -- and none of these finds anything
  pub found_none : (ks : List K) (xs : List A) (q : K) → ascends R key xs ≡ true → Has q ks → found R key q (all_without R key ks xs) ≡ None
  found_none ks xs q up h = go (found R key q (all_without R key ks xs)) refl
    where
      go : (o : Option A) → found R key q (all_without R key ks xs) ≡ o → o ≡ None
      go None e = refl
      go (Some y) e = absurd ((found_left ks xs q y up e).1 h)

-- the keys of some items all differ
abbrev pub AreApart : {A K : Type 0} → (K → K → Ordering) → (A → K) → List A → Type 0
AreApart R key [] = Unit {0}
AreApart {A} R key (x ∷ xs) = ((y : A) → Has y xs → is_eq (R (key x) (key y)) ≡ false) × AreApart R key xs

-- so do those of the items of a list in order that pass a test
pub filter_apart : {A K : Type 0} (R : K → K → Ordering) → IsTotalOrder R → (key : A → K) (p : A → Bool) (xs : List A) → ascends R key xs ≡ true → AreApart R key (filter p xs)
filter_apart R total key p [] up = tt
filter_apart {A} R total key p (x ∷ xs) up = go (p x) (filter_apart R total key p xs later)
  where
    first : below_first R key (key x) xs ≡ true
    first = and_left (below_first R key (key x) xs) (ascends R key xs) up

    later : ascends R key xs ≡ true
    later = and_right (below_first R key (key x) xs) (ascends R key xs) up

    go : (b : Bool) → AreApart R key (filter p xs) → AreApart R key (cond b (x ∷ filter p xs) (filter p xs))
    go true more = ((λ (y : A) h. ap is_eq (below_each R total key (key x) xs first later y (Has_filter_from p xs y h).0)), more)
    go false more = more
