-- What is found after an item is put at its place.
use Rattle.std.proofs.Common.{◌≡◌, Bool, true, false, cond, List, [], ◌∷◌, Some, refl, sym, ◌∙◌, ap}
use Rattle.std.specs.declared.option.Option.{Option}
use Rattle.std.specs.declared.cmp.Ordering.{Ordering}
use Rattle.std.specs.declared.cmp.Ordering.TheVariants.{Less, Equal, Greater}
use Rattle.std.specs.Ordering.{is_eq}
use Rattle.std.specs.Cmp.{Equal-is}
use Rattle.std.proofs.lemmas.Map.Lookups.{CmpEqualImpliesEq}
use Rattle.mesh_list.specs.Keyed.{found, put_by, placed}

module _ {A K : Type 0} (R : K → K → Ordering) (exact : CmpEqualImpliesEq R) (key : A → K) (y : A) (k : K) where
  abbrev put : List A → Option A
  put xs = cond (is_eq (R (key y) k)) (Some y) (found R key k xs)

  inner : {T : Type 0} (b : Bool) (s t e : T) → cond b s (cond b t e) ≡ cond b s e
  inner true s t e = refl
  inner false s t e = refl

  -- where two keys differ, it doesn't matter which is asked for first
  swap : (p q : Bool) (s t e : Option A) → (p ≡ true → q ≡ false) → cond p s (cond q t e) ≡ cond q t (cond p s e)
  swap true true s t e h = absurd (let f : true ≡ false = h refl in cc)
  swap true false s t e h = refl
  swap false q s t e h = refl

  by_order : (o : Ordering) (x : A) (xs : List A) → R (key x) (key y) ≡ o → found R key k (placed R key y xs) ≡ put xs → found R key k (put_by o x y xs (placed R key y xs)) ≡ put (x ∷ xs)
  by_order Equal x xs is more =
      let same : key x ≡ key y = exact (key x) (key y) is in
      sym (ap (λ (n : K). cond (is_eq (R (key y) k)) (Some y) (cond (is_eq (R n k)) (Some x) (found R key k xs))) same
      ∙ inner (is_eq (R (key y) k)) (Some y) (Some x) (found R key k xs))
  by_order Greater x xs is more = refl
  by_order Less x xs is more =
      ap (cond (is_eq (R (key x) k)) (Some x)) more
      ∙ swap (is_eq (R (key x) k)) (is_eq (R (key y) k)) (Some x) (Some y) (found R key k xs) (λ p. differs (is_eq (R (key y) k)) refl p)
    where
      differs : (b : Bool) → b ≡ is_eq (R (key y) k) → is_eq (R (key x) k) ≡ true → is_eq (R (key y) k) ≡ false
      differs false e p = sym e
      differs true e p =
          let y_is : key y ≡ k = exact (key y) k ((Equal-is (R (key y) k)).0 (sym e)) in
          let equal : R (key x) (key y) ≡ Equal = ap (R (key x)) y_is ∙ (Equal-is (R (key x) k)).0 p in
          absurd (let clash : Less ≡ Equal = sym is ∙ equal in cc)

  pub found-placed : (xs : List A) → found R key k (placed R key y xs) ≡ put xs
  found-placed [] = refl
  found-placed (x ∷ xs) = by_order (R (key x) (key y)) x xs refl (found-placed xs)
