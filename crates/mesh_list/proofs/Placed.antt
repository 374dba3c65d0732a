-- An item is put at its place.
use Rattle.std.proofs.Common.{◌≡◌, Bool, true, false, cond, ℕ, zero, suc, ◌<◌, List, [], ◌∷◌, ◌++◌, length, take, drop, get_or, set, refl, ap, arith, sym, ◌∙◌}
use Rattle.std.specs.List.{insert}
use Rattle.std.specs.declared.cmp.Ordering.{Ordering}
use Rattle.std.specs.declared.cmp.Ordering.TheVariants.{Less, Equal, Greater}
use Rattle.mesh_list.specs.Keyed.{put_by, placed, exchanged}
use Rattle.std.specs.Ordering.{is_eq}

module _ {A K : Type 0} (R : K → K → Ordering) (key : A → K) (y : A) where
  at_order : (o : Ordering) (x : A) (xs : List A) → R (key x) (key y) ≡ o → placed R key y (x ∷ xs) ≡ put_by o x y xs (placed R key y xs)
  at_order o x xs is = ap (λ (r : Ordering). put_by r x y xs (placed R key y xs)) is

  pub placed_same : (xs : List A) (i : ℕ) (x : A) → i < length xs → x ≡ get_or xs i x → R (key x) (key y) ≡ Equal → take i xs ++ placed R key y (drop i xs) ≡ set xs i y
  placed_same [] i x lt here is = absurd (omega arith)
  placed_same (a ∷ xs) zero x lt here is = at_order Equal a xs (ap (λ (b : A). R (key b) (key y)) (sym here) ∙ is)
  placed_same (a ∷ xs) (suc i) x lt here is = ap (λ (l : List A). a ∷ l) (placed_same xs i x (omega arith) here is)

  pub placed_before : (xs : List A) (i : ℕ) (x : A) → i < length xs → x ≡ get_or xs i x → R (key x) (key y) ≡ Greater → take i xs ++ placed R key y (drop i xs) ≡ insert xs i y
  placed_before [] i x lt here is = absurd (omega arith)
  placed_before (a ∷ xs) zero x lt here is = at_order Greater a xs (ap (λ (b : A). R (key b) (key y)) (sym here) ∙ is)
  placed_before (a ∷ xs) (suc i) x lt here is = ap (λ (l : List A). a ∷ l) (placed_before xs i x (omega arith) here is)

  pub placed_after : (xs : List A) (i : ℕ) (x : A) → i < length xs → x ≡ get_or xs i x → R (key x) (key y) ≡ Less → take (suc i) xs ++ placed R key y (drop (suc i) xs) ≡ take i xs ++ placed R key y (drop i xs)
  placed_after [] i x lt here is = absurd (omega arith)
  placed_after (a ∷ xs) zero x lt here is = sym (at_order Less a xs (ap (λ (b : A). R (key b) (key y)) (sym here) ∙ is))
  placed_after (a ∷ xs) (suc i) x lt here is = ap (λ (l : List A). a ∷ l) (placed_after xs i x (omega arith) here is)

module _ {A K : Type 0} (R : K → K → Ordering) (key : A → K) (y : A) where
  pub exchanged_same : (xs : List A) (i : ℕ) (x : A) → i < length xs → x ≡ get_or xs i x → is_eq (R (key x) (key y)) ≡ true → take i xs ++ exchanged R key y (drop i xs) ≡ set xs i y
  exchanged_same [] i x lt here is = absurd (omega arith)
  exchanged_same (a ∷ xs) zero x lt here is = at_equal (is_eq (R (key a) (key y))) (ap (λ (b : A). is_eq (R (key b) (key y))) (sym here) ∙ is)
    where
      at_equal : (b : Bool) → b ≡ true → cond b (y ∷ xs) (a ∷ exchanged R key y xs) ≡ y ∷ xs
      at_equal true e = refl
      at_equal false e = cc
  exchanged_same (a ∷ xs) (suc i) x lt here is = ap (λ (l : List A). a ∷ l) (exchanged_same xs i x (omega arith) here is)
