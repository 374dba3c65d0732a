-- Lists in order, and what stands in them.
use Rattle.std.proofs.Common.{◌≡◌, ℕ, zero, suc, Bool, true, false, ◌&&◌, ◌||◌, ◌⊎◌, inl, inr, List, [], ◌∷◌, ◌++◌, map, length, refl, sym, ◌∙◌, ap}
use Rattle.std.specs.List.{list_all, list_any, slice_get}
use Rattle.std.specs.Cmp.{IsTotalOrder}
use Rattle.std.specs.Ordering.{is_lt}
use Rattle.std.specs.declared.cmp.Ordering.{Ordering}
use Rattle.std.specs.declared.cmp.Ordering.TheVariants.{Less, Equal, Greater}
use Rattle.std.specs.declared.option.Option.TheVariants.{Some}
use Rattle.std.proofs.lemmas.Cmp.{tied_itself}
use Rattle.mesh_list.specs.Keyed.{ascends, below_first, placed, put_by}
use Rattle.mesh_list.proofs.Ascends.{and_left, and_right}
use Rattle.mesh_list.proofs.Each.{below_later, lt_is}
use Rattle.mesh_law_query.proofs.Has.{Has}

pub passes : {X : Type 0} (p : X → Bool) (xs : List X) → ((x : X) → Has x xs → p x ≡ true) → list_all p xs ≡ true
passes p [] f = refl
passes p (x ∷ xs) f = λ i. f x (inl refl) i && passes p xs (λ y h. f y (inr h)) i

pub none_passes : {X : Type 0} (p : X → Bool) (xs : List X) → ((x : X) → Has x xs → p x ≡ false) → list_any p xs ≡ false
none_passes p [] f = refl
none_passes p (x ∷ xs) f = λ i. f x (inl refl) i || none_passes p xs (λ y h. f y (inr h)) i

pub get_left : {X : Type 0} (xs ys : List X) (i : ℕ) (x : X) → slice_get xs i ≡ Some x → slice_get (xs ++ ys) i ≡ Some x
get_left [] ys i x e = absurd (cc)
get_left (z ∷ xs) ys zero x e = e
get_left (z ∷ xs) ys (suc i) x e = get_left xs ys i x e

-- a list and another one, whose items are compared alike
module _ {X Y K L : Type 0} (R : K → K → Ordering) (key : Y → K) (S : L → L → Ordering) (other : X → L) (f : X → Y) where
  below_map : (x : X) (xs : List X) → ((y : X) → Has y xs → R (key (f x)) (key (f y)) ≡ S (other x) (other y)) → below_first R key (key (f x)) (map f xs) ≡ below_first S other (other x) xs
  below_map x [] same = refl
  below_map x (y ∷ ys) same = ap is_lt (same y (inl refl))

  pub ascends_map : (xs : List X) → ((x y : X) → Has x xs → Has y xs → R (key (f x)) (key (f y)) ≡ S (other x) (other y)) → ascends R key (map f xs) ≡ ascends S other xs
  ascends_map [] same = refl
  ascends_map (x ∷ xs) same = λ i. below_map x xs (λ y h. same x y (inl refl) (inr h)) i && ascends_map xs (λ y z h k. same y z (inr h) (inr k)) i

-- lists that ascend
module _ {A K : Type 0} (R : K → K → Ordering) (total : IsTotalOrder R) (key : A → K) where
  pub below_each : (k : K) (xs : List A) → below_first R key k xs ≡ true → ascends R key xs ≡ true → (x : A) → Has x xs → R k (key x) ≡ Less
  below_each k [] first up x h = absurd h
  below_each k (y ∷ ys) first up x (inl e) = ap (λ (z : A). R k (key z)) (sym e) ∙ lt_is _ first
  below_each k (y ∷ ys) first up x (inr h) = below_each k ys (below_later R total key k y ys (lt_is _ first) (and_left _ _ up)) (and_right (below_first R key (key y) ys) (ascends R key ys) up) x h

  differs : (a b : A) → R (key a) (key b) ≡ Less → key a ≡ key b → ⊥
  differs a b less same = let clash : Less ≡ Equal = sym less ∙ ap (R (key a)) (sym same) ∙ tied_itself total (key a) in absurd (cc)

  pub one_of_key : (xs : List A) → ascends R key xs ≡ true → (a b : A) → Has a xs → Has b xs → key a ≡ key b → a ≡ b
  one_of_key [] up a b h k same = absurd h
  one_of_key (x ∷ xs) up a b (inl e) (inl f) same = sym e ∙ f
  one_of_key (x ∷ xs) up a b (inl e) (inr k) same = absurd (differs x b (below_each (key x) xs (and_left _ _ up) (and_right (below_first R key (key x) xs) (ascends R key xs) up) b k) (ap key e ∙ same))
  one_of_key (x ∷ xs) up a b (inr h) (inl f) same = absurd (differs x a (below_each (key x) xs (and_left _ _ up) (and_right (below_first R key (key x) xs) (ascends R key xs) up) a h) (ap key f ∙ sym same))
  one_of_key (x ∷ xs) up a b (inr h) (inr k) same = one_of_key xs (and_right (below_first R key (key x) xs) (ascends R key xs) up) a b h k same

-- what stands in a list after an item is put at its place
module _ {A K : Type 0} (R : K → K → Ordering) (key : A → K) (y : A) where
  pub placed_from : (xs : List A) (x : A) → Has x (placed R key y xs) → (y ≡ x) ⊎ Has x xs
  placed_from [] x (inl e) = inl e
  placed_from [] x (inr h) = absurd h
  placed_from (z ∷ zs) x h = go (R (key z) (key y)) h (placed_from zs x)
    where
      later : (y ≡ x) ⊎ Has x zs → (y ≡ x) ⊎ Has x (z ∷ zs)
      later (inl e) = inl e
      later (inr h) = inr (inr h)

      go : (o : Ordering) → Has x (put_by o z y zs (placed R key y zs)) → (Has x (placed R key y zs) → (y ≡ x) ⊎ Has x zs) → (y ≡ x) ⊎ Has x (z ∷ zs)
      go Less (inl e) more = inr (inl e)
      go Less (inr h) more = later (more h)
      go Equal (inl e) more = inl e
      go Equal (inr h) more = inr (inr h)
      go Greater (inl e) more = inl e
      go Greater (inr h) more = inr h

  pub placed_itself : (xs : List A) → Has y (placed R key y xs)
  placed_itself [] = inl refl
  placed_itself (z ∷ zs) = go (R (key z) (key y)) (placed_itself zs)
    where
      go : (o : Ordering) → Has y (placed R key y zs) → Has y (put_by o z y zs (placed R key y zs))
      go Less more = inr more
      go Equal more = inl refl
      go Greater more = inl refl

  pub placed_keeps : (xs : List A) (x : A) → Has x xs → (R (key x) (key y) ≡ Equal → ⊥) → Has x (placed R key y xs)
  placed_keeps [] x h apart = absurd h
  placed_keeps (z ∷ zs) x h apart = go (R (key z) (key y)) refl h (λ k. placed_keeps zs x k apart)
    where
      go : (o : Ordering) → R (key z) (key y) ≡ o → Has x (z ∷ zs) → (Has x zs → Has x (placed R key y zs)) → Has x (put_by o z y zs (placed R key y zs))
      go Less is (inl e) more = inl e
      go Less is (inr k) more = inr (more k)
      go Equal is (inl e) more = absurd (apart (ap (λ (a : A). R (key a) (key y)) (sym e) ∙ is))
      go Equal is (inr k) more = inr k
      go Greater is k more = inr k

  pub placed_longer : (xs : List A) → ((x : A) → Has x xs → R (key x) (key y) ≡ Equal → ⊥) → length (placed R key y xs) ≡ suc (length xs)
  placed_longer [] apart = refl
  placed_longer (z ∷ zs) apart = go (R (key z) (key y)) refl (placed_longer zs (λ x h. apart x (inr h)))
    where
      go : (o : Ordering) → R (key z) (key y) ≡ o → length (placed R key y zs) ≡ suc (length zs) → length (put_by o z y zs (placed R key y zs)) ≡ suc (suc (length zs))
      go Less is more = ap suc more
      go Equal is more = absurd (apart z (inl refl) is)
      go Greater is more = refl
