-- Lists without the items of some keys.
use Rattle.std.proofs.Common.{◌≡◌, Bool, true, false, cond, not, inl, inr, List, [], ◌∷◌, ◌++◌, Some, None, refl, sym, ap, ◌∙◌}
use Rattle.std.specs.Prelude.{◌||◌, ◌&&◌}
use Rattle.std.specs.Cmp.{Equal-is, IsTotalOrder}
use Rattle.std.specs.List.{filter, list_any}
use Rattle.std.specs.Ordering.{is_eq, ordering_reverse}
use Rattle.std.specs.declared.cmp.Ordering.{Ordering}
use Rattle.std.specs.declared.option.Option.{Option}
use Rattle.std.proofs.lemmas.Cmp.{tied_itself}
use Rattle.std.proofs.lemmas.Map.Lookups.{CmpEqualImpliesEq}
use Rattle.mesh_list.specs.Keyed.{ascends, below_first, exchanged, found, without}
use Rattle.mesh_list.proofs.Ascends.{and_left, and_right}
use Rattle.mesh_list.proofs.Standing.{ascends-without}
use Rattle.mesh_house_book.specs.Changes.{put, put_for}
use Rattle.mesh_house_book.proofs.Exchanged.{without_placed}
use Rattle.mesh_law_query.proofs.Has.{Has}
use Rattle.mesh_spec_changes.proofs.listed.Lists.{below_each}

-- both or neither

pub filter_all : {A : Type 0} (p : A → Bool) (xs : List A) → ((x : A) → Has x xs → p x ≡ true) → filter p xs ≡ xs
filter_all p [] h = refl
filter_all {A} p (x ∷ xs) h = ap (λ (b : Bool). cond b (x ∷ filter p xs) (filter p xs)) (h x (inl refl)) ∙ ap (λ (l : List A). x ∷ l) (filter_all p xs (λ y k. h y (inr k)))

pub filter_none : {A : Type 0} (p : A → Bool) (xs : List A) → ((x : A) → Has x xs → p x ≡ false) → filter p xs ≡ []
filter_none p [] h = refl
filter_none p (x ∷ xs) h = ap (λ (b : Bool). cond b (x ∷ filter p xs) (filter p xs)) (h x (inl refl)) ∙ filter_none p xs (λ y k. h y (inr k))

pub filter_as : {A : Type 0} (p q : A → Bool) (xs : List A) → ((x : A) → Has x xs → p x ≡ q x) → filter p xs ≡ filter q xs
filter_as p q [] h = refl
filter_as {A} p q (x ∷ xs) h =
    ap (λ (b : Bool). cond b (x ∷ filter p xs) (filter p xs)) (h x (inl refl))
    ∙ ap (λ (l : List A). cond (q x) (x ∷ l) l) (filter_as p q xs (λ y k. h y (inr k)))

filter_both : {A : Type 0} (p q : A → Bool) (xs : List A) → filter p (filter q xs) ≡ filter (λ x. q x && p x) xs
filter_both p q [] = refl
filter_both {A} p q (x ∷ xs) = go (q x) (filter_both p q xs)
  where
    go : (b : Bool) → filter p (filter q xs) ≡ filter (λ y. q y && p y) xs → filter p (cond b (x ∷ filter q xs) (filter q xs)) ≡ cond (b && p x) (x ∷ filter (λ y. q y && p y) xs) (filter (λ y. q y && p y) xs)
    go true more = ap (λ (l : List A). cond (p x) (x ∷ l) l) more
    go false more = more

neither : (a b : Bool) → (not a && not b) ≡ not (a || b)
neither true b = refl
neither false b = refl

module _ {A K : Type 0} (R : K → K → Ordering) (key : A → K) where
  -- all but those with one of some keys
  abbrev pub all_without : List K → List A → List A
  all_without [] xs = xs
  all_without (k ∷ ks) xs = all_without ks (without R key k xs)

  abbrev pub has_key : List K → A → Bool
  has_key ks x = list_any (λ k. is_eq (R (key x) k)) ks

  pub without_more : (ks js : List K) (xs : List A) → all_without js (all_without ks xs) ≡ all_without (ks ++ js) xs
  without_more [] js xs = refl
  without_more (k ∷ ks) js xs = without_more ks js (without R key k xs)

  without_none : (k : K) (xs : List A) → found R key k xs ≡ None → without R key k xs ≡ xs
  without_none k [] h = refl
  without_none k (x ∷ xs) h = go (is_eq (R (key x) k)) (without_none k xs) h
    where
      go : (b : Bool) → (found R key k xs ≡ None → without R key k xs ≡ xs) → cond b (Some x) (found R key k xs) ≡ None → cond b xs (x ∷ without R key k xs) ≡ x ∷ xs
      go true more h = absurd (let clash : Some x ≡ None = h in cc)
      go false more h = ap (λ (l : List A). x ∷ l) (more h)

module _ {A K : Type 0} (R : K → K → Ordering) (total : IsTotalOrder R) (key : A → K) where
  without_exchanged : (y : A) (xs : List A) → without R key (key y) (exchanged R key y xs) ≡ without R key (key y) xs
  without_exchanged y [] = refl
  without_exchanged y (x ∷ xs) = go (is_eq (R (key x) (key y))) refl (without_exchanged y xs)
    where
      go : (b : Bool) → is_eq (R (key x) (key y)) ≡ b → without R key (key y) (exchanged R key y xs) ≡ without R key (key y) xs
          → without R key (key y) (cond b (y ∷ xs) (x ∷ exchanged R key y xs)) ≡ cond b xs (x ∷ without R key (key y) xs)
      go true e more = ap (λ (o : Ordering). cond (is_eq o) xs (y ∷ without R key (key y) xs)) (tied_itself total (key y))
      go false e more =
          ap (λ (b : Bool). cond b (exchanged R key y xs) (x ∷ without R key (key y) (exchanged R key y xs))) e
          ∙ ap (λ (l : List A). x ∷ l) more

  -- an item that is put goes again
  pub put_gone : (y : A) (xs : List A) → without R key (key y) (put R key y xs) ≡ without R key (key y) xs
  put_gone y xs = go (found R key (key y) xs) refl
    where
      go : (o : Option A) → found R key (key y) xs ≡ o → without R key (key y) (put_for o R key y xs) ≡ without R key (key y) xs
      go None e = without_placed R key total y xs e ∙ sym (without_none R key (key y) xs e)
      go (Some v) e = without_exchanged y xs

  module _ (exact : CmpEqualImpliesEq R) where
    without_is : (k : K) (xs : List A) → ascends R key xs ≡ true → without R key k xs ≡ filter (λ x. not (is_eq (R (key x) k))) xs
    without_is k [] up = refl
    without_is k (x ∷ xs) up = go (is_eq (R (key x) k)) refl (without_is k xs (and_right (below_first R key (key x) xs) (ascends R key xs) up))
      where
        go : (b : Bool) → is_eq (R (key x) k) ≡ b → without R key k xs ≡ filter (λ y. not (is_eq (R (key y) k))) xs
            → cond b xs (x ∷ without R key k xs) ≡ cond (not b) (x ∷ filter (λ y. not (is_eq (R (key y) k))) xs) (filter (λ y. not (is_eq (R (key y) k))) xs)
        go false e more = ap (λ (l : List A). x ∷ l) more
        go true e more = sym (filter_all (λ y. not (is_eq (R (key y) k))) xs later)
          where
            its_key : key x ≡ k
            its_key = exact (key x) k ((Equal-is (R (key x) k)).0 e)

            later : (y : A) → Has y xs → not (is_eq (R (key y) k)) ≡ true
            later y h =
                let less = below_each R total key (key x) xs (and_left (below_first R key (key x) xs) (ascends R key xs) up) (and_right (below_first R key (key x) xs) (ascends R key xs) up) y h in
                ap (λ (o : Ordering). not (is_eq o)) (ap (R (key y)) (sym its_key) ∙ total.antisymm (key y) (key x) ∙ ap ordering_reverse less)

    pub all_without_is : (ks : List K) (xs : List A) → ascends R key xs ≡ true → all_without R key ks xs ≡ filter (λ x. not (has_key R key ks x)) xs
    all_without_is [] xs up = sym (filter_all (λ x. not (has_key R key [] x)) xs (λ x h. refl))
    all_without_is (k ∷ ks) xs up =
        all_without_is ks (without R key k xs) (ascends-without R total key k xs up)
        ∙ ap (filter (λ x. not (has_key R key ks x))) (without_is k xs up)
        ∙ filter_both (λ x. not (has_key R key ks x)) (λ x. not (is_eq (R (key x) k))) xs
        ∙ filter_as (λ x. not (is_eq (R (key x) k)) && not (has_key R key ks x)) (λ x. not (has_key R key (k ∷ ks) x)) xs (λ x h. neither (is_eq (R (key x) k)) (has_key R key ks x))

    pub key_any : (ks : List K) (x : A) → Has (key x) ks → has_key R key ks x ≡ true
    key_any [] x h = absurd h
    key_any (k ∷ ks) x (inl e) = ap (λ (o : Ordering). is_eq o || has_key R key ks x) (ap (R (key x)) e ∙ tied_itself total (key x))
    key_any (k ∷ ks) x (inr h) = go (is_eq (R (key x) k)) (key_any ks x h)
      where
        go : (b : Bool) → has_key R key ks x ≡ true → (b || has_key R key ks x) ≡ true
        go true more = refl
        go false more = more

    pub any_key : (ks : List K) (x : A) → has_key R key ks x ≡ true → Has (key x) ks
    any_key [] x h = absurd (let clash : false ≡ true = h in cc)
    any_key (k ∷ ks) x h = go (is_eq (R (key x) k)) refl (any_key ks x) h
      where
        go : (b : Bool) → is_eq (R (key x) k) ≡ b → (has_key R key ks x ≡ true → Has (key x) ks) → (b || has_key R key ks x) ≡ true → Has (key x) (k ∷ ks)
        go true e more i = inl (sym (exact (key x) k ((Equal-is (R (key x) k)).0 e)))
        go false e more i = inr (more i)

    -- what is left without some keys is what passes a test, where the test says just that of each item
    pub left_are : (ks : List K) (xs : List A) (p : A → Bool) → ascends R key xs ≡ true → ((x : A) → Has x xs → p x ≡ true → Has (key x) ks → ⊥) → ((x : A) → Has x xs → p x ≡ false → Has (key x) ks) → all_without R key ks xs ≡ filter p xs
    left_are ks xs p up out inside = all_without_is ks xs up ∙ filter_as (λ x. not (has_key R key ks x)) p xs each
      where
        each : (x : A) → Has x xs → not (has_key R key ks x) ≡ p x
        each x h = go (p x) refl
          where
            absent : p x ≡ true → (b : Bool) → has_key R key ks x ≡ b → not b ≡ true
            absent e true i = absurd (out x h e (any_key ks x i))
            absent e false i = refl

            go : (b : Bool) → p x ≡ b → not (has_key R key ks x) ≡ b
            go true e = absent e (has_key R key ks x) refl
            go false e = ap not (key_any ks x (inside x h e))
