-- A list that ascends, without the items of some keys.
use Rattle.std.proofs.Common.{◌≡◌, ℕ, ◌<◌, ◌≤◌, length, get_or, is_some, Bool, true, false, not, cond, ◌&&◌, List, [], ◌∷◌, Some, filter, is_none, refl, sym, ◌∙◌, ap, arith}
use Rattle.std.specs.List.{list_all}
use Rattle.std.specs.declared.option.Option.{Option}
use Rattle.std.specs.declared.cmp.Ordering.{Ordering}
use Rattle.std.specs.declared.cmp.Ordering.TheVariants.{Less, Equal, Greater}
use Rattle.std.specs.Ordering.{is_lt, is_eq, is_gt, ordering_reverse}
use Rattle.std.specs.Cmp.{IsTotalOrder, Equal-is}
use Rattle.std.proofs.lemmas.Map.Lookups.{CmpEqualImpliesEq}
use Rattle.std.proofs.lemmas.Bool.{and_from as and_both}
use Rattle.mesh_list.specs.Keyed.{found, placed, without, below_first, ascends, place_of}
use Rattle.mesh_list.proofs.Ascends.{and_left, and_right}
use Rattle.mesh_list.proofs.Each.{lt_is, below_later}
use Rattle.mesh_list.proofs.Found.{found-placed}
use Rattle.mesh_list.proofs.Standing.{has_it, lacks_it, passes_all, where_first, where_none}
use Rattle.mesh_base_values.proofs.Equals.{eq_turned}
use Rattle.mesh_house.specs.Outside.{itself, stays, outside}

-- a comparison that is turned around
gt_turned : (o : Ordering) → is_lt (ordering_reverse o) ≡ is_gt o
gt_turned Less = refl
gt_turned Equal = refl
gt_turned Greater = refl

-- two tests that agree keep the same
filter_alike : {A : Type 0} (p q : A → Bool) → ((x : A) → p x ≡ q x) → (xs : List A) → filter p xs ≡ filter q xs
filter_alike p q same [] = refl
filter_alike p q same (x ∷ xs) =
    ap (λ (b : Bool). cond b (x ∷ filter p xs) (filter p xs)) (same x)
    ∙ ap (λ l. cond (q x) (x ∷ l) l) (filter_alike p q same xs)

-- no key is listed, so that all stay
pub outside_none : {A K : Type 0} (R : K → K → Ordering) (key : A → K) (xs : List A) → outside R key [] xs ≡ xs
outside_none R key [] = refl
outside_none R key (x ∷ xs) = ap (λ l. x ∷ l) (outside_none R key xs)

module _ {A K : Type 0} (R : K → K → Ordering) (total : IsTotalOrder R) (exact : CmpEqualImpliesEq R) (key : A → K) (k : K) (keys : List K) where
  -- whether an item stays once k is listed too
  abbrev both : A → Bool
  both x = not (is_eq (R (key x) k)) && stays R key keys x

  listed : (b : Bool) (found_one : Option K) → is_none (cond b (Some k) found_one) ≡ (not b && is_none found_one)
  listed true found_one = refl
  listed false found_one = refl

  stays_is : (x : A) → stays R key (placed R itself k keys) x ≡ both x
  stays_is x =
      ap is_none (found-placed R exact itself k (key x) keys)
      ∙ listed (is_eq (R k (key x))) (found R itself (key x) keys)
      ∙ ap (λ (b : Bool). not b && stays R key keys x) (ap is_eq (total.antisymm k (key x)) ∙ eq_turned (R (key x) k))

  -- behind a key that is not above the first no item has it
  kept_behind : (xs : List A) → below_first R key k xs ≡ true → ascends R key xs ≡ true → filter both xs ≡ outside R key keys xs
  kept_behind [] below up = refl
  kept_behind (x ∷ xs) below up =
      let less : R k (key x) ≡ Less = lt_is _ below in
      let greater : R (key x) k ≡ Greater = total.antisymm (key x) k ∙ ap ordering_reverse less in
      let same : both x ≡ stays R key keys x = ap (λ (o : Ordering). not (is_eq o) && stays R key keys x) greater in
      ap (λ (b : Bool). cond b (x ∷ filter both xs) (filter both xs)) same
      ∙ ap (λ l. cond (stays R key keys x) (x ∷ l) l) (kept_behind xs (below_later R total key k x xs less (and_left _ _ up)) (and_right (below_first R key (key x) xs) (ascends R key xs) up))

  -- an item whose key isn't listed, by whether it has the key
  at_first : (here first : Bool) (x : A) (xs : List A) → is_eq (R (key x) k) ≡ here → (here ≡ true → filter both xs ≡ outside R key keys xs) → without R key k (outside R key keys xs) ≡ filter both xs
      → without R key k (cond first (x ∷ outside R key keys xs) (outside R key keys xs)) ≡ cond (not here && first) (x ∷ filter both xs) (filter both xs)
  at_first true true x xs is behind more = ap (λ (b : Bool). cond b (outside R key keys xs) (x ∷ without R key k (outside R key keys xs))) is ∙ sym (behind refl)
  at_first true false x xs is behind more = more
  at_first false true x xs is behind more = ap (λ (b : Bool). cond b (outside R key keys xs) (x ∷ without R key k (outside R key keys xs))) is ∙ ap (λ (l : List A). x ∷ l) more
  at_first false false x xs is behind more = more

  below_tied : (x : A) (xs : List A) → R (key x) k ≡ Equal → below_first R key (key x) xs ≡ true → below_first R key k xs ≡ true
  below_tied x [] is h = refl
  below_tied x (z ∷ zs) is h = ap is_lt (sym (total.congr (key x) k (key z) is)) ∙ h

  without_is : (xs : List A) → ascends R key xs ≡ true → without R key k (outside R key keys xs) ≡ filter both xs
  without_is [] up = refl
  without_is (x ∷ xs) up =
      at_first (is_eq (R (key x) k)) (stays R key keys x) x xs refl
      (λ here. kept_behind xs (below_tied x xs ((Equal-is (R (key x) k)).0 here) (and_left _ _ up)) (and_right (below_first R key (key x) xs) (ascends R key xs) up))
      (without_is xs (and_right (below_first R key (key x) xs) (ascends R key xs) up))

  -- one more key is listed in place of taking its item out
  pub one_more_out : (xs : List A) → ascends R key xs ≡ true → without R key k (outside R key keys xs) ≡ outside R key (placed R itself k keys) xs
  one_more_out xs up = without_is xs up ∙ sym (filter_alike (stays R key (placed R itself k keys)) both stays_is xs)

-- an item of a list whose key is compared with that of another, the other way round
module _ {K : Type 0} (R : K → K → Ordering) (total : IsTotalOrder R) (k x : K) where
  pub is_below : is_gt (R k x) ≡ is_lt (R x k)
  is_below = sym (ap is_lt (total.antisymm x k) ∙ gt_turned (R k x))

  is_there : is_eq (R k x) ≡ is_eq (R x k)
  is_there = sym (ap is_eq (total.antisymm x k) ∙ eq_turned (R k x))

-- whether a key is found, by what stands at its place
module _ {K : Type 0} (R : K → K → Ordering) (total : IsTotalOrder R) (k : K) (keys : List K) (i : ℕ) (place : i ≡ place_of R itself k keys) where
  pub found_none : length keys ≤ i → is_some (found R itself k keys) ≡ false
  found_none over = ap is_some (where_none R itself k keys (passes_all R total itself k keys i place over)).not_found

  by_test : (b : Bool) (x : K) → ascends R itself keys ≡ true → i < length keys → x ≡ get_or keys i x → is_eq (R x k) ≡ b → is_some (found R itself k keys) ≡ b
  by_test true x up lt here equal = ap is_some ((where_first R itself k keys i (has_it R total itself k keys i place x lt here equal)).is_found x here)
  by_test false x up lt here other = ap is_some (where_none R itself k keys (lacks_it R total itself k keys i place x up lt here other)).not_found

  pub found_here : (x : K) → ascends R itself keys ≡ true → i < length keys → x ≡ get_or keys i x → is_some (found R itself k keys) ≡ is_eq (R k x)
  found_here x up lt here = by_test (is_eq (R k x)) x up lt here (sym (is_there R total k x))

-- where no key is listed, nothing goes
pub outside_empty : {A K : Type 0} (R : K → K → Ordering) (key : A → K) (keys : List K) (xs : List A) → keys ≡ [] → outside R key keys xs ≡ xs
outside_empty R key keys xs none = ap (λ ks. outside R key ks xs) none ∙ outside_none R key xs

pub none_of : {A : Type 0} (xs : List A) → length xs ≡ 0 → xs ≡ []
none_of [] h = refl
none_of (x ∷ xs) h = absurd (omega (h, arith))

-- what all items of a list pass, those pass that stay
pub all_left : {A : Type 0} (P p : A → Bool) (xs : List A) → list_all P xs ≡ true → list_all P (filter p xs) ≡ true
all_left P p [] h = refl
all_left {A = A} P p (x ∷ xs) h = at (p x) (all_left P p xs (and_right (P x) (list_all P xs) h))
  where
    at : (b : Bool) → list_all P (filter p xs) ≡ true → list_all P (cond b (x ∷ filter p xs) (filter p xs)) ≡ true
    at true more = and_both _ _ (and_left _ _ h) more
    at false more = more

-- a list that ascends still does so without some of its items
module _ {A K : Type 0} (R : K → K → Ordering) (total : IsTotalOrder R) (key : A → K) (p : A → Bool) where
  below_left : (k : K) (xs : List A) → below_first R key k xs ≡ true → ascends R key xs ≡ true → below_first R key k (filter p xs) ≡ true
  below_left k [] below up = refl
  below_left k (x ∷ xs) below up = at (p x) (below_left k xs (below_later R total key k x xs (lt_is _ below) (and_left _ _ up)) (and_right (below_first R key (key x) xs) (ascends R key xs) up))
    where
      at : (b : Bool) → below_first R key k (filter p xs) ≡ true → below_first R key k (cond b (x ∷ filter p xs) (filter p xs)) ≡ true
      at true more = below
      at false more = more

  pub ascends_left : (xs : List A) → ascends R key xs ≡ true → ascends R key (filter p xs) ≡ true
  ascends_left [] up = refl
  ascends_left (x ∷ xs) up = at (p x) (ascends_left xs (and_right (below_first R key (key x) xs) (ascends R key xs) up))
    where
      at : (b : Bool) → ascends R key (filter p xs) ≡ true → ascends R key (cond b (x ∷ filter p xs) (filter p xs)) ≡ true
      at true more = and_both _ _ (below_left (key x) xs (and_left _ _ up) (and_right (below_first R key (key x) xs) (ascends R key xs) up)) more
      at false more = more
