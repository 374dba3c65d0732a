-- A list that is sorted ascends where no two of its items have one key, and is then the one list in order.
use Rattle.std.proofs.Common.{◌≡◌, refl, sym, ◌∙◌, ap, subst, Bool, true, false, cond, ◌&&◌, ◌||◌, ℕ, ◌≤◌, ◌+◌, ◌-◌, suc, List, [], ◌∷◌, length, drop, Some, None, arith, nat_lt}
use Rattle.std.specs.declared.option.Option.{Option}
use Rattle.std.specs.Option.{is_some}
use Rattle.std.specs.declared.cmp.Ordering.{Ordering}
use Rattle.std.specs.declared.cmp.Ordering.TheVariants.{Less, Equal, Greater}
use Rattle.std.specs.Ordering.{is_eq, is_lt, ordering_reverse}
use Rattle.std.specs.Cmp.{IsTotalOrder}
use Rattle.std.specs.List.{All, AllByRecursion, count_by, list_any}
use Rattle.std.specs.List.Sorted.{IsPermutation, IsSortedBy}
use native.Mathlib.Numerals.{unary_clauses}
use Rattle.std.proofs.lemmas.Cmp.{tied_itself}
use Rattle.std.proofs.lemmas.Bool.{ltb-true, or_right}
use Rattle.std.proofs.lemmas.List.{length-drop}
use Rattle.std.proofs.lemmas.List.Elements.{All-from_recursion, All-head, All-tail}
use Rattle.std.proofs.lemmas.List.Sorted.{All-permutation, IsPermutation-sym, list_any-IsPermutation, sum_by-IsPermutation}
use Rattle.std.proofs.lemmas.List.Sums.{sum_by-cons}
use Rattle.std.proofs.lemmas.Map.Lookups.{CmpEqualImpliesEq}
use Rattle.mesh_list.specs.Keyed.{ascends, below_first, found, placed}
use Rattle.mesh_list.proofs.Ascends.{and_left, and_right, ascends-placed}
use Rattle.mesh_list.proofs.Each.{below_later, each_found, found-above, found-behind, found-itself, lt_is}
use Rattle.mesh_list.proofs.Found.{found-placed}
use Rattle.mesh_base_values.proofs.Tests.{below_true}

or_says : (a b c d : Bool) → (a ≡ true → c ≡ true) → (b ≡ true → d ≡ true) → (a || b) ≡ true → (c || d) ≡ true
or_says true b c d f g h = ap (λ (t : Bool). t || d) (f refl)
or_says false b c d f g h = or_right c d (g h)

-- where no item of ys passes, none of them does
any_none : {A : Type 0} (p : A → Bool) (ys : List A) → AllByRecursion (λ (y : A). p y ≡ false) ys → list_any p ys ≡ false
any_none p [] all = refl
any_none p (y ∷ ys) all = ap (λ (t : Bool). t || list_any p ys) all.0 ∙ any_none p ys all.1

any_more : {A : Type 0} (p q : A → Bool) (ys : List A) → ((y : A) → p y ≡ true → q y ≡ true) → list_any p ys ≡ true → list_any q ys ≡ true
any_more p q [] f h = h
any_more p q (y ∷ ys) f h = or_says (p y) (list_any p ys) (q y) (list_any q ys) (f y) (any_more p q ys f) h

module _ {A K : Type 0} (R : K → K → Ordering) (total : IsTotalOrder R) (exact : CmpEqualImpliesEq R) (key : A → K) where
  abbrev pub times : K → List A → ℕ
  times k xs = count_by (λ (s : A). is_eq (R k (key s))) xs

  abbrev pub twins : List A → Bool
  twins xs = list_any (λ (s : A). nat_lt 1 (times (key s) xs)) xs

  abbrev pub by_key : A → A → Bool
  by_key x y = is_lt (R (key x) (key y))

  abbrev pub ordered : List A → List A
  ordered [] = []
  ordered (x ∷ xs) = placed R key x (ordered xs)

  one_more : (k : K) (x : A) (xs : List A) → times k (x ∷ xs) ≡ cond (is_eq (R k (key x))) 1 0 + times k xs
  one_more k x xs = sum_by-cons (λ (s : A). cond (is_eq (R k (key s))) 1 0) x xs

  another : (k : K) (x : A) (xs : List A) → is_eq (R k (key x)) ≡ false → times k (x ∷ xs) ≡ times k xs
  another k x xs e = one_more k x xs ∙ ap (λ (t : Bool). cond t 1 0 + times k xs) e ∙ omega arith

  itself : (k : K) (x : A) (xs : List A) → R k (key x) ≡ Equal → times k (x ∷ xs) ≡ 1 + times k xs
  itself k x xs e = one_more k x xs ∙ ap (λ (o : Ordering). cond (is_eq o) 1 0 + times k xs) e

  -- in a list that ascends each key stands once
  none_above : (k : K) (xs : List A) → below_first R key k xs ≡ true → ascends R key xs ≡ true → times k xs ≡ 0
  none_above k [] below up = refl
  none_above k (x ∷ xs) below up =
      let less : R k (key x) ≡ Less = lt_is _ below in
      another k x xs (ap is_eq less)
      ∙ none_above k xs (below_later R total key k x xs less (and_left _ _ up)) (and_right (below_first R key (key x) xs) (ascends R key xs) up)

  once_behind : (x : A) (xs ys : List A) → below_first R key (key x) ys ≡ true → ascends R key ys ≡ true
      → AllByRecursion (λ (y : A). times (key y) xs ≡ 1) ys → AllByRecursion (λ (y : A). times (key y) (x ∷ xs) ≡ 1) ys
  once_behind x xs [] below up all = tt
  once_behind x xs (y ∷ ys) below up all =
      let less : R (key x) (key y) ≡ Less = lt_is _ below in
      let greater : R (key y) (key x) ≡ Greater = total.antisymm (key y) (key x) ∙ ap ordering_reverse less in (
        another (key y) x xs (ap is_eq greater) ∙ all.0,
        once_behind x xs ys (below_later R total key (key x) y ys less (and_left _ _ up)) (and_right (below_first R key (key y) ys) (ascends R key ys) up) all.1,
      )

  each_once : (xs : List A) → ascends R key xs ≡ true → AllByRecursion (λ (y : A). times (key y) xs ≡ 1) xs
  each_once [] up = tt
  each_once (x ∷ xs) up =
      let below : below_first R key (key x) xs ≡ true = and_left _ _ up in
      let more : ascends R key xs ≡ true = and_right (below_first R key (key x) xs) (ascends R key xs) up in (
        itself (key x) x xs (tied_itself total (key x)) ∙ ap (λ (n : ℕ). 1 + n) (none_above (key x) xs below more),
        once_behind x xs xs below more (each_once xs more),
      )

  no_pair : (whole ys : List A) → AllByRecursion (λ (y : A). times (key y) whole ≡ 1) ys → AllByRecursion (λ (y : A). nat_lt 1 (times (key y) whole) ≡ false) ys
  no_pair whole [] all = tt
  no_pair whole (y ∷ ys) all = (ap (nat_lt 1) all.0, no_pair whole ys all.1)

  pub no_twins : (xs : List A) → ascends R key xs ≡ true → twins xs ≡ false
  no_twins xs up = any_none (λ (s : A). nat_lt 1 (times (key s) xs)) xs (no_pair xs xs (each_once xs up))

  -- a sorted list that doesn't ascend has two items of one key
  tail_sorted : (x : A) (xs : List A) → IsSortedBy by_key (x ∷ xs) → IsSortedBy by_key xs
  tail_sorted x xs up k d low high = simp unary_clauses (simp unary_clauses at (up (suc k) d (omega arith) (omega arith)))

  more_often : (k : K) (x : A) (xs : List A) → nat_lt 1 (times k xs) ≡ true → nat_lt 1 (times k (x ∷ xs)) ≡ true
  more_often k x xs h = at (is_eq (R k (key x))) (one_more k x xs)
    where
      at : (b : Bool) → times k (x ∷ xs) ≡ cond b 1 0 + times k xs → nat_lt 1 (times k (x ∷ xs)) ≡ true
      at true e = below_true _ _ (let low = ltb-true _ _ h in omega arith)
      at false e = below_true _ _ (let low = ltb-true _ _ h in omega arith)

  pub has_twins : (xs : List A) → IsSortedBy by_key xs → ascends R key xs ≡ false → twins xs ≡ true
  has_twins [] up not_up = cc
  has_twins (x ∷ []) up not_up = cc
  has_twins (x ∷ z ∷ zs) up not_up = at (R (key x) (key z)) refl (has_twins (z ∷ zs) (tail_sorted x (z ∷ zs) up)) not_up
    where
      at : (o : Ordering) → R (key x) (key z) ≡ o → (ascends R key (z ∷ zs) ≡ false → twins (z ∷ zs) ≡ true) → (is_lt o && ascends R key (z ∷ zs)) ≡ false → twins (x ∷ z ∷ zs) ≡ true
      at Less e more h =
          or_right (nat_lt 1 (times (key x) (x ∷ z ∷ zs))) _
          (any_more (λ (s : A). nat_lt 1 (times (key s) (z ∷ zs))) (λ (s : A). nat_lt 1 (times (key s) (x ∷ z ∷ zs))) (z ∷ zs) (λ y. more_often (key y) x (z ∷ zs)) (more h))
      at Equal e more h =
          let two : times (key x) (x ∷ z ∷ zs) ≡ 1 + (1 + times (key x) zs) = itself (key x) x (z ∷ zs) (tied_itself total (key x)) ∙ ap (λ (n : ℕ). 1 + n) (itself (key x) z zs e) in
          ap (λ (t : Bool). t || list_any (λ (s : A). nat_lt 1 (times (key s) (x ∷ z ∷ zs))) (z ∷ zs)) (below_true 1 _ (omega (arith, two)))
      at Greater e more h =
          let less : R (key z) (key x) ≡ Less = total.antisymm (key z) (key x) ∙ ap ordering_reverse e in
          let clash : true ≡ false = sym (ap is_lt less) ∙ up 0 x (omega arith) (omega arith) in
          absurd (cc)

  -- the order of the items means nothing to that
  pub twins_moved : (xs ys : List A) → IsPermutation xs ys → twins xs ≡ twins ys
  twins_moved xs ys p =
      list_any-IsPermutation (λ (s : A). nat_lt 1 (times (key s) xs)) xs ys p
      ∙ (λ i. list_any (λ (s : A). nat_lt 1 (sum_by-IsPermutation (λ (x : A). cond (is_eq (R (key s) (key x))) 1 0) ys xs (IsPermutation-sym xs ys p) i)) ys)

  -- what is found in a list is found in its items in order
  found_ordered : (k : K) (xs : List A) → found R key k (ordered xs) ≡ found R key k xs
  found_ordered k [] = refl
  found_ordered k (x ∷ xs) = found-placed R exact key x k (ordered xs) ∙ ap (cond (is_eq (R (key x) k)) (Some x)) (found_ordered k xs)

  ordered_ascends : (xs : List A) → ascends R key (ordered xs) ≡ true
  ordered_ascends [] = refl
  ordered_ascends (x ∷ xs) = ascends-placed R total key x (ordered xs) (ordered_ascends xs)

  -- what is found in a list is found in one that ascends and has its items
  equal_is : (o : Ordering) → is_eq o ≡ true → o ≡ Equal
  equal_is Less h = cc
  equal_is Equal h = refl
  equal_is Greater h = cc

  found_there : (k : K) (ys zs : List A) (s : A) → All (λ (y : A). found R key (key y) ys ≡ Some y) zs → found R key k zs ≡ Some s → found R key k ys ≡ Some s
  found_there k ys [] s all h = cc
  found_there k ys (z ∷ zs) s all h = at (is_eq (R (key z) k)) refl (found_there k ys zs s (All-tail (λ (y : A). found R key (key y) ys ≡ Some y) z zs all)) h
    where
      at : (b : Bool) → is_eq (R (key z) k) ≡ b → (found R key k zs ≡ Some s → found R key k ys ≡ Some s) → cond b (Some z) (found R key k zs) ≡ Some s → found R key k ys ≡ Some s
      at true e more g =
          ap (λ (n : K). found R key n ys) (sym (exact (key z) k (equal_is _ e)))
          ∙ All-head (λ (y : A). found R key (key y) ys ≡ Some y) z zs all ∙ g
      at false e more g = more g

  some_behind : (x : A) (xs ys : List A) → AllByRecursion (λ (y : A). is_some (found R key (key y) xs) ≡ true) ys → AllByRecursion (λ (y : A). is_some (found R key (key y) (x ∷ xs)) ≡ true) ys
  some_behind x xs [] all = tt
  some_behind x xs (y ∷ ys) all = (at (is_eq (R (key x) (key y))), some_behind x xs ys all.1)
    where
      at : (b : Bool) → is_some (cond b (Some x) (found R key (key y) xs)) ≡ true
      at true = refl
      at false = all.0

  each_some : (xs : List A) → AllByRecursion (λ (y : A). is_some (found R key (key y) xs) ≡ true) xs
  each_some [] = tt
  each_some (x ∷ xs) = (ap is_some (found-itself R total key x xs (key x) (tied_itself total (key x))), some_behind x xs xs (each_some xs))

  known : (k : K) (xs ys : List A) (s : A) → All (λ (y : A). is_some (found R key (key y) xs) ≡ true) ys → found R key k ys ≡ Some s → is_some (found R key k xs) ≡ true
  known k xs [] s all h = cc
  known k xs (y ∷ ys) s all h = at (is_eq (R (key y) k)) refl (known k xs ys s (All-tail (λ (y : A). is_some (found R key (key y) xs) ≡ true) y ys all)) h
    where
      at : (b : Bool) → is_eq (R (key y) k) ≡ b → (found R key k ys ≡ Some s → is_some (found R key k xs) ≡ true) → cond b (Some y) (found R key k ys) ≡ Some s → is_some (found R key k xs) ≡ true
      at true e more g =
          ap (λ (n : K). is_some (found R key n xs)) (sym (exact (key y) k (equal_is _ e)))
          ∙ All-head (λ (y : A). is_some (found R key (key y) xs) ≡ true) y ys all
      at false e more g = more g

  found_moved : (xs ys : List A) → IsPermutation xs ys → ascends R key ys ≡ true → (k : K) → found R key k ys ≡ found R key k xs
  found_moved xs ys p up k = at (found R key k xs) (found R key k ys) refl refl
    where
      there : All (λ (y : A). found R key (key y) ys ≡ Some y) xs
      there = All-permutation (λ (y : A). found R key (key y) ys ≡ Some y) ys xs (IsPermutation-sym xs ys p) (All-from_recursion (λ (y : A). found R key (key y) ys ≡ Some y) ys (each_found R total key ys up))

      back : All (λ (y : A). is_some (found R key (key y) xs) ≡ true) ys
      back = All-permutation (λ (y : A). is_some (found R key (key y) xs) ≡ true) xs ys p (All-from_recursion (λ (y : A). is_some (found R key (key y) xs) ≡ true) xs (each_some xs))

      at : (o r : Option A) → found R key k xs ≡ o → found R key k ys ≡ r → found R key k ys ≡ o
      at (Some s) r e f = found_there k ys xs s there e
      at None None e f = f
      at None (Some s) e f = absurd (let clash : true ≡ false = sym (known k xs ys s back f) ∙ ap is_some e in cc)

  -- two lists that ascend and in which the same is found are one
  tail_found : (x : A) (xs ys : List A) → ascends R key (x ∷ xs) ≡ true → ascends R key (x ∷ ys) ≡ true → ((k : K) → found R key k (x ∷ xs) ≡ found R key k (x ∷ ys)) → (k : K) → found R key k xs ≡ found R key k ys
  tail_found x xs ys up vp same k = at (R (key x) k) refl (same k)
    where
      at : (o : Ordering) → R (key x) k ≡ o → cond (is_eq o) (Some x) (found R key k xs) ≡ cond (is_eq o) (Some x) (found R key k ys) → found R key k xs ≡ found R key k ys
      at Less e h = h
      at Equal e h = found-behind R total key x xs k e up ∙ sym (found-behind R total key x ys k e vp)
      at Greater e h = h

  pub one_list : (xs ys : List A) → ascends R key xs ≡ true → ascends R key ys ≡ true → ((k : K) → found R key k xs ≡ found R key k ys) → xs ≡ ys
  one_list [] [] up vp same = refl
  one_list [] (y ∷ ys) up vp same = absurd (let clash : None ≡ Some y = same (key y) ∙ found-itself R total key y ys (key y) (tied_itself total (key y)) in cc)
  one_list (x ∷ xs) [] up vp same = absurd (let clash : Some x ≡ None = sym (found-itself R total key x xs (key x) (tied_itself total (key x))) ∙ same (key x) in cc)
  one_list (x ∷ xs) (y ∷ ys) up vp same = at (R (key x) (key y)) refl (one_list xs ys (and_right (below_first R key (key x) xs) (ascends R key xs) up) (and_right (below_first R key (key y) ys) (ascends R key ys) vp))
    where
      first : found R key (key x) (x ∷ xs) ≡ Some x
      first = found-itself R total key x xs (key x) (tied_itself total (key x))

      second : found R key (key y) (y ∷ ys) ≡ Some y
      second = found-itself R total key y ys (key y) (tied_itself total (key y))

      at : (o : Ordering) → R (key x) (key y) ≡ o → (((k : K) → found R key k xs ≡ found R key k ys) → xs ≡ ys) → x ∷ xs ≡ y ∷ ys
      at Less e more = absurd (let clash : Some x ≡ None = sym first ∙ same (key x) ∙ found-above R total key (key x) (y ∷ ys) (ap is_lt e) vp in cc)
      at Greater e more =
          let less : R (key y) (key x) ≡ Less = total.antisymm (key y) (key x) ∙ ap ordering_reverse e in
          absurd (let clash : Some y ≡ None = sym second ∙ sym (same (key y)) ∙ found-above R total key (key y) (x ∷ xs) (ap is_lt less) up in cc)
      at Equal e more =
          let keys : key x ≡ key y = exact (key x) (key y) e in
          let both : Some x ≡ Some y = sym first ∙ same (key x) ∙ ap (λ (k : K). found R key k (y ∷ ys)) keys ∙ second in
          let is : x ≡ y = cc in
          let Q : A → Type 0 = λ (z : A). ((k : K) → found R key k (x ∷ xs) ≡ found R key k (z ∷ ys)) in
          let P : A → Type 0 = λ (z : A). ascends R key (z ∷ ys) ≡ true in
          let rest : xs ≡ ys = more (tail_found x xs ys up (subst P (sym is) vp) (subst Q (sym is) same)) in
          λ i. is i ∷ rest i

  pub in_one_order : (xs ys : List A) → IsPermutation xs ys → ascends R key ys ≡ true → ys ≡ ordered xs
  in_one_order xs ys p up = one_list ys (ordered xs) up (ordered_ascends xs) (λ k. found_moved xs ys p up k ∙ sym (found_ordered k xs))

  -- a test of each item with the next has come to the end
  short : (xs : List A) → length xs ≤ 1 → true ≡ ascends R key xs
  short [] h = refl
  short (x ∷ []) h = refl
  short (x ∷ y ∷ ys) h = absurd (omega arith)

  pub up_to_end : (xs : List A) (i : ℕ) → length xs ≤ i → ascends R key (drop (i - 1) xs) ≡ ascends R key xs → true ≡ ascends R key xs
  up_to_end xs i over so_far = short (drop (i - 1) xs) (omega (arith, length-drop (i - 1) xs)) ∙ so_far
