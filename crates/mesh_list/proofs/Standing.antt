-- What the place of a key tells of a list.
use Rattle.std.proofs.Common.{◌≡◌, Bool, true, false, cond, ℕ, zero, suc, ◌<◌, ◌≤◌, ◌+◌, ◌-◌, List, [], ◌∷◌, ◌++◌, length, take, get_or, set, Some, None, refl, ap, ap₂, subst, arith, sym, ◌∙◌}
use Rattle.std.specs.List.{insert, remove}
use Rattle.std.specs.Option.{option_map}
use Rattle.std.specs.declared.option.Option.{Option}
use Rattle.std.specs.declared.cmp.Ordering.{Ordering}
use Rattle.std.specs.declared.cmp.Ordering.TheVariants.{Less, Equal, Greater}
use Rattle.std.specs.Ordering.{is_lt, is_eq, ordering_reverse}
use Rattle.std.specs.Cmp.{IsTotalOrder, Equal-is}
use Rattle.std.proofs.lemmas.Bool.{and_from as and_both}
use Rattle.mesh_list.specs.Keyed.{found, put_by, placed, without, exchanged, below_first, ascends, place_of, first_at}
use Rattle.mesh_list.proofs.Ascends.{and_left, and_right, below_same}
use Rattle.mesh_list.proofs.Each.{lt_is, below_later}

lt_not_eq : (o : Ordering) → is_lt o ≡ true → is_eq o ≡ false
lt_not_eq Less h = refl
lt_not_eq Equal h = cc
lt_not_eq Greater h = cc

neither : (o : Ordering) → is_lt o ≡ false → is_eq o ≡ false → o ≡ Greater
neither Less p q = cc
neither Equal p q = cc
neither Greater p q = refl

module _ {A K : Type 0} (R : K → K → Ordering) (key : A → K) (k : K) where
  -- in a list that ascends, an item that is below the key stands in front of its place
  pub front_below : IsTotalOrder R → (xs : List A) (m : ℕ) (x : A) → ascends R key xs ≡ true → m < length xs → x ≡ get_or xs m x → is_lt (R (key x) k) ≡ true → suc m ≤ place_of R key k xs
  front_below total [] m x up lt here below = absurd (omega arith)
  front_below total (a ∷ xs) zero x up lt here below = rw (ap (λ (b : A). is_lt (R (key b) k)) (sym here) ∙ below) (omega arith)
  front_below total (a ∷ xs) (suc m) x up lt here below =
      let more : suc m ≤ place_of R key k xs = front_below total xs m x (and_right (below_first R key (key a) xs) (ascends R key xs) up) (omega arith) here below in
      rw (first_below (and_left _ _ up) (and_right (below_first R key (key a) xs) (ascends R key xs) up)) (omega (more, arith))
    where
      reaches : (c : K) (ys : List A) (n : ℕ) → below_first R key c ys ≡ true → ascends R key ys ≡ true → n < length ys → x ≡ get_or ys n x → R c (key x) ≡ Less
      reaches c [] n first up lt here = absurd (omega arith)
      reaches c (z ∷ zs) zero first up lt here = ap (λ (b : A). R c (key b)) here ∙ lt_is _ first
      reaches c (z ∷ zs) (suc n) first up lt here = reaches c zs n (below_later R total key c z zs (lt_is _ first) (and_left _ _ up)) (and_right (below_first R key (key z) zs) (ascends R key zs) up) (omega arith) here

      first_below : below_first R key (key a) xs ≡ true → ascends R key xs ≡ true → is_lt (R (key a) k) ≡ true
      first_below first up' = ap is_lt (total.trans (key a) (key x) k (reaches (key a) xs m first up' (omega arith) here) (lt_is _ below))

  -- an item that is not below the key doesn't stand in front of its place
  pub not_in_front : (xs : List A) (m : ℕ) (x : A) → m < length xs → x ≡ get_or xs m x → is_lt (R (key x) k) ≡ false → place_of R key k xs ≤ m
  not_in_front [] m x lt here other = absurd (omega arith)
  not_in_front (a ∷ xs) zero x lt here other = rw (ap (λ (b : A). is_lt (R (key b) k)) (sym here) ∙ other) (omega arith)
  not_in_front (a ∷ xs) (suc m) x lt here other = by_first (is_lt (R (key a) k)) (not_in_front xs m x (omega arith) here other)
    where
      by_first : (b : Bool) → place_of R key k xs ≤ m → cond b (suc (place_of R key k xs)) 0 ≤ suc m
      by_first true more = omega (more, arith)
      by_first false more = omega arith

  pub place_within : (xs : List A) → place_of R key k xs ≤ length xs
  place_within [] = omega arith
  place_within (a ∷ xs) = by_first (is_lt (R (key a) k)) (place_within xs)
    where
      by_first : (b : Bool) → place_of R key k xs ≤ length xs → cond b (suc (place_of R key k xs)) 0 ≤ suc (length xs)
      by_first true more = omega (more, arith)
      by_first false more = omega arith

  -- an item that has the key and stands at its place is the first with it
  pub first_here : (xs : List A) (x : A) → place_of R key k xs < length xs → x ≡ get_or xs (place_of R key k xs) x → is_eq (R (key x) k) ≡ true → first_at R key k xs ≡ Some (place_of R key k xs)
  first_here [] x lt here equal = absurd (omega arith)
  first_here (a ∷ xs) x lt here equal = by_first (is_lt (R (key a) k)) (is_eq (R (key a) k)) refl refl (first_here xs x) lt here
    where
      Holds : Type 0
      Holds = place_of R key k xs < length xs → x ≡ get_or xs (place_of R key k xs) x → is_eq (R (key x) k) ≡ true → first_at R key k xs ≡ Some (place_of R key k xs)

      by_first : (l e : Bool) → is_lt (R (key a) k) ≡ l → is_eq (R (key a) k) ≡ e → Holds → cond l (suc (place_of R key k xs)) 0 < suc (length xs) → x ≡ get_or (a ∷ xs) (cond l (suc (place_of R key k xs)) 0) x → cond e (Some 0) (option_map suc (first_at R key k xs)) ≡ Some (cond l (suc (place_of R key k xs)) 0)
      by_first true true p q more lt here = absurd (let clash : true ≡ false = sym q ∙ lt_not_eq (R (key a) k) p in cc)
      by_first true false p q more lt here = ap (option_map suc) (more (omega (lt, arith)) here equal)
      by_first false true p q more lt here = refl
      by_first false false p q more lt here = absurd (let clash : true ≡ false = sym equal ∙ ap (λ (b : A). is_eq (R (key b) k)) here ∙ q in cc)

  -- where all items are below the key, none has it
  pub none_beyond : (xs : List A) → length xs ≤ place_of R key k xs → first_at R key k xs ≡ None
  none_beyond [] over = refl
  none_beyond (a ∷ xs) over = by_first (is_lt (R (key a) k)) (is_eq (R (key a) k)) refl refl (none_beyond xs) over
    where
      by_first : (l e : Bool) → is_lt (R (key a) k) ≡ l → is_eq (R (key a) k) ≡ e → (length xs ≤ place_of R key k xs → first_at R key k xs ≡ None) → suc (length xs) ≤ cond l (suc (place_of R key k xs)) 0 → cond e (Some 0) (option_map suc (first_at R key k xs)) ≡ None
      by_first true true p q more over = absurd (let clash : true ≡ false = sym q ∙ lt_not_eq (R (key a) k) p in cc)
      by_first true false p q more over = ap (option_map suc) (more (omega (over, arith)))
      by_first false e p q more over = absurd (omega (over, arith))

  -- where a list ascends and another item stands at the key's place, no item has it
  none_above : IsTotalOrder R → (xs : List A) → below_first R key k xs ≡ true → ascends R key xs ≡ true → first_at R key k xs ≡ None
  none_above total [] below up = refl
  none_above total (x ∷ xs) below up =
      let less : R k (key x) ≡ Less = lt_is _ below in
      let greater : R (key x) k ≡ Greater = total.antisymm (key x) k ∙ ap ordering_reverse less in
      ap (λ (o : Ordering). cond (is_eq o) (Some 0) (option_map suc (first_at R key k xs))) greater
      ∙ ap (option_map suc) (none_above total xs (below_later R total key k x xs less (and_left _ _ up)) (and_right (below_first R key (key x) xs) (ascends R key xs) up))

  pub none_here : IsTotalOrder R → (xs : List A) (x : A) → ascends R key xs ≡ true → place_of R key k xs < length xs → x ≡ get_or xs (place_of R key k xs) x → is_eq (R (key x) k) ≡ false → first_at R key k xs ≡ None
  none_here total [] x up lt here other = absurd (omega arith)
  none_here total (a ∷ xs) x up lt here other = by_first (is_lt (R (key a) k)) (is_eq (R (key a) k)) refl refl (none_here total xs x (and_right (below_first R key (key a) xs) (ascends R key xs) up)) lt here
    where
      Holds : Type 0
      Holds = place_of R key k xs < length xs → x ≡ get_or xs (place_of R key k xs) x → is_eq (R (key x) k) ≡ false → first_at R key k xs ≡ None

      by_first : (l e : Bool) → is_lt (R (key a) k) ≡ l → is_eq (R (key a) k) ≡ e → Holds → cond l (suc (place_of R key k xs)) 0 < suc (length xs) → x ≡ get_or (a ∷ xs) (cond l (suc (place_of R key k xs)) 0) x → cond e (Some 0) (option_map suc (first_at R key k xs)) ≡ None
      by_first true true p q more lt here = absurd (let clash : true ≡ false = sym q ∙ lt_not_eq (R (key a) k) p in cc)
      by_first true false p q more lt here = ap (option_map suc) (more (omega (lt, arith)) here other)
      by_first false true p q more lt here = absurd (let clash : true ≡ false = sym q ∙ ap (λ (b : A). is_eq (R (key b) k)) (sym here) ∙ other in cc)
      by_first false false p q more lt here =
          let greater : R (key a) k ≡ Greater = neither (R (key a) k) p q in
          let less : R k (key a) ≡ Less = total.antisymm k (key a) ∙ ap ordering_reverse greater in
          ap (option_map suc) (none_above total xs (below_later R total key k a xs less (and_left _ _ up)) (and_right (below_first R key (key a) xs) (ascends R key xs) up))

module _ {A K : Type 0} (R : K → K → Ordering) (total : IsTotalOrder R) (key : A → K) (k : K) (xs : List A) (i : ℕ) (place : i ≡ place_of R key k xs) where
  pub has_it : (x : A) → i < length xs → x ≡ get_or xs i x → is_eq (R (key x) k) ≡ true → Some i ≡ first_at R key k xs
  has_it x lt here equal = sym (subst (λ (j : ℕ). j < length xs → x ≡ get_or xs j x → first_at R key k xs ≡ Some j) (sym place) (λ l h. first_here R key k xs x l h equal) lt here)

  pub lacks_it : (x : A) → ascends R key xs ≡ true → i < length xs → x ≡ get_or xs i x → is_eq (R (key x) k) ≡ false → None ≡ first_at R key k xs
  lacks_it x up lt here other = sym (subst (λ (j : ℕ). j < length xs → x ≡ get_or xs j x → first_at R key k xs ≡ None) (sym place) (λ l h. none_here R key k total xs x up l h other) lt here)

  pub passes_all : length xs ≤ i → None ≡ first_at R key k xs
  passes_all over = sym (none_beyond R key k xs (subst (λ (j : ℕ). length xs ≤ j) place over))

-- what the first item with a key tells of finding, taking out and exchanging
module _ {A K : Type 0} (R : K → K → Ordering) (key : A → K) (k : K) where
  pub record First (xs : List A) (i : ℕ) : Type 0 where
    pub inside : i < length xs
    pub is_found : (x : A) → x ≡ get_or xs i x → found R key k xs ≡ Some x
    pub taken : without R key k xs ≡ remove xs i
    pub put : (y : A) → key y ≡ k → exchanged R key y xs ≡ set xs i y

  pub record Nowhere (xs : List A) : Type 0 where
    pub not_found : found R key k xs ≡ None
    pub kept : without R key k xs ≡ xs
    pub stays : (y : A) → key y ≡ k → exchanged R key y xs ≡ xs

  -- the first item has the key
  at_front : (a : A) (xs : List A) → is_eq (R (key a) k) ≡ true → First (a ∷ xs) 0
  at_front a xs equal = record {
    inside = omega arith;
    is_found = λ x here. ap (λ (b : Bool). cond b (Some a) (found R key k xs)) equal ∙ ap Some (sym here);
    taken = ap (λ (b : Bool). cond b xs (a ∷ without R key k xs)) equal;
    put = λ y same. ap (λ (b : Bool). cond b (y ∷ xs) (a ∷ exchanged R key y xs)) (ap (λ (n : K). is_eq (R (key a) n)) same ∙ equal);
  }

  -- the first item has another key
  behind_front : (a : A) (xs : List A) (i : ℕ) → is_eq (R (key a) k) ≡ false → First xs i → First (a ∷ xs) (suc i)
  behind_front a xs i other more = record {
    inside = omega (more.inside, arith);
    is_found = λ x here. ap (λ (b : Bool). cond b (Some a) (found R key k xs)) other ∙ more.is_found x here;
    taken = ap (λ (b : Bool). cond b xs (a ∷ without R key k xs)) other ∙ ap (λ (l : List A). a ∷ l) more.taken;
    put = λ y same. ap (λ (b : Bool). cond b (y ∷ xs) (a ∷ exchanged R key y xs)) (ap (λ (n : K). is_eq (R (key a) n)) same ∙ other) ∙ ap (λ (l : List A). a ∷ l) (more.put y same);
  }

  nowhere_behind : (a : A) (xs : List A) → is_eq (R (key a) k) ≡ false → Nowhere xs → Nowhere (a ∷ xs)
  nowhere_behind a xs other more = record {
    not_found = ap (λ (b : Bool). cond b (Some a) (found R key k xs)) other ∙ more.not_found;
    kept = ap (λ (b : Bool). cond b xs (a ∷ without R key k xs)) other ∙ ap (λ (l : List A). a ∷ l) more.kept;
    stays = λ y same. ap (λ (b : Bool). cond b (y ∷ xs) (a ∷ exchanged R key y xs)) (ap (λ (n : K). is_eq (R (key a) n)) same ∙ other) ∙ ap (λ (l : List A). a ∷ l) (more.stays y same);
  }

  abbrev Tells : List A → Option ℕ → Type 0
  Tells xs None = Nowhere xs
  Tells xs (Some i) = First xs i

  tells : (xs : List A) → Tells xs (first_at R key k xs)
  tells [] = record { not_found = refl; kept = refl; stays = λ y same. refl }
  tells (a ∷ xs) = by_front (is_eq (R (key a) k)) refl (first_at R key k xs) (tells xs)
    where
      by_front : (b : Bool) → is_eq (R (key a) k) ≡ b → (o : Option ℕ) → Tells xs o → Tells (a ∷ xs) (cond b (Some 0) (option_map suc o))
      by_front true equal o t = at_front a xs equal
      by_front false other None t = nowhere_behind a xs other t
      by_front false other (Some i) t = behind_front a xs i other t

  pub where_first : (xs : List A) (i : ℕ) → Some i ≡ first_at R key k xs → First xs i
  where_first xs i is = subst (Tells xs) (sym is) (tells xs)

  pub where_none : (xs : List A) → None ≡ first_at R key k xs → Nowhere xs
  where_none xs is = subst (Tells xs) (sym is) (tells xs)

-- an item is put at the place of its key
module _ {A K : Type 0} (R : K → K → Ordering) (key : A → K) (y : A) where
  abbrev front : A → List A → Ordering → List A
  front a xs o = put_by o a y xs (placed R key y xs)

  equal_is : (o : Ordering) → is_eq o ≡ true → o ≡ Equal
  equal_is Less h = cc
  equal_is Equal h = refl
  equal_is Greater h = cc

  pub placed_over : (xs : List A) (x : A) → place_of R key (key y) xs < length xs → x ≡ get_or xs (place_of R key (key y) xs) x → is_eq (R (key x) (key y)) ≡ true → placed R key y xs ≡ set xs (place_of R key (key y) xs) y
  placed_over [] x lt here equal = absurd (omega arith)
  placed_over (a ∷ xs) x lt here equal = by_order (R (key a) (key y)) refl (placed_over xs x) lt here
    where
      by_order : (o : Ordering) → R (key a) (key y) ≡ o
          → (place_of R key (key y) xs < length xs → x ≡ get_or xs (place_of R key (key y) xs) x → is_eq (R (key x) (key y)) ≡ true → placed R key y xs ≡ set xs (place_of R key (key y) xs) y)
          → cond (is_lt o) (suc (place_of R key (key y) xs)) 0 < suc (length xs) → x ≡ get_or (a ∷ xs) (cond (is_lt o) (suc (place_of R key (key y) xs)) 0) x
          → front a xs o ≡ set (a ∷ xs) (cond (is_lt o) (suc (place_of R key (key y) xs)) 0) y
      by_order Less is more lt here = ap (λ (l : List A). a ∷ l) (more (omega (lt, arith)) here equal)
      by_order Equal is more lt here = refl
      by_order Greater is more lt here = absurd (let clash : Equal ≡ Greater = sym (equal_is _ equal) ∙ ap (λ (b : A). R (key b) (key y)) here ∙ is in cc)

  pub placed_between : (xs : List A) (x : A) → place_of R key (key y) xs < length xs → x ≡ get_or xs (place_of R key (key y) xs) x → is_eq (R (key x) (key y)) ≡ false → placed R key y xs ≡ insert xs (place_of R key (key y) xs) y
  placed_between [] x lt here other = absurd (omega arith)
  placed_between (a ∷ xs) x lt here other = by_order (R (key a) (key y)) refl (placed_between xs x) lt here
    where
      by_order : (o : Ordering) → R (key a) (key y) ≡ o
          → (place_of R key (key y) xs < length xs → x ≡ get_or xs (place_of R key (key y) xs) x → is_eq (R (key x) (key y)) ≡ false → placed R key y xs ≡ insert xs (place_of R key (key y) xs) y)
          → cond (is_lt o) (suc (place_of R key (key y) xs)) 0 < suc (length xs) → x ≡ get_or (a ∷ xs) (cond (is_lt o) (suc (place_of R key (key y) xs)) 0) x
          → front a xs o ≡ insert (a ∷ xs) (cond (is_lt o) (suc (place_of R key (key y) xs)) 0) y
      by_order Less is more lt here = ap (λ (l : List A). a ∷ l) (more (omega (lt, arith)) here other)
      by_order Equal is more lt here = absurd (let clash : true ≡ false = ap is_eq (sym is ∙ ap (λ (b : A). R (key b) (key y)) (sym here)) ∙ other in cc)
      by_order Greater is more lt here = refl

  pub placed_end : (xs : List A) → length xs ≤ place_of R key (key y) xs → placed R key y xs ≡ xs ++ y ∷ []
  placed_end [] over = refl
  placed_end (a ∷ xs) over = by_order (R (key a) (key y)) (placed_end xs) over
    where
      by_order : (o : Ordering) → (length xs ≤ place_of R key (key y) xs → placed R key y xs ≡ xs ++ y ∷ [])
          → suc (length xs) ≤ cond (is_lt o) (suc (place_of R key (key y) xs)) 0
          → front a xs o ≡ a ∷ xs ++ y ∷ []
      by_order Less more over = ap (λ (l : List A). a ∷ l) (more (omega (over, arith)))
      by_order Equal more over = absurd (omega (over, arith))
      by_order Greater more over = absurd (omega (over, arith))

module _ {A K : Type 0} (R : K → K → Ordering) (key : A → K) (y : A) (xs : List A) (i : ℕ) (place : i ≡ place_of R key (key y) xs) where
  pub put_over : (x : A) → i < length xs → x ≡ get_or xs i x → is_eq (R (key x) (key y)) ≡ true → set xs i y ≡ placed R key y xs
  put_over x lt here equal = sym (subst (λ (j : ℕ). j < length xs → x ≡ get_or xs j x → placed R key y xs ≡ set xs j y) (sym place) (λ l h. placed_over R key y xs x l h equal) lt here)

  pub put_between : (x : A) → i < length xs → x ≡ get_or xs i x → is_eq (R (key x) (key y)) ≡ false → insert xs i y ≡ placed R key y xs
  put_between x lt here other = sym (subst (λ (j : ℕ). j < length xs → x ≡ get_or xs j x → placed R key y xs ≡ insert xs j y) (sym place) (λ l h. placed_between R key y xs x l h other) lt here)

  pub put_last : length xs ≤ i → xs ++ y ∷ [] ≡ placed R key y xs
  put_last over = sym (placed_end R key y xs (subst (λ (j : ℕ). length xs ≤ j) place over))

-- what ascends still does where an item is taken out or exchanged, and is so known from pair to pair
module _ {A K : Type 0} (R : K → K → Ordering) (total : IsTotalOrder R) (key : A → K) where
  first_exchanged : (c : K) (y : A) (xs : List A) → below_first R key c xs ≡ true → below_first R key c (exchanged R key y xs) ≡ true
  first_exchanged c y [] below = refl
  first_exchanged c y (a ∷ xs) below = by_test (is_eq (R (key a) (key y))) refl
    where
      by_test : (b : Bool) → is_eq (R (key a) (key y)) ≡ b → below_first R key c (cond b (y ∷ xs) (a ∷ exchanged R key y xs)) ≡ true
      by_test true equal = ap is_lt (total.antisymm c (key y) ∙ ap ordering_reverse (sym (total.congr (key a) (key y) c ((Equal-is (R (key a) (key y))).0 equal))) ∙ sym (total.antisymm c (key a))) ∙ below
      by_test false other = below

  pub ascends-exchanged : (y : A) (xs : List A) → ascends R key xs ≡ true → ascends R key (exchanged R key y xs) ≡ true
  ascends-exchanged y [] up = refl
  ascends-exchanged y (a ∷ xs) up = by_test (is_eq (R (key a) (key y))) refl (ascends-exchanged y xs (and_right (below_first R key (key a) xs) (ascends R key xs) up))
    where
      by_test : (b : Bool) → is_eq (R (key a) (key y)) ≡ b → ascends R key (exchanged R key y xs) ≡ true → ascends R key (cond b (y ∷ xs) (a ∷ exchanged R key y xs)) ≡ true
      by_test true equal more = and_both _ _ (below_same R total key y a xs ((Equal-is (R (key a) (key y))).0 equal) (and_left _ _ up)) (and_right (below_first R key (key a) xs) (ascends R key xs) up)
      by_test false other more = and_both _ _ (first_exchanged (key a) y xs (and_left _ _ up)) more

  pub ascends-without : (k : K) (xs : List A) → ascends R key xs ≡ true → ascends R key (without R key k xs) ≡ true
  ascends-without k [] up = refl
  ascends-without k (a ∷ xs) up = by_test (is_eq (R (key a) k)) (ascends-without k xs (and_right (below_first R key (key a) xs) (ascends R key xs) up))
    where
      first_without : (zs : List A) → below_first R key (key a) zs ≡ true → ascends R key zs ≡ true → below_first R key (key a) (without R key k zs) ≡ true
      first_without [] below up' = refl
      first_without (z ∷ zs) below up' = by_second (is_eq (R (key z) k))
        where
          by_second : (b : Bool) → below_first R key (key a) (cond b zs (z ∷ without R key k zs)) ≡ true
          by_second true = below_later R total key (key a) z zs (lt_is _ below) (and_left _ _ up')
          by_second false = below

      by_test : (b : Bool) → ascends R key (without R key k xs) ≡ true → ascends R key (cond b xs (a ∷ without R key k xs)) ≡ true
      by_test true more = and_right (below_first R key (key a) xs) (ascends R key xs) up
      by_test false more = and_both _ _ (first_without xs (and_left _ _ up) (and_right (below_first R key (key a) xs) (ascends R key xs) up)) more

  pub ascends_next : (xs : List A) (i : ℕ) (x z : A) → suc i < length xs → x ≡ get_or xs i x → z ≡ get_or xs (suc i) z → is_lt (R (key x) (key z)) ≡ true → ascends R key (take (suc i) xs) ≡ true → ascends R key (take (suc (suc i)) xs) ≡ true
  ascends_next [] i x z lt at next below up = absurd (omega arith)
  ascends_next (a ∷ []) i x z lt at next below up = absurd (omega arith)
  ascends_next (a ∷ b ∷ xs) zero x z lt at next below up = and_both _ _ (ap is_lt (ap₂ (λ (p q : A). R (key p) (key q)) (sym at) (sym next)) ∙ below) refl
  ascends_next (a ∷ b ∷ xs) (suc i) x z lt at next below up =
      and_both _ _ (and_left _ _ up) (ascends_next (b ∷ xs) i x z (omega arith) at next below (and_right (below_first R key (key a) (take (suc i) (b ∷ xs))) (ascends R key (take (suc i) (b ∷ xs))) up))

  pub ascends_so_far : (xs : List A) (i : ℕ) (x z : A) → 1 ≤ i → i < length xs → x ≡ get_or xs (i - 1) x → z ≡ get_or xs i z → is_lt (R (key x) (key z)) ≡ true → ascends R key (take i xs) ≡ true → ascends R key (take (i + 1) xs) ≡ true
  ascends_so_far xs zero x z some lt at next below up = absurd (omega arith)
  ascends_so_far xs (suc i) x z some lt at next below up =
      subst (λ (j : ℕ). ascends R key (take j xs) ≡ true) after (ascends_next xs i x z (omega arith) (subst (λ (j : ℕ). x ≡ get_or xs j x) before at) next below up)
    where
      before : suc i - 1 ≡ i
      before = omega arith

      after : suc (suc i) ≡ suc i + 1
      after = omega arith
