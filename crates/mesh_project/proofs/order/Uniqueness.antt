-- One order, one list of names on cycles, and never both.
use Rattle.std.proofs.Common.{◌≡◌, ℕ, zero, suc, ◌+◌, ◌<◌, ◌≤◌, max, Bool, true, false, ◌&&◌, ◌||◌, eqb, List, [], ◌∷◌, length, get_or, map, refl, ap, sym, ◌∙◌, subst, inl, inr, ◌⊎◌, arith}
use Rattle.std.specs.Prelude.{nat_lt, AllPairs, Contains}
use Rattle.std.specs.List.{range_with_len}
use Rattle.std.specs.Cmp.{IsTotalOrder}
use Rattle.std.specs.Ordering.{nat_cmp, ordering_then}
use Rattle.std.specs.declared.cmp.Ordering.{Ordering}
use Rattle.std.specs.declared.cmp.Ordering.TheVariants.{Less, Equal, Greater}
use Rattle.std.proofs.lemmas.Bool.{and_from, cases_lt, eq-eqb, eqb-true, ltb-true}
use Rattle.std.proofs.lemmas.Bool.Decides.{nat_tests}
use Rattle.std.proofs.lemmas.Cmp.{nat_cmp_total, on_total, then_total, tied_itself}
use Rattle.std.proofs.lemmas.List.{get_or-map, length-map}
use Rattle.std.proofs.lemmas.List.Elements.{All-contains, All-get_or, All-from_get_or, Contains-get_or}
use Rattle.std.proofs.lemmas.List.FromFn.{get_or-range_with_len, length-range_with_len}
use Rattle.std.proofs.lemmas.List.Kept.{AllPairs-cons}
use Rattle.std.proofs.lemmas.Map.Keys.{IsDistinct-from_apart}
use Rattle.std.proofs.lemmas.Map.Steps.{length-le_from_distinct_below, le-length_from_below}
use Rattle.mesh_list.specs.Keyed.{ascends, below_first}
use Rattle.mesh_list.proofs.Each.{lt_is}
use Rattle.mesh_base_values.specs.Names.{name_cmp}
use Rattle.mesh_base_values.specs.NameOrder.{names_total}
use Rattle.mesh_base_values.proofs.Tests.{both_parts as and_both}
use Rattle.mesh_project.specs.declared.order.readers.Reader.{Reader}
use Rattle.mesh_project.specs.declared.order.readers.Ranked.{Ranked}
use Rattle.mesh_project.specs.order.Order.{AreRanks, IsOrder, Reaches, above, is_named, itself, name_at, parents, place, ranked_cmp, reader_at, reads}
use Rattle.mesh_project.specs.order.Order.Reaches.{at_once, through}
use Rattle.mesh_project.specs.order.Links.{has}
use Rattle.mesh_project.specs.order.Laws.{AreAsMany, AreCyclesOne, AreOrdersOne, AreRanksOne, HasNoCycle, StandBefore, item_at}
use Rattle.mesh_project.proofs.order.Numbers.{has_at, has_filter, place_of}
use Rattle.mesh_project.proofs.order.Answering.{above_ge}

abbrev In : {A : Type 0} → A → List A → Type 0
In x [] = ⊥
In x (y ∷ ys) = (y ≡ x) ⊎ In x ys

in_of : {A : Type 0} (xs : List A) (x : A) → Contains xs x → In x xs
in_of [] x (k, l, e) = absurd (omega arith)
in_of (y ∷ ys) x (zero, l, e) = inl e
in_of (y ∷ ys) x (suc k, l, e) = inr (in_of ys x (k, omega arith, e))

of_in : {A : Type 0} (xs : List A) (x : A) → In x xs → Contains xs x
of_in [] x i = absurd i
of_in (y ∷ ys) x (inl e) = (0, omega arith, e)
of_in (y ∷ ys) x (inr i) = let c = of_in ys x i in (suc c.0, (let l = c.1 in omega arith), c.2)

-- an ascending list is decided by what stands in it
module _ {A : Type 0} (R : A → A → Ordering) (total : IsTotalOrder R) where
  parts : (a b : Bool) → (a && b) ≡ true → (a ≡ true) × (b ≡ true)
  parts true b h = (refl, h)
  parts false b h = absurd cc

  pub head_below : (x : A) (xs : List A) (z : A) → ascends R itself (x ∷ xs) ≡ true → In z xs → R x z ≡ Less
  head_below x [] z up i = absurd i
  head_below x (y ∷ ys) z up i = by i (lt_is _ (parts _ _ up).0) (λ j. head_below y ys z (parts _ _ up).1 j)
    where
      by : (y ≡ z) ⊎ In z ys → R x y ≡ Less → (In z ys → R y z ≡ Less) → R x z ≡ Less
      by (inl e) first more = ap (R x) (sym e) ∙ first
      by (inr j) first more = total.trans x y z first (more j)

  never : (x : A) → R x x ≡ Less → ⊥
  never x e = let t = tied_itself total x in let clash : Less ≡ Equal = sym e ∙ t in cc

  not_both : (x y : A) → R x y ≡ Less → R y x ≡ Less → ⊥
  not_both x y e f = never x (total.trans x y x e f)

  tail_up : (x : A) (xs : List A) → ascends R itself (x ∷ xs) ≡ true → ascends R itself xs ≡ true
  tail_up x xs up = (parts (below_first R itself x xs) (ascends R itself xs) up).1

  pub one_list : (xs ys : List A) → ascends R itself xs ≡ true → ascends R itself ys ≡ true → ((z : A) → In z xs → In z ys) → ((z : A) → In z ys → In z xs) → xs ≡ ys
  one_list [] [] up vp f g = refl
  one_list [] (y ∷ ys) up vp f g = absurd (g y (inl refl))
  one_list (x ∷ xs) [] up vp f g = absurd (f x (inl refl))
  one_list (x ∷ xs) (y ∷ ys) up vp f g =
      let rest : xs ≡ ys = one_list xs ys (tail_up x xs up) (tail_up y ys vp) (λ z i. into z i (f z (inr i))) (λ z i. back z i (g z (inr i))) in
      λ i. heads i ∷ rest i
    where
      heads : x ≡ y
      heads = by (f x (inl refl)) (g y (inl refl))
        where
          by : In x (y ∷ ys) → In y (x ∷ xs) → x ≡ y
          by (inl e) h = sym e
          by (inr i) (inl e) = e
          by (inr i) (inr j) = absurd (not_both y x (head_below y ys x vp i) (head_below x xs y up j))

      into : (z : A) → In z xs → In z (y ∷ ys) → In z ys
      into z i (inl e) = absurd (never x (subst (λ (w : A). R x w ≡ Less) (sym (heads ∙ e)) (head_below x xs z up i)))
      into z i (inr j) = j

      back : (z : A) → In z ys → In z (x ∷ xs) → In z xs
      back z i (inl e) = absurd (never y (subst (λ (w : A). R y w ≡ Less) (sym (sym heads ∙ e)) (head_below y ys z vp i)))
      back z i (inr j) = j

  pub pairs_of : (xs : List A) → ascends R itself xs ≡ true → AllPairs (λ a b. R a b ≡ Less) xs
  pairs_of [] up = λ i j d l m. absurd (omega arith)
  pairs_of (x ∷ xs) up =
      AllPairs-cons (λ a b. R a b ≡ Less) x xs
      (All-from_get_or (λ y. R x y ≡ Less) xs x (λ i l. head_below x xs (get_or xs i x) up (in_of xs (get_or xs i x) (Contains-get_or xs i x l))))
      (pairs_of xs (tail_up x xs up))

-- ranks
module _ (models : List Reader) where
  parent_of : (at p : ℕ) → reads models at p ≡ true → has (parents models at) p ≡ true
  parent_of at p h =
      let below = ltb-true p (length models) (and_both (nat_lt p (length models)) (is_named (reader_at models at).reads (name_at models p)) h).0 in
      let standing : get_or (range_with_len 0 (length models)) p 0 ≡ p = get_or-range_with_len 0 (length models) p 0 below ∙ (let z : 0 + p ≡ p = omega arith in z) in
      let ranged : has (range_with_len 0 (length models)) p ≡ true =
      subst (λ (q : ℕ). has (range_with_len 0 (length models)) q ≡ true) standing (has_at (range_with_len 0 (length models)) p (omega (arith, length-range_with_len 0 (length models)))) in
      has_filter (reads models at) (range_with_len 0 (length models)) p ∙ and_from _ _ h ranged

  read_of : (at p : ℕ) → has (parents models at) p ≡ true → reads models at p ≡ true
  read_of at p h = (and_both (reads models at p) (has (range_with_len 0 (length models)) p) (sym (has_filter (reads models at) (range_with_len 0 (length models)) p) ∙ h)).0

  there : (at p : ℕ) → reads models at p ≡ true → p < length models
  there at p h = ltb-true p (length models) (and_both (nat_lt p (length models)) (is_named (reader_at models at).reads (name_at models p)) h).0

  rank_falls : (f : ℕ → ℕ) → AreRanks models f → (at p : ℕ) → at < length models → reads models at p ≡ true → f p < f at
  rank_falls f r at p l h =
      let over = above_ge f (parents models at) p (parent_of at p h) in
      let e = r at l in
      omega arith

  reach_falls : (f : ℕ → ℕ) → AreRanks models f → (to at : ℕ) → at < length models → Reaches (reads models) to at → f to < f at
  reach_falls f r to at l (at_once a h) = rank_falls f r a to l h
  reach_falls f r to at l (through a next h more) =
      let d = rank_falls f r a next l h in
      let e = reach_falls f r to next (there a next h) more in
      omega arith

  same_above : (f g : ℕ → ℕ) (ps : List ℕ) → ((p : ℕ) → has ps p ≡ true → f p ≡ g p) → above (map f ps) ≡ above (map g ps)
  same_above f g [] h = refl
  same_above f g (p ∷ ps) h =
      let first = h p (first_has p ps) in
      let more = same_above f g ps (λ q e. h q (later_has p q ps e)) in
      λ i. max (first i + 1) (more i)
    where
      first_has : (p : ℕ) (ps : List ℕ) → has (p ∷ ps) p ≡ true
      first_has p ps = ap (λ b. b || has ps p) (eq-eqb p p refl)

      later_has : (p q : ℕ) (ps : List ℕ) → has ps q ≡ true → has (p ∷ ps) q ≡ true
      later_has p q ps e = by (eqb q p) (has ps q) e
        where
          by : (a b : Bool) → b ≡ true → (a || b) ≡ true
          by true b h = refl
          by false b h = h

  ranks_below : (f g : ℕ → ℕ) → AreRanks models f → AreRanks models g → (bound at : ℕ) → f at < bound → at < length models → f at ≡ g at
  ranks_below f g r s zero at b l = absurd (omega arith)
  ranks_below f g r s (suc bound) at b l =
      r at l ∙ same_above f g (parents models at) (λ p h. ranks_below f g r s bound p (let d = rank_falls f r at p l (read_of at p h) in omega arith) (there at p (read_of at p h))) ∙ sym (s at l)

pub ranks_one : AreRanksOne
ranks_one models f g r s at l = ranks_below models f g r s (suc (f at)) at (omega arith) l

pub no_cycle : HasNoCycle
no_cycle models order o at l goes = let f = reach_falls models o.ranks.0 o.ranks.1 at at l goes in omega arith

ranked_total : (models : List Reader) → IsTotalOrder (ranked_cmp models)
ranked_total models = then_total (on_total (λ (r : Ranked). r.rank) nat_cmp_total) (on_total (λ (r : Ranked). name_at models r.at) names_total)

-- items with one place and one rank are one
pub orders_one : AreOrdersOne
orders_one models a b o p =
    one_list (ranked_cmp models) (ranked_total models) a b o.ascending p.ascending (across a b o p) (across b a p o)
  where
    across : (xs ys : List Ranked) → IsOrder models xs → IsOrder models ys → (z : Ranked) → In z xs → In z ys
    across xs ys q r z i =
        let c = of_in xs z i in
        let w = All-contains (λ (x : Ranked). x.at < length models) xs z q.within c in
        let k = All-contains (λ (x : Ranked). x.rank ≡ q.ranks.0 x.at) xs z q.ranks.2 c in
        let found = in_of (map place ys) z.at (r.all z.at w) in
        let item = item_of ys z.at found in
        let rank = All-contains (λ (x : Ranked). x.rank ≡ r.ranks.0 x.at) ys item.0 r.ranks.2 (of_in ys item.0 item.1) in
        let same : item.0 ≡ z = (λ j. record { at = item.2 j; rank = (rank ∙ ap r.ranks.0 item.2 ∙ sym (ranks_one models q.ranks.0 r.ranks.0 q.ranks.1 r.ranks.1 z.at w) ∙ sym k) j }) in
        subst (λ (x : Ranked). In x ys) same item.1
      where
        item_of : (xs : List Ranked) (at : ℕ) → In at (map place xs) → (x : Ranked) × In x xs × (x.at ≡ at)
        item_of [] at i = absurd i
        item_of (x ∷ xs) at (inl e) = (x, inl refl, e)
        item_of (x ∷ xs) at (inr i) = let m = item_of xs at i in (m.0, inr m.1, m.2)

pub cycles_one : AreCyclesOne
cycles_one models a b p q =
    one_list name_cmp names_total a b p.ascending q.ascending
    (λ z i. in_of b z ((q.exactly z).1 ((p.exactly z).0 (of_in a z i))))
    (λ z i. in_of a z ((p.exactly z).1 ((q.exactly z).0 (of_in b z i))))

-- the item at a place
module _ (models : List Reader) (order : List Ranked) (o : IsOrder models order) where
  abbrev rank_at : ℕ → ℕ
  rank_at k = (item_at order k).rank

  abbrev at_item : ℕ → ℕ
  at_item k = (item_at order k).at

  rank_of : (k : ℕ) → k < length order → rank_at k ≡ o.ranks.0 (at_item k)
  rank_of k l = All-get_or (λ (r : Ranked). r.rank ≡ o.ranks.0 r.at) order k (record { at = 0; rank = 0 }) l o.ranks.2

  inside : (k : ℕ) → k < length order → at_item k < length models
  inside k l = All-get_or (λ (r : Ranked). r.at < length models) order k (record { at = 0; rank = 0 }) l o.within

  item_with : (at : ℕ) → at < length models → (m : ℕ) × (m < length order) × (at_item m ≡ at)
  item_with at l =
      let c = o.all at l in
      let short : c.0 < length order = (let b = c.1 in omega (arith, length-map order place)) in
      (c.0, short, sym (get_or-map place order c.0 (record { at = 0; rank = 0 }) at short) ∙ c.2)

  less_at : (i j : ℕ) → i < j → j < length order → ranked_cmp models (item_at order i) (item_at order j) ≡ Less
  less_at i j l m = pairs_of (ranked_cmp models) (ranked_total models) order o.ascending i j (record { at = 0; rank = 0 }) l m

  not_above : (a b : ℕ) (r : Ordering) → ordering_then (nat_cmp a b) r ≡ Less → a ≤ b
  not_above a b r h = elim (cases_lt b a) [
    | inl over ↦ absurd (let g : nat_cmp a b ≡ Greater = greater a b over in let e : Greater ≡ Less = ap (λ x. ordering_then x r) (sym g) ∙ h in cc)
    | inr le ↦ le
  ]
    where
      greater : (a b : ℕ) → b < a → nat_cmp a b ≡ Greater
      greater a b l = grind (arith, nat_tests)

  stands : (k other : ℕ) → k < length order → reads models (at_item k) other ≡ true → (m : ℕ) × (m < k) × (at_item m ≡ other) × (rank_at m < rank_at k)
  stands k other l h =
      let m = item_with other (there models (at_item k) other h) in
      let falls = rank_falls models o.ranks.0 o.ranks.1 (at_item k) other (inside k l) h in
      let first : rank_at m.0 ≡ o.ranks.0 other = rank_of m.0 m.1 ∙ ap o.ranks.0 m.2 in
      let last = rank_of k l in
      let lower : rank_at m.0 < rank_at k = omega arith in
      (m.0, before m.0 m.1 lower, m.2, lower)
    where
      before : (m : ℕ) → m < length order → rank_at m < rank_at k → m < k
      before m b lower = elim (cases_lt m k) [
        | inl e ↦ e
        | inr over ↦ elim (cases_lt k m) [
          | inl beyond ↦ absurd (let e = not_above (rank_at k) (rank_at m) (name_cmp (name_at models (at_item k)) (name_at models (at_item m))) (less_at k m beyond b) in omega arith)
          | inr up ↦ absurd (let same : m ≡ k = omega arith in let e : rank_at m ≡ rank_at k = ap rank_at same in omega arith)
        ]
      ]

  apart_at : (i j d : ℕ) → i < j → j < length (map place order) → eqb (get_or (map place order) i d) (get_or (map place order) j d) ≡ false
  apart_at i j d l m =
      let b : j < length order = omega (arith, length-map order place) in
      rw (get_or-map place order i (record { at = 0; rank = 0 }) d (omega arith), get_or-map place order j (record { at = 0; rank = 0 }) d b) (unlike (eqb (at_item i) (at_item j)) refl b)
    where
      unlike : (t : Bool) → t ≡ eqb (at_item i) (at_item j) → j < length order → eqb (at_item i) (at_item j) ≡ false
      unlike false e b = sym e
      unlike true e b =
          let same : at_item i ≡ at_item j = eqb-true _ _ (sym e) in
          let ranks : rank_at i ≡ rank_at j = rank_of i (omega arith) ∙ ap o.ranks.0 same ∙ sym (rank_of j b) in
          let item : item_at order i ≡ item_at order j = (λ k. record { at = same k; rank = ranks k }) in
          let less = less_at i j l b in
          absurd (never (ranked_cmp models) (ranked_total models) (item_at order j) (subst (λ (x : Ranked). ranked_cmp models x (item_at order j) ≡ Less) item less))

  many : length order ≡ length models
  many =
      let le = length-le_from_distinct_below (map place order) (length models) (IsDistinct-from_apart eqb (map place order) apart_at) below in
      let ge = le-length_from_below (map place order) (length models) held in
      omega (arith, length-map order place)
    where
      below : (q : ℕ) → has (map place order) q ≡ true → q < length models
      below q h =
          let p = place_of (map place order) q h in
          let b : p.0 < length order = (let c = p.1 in omega (arith, length-map order place)) in
          let i = inside p.0 b in
          let e : at_item p.0 ≡ q = sym (get_or-map place order p.0 (record { at = 0; rank = 0 }) 0 b) ∙ p.2 in
          omega arith

      held : (q : ℕ) → q < length models → has (map place order) q ≡ true
      held q l =
          let c = item_with q l in
          let e : get_or (map place order) c.0 0 ≡ q = get_or-map place order c.0 (record { at = 0; rank = 0 }) 0 c.1 ∙ c.2 in
          subst (λ (x : ℕ). has (map place order) x ≡ true) e (has_at (map place order) c.0 (let b = c.1 in omega (arith, length-map order place)))

pub stand_before : StandBefore
stand_before models order o k other l h = stands models order o k other l h

pub as_many : AreAsMany
as_many models order o = many models order o
