-- The spans without the seconds of several others: they stay apart, and the order of the others means nothing.
use Rattle.std.proofs.Common.{◌≡◌, refl, sym, ◌∙◌, ap, Bool, true, false, ◌&&◌, cond, List, [], ◌∷◌, ◌++◌, ◌⊎◌, inl, inr, ◌↔◌, ℤ, ◌≤ℤ◌, ◌<ℤ◌, ℕ, ◌<◌, ◌≤◌, ◌+◌, suc, length, get_or, filter, arith, append_assoc, drop}
use Rattle.std.specs.List.{flat_map, All}
use Rattle.std.specs.List.Sorted.{IsPermutation, IsSortedBy}
use Rattle.std.specs.declared.cmp.Ordering.{Ordering}
use Rattle.std.specs.declared.cmp.Ordering.TheVariants.{Less, Equal, Greater}
use Rattle.std.specs.Ordering.{MatchOrdering, int_cmp, is_lt}
use Rattle.std.specs.Int.{int_min, int_max}
use Rattle.std.specs.Int.Signed.{lt_z, le_z}
use Rattle.std.proofs.lemmas.Int.{ints, clamps, by_lt_z}
use native.Mathlib.Numerals.{unary_clauses}
use Rattle.std.proofs.lemmas.Cmp.{int_ranked}
use Rattle.std.proofs.lemmas.List.{append-nil, drop_all, drop_more}
use Rattle.std.proofs.lemmas.List.Concat.{flat_map-append}
use Rattle.std.proofs.lemmas.List.Elements.{All-nil, All-cons, All-head, All-tail}
use Rattle.std.proofs.lemmas.List.Sorted.{All-permutation, IsPermutation-sym}
use Rattle.std.proofs.lemmas.Bool.{and_from as and_true}
use Rattle.mesh_base_values.specs.declared.times.Bounds.{Bounds}
use Rattle.mesh_base_values.proofs.Tests.{lt_true, lt_says, le_true, le_says, both_parts as and_says}
use Rattle.mesh_time.specs.Ranges.{IsWithin, Has, is_apart, is_apart_after}
use Rattle.mesh_time.specs.Edits.{filled, pieces, spans_without_each, rises, rises_from}
use Rattle.mesh_time.proofs.Apart.{lt_false, ApartAfter, apart_says, apart_after_says, is_apart_true}
use Rattle.mesh_time.proofs.Forgotten.{apart_forgotten, has_forgotten}
use Rattle.mesh_time.proofs.Same.{same_ranges}

-- the order of the others, as facts
abbrev pub Rises : ℤ → List Bounds → Type 0
Rises t [] = Unit {0}
Rises t (b ∷ bs) = (t ≤ℤ b.start) × (b.start <ℤ b.end) × Rises b.start bs

pub rises_says : (t : ℤ) (bs : List Bounds) → rises_from t bs ≡ true → Rises t bs
rises_says t [] h = tt
rises_says t (b ∷ bs) h =
    let p = and_says (le_z t b.start) _ h in
    let q = and_says (lt_z b.start b.end) _ p.1 in
    (le_says _ _ p.0, lt_says _ _ q.0, rises_says b.start bs q.1)

rises_lower : (t u : ℤ) (bs : List Bounds) → t ≤ℤ u → Rises u bs → Rises t bs
rises_lower t u [] h r = tt
rises_lower t u (b ∷ bs) h r = (omega (arith, ints), r.1, r.2)

-- one of the others is taken out
abbrev less : Bounds → List Bounds → List Bounds
less g xs = cond (lt_z g.start g.end) (flat_map (pieces g) xs) xs

less_is : (g : Bounds) (xs : List Bounds) → g.start <ℤ g.end → less g xs ≡ flat_map (pieces g) xs
less_is g xs h = rw (lt_true _ _ h) refl

less_append : (g : Bounds) (xs ys : List Bounds) → less g (xs ++ ys) ≡ less g xs ++ less g ys
less_append g xs ys = at (lt_z g.start g.end)
  where
    at : (b : Bool) → cond b (flat_map (pieces g) (xs ++ ys)) (xs ++ ys) ≡ cond b (flat_map (pieces g) xs) xs ++ cond b (flat_map (pieces g) ys) ys
    at true = flat_map-append (pieces g) xs ys
    at false = refl

pub each_append : (gs xs ys : List Bounds) → spans_without_each gs (xs ++ ys) ≡ spans_without_each gs xs ++ spans_without_each gs ys
each_append [] xs ys = refl
each_append (g ∷ gs) xs ys = ap (spans_without_each gs) (less_append g xs ys) ∙ each_append gs (less g xs) (less g ys)

pub each_none : (gs : List Bounds) → spans_without_each gs [] ≡ []
each_none [] = refl
each_none (g ∷ gs) = ap (spans_without_each gs) (at (lt_z g.start g.end)) ∙ each_none gs
  where
    at : (b : Bool) → cond b (flat_map (pieces g) []) [] ≡ []
    at true = refl
    at false = refl

filled_some : (a b : ℤ) → a <ℤ b → filled a b ≡ record { start = a; end = b } ∷ []
filled_some a b h = rw (lt_true _ _ h) refl

filled_none : (a b : ℤ) → b ≤ℤ a → filled a b ≡ []
filled_none a b h = rw (lt_false _ _ h) refl

-- what one of the others leaves of the seconds from a start to an end
less_filled : (g : Bounds) (low high : ℤ) → g.start <ℤ g.end → less g (filled low high) ≡ filled low (int_min high g.start) ++ filled (int_max low g.end) high
less_filled g low high h =
    less_is g (filled low high) h
    ∙ by_lt_z low high
    (λ k. ap (flat_map (pieces g)) (filled_some low high k) ∙ append-nil _)
    (λ k. ap (flat_map (pieces g)) (filled_none low high k)
    ∙ sym (λ i. filled_none low (int_min high g.start) (omega (arith, ints, clamps)) i ++ filled_none (int_max low g.end) high (omega (arith, ints, clamps)) i))

-- seconds below all of the others stay
pub each_above : (gs : List Bounds) (low high : ℤ) → Rises high gs → spans_without_each gs (filled low high) ≡ filled low high
each_above [] low high r = refl
each_above (g ∷ gs) low high r =
    let min_is : int_min high g.start ≡ high = omega (arith, ints, clamps) in
    let none : high ≤ℤ int_max low g.end = omega (arith, ints, clamps) in
    ap (spans_without_each gs) (less_filled g low high r.1 ∙ (λ i. filled low (min_is i) ++ filled_none (int_max low g.end) high none i) ∙ append-nil _)
    ∙ each_above gs low high (rises_lower high g.start gs r.0 r.2)

-- one that ends within what is left of a span cuts off what lies below it
pub cut_within : (g : Bounds) (gs : List Bounds) (low high : ℤ) → g.start <ℤ g.end → Rises g.start gs → g.end ≤ℤ high → spans_without_each (g ∷ gs) (filled low high) ≡ filled low g.start ++ spans_without_each gs (filled (int_max low g.end) high)
cut_within g gs low high some r h =
    let min_is : int_min high g.start ≡ g.start = omega (arith, ints, clamps) in
    ap (spans_without_each gs) (less_filled g low high some)
    ∙ each_append gs (filled low (int_min high g.start)) (filled (int_max low g.end) high)
    ∙ (λ i. spans_without_each gs (filled low (min_is i)) ++ spans_without_each gs (filled (int_max low g.end) high))
    ∙ (λ i. each_above gs low g.start r i ++ spans_without_each gs (filled (int_max low g.end) high))

-- one that ends beyond a span leaves what lies below it
pub cut_beyond : (g : Bounds) (gs : List Bounds) (low high : ℤ) → g.start <ℤ g.end → Rises g.start gs → high <ℤ g.end → spans_without_each (g ∷ gs) (filled low high) ≡ filled low (int_min high g.start)
cut_beyond g gs low high some r h =
    let none : high ≤ℤ int_max low g.end = omega (arith, ints, clamps) in
    let below : int_min high g.start ≤ℤ g.start = omega (arith, ints, clamps) in
    ap (spans_without_each gs) (less_filled g low high some ∙ (λ i. filled low (int_min high g.start) ++ filled_none (int_max low g.end) high none i) ∙ append-nil _)
    ∙ each_above gs low (int_min high g.start) (rises_lower _ _ gs below r)

-- one that ends below spans takes nothing of them
pub passed : (g : Bounds) (gs : List Bounds) (u : ℤ) (xs : List Bounds) → g.end ≤ℤ u → ApartAfter u xs → spans_without_each (g ∷ gs) xs ≡ spans_without_each gs xs
passed g gs u xs h a = ap (spans_without_each gs) (at (lt_z g.start g.end) refl)
  where
    whole : (t : ℤ) (ys : List Bounds) → g.start <ℤ g.end → g.end ≤ℤ t → ApartAfter t ys → flat_map (pieces g) ys ≡ ys
    whole t [] some k b = refl
    whole t (y ∷ ys) some k b =
        let low : int_min y.end g.start ≤ℤ y.start = omega (arith, ints, clamps) in
        let max_is : int_max y.start g.end ≡ y.start = omega (arith, ints, clamps) in
        (λ i. (filled_none y.start (int_min y.end g.start) low i ++ filled (max_is i) y.end) ++ whole y.end ys some (omega (arith, ints)) b.2 i)
        ∙ ap (λ (l : List Bounds). l ++ ys) (filled_some y.start y.end b.1)

    at : (b : Bool) → lt_z g.start g.end ≡ b → cond b (flat_map (pieces g) xs) xs ≡ xs
    at true e = whole u xs (lt_says _ _ e) h a
    at false e = refl

-- the spans stay apart, and keep the seconds that none of the others has
pub each_apart : (gs xs : List Bounds) → is_apart xs ≡ true → is_apart (spans_without_each gs xs) ≡ true
each_apart [] xs a = a
each_apart (g ∷ gs) xs a = each_apart gs (less g xs) (at (lt_z g.start g.end) refl)
  where
    at : (b : Bool) → lt_z g.start g.end ≡ b → is_apart (cond b (flat_map (pieces g) xs) xs) ≡ true
    at true e = is_apart_true _ (apart_forgotten g xs (lt_says _ _ e) (apart_says xs a))
    at false e = a

outside : (g : Bounds) (t : ℤ) → (IsWithin g.start g.end t → ⊥) → (t <ℤ g.start) ⊎ (g.end ≤ℤ t)
outside g t n = by_lt_z t g.start (λ h. inl h) (λ h. by_lt_z t g.end (λ k. absurd (n (h, k))) (λ k. inr k))

has_less : (g : Bounds) (xs : List Bounds) (t : ℤ) → Has (less g xs) t ↔ (Has xs t × (IsWithin g.start g.end t → ⊥))
has_less g xs t = at (lt_z g.start g.end) refl
  where
    at : (b : Bool) → lt_z g.start g.end ≡ b → Has (cond b (flat_map (pieces g) xs) xs) t ↔ (Has xs t × (IsWithin g.start g.end t → ⊥))
    at true e =
        let f = has_forgotten g xs t (lt_says _ _ e) in (
          λ h. ((f.0 h).0, λ w. elim (f.0 h).1 [ inl k ↦ omega (arith, ints) | inr k ↦ omega (arith, ints) ]),
          λ h. f.1 (h.0, outside g t h.1),
        )
    at false e = (λ h. (h, λ w. absurd (let k : true ≡ false = sym (lt_true g.start g.end (omega (arith, ints))) ∙ e in cc)), λ h. h.0)

pub has_each : (gs xs : List Bounds) (t : ℤ) → Has (spans_without_each gs xs) t ↔ (Has xs t × (Has gs t → ⊥))
has_each [] xs t = (λ h. (h, λ n. n), λ h. h.0)
has_each (g ∷ gs) xs t =
    let more = has_each gs (less g xs) t in
    let here = has_less g xs t in (
      λ h. ((here.0 (more.0 h).0).0, λ m. elim m [ inl w ↦ (here.0 (more.0 h).0).1 w | inr n ↦ (more.0 h).1 n ]),
      λ h. more.1 (here.1 (h.0, λ w. h.1 (inl w)), λ n. h.1 (inr n)),
    )

-- others with the same seconds take the same
pub each_alike : (gs hs xs : List Bounds) → is_apart xs ≡ true → ((t : ℤ) → Has gs t ↔ Has hs t) → spans_without_each gs xs ≡ spans_without_each hs xs
each_alike gs hs xs a same =
    same_ranges _ _ (each_apart gs xs a) (each_apart hs xs a) (λ t.
    let l = has_each gs xs t in
    let r = has_each hs xs t in (
      λ h. r.1 ((l.0 h).0, λ n. (l.0 h).1 ((same t).1 n)),
      λ h. l.1 ((r.0 h).0, λ n. (r.0 h).1 ((same t).0 n)),
    ))

-- a second that isn't in one of some spans isn't in one of them in another order
abbrev Misses : ℤ → Bounds → Type 0
Misses t b = IsWithin b.start b.end t → ⊥

misses_says : (bs : List Bounds) (t : ℤ) → All (Misses t) bs → Has bs t → ⊥
misses_says [] t a h = h
misses_says (b ∷ bs) t a (inl w) = All-head (Misses t) b bs a w
misses_says (b ∷ bs) t a (inr h) = misses_says bs t (All-tail (Misses t) b bs a) h

misses_if : (bs : List Bounds) (t : ℤ) → (Has bs t → ⊥) → All (Misses t) bs
misses_if [] t n = All-nil (Misses t)
misses_if (b ∷ bs) t n = All-cons (Misses t) b bs (λ w. n (inl w)) (misses_if bs t (λ h. n (inr h)))

-- those that have a second have the seconds of all
abbrev some : Bounds → Bool
some b = lt_z b.start b.end

some_seconds : (gone : List Bounds) (t : ℤ) → Has (filter some gone) t ↔ Has gone t
some_seconds [] t = (λ h. h, λ h. h)
some_seconds (b ∷ bs) t = at (lt_z b.start b.end) refl (some_seconds bs t)
  where
    at : (r : Bool) → lt_z b.start b.end ≡ r → Has (filter some bs) t ↔ Has bs t → Has (cond r (b ∷ filter some bs) (filter some bs)) t ↔ Has (b ∷ bs) t
    at true e more = (λ h. elim h [ inl w ↦ inl w | inr m ↦ inr (more.0 m) ], λ h. elim h [ inl w ↦ inl w | inr m ↦ inr (more.1 m) ])
    at false e more = (
      λ h. inr (more.0 h),
      λ h. elim h [ inl w ↦ absurd (let k : true ≡ false = sym (lt_true b.start b.end (omega (arith, ints))) ∙ e in cc) | inr m ↦ more.1 m ],
    )

moved : (xs ys : List Bounds) (t : ℤ) → IsPermutation xs ys → Has xs t → Has ys t
moved xs ys t p h = at (has_or ys t)
  where
    has_or : (zs : List Bounds) (u : ℤ) → Has zs u ⊎ (Has zs u → ⊥)
    has_or [] u = inr (λ n. n)
    has_or (z ∷ zs) u =
        elim (has_or zs u) [
          | inl m ↦ inl (inr m)
          | inr n ↦ by_lt_z u z.start
              (λ k. inr (λ m. elim m [ inl w ↦ omega (arith, ints) | inr r ↦ n r ]))
              (λ k. by_lt_z u z.end
              (λ l. inl (inl (k, l)))
              (λ l. inr (λ m. elim m [ inl w ↦ omega (arith, ints) | inr r ↦ n r ])))
        ]

    at : Has ys t ⊎ (Has ys t → ⊥) → Has ys t
    at (inl m) = m
    at (inr n) = absurd (misses_says xs t (All-permutation (Misses t) ys xs (IsPermutation-sym xs ys p) (misses_if ys t n)) h)

pub sorted_seconds : (gone kept all : List Bounds) → kept ≡ filter some gone → IsPermutation kept all → (t : ℤ) → Has all t ↔ Has gone t
sorted_seconds gone kept all e p t =
    let some : Has kept t ↔ Has gone t = rw e (some_seconds gone t) in (
      λ h. some.0 (moved all kept t (IsPermutation-sym kept all p) h),
      λ h. moved kept all t p (some.1 h),
    )

-- sorted by their starts they rise
abbrev Some : Bounds → Type 0
Some b = b.start <ℤ b.end

all_some : (gone : List Bounds) → All Some (filter some gone)
all_some [] = All-nil Some
all_some (b ∷ bs) = at (lt_z b.start b.end) refl (all_some bs)
  where
    at : (r : Bool) → lt_z b.start b.end ≡ r → All Some (filter some bs) → All Some (cond r (b ∷ filter some bs) (filter some bs))
    at true e more = All-cons Some b (filter some bs) (lt_says _ _ e) more
    at false e more = more

not_less : (x y : ℤ) → is_lt (int_cmp x y) ≡ false → y ≤ℤ x
not_less x y h = at (int_cmp x y) (int_ranked x y (int_cmp x y) refl) h
  where
    at : (o : Ordering) → MatchOrdering o (x <ℤ y) (x ≡ y) (y <ℤ x) → is_lt o ≡ false → y ≤ℤ x
    at Less m e = cc
    at Equal m e = omega (arith, ints)
    at Greater m e = omega (arith, ints)

abbrev SortedByStart : List Bounds → Type 0
SortedByStart = IsSortedBy (λ (x y : Bounds). is_lt (int_cmp x.start y.start))

rises_on : (b : Bounds) (bs : List Bounds) → All Some bs → SortedByStart (b ∷ bs) → rises_from b.start bs ≡ true
rises_on b [] a up = refl
rises_on b (x ∷ xs) a up =
    and_true _ _ (le_true b.start x.start (not_less x.start b.start (up 0 b (omega arith) (omega arith))))
    (and_true _ _ (lt_true x.start x.end (All-head Some x xs a)) (rises_on x xs (All-tail Some x xs a) (λ k d low high. simp unary_clauses (simp unary_clauses at (up (suc k) d (omega arith) (omega arith))))))

rises_if : (bs : List Bounds) → All Some bs → SortedByStart bs → rises bs ≡ true
rises_if [] a up = refl
rises_if (b ∷ bs) a up = and_true _ _ (lt_true b.start b.end (All-head Some b bs a)) (rises_on b bs (All-tail Some b bs a) up)

pub sorted_rises : (gone kept all : List Bounds) → kept ≡ filter some gone → IsPermutation kept all → SortedByStart all → rises all ≡ true
sorted_rises gone kept all e p up = rises_if all (All-permutation Some kept all p (rw e (all_some gone))) up

-- the steps along the others, for one span
module _ (made old after gone : List Bounds) (i : ℕ) (d : Bounds) (span : Bounds) (low : ℤ) (within : i < length gone) (up : rises (drop i gone) ≡ true) where
  abbrev g : Bounds
  g = get_or gone i d

  abbrev gs : List Bounds
  gs = drop (i + 1) gone

  front : drop i gone ≡ g ∷ gs
  front = drop_more gone i d within

  first : (lt_z g.start g.end && rises_from g.start gs) ≡ true
  first = sym (ap rises front) ∙ up

  has_some : g.start <ℤ g.end
  has_some = lt_says _ _ (and_says (lt_z g.start g.end) _ first).0

  later : Rises g.start gs
  later = rises_says g.start gs (and_says (lt_z g.start g.end) _ first).1

  pub beyond : (mid : ℤ) → span.end <ℤ g.end → made ++ spans_without_each (drop i gone) (filled low span.end) ≡ old ++ spans_without_each gone (filled span.start span.end) → mid ≡ int_min span.end g.start → after ≡ made ++ filled low mid → span.start <ℤ span.end → after ≡ old ++ spans_without_each gone (span ∷ [])
  beyond mid over so_far mid_is pushed proper =
      pushed
      ∙ ap (λ (m : ℤ). made ++ filled low m) mid_is
      ∙ ap (λ (l : List Bounds). made ++ l) (sym (cut_beyond g gs low span.end has_some later over))
      ∙ ap (λ (l : List Bounds). made ++ spans_without_each l (filled low span.end)) (sym front)
      ∙ so_far
      ∙ ap (λ (l : List Bounds). old ++ spans_without_each gone l) (filled_some span.start span.end proper)

  pub goes_on : (next : ℤ) → g.end ≤ℤ span.end → made ++ spans_without_each (drop i gone) (filled low span.end) ≡ old ++ spans_without_each gone (filled span.start span.end) → next ≡ int_max low g.end → after ≡ made ++ filled low g.start → after ++ spans_without_each gs (filled next span.end) ≡ old ++ spans_without_each gone (filled span.start span.end)
  goes_on next over so_far next_is pushed =
      (λ j. pushed j ++ spans_without_each gs (filled (next_is j) span.end))
      ∙ append_assoc made (filled low g.start) (spans_without_each gs (filled (int_max low g.end) span.end))
      ∙ ap (λ (l : List Bounds). made ++ l) (sym (cut_within g gs low span.end has_some later over))
      ∙ ap (λ (l : List Bounds). made ++ spans_without_each l (filled low span.end)) (sym front)
      ∙ so_far

  pub rest_goes_on : (xs : List Bounds) → g.end ≤ℤ span.end → is_apart_after span.end xs ≡ true → spans_without_each (drop i gone) xs ≡ spans_without_each gone xs → spans_without_each gs xs ≡ spans_without_each gone xs
  rest_goes_on xs over apart so_far =
      sym (passed g gs span.end xs over (apart_after_says span.end xs apart))
      ∙ ap (λ (l : List Bounds). spans_without_each l xs) (sym front)
      ∙ so_far

  pub order_goes_on : rises gs ≡ true
  order_goes_on = at gs (and_says (lt_z g.start g.end) _ first).1
    where
      at : (l : List Bounds) → rises_from g.start l ≡ true → rises l ≡ true
      at [] h = refl
      at (x ∷ xs) h = (and_says (le_z g.start x.start) _ h).1

-- the steps along the spans
module _ (made next gone rest left spans items : List Bounds) (i : ℕ) (d : Bounds) (same : items ≡ spans) (within : i < length items) where
  abbrev b : Bounds
  b = get_or items i d

  abbrev bs : List Bounds
  bs = drop (i + 1) spans

  split : drop i spans ≡ b ∷ bs
  split = ap (drop i) (sym same) ∙ drop_more items i d within ∙ (λ j. b ∷ drop (i + 1) (same j))

  pub span_proper : is_apart (drop i spans) ≡ true → b.start <ℤ b.end
  span_proper a = lt_says _ _ (and_says (lt_z b.start b.end) _ (sym (ap is_apart split) ∙ a)).0

  pub rest_apart : is_apart (drop i spans) ≡ true → is_apart bs ≡ true
  rest_apart a = at bs (and_says (lt_z b.start b.end) _ (sym (ap is_apart split) ∙ a)).1
    where
      at : (l : List Bounds) → is_apart_after b.end l ≡ true → is_apart l ≡ true
      at [] h = refl
      at (x ∷ xs) h = (and_says (lt_z b.end x.start) _ h).1

  pub span_cut : is_apart (drop i spans) ≡ true → made ++ spans_without_each rest (drop i spans) ≡ spans_without_each gone spans → next ≡ made ++ spans_without_each rest (b ∷ []) → ((xs : List Bounds) → is_apart_after b.end xs ≡ true → spans_without_each left xs ≡ spans_without_each rest xs) → next ++ spans_without_each left bs ≡ spans_without_each gone spans
  span_cut a so_far cut alike =
      let apart : is_apart_after b.end bs ≡ true = (and_says (lt_z b.start b.end) _ (sym (ap is_apart split) ∙ a)).1 in
      (λ j. cut j ++ alike bs apart j)
      ∙ append_assoc made (spans_without_each rest (b ∷ [])) (spans_without_each rest bs)
      ∙ ap (λ (l : List Bounds). made ++ l) (sym (each_append rest (b ∷ []) bs))
      ∙ ap (λ (l : List Bounds). made ++ spans_without_each rest l) (sym split)
      ∙ so_far

pub all_cut : (made gone rest spans : List Bounds) (i : ℕ) → made ++ spans_without_each rest (drop i spans) ≡ spans_without_each gone spans → length spans ≤ i → made ≡ spans_without_each gone spans
all_cut made gone rest spans i so_far over =
    sym (append-nil made)
    ∙ ap (λ (l : List Bounds). made ++ l) (sym (ap (spans_without_each rest) (drop_all i spans over) ∙ each_none rest))
    ∙ so_far
