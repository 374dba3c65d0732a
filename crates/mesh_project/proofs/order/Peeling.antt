-- One rank more, and where it ends.
use Rattle.std.proofs.Common.{◌≡◌, ℕ, suc, ◌+◌, ◌<◌, ◌≤◌, min, Bool, true, false, not, cond, ◌&&◌, List, [], ◌∷◌, ◌++◌, length, get_or, map, replicate, refl, ap, sym, ◌∙◌, subst, inl, inr, arith}
use Rattle.std.specs.Prelude.{filter, nat_lt, slice_index, slice_index_or, All, AllPairs}
use Rattle.std.proofs.lemmas.Bool.{and_from, cases_lt, ltb-true, or_left, or_right}
use Rattle.std.proofs.lemmas.Bool.Decides.{nat_tests}
use Rattle.std.proofs.lemmas.List.{get_or-replicate, length-replicate, map-append}
use Rattle.std.proofs.lemmas.List.Elements.{All-append, All-map, All-get_or, All-from_get_or, All-nil}
use Rattle.std.proofs.lemmas.List.Kept.{AllPairs-filter}
use Rattle.mesh_base_values.proofs.Tests.{both_parts as and_both}
use Rattle.mesh_project.specs.declared.order.readers.Reader.{Reader}
use Rattle.mesh_project.specs.declared.order.readers.Ranked.{Ranked}
use Rattle.mesh_project.specs.declared.order.peel.Peeled.{Peeled}
use Rattle.mesh_project.specs.order.Order.{is_named, name_at, place, reader_at}
use Rattle.mesh_project.specs.order.Links.{has, leads, AreByName, AreLinks, AreWithin, IsBelow}
use Rattle.mesh_project.specs.order.Peeled.{is_ready, at_rank, ranks_with, AreStuck, ComesBefore, IsDone, IsPeeled, IsReached, IsRound, IsUnpeeled}
use Rattle.mesh_project.proofs.order.Numbers.{all_has, has_at, has_append, has_filter, length-ranks_with, not_all_has, pairs_append, pairs_map, place_of, ranks_with-at}

-- what became of a place at a rank
data Now (ready left : Bool) (old new rank : ℕ) : Type 0 where
  ranked_now : ready ≡ true → left ≡ true → new ≡ rank → Now ready left old new rank
  not_ready : ready ≡ false → left ≡ true → new ≡ old → Now ready left old new rank
  not_left : left ≡ false → new ≡ old → Now ready left old new rank

now_of : (ready left : Bool) (old new rank : ℕ) → new ≡ cond (ready && left) rank old → Now ready left old new rank
now_of true true old new rank e = ranked_now refl refl e
now_of true false old new rank e = not_left refl e
now_of false true old new rank e = not_ready refl refl e
now_of false false old new rank e = not_left refl e

split_length : (p : ℕ → Bool) (ns : List ℕ) → length (filter p ns) + length (filter (λ n. not (p n)) ns) ≡ length ns
split_length p [] = refl
split_length p (n ∷ ns) = by (p n) (split_length p ns)
  where
    by : (b : Bool) → length (filter p ns) + length (filter (λ m. not (p m)) ns) ≡ length ns
        → length (cond b (n ∷ filter p ns) (filter p ns)) + length (cond (not b) (n ∷ filter (λ m. not (p m)) ns) (filter (λ m. not (p m)) ns)) ≡ suc (length ns)
    by true h = omega arith
    by false h = omega arith

module _ (models : List Reader) (links : List (List ℕ)) (inside : AreWithin links) where
  abbrev n : ℕ
  n = length links

  ready_below : (ranks : List ℕ) (rank at p : ℕ) → is_ready links ranks rank at ≡ true → leads links at p ≡ true → slice_index ranks p < rank
  ready_below ranks rank at p r l = ltb-true _ _ (all_has (λ q. nat_lt (slice_index ranks q) rank) (slice_index_or links at []) p r l)

  unready_above : (ranks : List ℕ) (rank at : ℕ) → is_ready links ranks rank at ≡ false → (p : ℕ) × (leads links at p ≡ true) × (rank ≤ slice_index ranks p)
  unready_above ranks rank at r =
      let found = not_all_has (λ q. nat_lt (slice_index ranks q) rank) (slice_index_or links at []) r in
      let test : nat_lt (slice_index ranks found.0) rank ≡ false = found.2 in
      (found.0, found.1, grind (arith, nat_tests, test))

  module _ (ranks : List ℕ) (order : List Ranked) (rest : List ℕ) (rank : ℕ) (was : IsPeeled models links ranks order rest rank) where
    abbrev ready : List ℕ
    ready = filter (is_ready links ranks rank) rest

    abbrev later : List ℕ
    later = filter (λ at. not (is_ready links ranks rank at)) rest

    abbrev old : ℕ → ℕ
    old at = slice_index ranks at

    abbrev new : ℕ → ℕ
    new at = slice_index (ranks_with ranks ready rank) at

    now : (at : ℕ) → at < n → Now (is_ready links ranks rank at) (has rest at) (old at) (new at) rank
    now at l =
        now_of (is_ready links ranks rank at) (has rest at) (old at) (new at) rank
        (ranks_with-at ranks ready rank at (omega (arith, was.as_many)) ∙ ap (λ b. cond b rank (old at)) (has_filter (is_ready links ranks rank) rest at))

    -- a rank that was found stays
    stays : (at : ℕ) → at < n → old at < n → new at ≡ old at
    stays at l r = elim (now at l) [
      | ranked_now a b e ↦ absurd (let u = was.unranked at b in omega (arith, u.1))
      | not_ready a b e ↦ e
      | not_left b e ↦ e
    ]

    -- and none falls below this one
    rises : (at m : ℕ) → at < n → m ≤ rank → m ≤ old at → m ≤ new at
    rises at m l r h = elim (now at l) [
      | ranked_now a b e ↦ omega (arith, e)
      | not_ready a b e ↦ omega (arith, e)
      | not_left b e ↦ omega (arith, e)
    ]

    later_is : (at : ℕ) → has later at ≡ (not (is_ready links ranks rank at) && has rest at)
    later_is at = has_filter (λ q. not (is_ready links ranks rank q)) rest at

    lefts : (a b : Bool) → a ≡ false → b ≡ true → (not a && b) ≡ true
    lefts true b e f = cc
    lefts false b e f = f

    was_left : (a b : Bool) → (not a && b) ≡ true → (a ≡ false) × (b ≡ true)
    was_left true b e = cc
    was_left false b e = (refl, e)

    -- below the limit while something is left
    module _ (room : rank < n) where
      bounded' : (at : ℕ) → at < n → rank + 1 ≤ new at → new at ≡ n
      bounded' at l h = elim (now at l) [
        | ranked_now a b e ↦ absurd (omega (arith, e))
        | not_ready a b e ↦ e ∙ (was.unranked at b).1
        | not_left b e ↦ e ∙ was.bounded at l (omega (arith, e))
      ]

      left' : (at : ℕ) → at < n → new at ≡ n → has later at ≡ true
      left' at l h = elim (now at l) [
        | ranked_now a b e ↦ absurd (omega (arith, e))
        | not_ready a b e ↦ later_is at ∙ lefts _ _ a b
        | not_left b e ↦ absurd (let c : has rest at ≡ true = was.left at l (sym e ∙ h) in cc)
      ]

      unranked' : (at : ℕ) → has later at ≡ true → (at < n) × (new at ≡ n)
      unranked' at h =
          let parts = was_left (is_ready links ranks rank at) (has rest at) (sym (later_is at) ∙ h) in
          let u = was.unranked at parts.1 in (
            u.0,
            elim (now at u.0) [
              | ranked_now a b e ↦ absurd (let f = parts.0 in cc)
              | not_ready a b e ↦ e ∙ u.1
              | not_left b e ↦ e ∙ u.1
            ],
          )

      above' : (at p : ℕ) → at < n → new at < n → leads links at p ≡ true → new p < new at
      above' at p l r leads_there = elim (now at l) [
        | ranked_now a b e ↦
            let below = ready_below ranks rank at p a leads_there in
            let same = stays p (inside at p leads_there) (omega arith) in
            omega (arith, e, same, below)
        | not_ready a b e ↦ absurd (let u = was.unranked at b in omega (arith, u.1, e))
        | not_left b e ↦
            let below = was.above at p l (omega (arith, e)) leads_there in
            let same = stays p (inside at p leads_there) (omega (arith, e)) in
            omega (arith, e, same, below)
      ]

      risen : (m at : ℕ) → m ≤ rank + 1 → ((q : ℕ) × (leads links at q ≡ true) × (m ≤ suc (old q))) → (q : ℕ) × (leads links at q ≡ true) × (m ≤ suc (new q))
      risen m at r (q, leads_there, h) = (
        q,
        leads_there,
        elim (now q (inside at q leads_there)) [
          | ranked_now a b e ↦ omega (arith, e)
          | not_ready a b e ↦ omega (arith, e)
          | not_left b e ↦ omega (arith, e)
        ],
      )

      reached_with : (at m k : ℕ) → m ≡ k → k ≤ rank + 1 → IsReached links ranks k at → IsReached links (ranks_with ranks ready rank) m at
      reached_with at m k same r (inl e) = inl (same ∙ e)
      reached_with at m k same r (inr h) =
          let more = risen k at r h in
          inr (more.0, more.1, omega (arith, more.2, same))

      reached' : (at : ℕ) → at < n → IsReached links (ranks_with ranks ready rank) (min (new at) (rank + 1)) at
      reached' at l = elim (now at l) [
        | ranked_now a b e ↦
            let u = was.unranked at b in
            reached_with at (min (new at) (rank + 1)) (min (old at) rank) (omega (arith, e, u.1)) (omega arith) (was.reached at l)
        | not_ready a b e ↦
            let u = was.unranked at b in
            let over = unready_above ranks rank at a in
            let more = risen (rank + 1) at (omega arith) (over.0, over.1, omega (arith, over.2)) in
            inr (more.0, more.1, omega (arith, more.2))
        | not_left b e ↦
            let low : old at < rank = low_of b in
            reached_with at (min (new at) (rank + 1)) (min (old at) rank) (omega (arith, e, low)) (omega arith) (was.reached at l)
      ]
        where
          low_of : has rest at ≡ false → old at < rank
          low_of b = elim (cases_lt (old at) rank) [
            | inl h ↦ h
            | inr h ↦ absurd (let c : has rest at ≡ true = was.left at l (was.bounded at l h) in cc)
          ]

      places_of_ranked : (ns : List ℕ) → map place (map (at_rank rank) ns) ≡ ns
      places_of_ranked [] = refl
      places_of_ranked (m ∷ ns) = ap (λ l. m ∷ l) (places_of_ranked ns)

      -- what is ready, number by number
      ready_is : (at : ℕ) → has ready at ≡ true → (at < n) × (new at ≡ rank)
      ready_is at h =
          let parts = and_both (is_ready links ranks rank at) (has rest at) (sym (has_filter (is_ready links ranks rank) rest at) ∙ h) in
          let u = was.unranked at parts.1 in (
            u.0,
            elim (now at u.0) [
              | ranked_now a b e ↦ e
              | not_ready a b e ↦ absurd (let f = parts.0 in cc)
              | not_left b e ↦ absurd (let f = parts.1 in cc)
            ],
          )

      each_ready : (P : ℕ → Type 0) → ((at : ℕ) → has ready at ≡ true → P at) → All P ready
      each_ready P f = All-from_get_or P ready 0 (λ i l. f (slice_index ready i) (has_at ready i l))

      added : List Ranked
      added = map (at_rank rank) ready

      each_added : (P : Ranked → Type 0) → ((at : ℕ) → has ready at ≡ true → P (at_rank rank at)) → All P (map (at_rank rank) ready)
      each_added P f = All-map P (at_rank rank) ready (each_ready (λ at. P (at_rank rank at)) f)

      each_old : (P : Ranked → Type 0) → ((r : Ranked) → r.at < n → r.rank ≡ old r.at → r.rank < rank → P r) → All P order
      each_old P f =
          All-from_get_or P order (at_rank 0 0)
          (λ i l.
          let w = All-get_or (λ (r : Ranked). r.at < n) order i (at_rank 0 0) l was.within in
          let k = All-get_or (λ (r : Ranked). (r.rank ≡ old r.at) × (r.rank < rank)) order i (at_rank 0 0) l was.ranked in
          f (get_or order i (at_rank 0 0)) w k.0 k.1)

      ordered' : AllPairs (ComesBefore models) (order ++ map (at_rank rank) ready)
      ordered' =
          let names : AllPairs (IsBelow models) ready = AllPairs-filter (IsBelow models) (is_ready links ranks rank) rest was.by_name in
          pairs_append (ComesBefore models) order (map (at_rank rank) ready) was.ordered
          (pairs_map (ComesBefore models) (at_rank rank) ready (λ i j d l m. inr (refl, names i j d l m)))
          (each_old (λ r. All (ComesBefore models r) (map (at_rank rank) ready)) (λ r w k low. each_added (ComesBefore models r) (λ at h. inl low)))

      within' : All (λ (r : Ranked). r.at < n) (order ++ map (at_rank rank) ready)
      within' = All-append (λ (r : Ranked). r.at < n) order (map (at_rank rank) ready) was.within (each_added (λ r. r.at < n) (λ at h. (ready_is at h).0))

      abbrev HasIt : Ranked → Type 0
      HasIt r = (r.rank ≡ new r.at) × (r.rank < rank + 1)

      ranked' : All HasIt (order ++ map (at_rank rank) ready)
      ranked' =
          All-append HasIt order (map (at_rank rank) ready)
          (each_old HasIt (λ r w k low. (k ∙ sym (stays r.at w (omega arith)), omega arith)))
          (each_added HasIt (λ at h. (sym (ready_is at h).1, omega arith)))

      all_places : map place (order ++ map (at_rank rank) ready) ≡ map place order ++ ready
      all_places = map-append place order (map (at_rank rank) ready) ∙ ap (λ l. map place order ++ l) (places_of_ranked ready)

      all' : (at : ℕ) → at < n → new at < n → has (map place (order ++ map (at_rank rank) ready)) at ≡ true
      all' at l r =
          ap (λ ns. has ns at) all_places ∙ has_append (map place order) ready at
          ∙ elim (now at l) [
            | ranked_now a b e ↦ or_right (has (map place order) at) (has ready at) (has_filter (is_ready links ranks rank) rest at ∙ and_from _ _ a b)
            | not_ready a b e ↦ absurd (let u = was.unranked at b in omega (arith, u.1, e))
            | not_left b e ↦ or_left (has (map place order) at) (has ready at) (was.all at l (omega (arith, e)))
          ]

      peeled_room : 0 < length ready → IsPeeled models links (ranks_with ranks ready rank) (order ++ map (at_rank rank) ready) later (rank + 1)
      peeled_room some = record {
        as_many = length-ranks_with ranks ready rank ∙ was.as_many;
        bounded = bounded';
        left = left';
        unranked = unranked';
        above = above';
        reached = reached';
        ordered = ordered';
        within = within';
        ranked = ranked';
        all = all';
        by_name = AllPairs-filter (IsBelow models) (λ at. not (is_ready links ranks rank at)) rest was.by_name;
        few = let s = split_length (is_ready links ranks rank) rest in let f = was.few in omega arith;
      }

    pub peeled_more : 0 < length ready → IsPeeled models links (ranks_with ranks ready rank) (order ++ map (at_rank rank) ready) later (rank + 1)
    peeled_more some =
        let s = split_length (is_ready links ranks rank) rest in
        let f = was.few in
        peeled_room (omega arith) some

    pub stuck_here : length ready ≡ 0 → AreStuck links rest
    stuck_here none at h =
        let u = was.unranked at h in
        let over = unready_above ranks rank at (unready (is_ready links ranks rank at) refl) in
        let inside_it = inside at over.0 over.1 in
        (over.0, over.1, was.left over.0 inside_it (was.bounded over.0 inside_it over.2))
      where
        unready : (b : Bool) → b ≡ is_ready links ranks rank at → is_ready links ranks rank at ≡ false
        unready false e = sym e
        unready true e =
            let p = place_of ready at (has_filter (is_ready links ranks rank) rest at ∙ and_from _ _ (sym e) h) in
            absurd (omega (arith, p.1))

  pub peeled_none : (places : List ℕ) → ((at : ℕ) → at < n → has places at ≡ true) → ((at : ℕ) → has places at ≡ true → at < n) → AllPairs (IsBelow models) places → length places ≤ n
      → IsPeeled models links (replicate n n) [] places 0
  peeled_none places all within names few = record {
    as_many = length-replicate n n;
    bounded = λ at l h. get_or-replicate n at n 0 l;
    left = λ at l h. all at l;
    unranked = λ at h. (within at h, get_or-replicate n at n 0 (within at h));
    above = λ at p l r h. absurd (let e = get_or-replicate n at n 0 l in omega arith);
    reached = λ at l. inl (omega arith);
    ordered = λ i j d l m. absurd (omega arith);
    within = All-nil (λ (r : Ranked). r.at < n);
    ranked = All-nil (λ (r : Ranked). (r.rank ≡ slice_index (replicate n n) r.at) × (r.rank < 0));
    all = λ at l r. absurd (let e = get_or-replicate n at n 0 l in omega arith);
    by_name = names;
    few = omega arith;
  }

pub inside_links : (models : List Reader) (links : List (List ℕ)) → AreLinks models links → AreWithin links
inside_links models links l at other h =
    let named = and_both (nat_lt other (length models)) (is_named (reader_at models at).reads (name_at models other)) (sym (l.same at other) ∙ h) in
    let below = ltb-true other (length models) named.0 in
    let many = l.as_many in
    omega arith

module _ (models : List Reader) (links : List (List ℕ)) (l : AreLinks models links) where
  abbrev Holds : Peeled → ℕ → Type 0
  Holds p rank = IsPeeled models links p.ranks.items p.order p.rest rank

  pub starts : (places : List ℕ) (p : Peeled) → AreByName models places → IsUnpeeled (length models) places p → Holds p 0
  starts places p names none =
      rw (none.ranks, none.order, none.rest, ← l.as_many)
      (peeled_none models links (inside_links models links l) places
      (λ at h. names.all at (let m = l.as_many in omega arith))
      (λ at h. let k = place_of places at h in
      let w = All-get_or (λ a. a < length models) places k.0 0 k.1 names.within in
      let m = l.as_many in let e : slice_index places k.0 ≡ at = k.2 in omega arith)
      names.ascending
      (let m = l.as_many in let f = names.few in omega arith))

  told : (b c : Bool) (p q : Peeled) (rank : ℕ) → b ≡ c → IsRound links rank b p q → IsRound links rank c p q
  told b c p q rank e r = subst (λ (x : Bool). IsRound links rank x p q) e r

  pub goes_on : (p q : Peeled) (rank : ℕ) (more : Bool) → more ≡ true → Holds p rank → IsRound links rank more p q → Holds q (rank + 1)
  goes_on p q rank more is h found =
      let r : IsRound links rank true p q = told more true p q rank is found in
      rw (r.ranks, r.order, r.rest) (peeled_more models links (inside_links models links l) p.ranks.items p.order p.rest rank h r.some)

  pub shrinks : (p q : Peeled) (rank : ℕ) (more : Bool) → more ≡ true → IsRound links rank more p q → length q.rest < length p.rest
  shrinks p q rank more is found =
      let r : IsRound links rank true p q = told more true p q rank is found in
      let s = split_length (is_ready links p.ranks.items rank) p.rest in
      let e = ap length r.rest in
      let some = r.some in
      omega arith

  pub ends_stuck : (p q : Peeled) (rank : ℕ) (more : Bool) → more ≡ false → Holds p rank → IsRound links rank more p q → IsDone models links q
  ends_stuck p q rank more is h found =
      let r : IsRound links rank false p q = told more false p q rank is found in
      record {
        rank = rank;
        peeled = rw (r.ranks, r.order, r.rest) h;
        stuck = rw (r.rest) (stuck_here models links (inside_links models links l) p.ranks.items p.order p.rest rank h r.none);
      }

  pub ends_empty : (p : Peeled) (rank : ℕ) → Holds p rank → p.rest ≡ [] → IsDone models links p
  ends_empty p rank h none = record {
    rank = rank;
    peeled = h;
    stuck = λ at left. absurd (let e : has [] at ≡ true = subst (λ (r : List ℕ). has r at ≡ true) none left in cc);
  }
