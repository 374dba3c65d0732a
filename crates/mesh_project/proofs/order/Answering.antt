-- From ranks and what is left to an order or a cycle.
use Rattle.std.proofs.Common.{◌≡◌, ℕ, suc, ◌+◌, ◌<◌, ◌≤◌, min, Bool, true, cond, zero-add, eqb, List, [], ◌∷◌, ◌++◌, length, get_or, map, refl, ap, sym, ◌∙◌, subst, inl, inr, ◌⊎◌, arith}
use Rattle.std.specs.Prelude.{slice_index, All, AllPairs, Contains}
use Rattle.std.specs.List.{range_with_len}
use Rattle.std.specs.declared.cmp.Ordering.{Ordering}
use Rattle.std.specs.declared.cmp.Ordering.TheVariants.{Less, Equal, Greater}
use Rattle.std.specs.Ordering.{is_lt, nat_cmp, ordering_then}
use Rattle.std.proofs.lemmas.Bool.{cases_lt, eq-eqb, eqb-true, lt-ltb, or_cases, or_left, or_right, and_from}
use Rattle.std.proofs.lemmas.Cmp.{nat_cmp_total, tied_itself}
use Rattle.std.proofs.lemmas.List.FromFn.{get_or-range_with_len, length-range_with_len}
use Rattle.std.proofs.lemmas.List.Elements.{All-contains, All-from_get_or, All-get_or, All-push, All-weaker, Contains-append_left, Contains-push}
use Rattle.std.proofs.lemmas.List.Quantifiers.{all_pairs_push}
use Rattle.mesh_list.specs.Keyed.{ascends}
use Rattle.mesh_base_values.specs.declared.values.Name.{Name}
use Rattle.mesh_base_values.specs.Names.{name_cmp}
use Rattle.mesh_base_values.proofs.Tests.{both_parts as and_both}
use Rattle.mesh_project.specs.declared.order.readers.Reader.{Reader}
use Rattle.mesh_project.specs.declared.order.readers.Ranked.{Ranked}
use Rattle.mesh_project.specs.declared.order.peel.Peeled.{Peeled}
use Rattle.mesh_project.specs.order.Order.{AreCyclic, IsCyclic, IsOrder, Reaches, above, itself, name_at, parents, place, ranked_cmp, reads}
use Rattle.mesh_project.specs.order.Order.Reaches.{at_once, through}
use Rattle.mesh_project.specs.order.Links.{AreLinks, IsBelow, has, leads}
use Rattle.mesh_project.specs.order.Peeled.{AreStuck, ComesBefore, IsDone, IsPeeled, IsReached}
use Rattle.mesh_project.specs.order.Seen.{AreNamed, IsNext}
use Rattle.mesh_project.proofs.order.Numbers.{contains_of, has_at, has_filter, place_of}
use Rattle.mesh_project.proofs.order.Peeling.{inside_links}
use Rattle.mesh_project.proofs.order.Walking.{some_reach}

-- names, one place more
module _ (models : List Reader) (links : List (List ℕ)) (places : List ℕ) (by_name : AllPairs (IsBelow models) places) where
  abbrev Goes : ℕ → Type 0
  Goes at = Reaches (leads links) at at

  abbrev IsOne : ℕ → Name → Type 0
  IsOne count name = (k : ℕ) × (k < count) × (name ≡ name_at models (slice_index places k)) × Goes (slice_index places k)

  later_one : (count : ℕ) (name : Name) → IsOne count name → IsOne (count + 1) name
  later_one count name (k, l, is, g) = (k, omega arith, is, g)

  pub named_none : AreNamed models links places 0 []
  named_none = record {
    only = All-from_get_or (IsOne 0) [] (record { schema = []; model = [] }) (λ i l. absurd (omega arith));
    all = λ k l g. absurd (omega arith);
    ascending = λ i j d l m. absurd (omega arith);
  }

  pub named_more : (count at : ℕ) (names after : List Name) → count < length places → at ≡ slice_index places count → AreNamed models links places count names → IsNext models links at names after
      → AreNamed models links places (count + 1) after
  named_more count at names after l here was (inl (goes, is)) =
      let this : IsOne (count + 1) (name_at models at) = (count, omega arith, ap (name_at models) here, subst Goes here goes) in
      rw is (record {
        only = All-push (IsOne (count + 1)) names (name_at models at) (All-weaker (IsOne count) (IsOne (count + 1)) (later_one count) names was.only) this;
        all = λ k m g. elim (cases_lt k count) [
          | inl below ↦ Contains-append_left names (name_at models at ∷ []) (name_at models (slice_index places k)) (was.all k below g)
          | inr over ↦
              let same : k ≡ count = omega arith in
              subst (Contains (names ++ name_at models at ∷ [])) (ap (name_at models) (here ∙ ap (slice_index places) (sym same))) (Contains-push names (name_at models at))
        ];
        ascending = all_pairs_push (λ a b. name_cmp a b ≡ Less) names (name_at models at) was.ascending
            (λ k d m. below (get_or names k d) (All-get_or (IsOne count) names k d m was.only));
      })
    where
      below : (name : Name) → IsOne count name → name_cmp name (name_at models at) ≡ Less
      below name (k, m, named, g) = rw (named, here) (by_name k count 0 m l)
  named_more count at names after l here was (inr (goes, is)) =
      rw is (record {
        only = All-weaker (IsOne count) (IsOne (count + 1)) (later_one count) names was.only;
        all = λ k m g. elim (cases_lt k count) [
          | inl below ↦ was.all k below g
          | inr over ↦ absurd (goes (subst Goes (let same : k ≡ count = omega arith in ap (slice_index places) same ∙ sym here) g))
        ];
        ascending = was.ascending;
      })

-- ascending lists
pub ascends_pairs : {A : Type 0} (R : A → A → Ordering) (xs : List A) → AllPairs (λ a b. R a b ≡ Less) xs → ascends R itself xs ≡ true
ascends_pairs R [] p = refl
ascends_pairs R (x ∷ []) p = refl
ascends_pairs R (x ∷ y ∷ ys) p =
    and_from _ _ (ap is_lt (p 0 1 x (omega arith) (omega arith)))
    (ascends_pairs R (y ∷ ys) (λ i j d l m. p (suc i) (suc j) d (omega arith) (omega arith)))

cmp_less : (a b : ℕ) → a < b → nat_cmp a b ≡ Less
cmp_less a b l = ap (λ t. cond t Less (cond (eqb a b) Equal Greater)) (lt-ltb a b l)

cmp_equal : (a b : ℕ) → a ≡ b → nat_cmp a b ≡ Equal
cmp_equal a b e = ap (nat_cmp a) (sym e) ∙ tied_itself nat_cmp_total a

comes_less : (models : List Reader) (a b : Ranked) → ComesBefore models a b → ranked_cmp models a b ≡ Less
comes_less models a b (inl l) = ap (λ o. ordering_then o (name_cmp (name_at models a.at) (name_at models b.at))) (cmp_less a.rank b.rank l)
comes_less models a b (inr (e, below)) = ap (λ o. ordering_then o (name_cmp (name_at models a.at) (name_at models b.at))) (cmp_equal a.rank b.rank e) ∙ below

-- the greatest, by what stands in a list
above_le : (f : ℕ → ℕ) (ps : List ℕ) (r : ℕ) → ((p : ℕ) → has ps p ≡ true → f p < r) → above (map f ps) ≤ r
above_le f [] r h = omega arith
above_le f (q ∷ ps) r h =
    let first = h q (or_left (eqb q q) (has ps q) (eq-eqb q q refl)) in
    let more = above_le f ps r (λ p e. h p (or_right (eqb p q) (has ps p) e)) in
    omega arith

pub above_ge : (f : ℕ → ℕ) (ps : List ℕ) (p : ℕ) → has ps p ≡ true → suc (f p) ≤ above (map f ps)
above_ge f [] p h = absurd cc
above_ge f (q ∷ ps) p h = elim (or_cases (eqb p q) (has ps p) h) [
  | inl e ↦ (let same : f p ≡ f q = ap f (eqb-true p q e) in omega arith)
  | inr e ↦ (let more = above_ge f ps p e in omega arith)
]

pub above_is : (f : ℕ → ℕ) (ps : List ℕ) (r : ℕ) → ((p : ℕ) → has ps p ≡ true → f p < r) → (r ≡ 0) ⊎ ((p : ℕ) × (has ps p ≡ true) × (r ≤ suc (f p))) → r ≡ above (map f ps)
above_is f ps r h (inl none) = let most = above_le f ps r h in omega arith
above_is f ps r h (inr (p, there, least)) =
    let most = above_le f ps r h in
    let more = above_ge f ps p there in
    omega arith

module _ (models : List Reader) (links : List (List ℕ)) (l : AreLinks models links) where
  abbrev n : ℕ
  n = length links

  abbrev To : ℕ → ℕ → Type 0
  To to at = Reaches (leads links) to at

  same_reads : leads links ≡ reads models
  same_reads = λ i. λ at other. l.same at other i

  parent_led : (at p : ℕ) → has (parents models at) p ≡ true → leads links at p ≡ true
  parent_led at p h = l.same at p ∙ (and_both (reads models at p) (has (range_with_len 0 (length models)) p) (sym (has_filter (reads models at) (range_with_len 0 (length models)) p) ∙ h)).0

  led_parent : (at p : ℕ) → leads links at p ≡ true → has (parents models at) p ≡ true
  led_parent at p h =
      let i = inside_links models links l at p h in
      let many = l.as_many in
      let below : p < length models = omega arith in
      let standing : slice_index (range_with_len 0 (length models)) p ≡ p = get_or-range_with_len 0 (length models) p 0 below ∙ zero-add p in
      let ranged : has (range_with_len 0 (length models)) p ≡ true =
      subst (λ (q : ℕ). has (range_with_len 0 (length models)) q ≡ true) standing (has_at (range_with_len 0 (length models)) p (omega (arith, length-range_with_len 0 (length models)))) in
      has_filter (reads models at) (range_with_len 0 (length models)) p ∙ and_from _ _ (sym (l.same at p) ∙ h) ranged

  module _ (ranks : List ℕ) (order : List Ranked) (rest : List ℕ) (rank : ℕ) (p : IsPeeled models links ranks order rest rank) where
    pub falls : (to at : ℕ) → at < n → slice_index ranks at < n → To to at → slice_index ranks to < slice_index ranks at
    falls to at m r (at_once a h) = p.above a to m r h
    falls to at m r (through a next h more) =
        let d = p.above a next m r h in
        let e = falls to next (inside_links models links l a next h) (omega arith) more in
        omega arith

    left_all : (at : ℕ) → at < n → To at at → has rest at ≡ true
    left_all at m goes = elim (cases_lt (slice_index ranks at) n) [
      | inl r ↦ absurd (let f = falls at at m r goes in omega arith)
      | inr over ↦ p.left at m (p.bounded at m (let few = p.few in omega arith))
    ]

    pub ordered_of : rest ≡ [] → IsOrder models order
    ordered_of none = record {
      within = All-weaker (λ (r : Ranked). r.at < n) (λ (r : Ranked). r.at < length models) (λ r w. let many = l.as_many in omega arith) order p.within;
      all = λ at m. contains_of (map place order) at (p.all at (many at m) (found at (many at m)));
      ranks = (slice_index ranks, λ at m. rank_is at (many at m), All-weaker (λ (r : Ranked). (r.rank ≡ slice_index ranks r.at) × (r.rank < rank)) (λ (r : Ranked). r.rank ≡ slice_index ranks r.at) (λ r h. h.0) order p.ranked);
      ascending = ascends_pairs (ranked_cmp models) order (λ i j d a b. comes_less models _ _ (p.ordered i j d a b));
    }
      where
        many : (at : ℕ) → at < length models → at < n
        many at m = let e = l.as_many in omega arith

        found : (at : ℕ) → at < n → slice_index ranks at < n
        found at m = elim (cases_lt (slice_index ranks at) rank) [
          | inl low ↦ (let few = p.few in omega arith)
          | inr over ↦ absurd (let h : has [] at ≡ true = subst (λ (xs : List ℕ). has xs at ≡ true) none (p.left at m (p.bounded at m over)) in cc)
        ]

        low : (at : ℕ) → at < n → slice_index ranks at < rank
        low at m = elim (cases_lt (slice_index ranks at) rank) [
          | inl b ↦ b
          | inr over ↦ absurd (let f = found at m in let e = p.bounded at m over in omega arith)
        ]

        least : (at : ℕ) → (m k : ℕ) → k ≡ m → IsReached links ranks k at → (m ≡ 0) ⊎ ((q : ℕ) × (has (parents models at) q ≡ true) × (m ≤ suc (slice_index ranks q)))
        least at m k e (inl z) = inl (sym e ∙ z)
        least at m k e (inr (q, led, s)) = inr (q, led_parent at q led, omega arith)

        rank_is : (at : ℕ) → at < n → slice_index ranks at ≡ above (map (slice_index ranks) (parents models at))
        rank_is at m =
            above_is (slice_index ranks) (parents models at) (slice_index ranks at)
            (λ q h. p.above at q m (found at m) (parent_led at q h))
            (least at (slice_index ranks at) (min (slice_index ranks at) rank) (let b = low at m in omega arith) (p.reached at m))

    -- what is left reaches itself or not
    pub cyclic_of : 0 < length rest → AreStuck links rest → (names : List Name) → AreNamed models links rest (length rest) names → AreCyclic models names
    cyclic_of some stuck names named = record {
      some = (let z = some_reach links rest stuck n (λ at h. (p.unranked at h).0) (slice_index rest 0) (has_at rest 0 some) in
          let c = stands z.0 z.1 z.2 in
          let b = c.1 in
          omega arith);
      exactly = λ name. (from name, back name);
      ascending = ascends_pairs name_cmp names named.ascending;
    }
      where
        stands : (at : ℕ) → has rest at ≡ true → To at at → Contains names (name_at models at)
        stands at h goes =
            let k = place_of rest at h in
            subst (λ (q : ℕ). Contains names (name_at models q)) k.2 (named.all k.0 k.1 (subst (λ (q : ℕ). To q q) (sym k.2) goes))

        from : (name : Name) → Contains names name → IsCyclic models name
        from name c =
            let one = All-contains (λ (x : Name). (k : ℕ) × (k < length rest) × (x ≡ name_at models (slice_index rest k)) × To (slice_index rest k) (slice_index rest k)) names name named.only c in
            let at = slice_index rest one.0 in
            let u = p.unranked at (has_at rest one.0 one.1) in
            (at, (let many = l.as_many in let b = u.0 in omega arith), sym one.2, subst (λ (r : ℕ → ℕ → Bool). Reaches r at at) same_reads one.3)

        back : (name : Name) → IsCyclic models name → Contains names name
        back name (at, m, is, goes) =
            let led : To at at = subst (λ (r : ℕ → ℕ → Bool). Reaches r at at) (sym same_reads) goes in
            subst (Contains names) is (stands at (left_all at (let many = l.as_many in omega arith) led) led)

module _ (models : List Reader) (links : List (List ℕ)) (l : AreLinks models links) (made : Peeled) (done : IsDone models links made) where
  pub done_in_order : made.rest ≡ [] → IsOrder models made.order
  done_in_order none = ordered_of models links l made.ranks.items made.order made.rest done.rank done.peeled none

  pub rest_inside : All (λ at. at < length models) made.rest
  rest_inside = All-from_get_or (λ at. at < length models) made.rest 0 (λ i m. let u = done.peeled.unranked (slice_index made.rest i) (has_at made.rest i m) in let b = u.0 in let many = l.as_many in omega arith)

  pub done_in_cycle : (made.rest ≡ [] → ⊥) → (names : List Name) → AreNamed models links made.rest (length made.rest) names → AreCyclic models names
  done_in_cycle some names named = cyclic_of models links l made.ranks.items made.order made.rest done.rank done.peeled (longer made.rest some) done.stuck names named
    where
      longer : (xs : List ℕ) → (xs ≡ [] → ⊥) → 0 < length xs
      longer [] f = absurd (f refl)
      longer (x ∷ xs) f = omega arith
