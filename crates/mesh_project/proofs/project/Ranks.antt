-- What a model reads stands before it, and its rank is above that of each of its parents.
use Rattle.std.proofs.Common.{◌≡◌, ◌⊎◌, inl, inr, ℕ, ◌+◌, ◌<◌, ◌≤◌, max, Bool, true, false, ◌||◌, List, [], ◌∷◌, ◌++◌, map, length, Option, None, Some, refl, sym, ap, ◌∙◌, subst, arith}
use Rattle.std.proofs.Math.Nat.{le-max_left, le-max_right, max-le}
use Rattle.std.proofs.lemmas.Bool.{ltb-true, lt-ltb, and_from as and_both}
use Rattle.std.proofs.lemmas.Cmp.{nat_cmp_total, on_total, then_total, tied_itself}
use Rattle.std.specs.List.{AllByRecursion, AllZip, range_with_len, slice_get}
use Rattle.std.proofs.lemmas.List.Elements.{recursion_from_All}
use Rattle.std.specs.Option.{is_some}
use Rattle.std.specs.Cmp.{IsTotalOrder, nat_cmp_is}
use Rattle.std.specs.Ordering.{is_eq, nat_cmp, ordering_then}
use Rattle.std.specs.declared.cmp.Ordering.{Ordering}
use Rattle.std.specs.declared.cmp.Ordering.TheVariants.{Less, Equal, Greater}
use Rattle.mesh_list.specs.Keyed.{ascends}
use Rattle.mesh_list.proofs.Ascends.{and_left, and_right}
use Rattle.mesh_base_values.specs.NameOrder.{names_total}
use Rattle.mesh_base_values.specs.Names.{name_cmp}
use Rattle.mesh_base_values.specs.declared.values.Name.{Name}
use Rattle.mesh_base.specs.declared.snapshots.Node.{Node}
use Rattle.mesh_base.specs.declared.rules.relations.Parent.{Parent}
use Rattle.mesh_base.specs.rules.Proper.{as_parent, is_among, parent_at, parents_at}
use Rattle.mesh_base.specs.rules.Relations.{rank_over}
use Rattle.mesh_project.specs.declared.order.readers.Ranked.{Ranked}
use Rattle.mesh_project.specs.declared.order.readers.Reader.{Reader}
use Rattle.mesh_project.specs.order.Order.{AreApart, IsOrder, above, itself, name_at, parents, place, ranked_cmp, reader_at, reads}
use Rattle.mesh_project.specs.declared.nodes.earlier.Place.{Place}
use Rattle.mesh_project.specs.nodes.Earlier.{named, place_at, place_name, place_of}
use Rattle.mesh_project.proofs.project.In.{In, all_below, all_of, fits_left, fits_right, in_contained, in_either, in_filter, in_found, in_got, in_left, in_map, in_range, in_right, of_all, of_filter, of_map}
use Rattle.mesh_project.proofs.nodes.Among.{IsAt, at_place_of, Stands, named_found, named_stand, names_of, place_is_there}

-- one more than the greatest
pub least_above : (ns : List ℕ) (most : ℕ) → AllByRecursion (λ n. n + 1 ≤ most) ns → above ns ≤ most
least_above [] most all = omega arith
least_above (n ∷ ns) most all = max-le all.0 (least_above ns most all.1)

pub above_each : (ns : List ℕ) (n : ℕ) → In n ns → n + 1 ≤ above ns
above_each [] n is = absurd is
above_each (m ∷ ns) n (inl e) = subst (λ k. k + 1 ≤ above (m ∷ ns)) e (le-max_left (m + 1) (above ns))
above_each (m ∷ ns) n (inr is) = let h = above_each ns n is in let more = le-max_right (m + 1) (above ns) in omega (arith, h, more)

pub least_over : (ps : List Parent) (from most : ℕ) → from ≤ most → AllByRecursion (λ (p : Parent). p.rank + 1 ≤ most) ps → rank_over from ps ≤ most
least_over [] from most le all = le
least_over (p ∷ ps) from most le all = least_over ps (max from (p.rank + 1)) most (max-le le all.0) all.1

over_from : (ps : List Parent) (from : ℕ) → from ≤ rank_over from ps
over_from [] from = omega arith
over_from (p ∷ ps) from = let h = over_from ps (max from (p.rank + 1)) in let more = le-max_left from (p.rank + 1) in omega (arith, h, more)

pub over_each : (ps : List Parent) (from : ℕ) (p : Parent) → In p ps → p.rank + 1 ≤ rank_over from ps
over_each [] from p is = absurd is
over_each (q ∷ ps) from p (inl e) =
    subst (λ (x : Parent). x.rank + 1 ≤ rank_over from (q ∷ ps)) e (let h = over_from ps (max from (q.rank + 1)) in let more = le-max_right from (q.rank + 1) in omega (arith, h, more))
over_each (q ∷ ps) from p (inr is) = over_each ps (max from (q.rank + 1)) p is

-- a model's name is among those of the models
is_there : (ns : List Node) (n : Node) → In n ns → is_among (names_of ns) n.own.name ≡ true
is_there [] n is = absurd is
is_there (m ∷ ns) n (inl e) = ap (λ (b : Bool). b || is_among (names_of ns) n.own.name) (ap (λ (x : Node). is_eq (name_cmp x.own.name n.own.name)) e ∙ ap is_eq (tied_itself names_total n.own.name))
is_there (m ∷ ns) n (inr is) = or_true (is_eq (name_cmp m.own.name n.own.name)) (is_among (names_of ns) n.own.name) (is_there ns n is)
  where
    or_true : (a b : Bool) → b ≡ true → (a || b) ≡ true
    or_true true b h = refl
    or_true false b h = h

-- a node is that of a model in the order
abbrev pub Fits : List Reader → Node → Ranked → Type 0
Fits models n r = (n.own.name ≡ name_at models r.at) × (n.rank ≡ r.rank)

-- the parents at the places of models that are named
abbrev pub parents_named : List Node → List Place → List Parent
parents_named nodes places = parents_at nodes (map place_at places)

module _ (nodes : List Node) (names : List Name) where
  -- each is one of the models, and named
  abbrev pub IsOf : Parent → Type 0
  IsOf p = (n : Node) × In n nodes × (as_parent n ≡ p) × (is_among names p.name ≡ true)

  pub each_of : (places : List Place) → AllByRecursion (Stands nodes names) places → AllByRecursion IsOf (parents_named nodes places)
  each_of [] all = tt
  each_of (p ∷ ps) all =
      let at : IsAt nodes p.at p.name = all.0.0 in
      subst (λ o. AllByRecursion IsOf (parent_at o ++ parents_named nodes ps)) (sym at.1)
      ((at.0, in_got nodes p.at at.0 at.1, refl, ap (is_among names) at.2 ∙ all.0.1), each_of ps all.1)

  pub is_of : (places : List Place) (p : Place) (n : Node) → In p places → slice_get nodes p.at ≡ Some n → In (as_parent n) (parents_named nodes places)
  is_of [] p n is at = absurd is
  is_of (q ∷ qs) p n (inl e) at =
      in_left (parent_at (slice_get nodes q.at)) (parents_named nodes qs) (as_parent n)
      (subst (λ o. In (as_parent n) (parent_at o)) (sym (ap (λ (x : Place). slice_get nodes x.at) e ∙ at)) (inl refl))
  is_of (q ∷ qs) p n (inr is) at = in_right (parent_at (slice_get nodes q.at)) (parents_named nodes qs) (as_parent n) (is_of qs p n is at)

-- a rank that is greater comes later
not_before : (a b : ℕ) (o : Ordering) → b < a → ordering_then (nat_cmp a b) o ≡ Less → ⊥
not_before a b o lt e = by_cmp (nat_cmp a b) (nat_cmp_is a b Greater lt) e
  where
    by_cmp : (c : Ordering) → Greater ≡ c → ordering_then c o ≡ Less → ⊥
    by_cmp Greater f e = cc e
    by_cmp Less f e = cc f
    by_cmp Equal f e = cc f

module _ (models : List Reader) (order : List Ranked) (apart : AreApart models) (is : IsOrder models order) where
  pub ranked_total : IsTotalOrder (ranked_cmp models)
  ranked_total = then_total (on_total (λ (r : Ranked). r.rank) nat_cmp_total) (on_total (λ (r : Ranked). name_at models r.at) names_total)

  abbrev pub ranks : ℕ → ℕ
  ranks = is.ranks.0

  pub within : (r : Ranked) → In r order → r.at < length models
  within r h = of_all (λ (r : Ranked). r.at < length models) order r (recursion_from_All (λ (r : Ranked). r.at < length models) order is.within) h

  pub rank_is : (r : Ranked) → In r order → r.rank ≡ ranks r.at
  rank_is r h = of_all (λ (r : Ranked). r.rank ≡ ranks r.at) order r (recursion_from_All (λ (r : Ranked). r.rank ≡ ranks r.at) order is.ranks.2) h

  pub read_is_below : (at j : ℕ) → at < length models → reads models at j ≡ true → ranks j + 1 ≤ ranks at
  read_is_below at j lt reading =
      let there : In j (range_with_len 0 (length models)) = in_range (length models) 0 j (omega arith) (let h : j < length models = ltb-true j (length models) (and_left _ _ reading) in omega (arith, h)) in
      let up = above_each (map ranks (parents models at)) (ranks j) (in_map ranks (parents models at) j (in_filter (reads models at) (range_with_len 0 (length models)) j there reading)) in
      subst (λ k. ranks j + 1 ≤ k) (sym (is.ranks.1 at lt)) up

  module _ (done rest : List Ranked) (r : Ranked) (split : order ≡ done ++ r ∷ rest) where
    here : In r order
    here = subst (In r) (sym split) (in_right done (r ∷ rest) r (inl refl))

    ascending_from : (front back : List Ranked) → ascends (ranked_cmp models) itself (front ++ back) ≡ true → ascends (ranked_cmp models) itself back ≡ true
    ascending_from [] back up = up
    ascending_from (x ∷ xs) back up = ascending_from xs back (and_right _ _ up)

    from_here : ascends (ranked_cmp models) itself (r ∷ rest) ≡ true
    from_here = ascending_from done (r ∷ rest) (subst (λ l. ascends (ranked_cmp models) itself l ≡ true) split is.ascending)

    -- what it reads stands before it
    pub stands_before : (j : ℕ) → reads models r.at j ≡ true → (s : Ranked) × In s done × (s.at ≡ j)
    stands_before j reading =
        let lt : j < length models = ltb-true j (length models) (and_left _ _ reading) in
        let at = of_map place order j (in_contained (map place order) j (is.all j lt)) in
        let s = at.0 in
        let below : ranks j + 1 ≤ ranks r.at = read_is_below r.at j (within r here) reading in
        let less : s.rank < r.rank = let a = rank_is s at.1 in let b = rank_is r here in let c : ranks s.at ≡ ranks j = ap ranks at.2 in omega (arith, below, a, b, c) in
        by_part s (in_either done (r ∷ rest) s (subst (In s) split at.1)) less at.2
      where
        by_part : (s : Ranked) → In s done ⊎ In s (r ∷ rest) → s.rank < r.rank → s.at ≡ j → (s : Ranked) × In s done × (s.at ≡ j)
        by_part s (inl h) less e = (s, h, e)
        by_part s (inr (inl same)) less e = absurd (let eq : r.rank ≡ s.rank = ap (λ (x : Ranked). x.rank) same in omega (arith, eq, less))
        by_part s (inr (inr h)) less e = absurd (not_before r.rank s.rank _ less (all_below (ranked_cmp models) ranked_total itself r rest s (and_left _ _ from_here) (and_right _ _ from_here) h))

    module _ (nodes : List Node) (fit : AllZip (Fits models) nodes done) where
      in_order : (s : Ranked) → In s done → In s order
      in_order s h = subst (In s) (sym split) (in_left done (r ∷ rest) s h)

      abbrev names : List Name
      names = (reader_at models r.at).reads

      abbrev all : List Parent
      all = parents_named nodes (named nodes names)

      abbrev top : ℕ
      top = above (map ranks (parents models r.at))

      named_reads : (s : Ranked) → In s done → is_among names (name_at models s.at) ≡ true → reads models r.at s.at ≡ true
      named_reads s h among = and_both _ _ (lt-ltb s.at (length models) (within s (in_order s h))) among

      each_below : AllByRecursion (λ (p : Parent). p.rank + 1 ≤ ranks r.at) all
      each_below = all_of (λ (p : Parent). p.rank + 1 ≤ ranks r.at) all (λ p h.
          let of = of_all (IsOf nodes names) all p (each_of nodes names (named nodes names) (named_stand nodes names)) h in
          let n : Node = of.0 in
          let s = fits_right (Fits models) nodes done n fit of.1 in
          let name_is : p.name ≡ name_at models s.0.at = ap (λ (x : Parent). x.name) (sym of.2) ∙ s.2.0 in
          let rank_eq : p.rank ≡ ranks s.0.at = ap (λ (x : Parent). x.rank) (sym of.2) ∙ s.2.1 ∙ rank_is s.0 (in_order s.0 s.1) in
          let reading = named_reads s.0 s.1 (ap (is_among names) (sym name_is) ∙ of.3) in
          let below = read_is_below r.at s.0.at (within r here) reading in
          omega (arith, below, rank_eq))

      rank_of_node : (n : Node) (j : ℕ) → In n nodes → j < length models → n.own.name ≡ name_at models j → n.rank ≡ ranks j
      rank_of_node n j h lt e =
          let s = fits_right (Fits models) nodes done n fit h in
          let at : s.0.at ≡ j = apart s.0.at j (within s.0 (in_order s.0 s.1)) lt (sym s.2.0 ∙ e) in
          s.2.1 ∙ rank_is s.0 (in_order s.0 s.1) ∙ ap ranks at

      reached_at : (k j : ℕ) (name : Name) → j < length models → name ≡ name_at models j → is_among names name ≡ true → ranks j ≡ k → (o : Option ℕ) → place_of nodes name ≡ o → is_some o ≡ true → k + 1 ≤ rank_over 0 all
      reached_at k j name lt is among rank None e there = absurd (cc)
      reached_at k j name lt is among rank (Some i) e there =
          let m = at_place_of nodes name i e in
          let found = in_found name_cmp place_name name (named nodes names) (record { name = name; at = i }) (named_found nodes names name i e among) in
          let up = over_each all 0 (as_parent m.0) (is_of nodes names (named nodes names) (record { name = name; at = i }) m.0 found m.1) in
          let same : m.0.rank ≡ ranks j = rank_of_node m.0 j (in_got nodes i m.0 m.1) lt (m.2 ∙ is) in
          omega (arith, up, same, rank)

      each_reached : AllByRecursion (λ k. k + 1 ≤ rank_over 0 all) (map ranks (parents models r.at))
      each_reached = all_of (λ k. k + 1 ≤ rank_over 0 all) (map ranks (parents models r.at)) (λ k h.
          let j = of_map ranks (parents models r.at) k h in
          let reading : reads models r.at j.0 ≡ true = (of_filter (reads models r.at) (range_with_len 0 (length models)) j.0 j.1).1 in
          let lt : j.0 < length models = ltb-true j.0 (length models) (and_left _ _ reading) in
          let s = stands_before j.0 reading in
          let n = fits_left (Fits models) nodes done s.0 fit s.1 in
          let name : n.0.own.name ≡ name_at models j.0 = n.2.0 ∙ ap (name_at models) s.2 in
          let among : is_among names n.0.own.name ≡ true = ap (is_among names) name ∙ and_right _ _ reading in
          let there : is_some (place_of nodes n.0.own.name) ≡ true = place_is_there nodes n.0.own.name ∙ is_there nodes n.0 n.1 in
          reached_at k j.0 n.0.own.name lt name among j.2 (place_of nodes n.0.own.name) refl there)

      -- its rank is the least one above those of its parents
      pub rank_fits : r.rank ≡ rank_over 0 all
      rank_fits =
          let low : rank_over 0 all ≤ ranks r.at = least_over all 0 (ranks r.at) (omega arith) each_below in
          let high : top ≤ rank_over 0 all = least_above (map ranks (parents models r.at)) (rank_over 0 all) each_reached in
          let equation : ranks r.at ≡ top = is.ranks.1 r.at (within r here) in
          let own : r.rank ≡ ranks r.at = rank_is r here in
          omega (arith, low, high, equation, own)
