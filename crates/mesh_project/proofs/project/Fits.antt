-- A node that fits the nodes before it fits them still where more stand behind; nodes in order are a proper project.
use Rattle.std.proofs.Common.{◌≡◌, inl, inr, ℕ, zero, suc, ◌≤◌, Bool, true, false, ◌||◌, not, List, [], ◌∷◌, ◌++◌, map, length, refl, sym, ap, ◌∙◌, arith}
use Rattle.std.proofs.Math.Dec.{eqb}
use Rattle.std.proofs.lemmas.Bool.{eq-eqb, eqb-true, and_from as and_both}
use Rattle.std.proofs.lemmas.Cmp.{nat_cmp_total, on_total, then_total, tied_itself}
use Rattle.std.proofs.lemmas.List.{length-map}
use Rattle.std.proofs.lemmas.List.Folds.{list_all-append}
use Rattle.std.proofs.lemmas.Map.Steps.{length-le_from_distinct_below}
use Rattle.std.specs.Cmp.{IsTotalOrder}
use Rattle.std.specs.List.{AllByRecursion, AllZip, IsDistinct, list_all, list_any, slice_get}
use Rattle.std.specs.Option.{is_some}
use Rattle.std.specs.Ordering.{is_eq, is_lt, nat_cmp, ordering_then}
use Rattle.std.specs.declared.cmp.Ordering.TheVariants.{Less, Equal}
use Rattle.mesh_list.specs.Keyed.{ascends, below_first}
use Rattle.mesh_list.proofs.Ascends.{and_left, and_right}
use Rattle.mesh_base_values.specs.NameOrder.{names_total}
use Rattle.mesh_base_values.specs.Names.{name_cmp}
use Rattle.mesh_base_values.specs.declared.values.Name.{Name}
use Rattle.mesh_base_values.proofs.Equals.{name_is}
use Rattle.mesh_base.specs.declared.snapshots.Node.{Node}
use Rattle.mesh_base.specs.rules.Proper.{are_places, has_node, have_distinct_names, is_fit, is_well_formed, node_cmp, node_itself, parent_at, parents_at, stands_on}
use Rattle.mesh_base.specs.rules.Relations.{rank_over}
use Rattle.mesh_project.specs.declared.order.readers.Ranked.{Ranked}
use Rattle.mesh_project.specs.declared.order.readers.Reader.{Reader}
use Rattle.mesh_project.specs.order.Order.{AreApart, IsOrder, itself, name_at, place, ranked_cmp}
use Rattle.mesh_project.specs.declared.nodes.earlier.Place.{Place}
use Rattle.mesh_project.specs.nodes.Earlier.{named, place_at}
use Rattle.mesh_project.proofs.project.In.{In, all_below, fits_length, fits_right, of_map}
use Rattle.mesh_project.proofs.nodes.Among.{IsAt, Stands, named_stand}
use Rattle.mesh_project.proofs.project.Ranks.{Fits, parents_named, rank_is, ranked_total, ranks, within}

got_kept : {X : Type 0} (xs ys : List X) (k : ℕ) → is_some (slice_get xs k) ≡ true → slice_get (xs ++ ys) k ≡ slice_get xs k
got_kept [] ys k h = absurd (cc)
got_kept (x ∷ xs) ys zero h = refl
got_kept (x ∷ xs) ys (suc k) h = got_kept xs ys k h

module _ (nodes more : List Node) where
  places_kept : (is : List ℕ) → are_places nodes is ≡ true → are_places (nodes ++ more) is ≡ true
  places_kept [] h = refl
  places_kept (i ∷ is) h = and_both _ _ (ap is_some (got_kept nodes more i (and_left _ _ h)) ∙ and_left _ _ h) (places_kept is (and_right _ _ h))

  parents_kept : (is : List ℕ) → are_places nodes is ≡ true → parents_at (nodes ++ more) is ≡ parents_at nodes is
  parents_kept [] h = refl
  parents_kept (i ∷ is) h =
      ap (λ o. parent_at o ++ parents_at (nodes ++ more) is) (got_kept nodes more i (and_left _ _ h)) ∙ ap (λ ps. parent_at (slice_get nodes i) ++ ps) (parents_kept is (and_right _ _ h))

  fit_kept : (n : Node) → is_fit nodes n ≡ true → is_fit (nodes ++ more) n ≡ true
  fit_kept n h =
      and_both _ _ (places_kept n.parents (and_left _ _ h)) (ap (λ ps. stands_on ps n.rank n.own) (parents_kept n.parents (and_left _ _ h)) ∙ and_right _ _ h)

  all_kept : (ns : List Node) → list_all (is_fit nodes) ns ≡ true → list_all (is_fit (nodes ++ more)) ns ≡ true
  all_kept [] h = refl
  all_kept (n ∷ ns) h = and_both _ _ (fit_kept n (and_left _ _ h)) (all_kept ns (and_right _ _ h))

pub one_more_fits : (nodes : List Node) (n : Node) → list_all (is_fit nodes) nodes ≡ true → is_fit nodes n ≡ true → list_all (is_fit (nodes ++ n ∷ [])) (nodes ++ n ∷ []) ≡ true
one_more_fits nodes n all fit =
    list_all-append (is_fit (nodes ++ n ∷ [])) nodes (n ∷ []) ∙ and_both _ _ (all_kept nodes (n ∷ []) nodes all) (and_both _ _ (fit_kept nodes (n ∷ []) n fit) refl)

-- a node over models that it names
stand_there : (nodes : List Node) (names : List Name) (places : List Place) → AllByRecursion (Stands nodes names) places → are_places nodes (map place_at places) ≡ true
stand_there nodes names [] all = refl
stand_there nodes names (p ∷ ps) all = let at : IsAt nodes p.at p.name = all.0.0 in and_both _ _ (ap is_some at.1) (stand_there nodes names ps all.1)

pub new_fits : (nodes : List Node) (names : List Name) (n : Node) → n.parents ≡ map place_at (named nodes names) → n.rank ≡ rank_over 0 (parents_named nodes (named nodes names))
    → is_well_formed (parents_named nodes (named nodes names)) n.own ≡ true → is_fit nodes n ≡ true
new_fits nodes names n parents rank formed =
    let all = map place_at (named nodes names) in
    and_both _ _ (ap (are_places nodes) parents ∙ stand_there nodes names (named nodes names) (named_stand nodes names))
    (ap (λ is. stands_on (parents_at nodes is) n.rank n.own) parents ∙ and_both _ _ (eq-eqb n.rank (rank_over 0 (parents_at nodes all)) rank) formed)

node_total : IsTotalOrder node_cmp
node_total = then_total (on_total (λ (n : Node). n.rank) nat_cmp_total) (on_total (λ (n : Node). n.own.name) names_total)

-- some node has a name only where one in the list has it
namesakes : (ns : List Node) (name : Name) → ((m : Node) → In m ns → m.own.name ≡ name → ⊥) → has_node ns name ≡ false
namesakes [] name none = refl
namesakes (m ∷ ns) name none = by_first (is_eq (name_cmp m.own.name name)) refl (namesakes ns name (λ x h. none x (inr h)))
  where
    by_first : (b : Bool) → is_eq (name_cmp m.own.name name) ≡ b → has_node ns name ≡ false → (b || has_node ns name) ≡ false
    by_first true e more = absurd (none m (inl refl) (name_is m.own.name name e))
    by_first false e more = more

-- nodes of one name have one rank
abbrev HaveOneRank : List Node → Type 0
HaveOneRank ns = (n m : Node) → In n ns → In m ns → n.own.name ≡ m.own.name → n.rank ≡ m.rank

distinct : (ns : List Node) → HaveOneRank ns → ascends node_cmp node_itself ns ≡ true → have_distinct_names ns ≡ true
distinct [] one up = refl
distinct (n ∷ ns) one up =
    and_both _ _
    (ap not (namesakes ns n.own.name (λ m h e.
    let less : node_cmp n m ≡ Less = all_below node_cmp node_total node_itself n ns m (and_left _ _ up) (and_right _ _ up) h in
    let rank : n.rank ≡ m.rank = one n m (inl refl) (inr h) (sym e) in
    let tied : node_cmp n m ≡ Equal = ap (λ (r : ℕ). ordering_then (nat_cmp n.rank r) (name_cmp n.own.name m.own.name)) (sym rank)
    ∙ ap (λ (x : Name). ordering_then (nat_cmp n.rank n.rank) (name_cmp n.own.name x)) e ∙ tied_itself node_total n in
    let clash : Less ≡ Equal = sym less ∙ tied in absurd (cc))))
    (distinct ns (λ a b x y. one a b (inr x) (inr y)) (and_right _ _ up))

module _ (models : List Reader) (order : List Ranked) (apart : AreApart models) (is : IsOrder models order) where
  same_cmp : (n m : Node) (r s : Ranked) → Fits models n r → Fits models m s → node_cmp n m ≡ ranked_cmp models r s
  same_cmp n m r s f g =
      ap (λ (k : ℕ). ordering_then (nat_cmp k m.rank) (name_cmp n.own.name m.own.name)) f.1 ∙ ap (λ (k : ℕ). ordering_then (nat_cmp r.rank k) (name_cmp n.own.name m.own.name)) g.1
      ∙ ap (λ (x : Name). ordering_then (nat_cmp r.rank s.rank) (name_cmp x m.own.name)) f.0 ∙ ap (λ (x : Name). ordering_then (nat_cmp r.rank s.rank) (name_cmp (name_at models r.at) x)) g.0

  below_too : (n : Node) (r : Ranked) (ns : List Node) (rs : List Ranked) → Fits models n r → AllZip (Fits models) ns rs → below_first (ranked_cmp models) itself r rs ≡ true → below_first node_cmp node_itself n ns ≡ true
  below_too n r [] rs f fit h = refl
  below_too n r (m ∷ ns) [] f fit h = absurd fit
  below_too n r (m ∷ ns) (s ∷ rs) f fit h = ap is_lt (same_cmp n m r s f fit.0) ∙ h

  ascend_too : (ns : List Node) (rs : List Ranked) → AllZip (Fits models) ns rs → ascends (ranked_cmp models) itself rs ≡ true → ascends node_cmp node_itself ns ≡ true
  ascend_too [] rs fit h = refl
  ascend_too (n ∷ ns) [] fit h = absurd fit
  ascend_too (n ∷ ns) (r ∷ rs) fit h = and_both _ _ (below_too n r ns rs fit.0 fit.1 (and_left _ _ h)) (ascend_too ns rs fit.1 (and_right _ _ h))

  -- no place stands twice in an order
  same_place : (r s : Ranked) → In r order → In s order → r.at ≡ s.at → ranked_cmp models r s ≡ Equal
  same_place r s h k e =
      let rank : r.rank ≡ s.rank = rank_is models order apart is r h ∙ ap (ranks models order apart is) e ∙ sym (rank_is models order apart is s k) in
      ap (λ (x : ℕ). ordering_then (nat_cmp r.rank x) (name_cmp (name_at models r.at) (name_at models s.at))) (sym rank)
      ∙ ap (λ (x : ℕ). ordering_then (nat_cmp r.rank r.rank) (name_cmp (name_at models r.at) (name_at models x))) (sym e) ∙ tied_itself (ranked_total models order apart is) r

  differ : (a b : ℕ) → (a ≡ b → ⊥) → eqb a b ≡ false
  differ a b never = by_test (eqb a b) refl
    where
      by_test : (t : Bool) → eqb a b ≡ t → eqb a b ≡ false
      by_test false e = e
      by_test true e = absurd (never (eqb-true a b e))

  others_differ : (r : Ranked) (rs : List Ranked) → ((s : Ranked) → In s rs → r.at ≡ s.at → ⊥) → AllByRecursion (λ y. eqb r.at y ≡ false) (map place rs)
  others_differ r [] never = tt
  others_differ r (s ∷ rs) never = (differ r.at s.at (never s (inl refl)), others_differ r rs (λ x h. never x (inr h)))

  places_differ : (rs : List Ranked) → ((s : Ranked) → In s rs → In s order) → ascends (ranked_cmp models) itself rs ≡ true → IsDistinct eqb (map place rs)
  unfolding IsDistinct
  places_differ [] among up = tt
  places_differ (r ∷ rs) among up = (
    others_differ r rs (λ s h e.
        let less : ranked_cmp models r s ≡ Less = all_below (ranked_cmp models) (ranked_total models order apart is) itself r rs s (and_left _ _ up) (and_right _ _ up) h in
        let clash : Less ≡ Equal = sym less ∙ same_place r s (among r (inl refl)) (among s (inr h)) e in cc clash),
    places_differ rs (λ s h. among s (inr h)) (and_right _ _ up),
  )

  in_of_any : (xs : List ℕ) (q : ℕ) → list_any (eqb q) xs ≡ true → In q xs
  in_of_any [] q e = absurd (cc)
  in_of_any (x ∷ xs) q e = by_first (eqb q x) refl (λ h. in_of_any xs q h) e
    where
      by_first : (b : Bool) → eqb q x ≡ b → (list_any (eqb q) xs ≡ true → In q xs) → (b || list_any (eqb q) xs) ≡ true → In q (x ∷ xs)
      by_first true f more h = inl (sym (eqb-true q x f))
      by_first false f more h = inr (more h)

  pub as_few : length order ≤ length models
  as_few =
      let all = length-le_from_distinct_below (map place order) (length models) (places_differ order (λ s h. h) is.ascending)
      (λ q h. let r = of_map place order q (in_of_any (map place order) q h) in let lt = within models order apart is r.0 r.1 in let e : r.0.at ≡ q = r.2 in omega (arith, lt, e)) in
      omega (arith, all, length-map order place)

  module _ (nodes : List Node) (fit : AllZip (Fits models) nodes order) where
    pub nodes_ascend : ascends node_cmp node_itself nodes ≡ true
    nodes_ascend = ascend_too nodes order fit is.ascending

    pub names_differ : have_distinct_names nodes ≡ true
    names_differ = distinct nodes (λ n m h k e.
        let r = fits_right (Fits models) nodes order n fit h in
        let s = fits_right (Fits models) nodes order m fit k in
        let at : r.0.at ≡ s.0.at = apart r.0.at s.0.at (within models order apart is r.0 r.1) (within models order apart is s.0 s.1) (sym r.2.0 ∙ e ∙ s.2.0) in
        r.2.1 ∙ rank_is models order apart is r.0 r.1 ∙ ap (ranks models order apart is) at ∙ sym (rank_is models order apart is s.0 s.1) ∙ sym s.2.1) nodes_ascend

    pub nodes_few : length nodes ≤ length models
    nodes_few = let few = as_few in omega (arith, few, fits_length (Fits models) nodes order fit)
