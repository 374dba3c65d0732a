-- The project of a list: it is proper, and its closures are those that the book has.
use Rattle.std.proofs.Common.{◌≡◌, ℕ, suc, ◌&&◌, nat_le, Bool, true, false, cond, not, inl, inr, List, [], ◌∷◌, ◌++◌, map, length, Some, None, refl, sym, ◌∙◌, ap, subst, append_assoc}
use Rattle.std.specs.Cmp.{Equal-is}
use Rattle.std.specs.List.{fold, list_all, slice_get}
use Rattle.std.specs.Option.{is_some, option_map, option_to_list}
use Rattle.std.specs.Ordering.{is_eq, nat_cmp, ordering_then}
use Rattle.std.specs.declared.cmp.Ordering.TheVariants.{Less, Equal}
use Rattle.std.specs.declared.option.Option.{Option}
use Rattle.std.proofs.lemmas.Cmp.{tied_itself}
use Rattle.std.proofs.lemmas.List.{append-nil, length-map, map-append}
use Rattle.std.proofs.lemmas.Bool.{and_from as and_both}
use Rattle.mesh_list.specs.Keyed.{ascends, below_first, first_at, found}
use Rattle.mesh_list.proofs.Ascends.{and_left, and_right}
use Rattle.mesh_base_values.specs.Names.{name_cmp}
use Rattle.mesh_base_values.specs.NameOrder.{names_exact}
use Rattle.mesh_base.specs.Keys.{ref_cmp, ref_itself, refs_exact, refs_total, snapshot_ref}
use Rattle.mesh_base.specs.declared.snapshots.Node.{Node}
use Rattle.mesh_base.specs.declared.snapshots.Ref.{Ref}
use Rattle.mesh_base.specs.declared.snapshots.Snapshot.{Snapshot}
use Rattle.mesh_base.specs.declared.rules.relations.Parent.{Parent}
use Rattle.mesh_base.specs.rules.Proper.{are_fit, are_places, have_distinct_names, is_fit, is_proper, node_cmp, node_itself, parent_at, parents_at, stands_on}
use Rattle.mesh_house_book.specs.declared.book.Book.{Book}
use Rattle.mesh_house_book.specs.WellFormed.{columns_at, has_parents, is_listed, is_well_formed_book, parent, parents_of, rank_at, snapshot_at}
use Rattle.mesh_house_book.specs.WellFormed as book
use Rattle.mesh_spec_model.specs.Closures.{Closure, Closures, Model, closures, with_model, with_parent}
use Rattle.mesh_spec_model.specs.Closures as closure
use Rattle.mesh_law_query.proofs.Finding.{get_map, one_passes}
use Rattle.mesh_law_query.proofs.Has.{Has, Has_flat, Has_map_from, Has_right, Has_some}
use Rattle.mesh_law_query.proofs.Projects.{before_it}
use Rattle.mesh_spec_changes.specs.listed.Closing.{closing, closure_at, parents_by}
use Rattle.mesh_spec_changes.specs.listed.Listed.{as_node, entries, is_list_fit, listed, named, places_among, rank_cmp, snapshot_itself}
use Rattle.mesh_spec_changes.proofs.listed.Books.{fits, its_ref}
use Rattle.mesh_spec_changes.proofs.listed.Depths.{closing_is}
use Rattle.mesh_spec_changes.proofs.listed.Entries.{entry_of, in_order, is_entry, not_many, one_of_name, ranks_total, with_parents}
use Rattle.mesh_spec_changes.proofs.listed.Lists.{ascends_map, below_each, get_left, none_passes, passes}

-- where one snapshot alone has a reference, it is found at its place
place_is : (xs : List Snapshot) (r : Ref) (q : Snapshot) → ((y : Snapshot) → Has y xs → snapshot_ref y ≡ r → y ≡ q) → Has q xs → snapshot_ref q ≡ r
    → (i : ℕ) × (first_at ref_cmp snapshot_ref r xs ≡ Some i) × (slice_get xs i ≡ Some q)
place_is [] r q only h is = absurd h
place_is (x ∷ xs) r q only h is = go (is_eq (ref_cmp (snapshot_ref x) r)) refl h (λ k. place_is xs r q (λ y l. only y (inr l)) k is)
  where
    go : (b : Bool) → is_eq (ref_cmp (snapshot_ref x) r) ≡ b → Has q (x ∷ xs) → (Has q xs → (i : ℕ) × (first_at ref_cmp snapshot_ref r xs ≡ Some i) × (slice_get xs i ≡ Some q))
        → (i : ℕ) × (cond b (Some 0) (option_map suc (first_at ref_cmp snapshot_ref r xs)) ≡ Some i) × (slice_get (x ∷ xs) i ≡ Some q)
    go true e k more = (0, refl, ap Some (only x (inl refl) (refs_exact (snapshot_ref x) r ((Equal-is (ref_cmp (snapshot_ref x) r)).0 e))))
    go false e (inl same) more =
        let tied : is_eq (ref_cmp (snapshot_ref x) r) ≡ true = ap (λ (k : Ref). is_eq (ref_cmp k r)) (ap snapshot_ref same ∙ is) ∙ ap is_eq (tied_itself refs_total r) in
        let clash : true ≡ false = sym tied ∙ e in
        absurd (cc)
    go false e (inr k) more = let (i, f, g) = more k in (suc i, ap (option_map suc) f, g)

module _ (b : Book) (list : List Ref) (well : is_well_formed_book b ≡ true) (fit : is_list_fit b.snapshots list ≡ true) where
  abbrev all : List Snapshot
  all = b.snapshots

  abbrev es : List Snapshot
  es = entries all list

  abbrev f : Snapshot → Node
  f = as_node es

  abbrev nodes : List Node
  nodes = listed all list

  own_name : (s : Snapshot) → Has s es → s.own.name ≡ s.name
  own_name s h = (fits b s well (is_entry all list fit s h).1).name

  -- a reference that names an entry, and that entry's place
  abbrev IsPlaced : Ref → Type 0
  IsPlaced r = (q : Snapshot) × (i : ℕ) × (first_at ref_cmp snapshot_ref r es ≡ Some i) × (slice_get es i ≡ Some q) × (snapshot_at all r ≡ Some q) × (q.own.name ≡ r.name)

  listed_is : (rs : List Ref) (r : Ref) → is_listed rs r ≡ true → Has r rs
  listed_is [] r h = absurd (cc)
  listed_is (x ∷ xs) r h = go (is_eq (ref_cmp x r)) refl h (listed_is xs r)
    where
      go : (c : Bool) → is_eq (ref_cmp x r) ≡ c → is_some (cond c (Some x) (found ref_cmp ref_itself r xs)) ≡ true → (is_listed xs r ≡ true → Has r xs) → Has r (x ∷ xs)
      go true e k more = inl (refs_exact x r ((Equal-is (ref_cmp x r)).0 e))
      go false e k more = inr (more k)

  placed_at : (s : Snapshot) → Has s es → (r : Ref) → Has r s.parents → IsPlaced r
  placed_at s h r k =
      let (its, own) = is_entry all list fit s h in
      let p = (fits b s well own).parents r k in
      let q = p.snapshot in
      let its_parents : has_parents all list (snapshot_ref s) ≡ true = one_passes (has_parents all list) list (snapshot_ref s) (with_parents all list fit) its in
      let theirs : list_all (is_listed list) s.parents ≡ true = ap (λ (o : Option Snapshot). list_all (is_listed list) (book.parents_at o)) (sym own) ∙ its_parents in
      let there : Has r list = listed_is list r (one_passes (is_listed list) s.parents r theirs k) in
      let entry : Has q es = entry_of all list fit r q there p.known in
      let (i, first, at) = place_is es r q (only r q p.known) entry (its_ref all r q p.known) in
      (q, i, first, at, p.known, own_name q entry ∙ ap (λ (x : Ref). x.name) (its_ref all r q p.known))
    where
      only : (r : Ref) (q : Snapshot) → snapshot_at all r ≡ Some q → (y : Snapshot) → Has y es → snapshot_ref y ≡ r → y ≡ q
      only r q known y l e = let both : Some y ≡ Some q = sym (is_entry all list fit y l).1 ∙ ap (snapshot_at all) e ∙ known in cc

  at_place : (i : ℕ) (q : Snapshot) → slice_get es i ≡ Some q → slice_get nodes i ≡ Some (f q)
  at_place i q e = get_map f es i ∙ ap (option_map f) e

  places_there : (refs : List Ref) → ((r : Ref) → Has r refs → IsPlaced r) → are_places nodes (places_among es refs) ≡ true
  places_there [] h = refl
  places_there (r ∷ rs) h =
      let (q, i, first, at, known, name) = h r (inl refl) in
      ap (λ (o : Option ℕ). are_places nodes (option_to_list o ++ places_among es rs)) first
      ∙ (λ k. is_some (at_place i q at k) && places_there rs (λ t l. h t (inr l)) k)

  same_parents : (refs : List Ref) → ((r : Ref) → Has r refs → IsPlaced r) → parents_at nodes (places_among es refs) ≡ parents_of all refs
  same_parents [] h = refl
  same_parents (r ∷ rs) h =
      let (q, i, first, at, known, name) = h r (inl refl) in
      ap (λ (o : Option ℕ). parents_at nodes (option_to_list o ++ places_among es rs)) first
      ∙ ap (λ (o : Option Node). parent_at o ++ parents_at nodes (places_among es rs)) (at_place i q at)
      ∙ (λ k. record { rank = rank_at (sym known k); name = name k; columns = columns_at (sym known k) } ∷ same_parents rs (λ t l. h t (inr l)) k)

  node_fits : (s : Snapshot) → Has s es → is_fit nodes (f s) ≡ true
  node_fits s h =
      and_both (are_places nodes (places_among es s.parents)) _ (places_there s.parents (placed_at s h))
      (ap (λ (ps : List Parent). stands_on ps s.rank s.own) (same_parents s.parents (placed_at s h)) ∙ (fits b s well (is_entry all list fit s h).1).stands)

  nodes_fit : are_fit nodes nodes ≡ true
  nodes_fit = passes (is_fit nodes) nodes each
    where
      each : (n : Node) → Has n nodes → is_fit nodes n ≡ true
      each n h = let (s, k, e) = Has_map_from f es n h in subst (λ (m : Node). is_fit nodes m ≡ true) e (node_fits s k)

  nodes_up : ascends node_cmp node_itself nodes ≡ true
  nodes_up =
      ascends_map node_cmp node_itself rank_cmp snapshot_itself f es (λ x y h k i. ordering_then (nat_cmp x.rank y.rank) (name_cmp (own_name x h i) (own_name y k i)))
      ∙ in_order (named all list)

  apart : (ss : List Snapshot) → ((x : Snapshot) → Has x ss → Has x es) → ascends rank_cmp snapshot_itself ss ≡ true → have_distinct_names (map f ss) ≡ true
  apart [] sub up = refl
  apart (s ∷ ss) sub up =
      λ i. not (none_passes (λ (n : Node). is_eq (name_cmp n.own.name s.own.name)) (map f ss) other i) && apart ss (λ x h. sub x (inr h)) later i
    where
      later : ascends rank_cmp snapshot_itself ss ≡ true
      later = and_right (below_first rank_cmp snapshot_itself s ss) (ascends rank_cmp snapshot_itself ss) up

      differ : (t : Snapshot) → Has t ss → (c : Bool) → is_eq (name_cmp t.own.name s.own.name) ≡ c → c ≡ false
      differ t h false e = refl
      differ t h true e =
          let same : t.name ≡ s.name = sym (own_name t (sub t (inr h))) ∙ names_exact t.own.name s.own.name ((Equal-is (name_cmp t.own.name s.own.name)).0 e) ∙ own_name s (sub s (inl refl)) in
          let one : t ≡ s = one_of_name all list fit t s (sub t (inr h)) (sub s (inl refl)) same in
          let less : rank_cmp s t ≡ Less = below_each rank_cmp ranks_total snapshot_itself s ss (and_left _ _ up) later t h in
          let clash : Less ≡ Equal = sym less ∙ ap (rank_cmp s) one ∙ tied_itself ranks_total s in
          absurd (cc)

      other : (n : Node) → Has n (map f ss) → is_eq (name_cmp n.own.name s.own.name) ≡ false
      other n h = let (t, k, e) = Has_map_from f ss n h in ap (λ (m : Node). is_eq (name_cmp m.own.name s.own.name)) (sym e) ∙ differ t k (is_eq (name_cmp t.own.name s.own.name)) refl

  pub project_is_proper : is_proper nodes ≡ true
  project_is_proper =
      and_both (nat_le (length nodes) 4096) _ (ap (λ n. nat_le n 4096) (length-map es f) ∙ not_many all list fit)
      (and_both (ascends node_cmp node_itself nodes) _ nodes_up
      (and_both (have_distinct_names nodes) (are_fit nodes nodes) (apart es (λ x h. h) (in_order (named all list))) nodes_fit))

  -- closures
  module _ (before after : List Snapshot) (s : Snapshot) (split : before ++ s ∷ after ≡ es) where
    here : Has s es
    here = subst (Has s) split (Has_right s before (s ∷ after) (inl refl))

    nodes_split : map f before ++ f s ∷ map f after ≡ nodes
    nodes_split = sym (map-append f before (s ∷ after)) ∙ ap (map f) split

    -- a parent's place among those before
    made_at : (r : Ref) (i : ℕ) (q : Snapshot) → Has r s.parents → first_at ref_cmp snapshot_ref r es ≡ Some i → slice_get es i ≡ Some q → slice_get before i ≡ Some q
    made_at r i q h first at =
        let place : Has i (places_among es s.parents) = Has_flat (λ (t : Ref). option_to_list (first_at ref_cmp snapshot_ref t es)) s.parents r i h (Has_some (first_at ref_cmp snapshot_ref r es) i first) in
        let (m, e, l) = before_it nodes project_is_proper (map f before) (map f after) (f s) nodes_split i place in
        go (slice_get before i) refl (sym (get_map f before i) ∙ e)
      where
        go : {m : Node} (o : Option Snapshot) → slice_get before i ≡ o → option_map f o ≡ Some m → slice_get before i ≡ Some q
        go None e k = absurd (cc)
        go (Some p) e k =
            let both : Some p ≡ Some q = sym (get_left before (s ∷ after) i p e) ∙ ap (λ (l : List Snapshot). slice_get l i) split ∙ at in
            e ∙ both

    same_closures : (refs : List Ref) → ((r : Ref) → Has r refs → Has r s.parents) → closure.parents_at (map (closing all) before) (places_among es refs) ≡ parents_by (closing all) all refs
    same_closures [] sub = refl
    same_closures (r ∷ rs) sub =
        let (q, i, first, at, known, name) = placed_at s here r (sub r (inl refl)) in
        let done : slice_get (map (closing all) before) i ≡ Some (closing all q) = get_map (closing all) before i ∙ ap (option_map (closing all)) (made_at r i q (sub r (inl refl)) first at) in
        ap (λ (o : Option ℕ). closure.parents_at (map (closing all) before) (option_to_list o ++ places_among es rs)) first
        ∙ (λ k. with_parent (done k) (same_closures rs (λ t l. sub t (inr l)) k))
        ∙ ap (λ (o : Option Snapshot). with_parent (option_map (closing all) o) (parents_by (closing all) all rs)) (sym known)

    step : with_model (map (closing all) before) (f s) ≡ map (closing all) (before ++ s ∷ [])
    step =
        let new : Model s.own (closure.parents_at (map (closing all) before) (places_among es s.parents)) ≡ closing all s =
        ap (Model s.own) (same_closures s.parents (λ r h. h)) ∙ sym (closing_is b well s (is_entry all list fit s here).1) in
        (λ i. map (closing all) before ++ new i ∷ []) ∙ sym (map-append (closing all) before (s ∷ []))

  closures_from : (before after : List Snapshot) → before ++ after ≡ es → fold with_model (map (closing all) before) (map f after) ≡ map (closing all) es
  closures_from before [] split = ap (map (closing all)) (sym (append-nil before) ∙ split)
  closures_from before (s ∷ after) split =
      ap (λ (done : List Closure). fold with_model done (map f after)) (step before after s split)
      ∙ closures_from (before ++ s ∷ []) after (append_assoc before (s ∷ []) after ∙ split)

  pub closures_are : closures nodes ≡ map (closing all) es
  closures_are = closures_from [] es refl

  own_closures : (ss : List Snapshot) → ((x : Snapshot) → Has x ss → Has x es) → map Some (map (closing all) ss) ≡ map (closure_at all) (map snapshot_ref ss)
  own_closures [] sub = refl
  own_closures (s ∷ ss) sub =
      let (its, own) = is_entry all list fit s (sub s (inl refl)) in
      λ k. option_map (closing all) (sym own k) ∷ own_closures ss (λ x h. sub x (inr h)) k

  pub closures_by_reference : map Some (closures nodes) ≡ map (closure_at all) (map snapshot_ref es)
  closures_by_reference = ap (map Some) closures_are ∙ own_closures es (λ x h. h)
