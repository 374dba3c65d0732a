-- Snapshots by rank and name, and their places.
use Rattle.std.proofs.Common.{◌≡◌, ℕ, zero, suc, ◌+◌, ◌<◌, Bool, true, false, cond, nat_le, inl, inr, List, [], ◌∷◌, ◌++◌, map, length, take, get_or, Some, None, refl, sym, ◌∙◌, ap, arith}
use Rattle.std.specs.Cmp.{Equal-is}
use Rattle.std.specs.List.{list_all}
use Rattle.std.specs.Option.{is_some, option_map, option_to_list}
use Rattle.std.specs.Ordering.{is_eq, nat_cmp}
use Rattle.std.specs.declared.cmp.Ordering.{Ordering}
use Rattle.std.specs.declared.cmp.Ordering.TheVariants.{Less, Equal, Greater}
use Rattle.std.specs.declared.option.Option.{Option}
use Rattle.std.proofs.lemmas.Cmp.{tied_itself}
use Rattle.std.proofs.lemmas.List.{append-nil, take_more}
use Rattle.std.proofs.lemmas.List.Concat.{flat_map-append}
use Rattle.mesh_list.specs.Keyed.{ascends, below_first, first_at, found, placed, put_by}
use Rattle.mesh_list.proofs.Ascends.{and_left, and_right}
use Rattle.mesh_base_values.specs.Names.{name_cmp}
use Rattle.mesh_base_values.specs.NameOrder.{names_exact, names_total, then_equal}
use Rattle.mesh_base_values.specs.declared.values.Name.{Name}
use Rattle.mesh_base.specs.Keys.{ref_cmp, ref_itself, ref_name, refs_exact, refs_total, snapshot_ref}
use Rattle.mesh_base.specs.declared.snapshots.Ref.{Ref}
use Rattle.mesh_base.specs.declared.snapshots.Snapshot.{Snapshot}
use Rattle.mesh_house_book.specs.declared.book.Book.{Book}
use Rattle.mesh_house_book.specs.WellFormed.{are_kept, has_parents, is_listed, is_well_formed_book, parents_at, snapshot_at}
use Rattle.mesh_law_query.proofs.Finding.{one_passes}
use Rattle.mesh_law_query.proofs.Has.{Has, Has_flat_from, Has_some_from}
use Rattle.mesh_spec_changes.specs.listed.Listed.{as_node, by_rank, entries, is_list_fit, listed, named, places_among, rank_cmp, snapshot_itself}
use Rattle.mesh_spec_changes.proofs.listed.Books.{fits, its_ref}
use Rattle.mesh_spec_changes.proofs.listed.Entries.{entry_of, is_entry, one_of_name, ranks_total, with_parents}
use Rattle.mesh_spec_changes.proofs.listed.Lists.{below_each}
use Rattle.mesh_category.proofs.versions.Placing.{either_first}
use Rattle.mesh_category.specs.declared.versions.standing.Standing.{Standing}
use Rattle.mesh_category.specs.versions.Standing.{node_by, place_from, places_by, rank_of, rank_order, snapshot_of, snapshots_of, with_one}

-- what is put in order where it lies is in order
pub placed_there : (y : Standing) (xs : List Standing) → snapshots_of (placed rank_order rank_of y xs) ≡ placed rank_cmp snapshot_itself (snapshot_of y) (snapshots_of xs)
placed_there y [] = refl
placed_there y (x ∷ xs) = go (rank_cmp (snapshot_of x) (snapshot_of y)) (placed_there y xs)
  where
    go : (o : Ordering) → snapshots_of (placed rank_order rank_of y xs) ≡ placed rank_cmp snapshot_itself (snapshot_of y) (snapshots_of xs)
        → snapshots_of (put_by o x y xs (placed rank_order rank_of y xs)) ≡ put_by o (snapshot_of x) (snapshot_of y) (snapshots_of xs) (placed rank_cmp snapshot_itself (snapshot_of y) (snapshots_of xs))
    go Less more = ap (λ (l : List Snapshot). snapshot_of x ∷ l) more
    go Equal more = refl
    go Greater more = refl

-- one entry more, whose name none before it has
by_rank_last : (ss : List Snapshot) (s : Snapshot) → ((x : Snapshot) → Has x ss → rank_cmp x s ≡ Equal → ⊥) → by_rank (ss ++ s ∷ []) ≡ placed rank_cmp snapshot_itself s (by_rank ss)
by_rank_last [] s differ = refl
by_rank_last (x ∷ xs) s differ =
    ap (placed rank_cmp snapshot_itself x) (by_rank_last xs s (λ y h. differ y (inr h)))
    ∙ either_first rank_cmp ranks_total snapshot_itself x s (differ x (inl refl)) (by_rank xs)

stands_there : (rs : List Ref) (i : ℕ) (r : Ref) → i < length rs → r ≡ get_or rs i r → Has r rs
stands_there [] i r lt here = absurd (omega arith)
stands_there (q ∷ qs) zero r lt here = inl (sym here)
stands_there (q ∷ qs) (suc i) r lt here = inr (stands_there qs i r (omega arith) here)

earlier_differs : (rs : List Ref) (i : ℕ) (r : Ref) → ascends name_cmp ref_name rs ≡ true → i < length rs → r ≡ get_or rs i r → (q : Ref) → Has q (take i rs) → q.name ≡ r.name → ⊥
earlier_differs [] i r up lt here q h same = absurd (omega (arith, lt))
earlier_differs (p ∷ ps) zero r up lt here q h same = h
earlier_differs (p ∷ ps) (suc i) r up lt here q (inl e) same =
    let below : name_cmp p.name r.name ≡ Less =
    below_each name_cmp names_total ref_name p.name ps (and_left (below_first name_cmp ref_name p.name ps) (ascends name_cmp ref_name ps) up) (and_right (below_first name_cmp ref_name p.name ps) (ascends name_cmp ref_name ps) up) r (stands_there ps i r (omega (arith, lt)) here) in
    let clash : Less ≡ Equal = sym below ∙ ap (λ (n : Name). name_cmp n r.name) (ap (λ (x : Ref). x.name) e ∙ same) ∙ tied_itself names_total r.name in
    absurd (cc)
earlier_differs (p ∷ ps) (suc i) r up lt here q (inr h) same = earlier_differs ps i r (and_right (below_first name_cmp ref_name p.name ps) (ascends name_cmp ref_name ps) up) (omega (arith, lt)) here q h same

module _ (all : List Snapshot) (list : List Ref) (fit : is_list_fit all list ≡ true) where
  names_up : ascends name_cmp ref_name list ≡ true
  names_up = and_left (ascends name_cmp ref_name list) _ (and_right (nat_le (length list) 4096) _ (and_right (are_kept all list) _ fit))

  pub one_more : (i : ℕ) (r : Ref) → i < length list → r ≡ get_or list i r → with_one (snapshot_at all r) (entries all (take i list)) ≡ entries all (take (i + 1) list)
  one_more i r lt here =
      go (snapshot_at all r) refl
      ∙ ap by_rank (sym (flat_map-append (λ (q : Ref). option_to_list (snapshot_at all q)) (take i list) (r ∷ [])))
      ∙ ap (entries all) (sym (take_more list i r lt ∙ ap (λ (q : Ref). take i list ++ q ∷ []) (sym here)))
    where
      differ : (s : Snapshot) → snapshot_at all r ≡ Some s → (x : Snapshot) → Has x (named all (take i list)) → rank_cmp x s ≡ Equal → ⊥
      differ s e x h tie =
          let (q, k, f) = Has_flat_from (λ (q : Ref). option_to_list (snapshot_at all q)) (take i list) x h in
          let its : snapshot_ref x ≡ q = its_ref all q x (Has_some_from (snapshot_at all q) x f) in
          let names : x.name ≡ s.name = names_exact x.name s.name (then_equal (nat_cmp x.rank s.rank) (name_cmp x.name s.name) tie).1 in
          earlier_differs list i r names_up lt here q k (sym (ap (λ (y : Ref). y.name) its) ∙ names ∙ ap (λ (y : Ref). y.name) (its_ref all r s e))

      go : (o : Option Snapshot) → snapshot_at all r ≡ o → with_one o (by_rank (named all (take i list))) ≡ by_rank (named all (take i list) ++ (option_to_list o ++ []))
      go None e = ap by_rank (sym (append-nil (named all (take i list))))
      go (Some s) e = sym (by_rank_last (named all (take i list)) s (differ s e))

-- places
place_later : (k : ℕ) (name : Name) (ss : List Snapshot) → place_from (k + 1) name ss ≡ option_map suc (place_from k name ss)
place_later k name [] = refl
place_later k name (s ∷ ss) = go (is_eq (name_cmp s.name name)) (place_later (k + 1) name ss)
  where
    go : (t : Bool) → place_from (k + 1 + 1) name ss ≡ option_map suc (place_from (k + 1) name ss)
        → cond t (Some (k + 1)) (place_from (k + 1 + 1) name ss) ≡ option_map suc (cond t (Some k) (place_from (k + 1) name ss))
    go true more = ap Some (omega arith)
    go false more = more

same_test : (s : Snapshot) (r : Ref) → (s.name ≡ r.name → snapshot_ref s ≡ r) → is_eq (name_cmp s.name r.name) ≡ is_eq (ref_cmp (snapshot_ref s) r)
same_test s r one = go (is_eq (name_cmp s.name r.name)) refl (is_eq (ref_cmp (snapshot_ref s) r)) refl
  where
    go : (t : Bool) → is_eq (name_cmp s.name r.name) ≡ t → (u : Bool) → is_eq (ref_cmp (snapshot_ref s) r) ≡ u → t ≡ u
    go true e true f = refl
    go true e false f =
        let refs : snapshot_ref s ≡ r = one (names_exact s.name r.name ((Equal-is (name_cmp s.name r.name)).0 e)) in
        let tied : is_eq (ref_cmp (snapshot_ref s) r) ≡ true = ap (λ (q : Ref). is_eq (ref_cmp q r)) refs ∙ ap is_eq (tied_itself refs_total r) in
        sym tied ∙ f
    go false e true f =
        let refs : snapshot_ref s ≡ r = refs_exact (snapshot_ref s) r ((Equal-is (ref_cmp (snapshot_ref s) r)).0 f) in
        let tied : is_eq (name_cmp s.name r.name) ≡ true = ap (λ (q : Ref). is_eq (name_cmp q.name r.name)) refs ∙ ap is_eq (tied_itself names_total r.name) in
        sym e ∙ tied
    go false e false f = refl

-- where a name stands for one reference, both are found at one place
pub place_is : (ss : List Snapshot) (r : Ref) → ((s : Snapshot) → Has s ss → s.name ≡ r.name → snapshot_ref s ≡ r) → place_from 0 r.name ss ≡ first_at ref_cmp snapshot_ref r ss
place_is [] r one = refl
place_is (s ∷ ss) r one =
    ap (cond (is_eq (name_cmp s.name r.name)) (Some 0)) (place_later 0 r.name ss ∙ ap (option_map suc) (place_is ss r (λ t h. one t (inr h))))
    ∙ ap (λ t. cond t (Some 0) (option_map suc (first_at ref_cmp snapshot_ref r ss))) (same_test s r (one s (inl refl)))

-- a reference that a list has
listed_has : (list : List Ref) (r : Ref) → is_listed list r ≡ true → Has r list
listed_has [] r e = absurd (let clash : false ≡ true = e in cc)
listed_has (q ∷ qs) r e = go (is_eq (ref_cmp q r)) refl e (listed_has qs r)
  where
    go : (t : Bool) → is_eq (ref_cmp q r) ≡ t → is_some (cond t (Some q) (found ref_cmp ref_itself r qs)) ≡ true → (is_listed qs r ≡ true → Has r qs) → Has r (q ∷ qs)
    go true f e more = inl (refs_exact q r ((Equal-is (ref_cmp q r)).0 f))
    go false f e more = inr (more e)

module _ (b : Book) (list : List Ref) (well : is_well_formed_book b ≡ true) (fit : is_list_fit b.snapshots list ≡ true) where
  abbrev all : List Snapshot
  all = b.snapshots

  abbrev es : List Snapshot
  es = entries all list

  -- a parent of an entry is listed, under its name alone
  parent_listed : (s : Snapshot) → Has s es → (r : Ref) → Has r s.parents → Has r list
  parent_listed s h r k =
      let (i, own) = is_entry all list fit s h in
      let its : list_all (is_listed list) (parents_at (snapshot_at all (snapshot_ref s))) ≡ true = one_passes (has_parents all list) list (snapshot_ref s) (with_parents all list fit) i in
      let there : list_all (is_listed list) s.parents ≡ true = sym (ap (λ (o : Option Snapshot). list_all (is_listed list) (parents_at o)) own) ∙ its in
      listed_has list r (one_passes (is_listed list) s.parents r there k)

  one_reference : (s : Snapshot) → Has s es → (r : Ref) → Has r s.parents → (t : Snapshot) → Has t es → t.name ≡ r.name → snapshot_ref t ≡ r
  one_reference s h r k t l e =
      let parent = (fits b s well (is_entry all list fit s h).1).parents r k in
      let q : Snapshot = parent.snapshot in
      let its : snapshot_ref q ≡ r = its_ref all r q parent.known in
      let there : Has q es = entry_of all list fit r q (parent_listed s h r k) parent.known in
      let same : t ≡ q = one_of_name all list fit t q l there (e ∙ sym (ap (λ (x : Ref). x.name) its)) in
      ap snapshot_ref same ∙ its

  same_places : (s : Snapshot) → Has s es → (rs : List Ref) → ((r : Ref) → Has r rs → Has r s.parents) → places_by (λ name. place_from 0 name es) rs ≡ places_among es rs
  same_places s h [] sub = refl
  same_places s h (r ∷ rs) sub =
      λ i. option_to_list (place_is es r (one_reference s h r (sub r (inl refl))) i) ++ same_places s h rs (λ q k. sub q (inr k)) i

  pub same_node : (s : Snapshot) → Has s es → node_by (λ name. place_from 0 name es) s ≡ as_node es s
  same_node s h = λ i. record { own = s.own; parents = same_places s h s.parents (λ r k. k) i; rank = s.rank; fingerprint = s.fingerprint }

  same_nodes : (ss : List Snapshot) → ((s : Snapshot) → Has s ss → Has s es) → map (node_by (λ name. place_from 0 name es)) ss ≡ map (as_node es) ss
  same_nodes [] sub = refl
  same_nodes (s ∷ ss) sub = λ i. same_node s (sub s (inl refl)) i ∷ same_nodes ss (λ t h. sub t (inr h)) i

  pub nodes_are : (place : Name → Option ℕ) → ((name : Name) → place name ≡ place_from 0 name es) → map (node_by place) es ≡ listed all list
  nodes_are place is = ap (λ (f : Name → Option ℕ). map (node_by f) es) (λ i name. is name i) ∙ same_nodes es (λ s h. h)
