-- The list of an environment is that of the models of its run.
use Rattle.std.proofs.Common.{◌≡◌, true, inl, inr, List, [], ◌∷◌, refl, sym, ap, ◌∙◌, subst}
use Rattle.std.specs.Cmp.{IsTotalOrder}
use Rattle.std.specs.declared.cmp.Ordering.{Ordering}
use Rattle.std.specs.declared.cmp.Ordering.TheVariants.{Less, Equal}
use Rattle.std.proofs.lemmas.Cmp.{tied_itself}
use Rattle.std.proofs.lemmas.Map.Lookups.{exact_bytes}
use Rattle.mesh_list.specs.Keyed.{ascends, below_first}
use Rattle.mesh_list.proofs.Ascends.{and_left, and_right}
use Rattle.mesh_base_values.specs.Names.{name_cmp, text_cmp}
use Rattle.mesh_base_values.specs.NameOrder.{names_total}
use Rattle.mesh_base.specs.Keys.{env_name, ref_name, snapshot_ref}
use Rattle.mesh_base.specs.declared.snapshots.Env.{Env}
use Rattle.mesh_base.specs.declared.snapshots.Ref.{Ref}
use Rattle.mesh_base.specs.declared.snapshots.Snapshot.{Snapshot}
use Rattle.mesh_house_book.proofs.Exchanged.{found_key}
use Rattle.mesh_house_book.specs.WellFormed.{are_kept, have_parents, is_kept, is_well_formed_book}
use Rattle.mesh_house_book.specs.declared.book.Book.{Book}
use Rattle.mesh_spec_model.specs.Horizons.{Clock}
use Rattle.mesh_law_query.proofs.Finding.{one_passes}
use Rattle.mesh_law_query.proofs.Has.{Has, Has_map, Has_map_from}
use Rattle.mesh_law_query.proofs.Lists.{each}
use Rattle.mesh_spec_changes.specs.listed.Listed.{as_node, entries, is_list_fit, listed}
use Rattle.mesh_spec_changes.proofs.listed.Books.{fits, its_ref, kept_at}
use Rattle.mesh_spec_changes.proofs.listed.Entries.{entry_of, env_lists_fit, is_entry}
use Rattle.mesh_spec_changes.proofs.listed.Lists.{below_each}
use Rattle.mesh_spec_changes.proofs.listed.Projects.{project_is_proper}
use Rattle.mesh_spec_changes.specs.due.Plans.{Planned}
use Rattle.mesh_spec_changes.specs.due.Versions.{node_ref}
use Rattle.mesh_spec_changes.specs.Changes.{Plan, planned_ref, refs_by_name}
use Rattle.mesh_spec_changes.specs.Planning.{IsRunPlan}
use Rattle.mesh_spec_promise.proofs.Ends.{found_contained}
use Rattle.mesh_spec_promise.proofs.Views.{each_holds}
use Rattle.mesh_law_promise.proofs.Names.{HaveNames, proper_names, refs_ascend, refs_from, refs_to}

-- two ascending lists of the same items are one
module _ {A K : Type 0} (R : K → K → Ordering) (total : IsTotalOrder R) (key : A → K) where
  never : (k : K) → R k k ≡ Less → ⊥
  never k e = let tied = tied_itself total k in absurd (let clash : Less ≡ Equal = sym e ∙ tied in cc)

  not_both : (j k : K) → R j k ≡ Less → R k j ≡ Less → ⊥
  not_both j k e f = never j (total.trans j k j e f)

  later : (x : A) (xs : List A) → ascends R key (x ∷ xs) ≡ true → (y : A) → Has y xs → R (key x) (key y) ≡ Less
  later x xs up y h = below_each R total key (key x) xs (and_left _ _ up) (and_right (below_first R key (key x) xs) _ up) y h

  heads : (x y : A) (xs ys : List A) → ascends R key (x ∷ xs) ≡ true → ascends R key (y ∷ ys) ≡ true → Has x (y ∷ ys) → Has y (x ∷ xs) → x ≡ y
  heads x y xs ys up vp (inl e) h = sym e
  heads x y xs ys up vp (inr i) (inl e) = e
  heads x y xs ys up vp (inr i) (inr j) = absurd (not_both (key y) (key x) (later y ys vp x i) (later x xs up y j))

  tails : (x y : A) (xs ys : List A) → x ≡ y → ascends R key (x ∷ xs) ≡ true → (z : A) → Has z xs → Has z (y ∷ ys) → Has z ys
  tails x y xs ys same up z i (inl e) = absurd (never (key x) (ap (λ (a : A). R (key x) (key a)) (same ∙ e) ∙ later x xs up z i))
  tails x y xs ys same up z i (inr j) = j

  pub one_ascending : (xs ys : List A) → ascends R key xs ≡ true → ascends R key ys ≡ true → ((z : A) → Has z xs → Has z ys) → ((z : A) → Has z ys → Has z xs) → xs ≡ ys
  one_ascending [] [] up vp f g = refl
  one_ascending [] (y ∷ ys) up vp f g = absurd (g y (inl refl))
  one_ascending (x ∷ xs) [] up vp f g = absurd (f x (inl refl))
  one_ascending (x ∷ xs) (y ∷ ys) up vp f g =
      let first : x ≡ y = heads x y xs ys up vp (f x (inl refl)) (g y (inl refl)) in
      let rest : xs ≡ ys = one_ascending xs ys (and_right (below_first R key (key x) xs) _ up) (and_right (below_first R key (key y) ys) _ vp)
      (λ z i. tails x y xs ys first up z i (f z (inr i))) (λ z i. tails y x ys xs (sym first) vp z i (g z (inr i))) in
      λ i. first i ∷ rest i

module _ (clock : Clock) (b : Book) (plan : Plan) (well : is_well_formed_book b ≡ true) (asked : IsRunPlan clock b plan) where
  abbrev list : List Ref
  list = asked.env.list

  abbrev all : List Snapshot
  all = b.snapshots

  abbrev es : List Snapshot
  es = entries all list

  fit : is_list_fit all list ≡ true
  fit =
      each_holds (λ (e : Env). is_list_fit all e.list ≡ true) b.environments (each (λ (e : Env). is_list_fit all e.list ≡ true) b.environments (env_lists_fit b well)) asked.env
      (found_contained text_cmp env_name plan.env asked.env b.environments asked.known)

  pub env_named : asked.env.name ≡ plan.env
  env_named = found_key text_cmp env_name exact_bytes plan.env asked.env b.environments asked.known

  pub run_names : HaveNames plan.models
  run_names = proper_names (listed all list) plan.models asked.nodes (project_is_proper b list well fit)

  list_ascends : ascends name_cmp ref_name list ≡ true
  list_ascends = and_left (ascends name_cmp ref_name list) (have_parents all list list) (and_right _ _ (and_right (are_kept all list) _ fit))

  -- an entry's node is called as its snapshot is
  entry_ref : (s : Snapshot) → Has s es → node_ref (as_node es s) ≡ snapshot_ref s
  entry_ref s h = let name : s.own.name ≡ s.name = (fits b s well (is_entry all list fit s h).1).name in λ i. record { name = name i; fingerprint = s.fingerprint }

  into : (r : Ref) → Has r list → Has r (refs_by_name plan.models)
  into r h =
      let (s, at) = kept_at all r (one_passes (is_kept all) list r (and_left (are_kept all list) _ fit) h) in
      let entry : Has s es = entry_of all list fit r s h at in
      let (p, i, e) = Has_map_from (λ (q : Planned). q.node) plan.models (as_node es s) (subst (Has (as_node es s)) (sym asked.nodes) (Has_map (as_node es) es s (as_node es s) entry refl)) in
      let called : planned_ref p ≡ r = ap node_ref e ∙ entry_ref s entry ∙ its_ref all r s at in
      subst (λ (q : Ref). Has q (refs_by_name plan.models)) called (refs_to plan.models run_names p i)

  from : (r : Ref) → Has r (refs_by_name plan.models) → Has r list
  from r h =
      let (p, i, e) = refs_from plan.models r h in
      let (s, k, f) = Has_map_from (as_node es) es p.node (subst (Has p.node) asked.nodes (Has_map (λ (q : Planned). q.node) plan.models p p.node i refl)) in
      let called : snapshot_ref s ≡ r = sym (entry_ref s k) ∙ ap node_ref f ∙ e in
      subst (λ (q : Ref). Has q list) called (is_entry all list fit s k).0

  pub list_is : asked.env.list ≡ refs_by_name plan.models
  list_is = one_ascending name_cmp names_total ref_name list (refs_by_name plan.models) list_ascends (refs_ascend plan.models) into from
