-- The models of a run are apart and ranked, and stand in the book.
use Rattle.std.proofs.Common.{◌≡◌, ℕ, suc, Bool, true, false, cond, inl, inr, List, [], ◌∷◌, ◌++◌, map, Some, None, refl, sym, ◌∙◌, ap, subst}
use Rattle.std.specs.Cmp.{Equal-is}
use Rattle.std.specs.List.{AllByRecursion, flat_map, list_all, slice_get}
use Rattle.std.specs.Option.{is_some, option_map, option_to_list}
use Rattle.std.specs.Ordering.{is_eq}
use Rattle.std.specs.declared.option.Option.{Option}
use Rattle.std.proofs.lemmas.Cmp.{tied_itself}
use Rattle.std.proofs.lemmas.List.Elements.{All-contains}
use Rattle.std.proofs.lemmas.Map.Lookups.{exact_bytes}
use Rattle.mesh_list.specs.Keyed.{first_at, found}
use Rattle.mesh_base_values.specs.Names.{name_cmp, text_cmp}
use Rattle.mesh_base.specs.Keys.{env_name, ref_cmp, ref_itself, ref_name, refs_exact, refs_total, snapshot_ref}
use Rattle.mesh_base.specs.declared.snapshots.Env.{Env}
use Rattle.mesh_base.specs.declared.snapshots.Node.{Node}
use Rattle.mesh_base.specs.declared.snapshots.Ref.{Ref}
use Rattle.mesh_base.specs.declared.snapshots.Snapshot.{Snapshot}
use Rattle.mesh_base.specs.rules.Proper.{is_proper}
use Rattle.mesh_house_book.specs.Changes.{version_object}
use Rattle.mesh_house_book.specs.declared.versions.Version.{Version}
use Rattle.mesh_house_book.specs.WellFormed.{has_parents, is_listed, is_well_formed_book, parents_at, snapshot_at}
use Rattle.mesh_house_book.proofs.Exchanged.{found_key}
use Rattle.mesh_spec_model.specs.Horizons.{Clock}
use Rattle.mesh_law_query.proofs.Finding.{get_map, one_passes}
use Rattle.mesh_law_query.proofs.Has.{Has, Has_from, Has_map, Has_map_from, Has_to}
use Rattle.mesh_house.specs.World.{version_of}
use Rattle.mesh_house.specs.declared.world.World.{World}
use Rattle.mesh_spec_changes.specs.listed.Closing.{IsSnapshot}
use Rattle.mesh_spec_changes.specs.listed.Listed.{as_node, entries, is_list_fit, listed, places_among}
use Rattle.mesh_spec_changes.proofs.listed.Books.{fits, is_its_own, its_ref}
use Rattle.mesh_spec_changes.proofs.listed.Entries.{entry_of, env_lists_fit, is_entry, with_parents}
use Rattle.mesh_spec_changes.proofs.listed.Projects.{project_is_proper}
use Rattle.mesh_spec_changes.specs.due.Parts.{Parts}
use Rattle.mesh_spec_changes.specs.due.Plans.{Planned}
use Rattle.mesh_spec_changes.specs.due.Versions.{node_ref}
use Rattle.mesh_spec_changes.specs.Changes.{Plan, parents_in, planned_ref}
use Rattle.mesh_spec_changes.specs.Environments.{IsEnv, env_at}
use Rattle.mesh_spec_changes.specs.Planning.{IsKept, IsRunPlan}
use Rattle.mesh_spec_promise.specs.Sound.{IsObjectMade, Sound}
use Rattle.mesh_law_changes.specs.along.Ready.{AreApart, AreRanked, ArePut, IsPlaced, put_version}
use Rattle.mesh_law_steps.proofs.opens.Lists.{all_of, found_has, of_all, placed_in}
use Rattle.mesh_law_steps.proofs.opens.Ranked.{models_apart, models_ranked}

-- where a snapshot of a reference stands among some, one of it is found at a place
abbrev IsFoundAt : List Snapshot → Ref → Type 0
IsFoundAt xs r = (i : ℕ) × (first_at ref_cmp snapshot_ref r xs ≡ Some i) × (s : Snapshot) × (slice_get xs i ≡ Some s) × (snapshot_ref s ≡ r)

found_at : (xs : List Snapshot) (r : Ref) (q : Snapshot) → Has q xs → snapshot_ref q ≡ r → IsFoundAt xs r
found_at [] r q h is = absurd h
found_at (x ∷ xs) r q h is = go (is_eq (ref_cmp (snapshot_ref x) r)) refl h (λ k. found_at xs r q k is)
  where
    go : (b : Bool) → is_eq (ref_cmp (snapshot_ref x) r) ≡ b → Has q (x ∷ xs) → (Has q xs → IsFoundAt xs r)
        → (i : ℕ) × (cond b (Some 0) (option_map suc (first_at ref_cmp snapshot_ref r xs)) ≡ Some i) × (s : Snapshot) × (slice_get (x ∷ xs) i ≡ Some s) × (snapshot_ref s ≡ r)
    go true e k more = (0, refl, x, refl, refs_exact (snapshot_ref x) r ((Equal-is (ref_cmp (snapshot_ref x) r)).0 e))
    go false e (inl same) more =
        let tied : is_eq (ref_cmp (snapshot_ref x) r) ≡ true = ap (λ (k : Ref). is_eq (ref_cmp k r)) (ap snapshot_ref same ∙ is) ∙ ap is_eq (tied_itself refs_total r) in
        let clash : true ≡ false = sym tied ∙ e in
        absurd (cc)
    go false e (inr k) more = let (i, first, s, at, its) = more k in (suc i, ap (option_map suc) first, s, at, its)

listed_is : (rs : List Ref) (r : Ref) → is_listed rs r ≡ true → Has r rs
listed_is rs r h = go (found ref_cmp ref_itself r rs) refl h
  where
    go : (o : Option Ref) → found ref_cmp ref_itself r rs ≡ o → is_some o ≡ true → Has r rs
    go None e k = absurd (let clash : false ≡ true = k in cc)
    go (Some s) e k = subst (λ (t : Ref). Has t rs) (found_key ref_cmp ref_itself refs_exact r s rs e) (found_has ref_cmp ref_itself r s rs e)

abbrev node : Planned → Node
node p = p.node

module _ (clock : Clock) (x : Parts) (w : World) (plan : Plan) (sound : Sound x w) (is : IsRunPlan clock w.book plan) where
  abbrev all : List Snapshot
  all = w.book.snapshots

  abbrev models : List Planned
  models = plan.models

  abbrev list : List Ref
  list = is.env.list

  abbrev es : List Snapshot
  es = entries all list

  well : is_well_formed_book w.book ≡ true
  well = sound.book.well_formed

  fit : is_list_fit all list ≡ true
  fit =
      All-contains (λ (e : Env). is_list_fit all e.list ≡ true) w.book.environments is.env (env_lists_fit w.book well)
      (Has_to w.book.environments is.env (found_has text_cmp env_name plan.env is.env w.book.environments is.known))

  its_env : IsEnv w.book is.env
  its_env = ap (env_at w.book) (found_key text_cmp env_name exact_bytes plan.env is.env w.book.environments is.known) ∙ is.known

  proper : is_proper (listed all list) ≡ true
  proper = project_is_proper w.book list well fit

  kept : (p : Planned) → Has p models → IsKept w.book p
  kept p k = of_all (IsKept w.book) models is.models p k

  kept_name : (p : Planned) (k : Has p models) → (kept p k).snapshot.name ≡ p.node.own.name
  kept_name p k = ap ref_name (its_ref all (node_ref p.node) (kept p k).snapshot (kept p k).known)

  one_name : (p q : Planned) → Has p models → Has q models → p.object ≡ q.object → p.node.own.name ≡ q.node.own.name
  one_name p q k l same =
      let s : Snapshot = (kept p k).snapshot in
      let t : Snapshot = (kept q l).snapshot in
      let s_known : IsSnapshot all s = is_its_own all (node_ref p.node) s (kept p k).known in
      let t_known : IsSnapshot all t = is_its_own all (node_ref q.node) t (kept q l).known in
      sym (kept_name p k) ∙ (sound.book.shared s t s_known t_known ((kept p k).object ∙ same ∙ sym (kept q l).object)).0 ∙ kept_name q l

  -- a model is that of an entry of the list
  entry_ref : (s : Snapshot) → Has s es → node_ref (as_node es s) ≡ snapshot_ref s
  entry_ref s h = let name : s.own.name ≡ s.name = (fits w.book s well (is_entry all list fit s h).1).name in λ i. record { name = name i; fingerprint = s.fingerprint }

  entry_kept : (p : Planned) (k : Has p models) → Has (kept p k).snapshot es × (as_node es (kept p k).snapshot ≡ p.node)
  entry_kept p k =
      let (s, h, as_its) = Has_map_from (as_node es) es p.node (subst (Has p.node) is.nodes (Has_map node models p p.node k refl)) in
      let refs : snapshot_ref s ≡ node_ref p.node = sym (entry_ref s h) ∙ ap node_ref as_its in
      let both : Some s ≡ Some (kept p k).snapshot = sym (is_entry all list fit s h).1 ∙ ap (snapshot_at all) refs ∙ (kept p k).known in
      let same : s ≡ (kept p k).snapshot = cc in
      (subst (λ (t : Snapshot). Has t es) same h, ap (as_node es) (sym same) ∙ as_its)

  -- the model at an entry's place
  model_at : (i : ℕ) (q : Snapshot) → slice_get es i ≡ Some q → (m : Planned) × (slice_get models i ≡ Some m) × (m.node ≡ as_node es q)
  model_at i q e = go (slice_get models i) refl (sym (get_map node models i) ∙ ap (λ (l : List Node). slice_get l i) is.nodes ∙ get_map (as_node es) es i ∙ ap (option_map (as_node es)) e)
    where
      go : (o : Option Planned) → slice_get models i ≡ o → option_map node o ≡ Some (as_node es q) → (m : Planned) × (slice_get models i ≡ Some m) × (m.node ≡ as_node es q)
      go None e f = absurd (let clash : None ≡ Some (as_node es q) = f in cc)
      go (Some m) e f = (m, e, (let same : m.node ≡ as_node es q = cc in same))

  -- a list has an entry's parents
  parent_entry : (s : Snapshot) → Has s es → (r : Ref) → Has r s.parents → (q : Snapshot) × Has q es × (snapshot_ref q ≡ r)
  parent_entry s h r k =
      let (its, own) = is_entry all list fit s h in
      let p = (fits w.book s well own).parents r k in
      let its_parents : has_parents all list (snapshot_ref s) ≡ true = one_passes (has_parents all list) list (snapshot_ref s) (with_parents all list fit) its in
      let theirs : list_all (is_listed list) s.parents ≡ true = ap (λ (o : Option Snapshot). list_all (is_listed list) (parents_at o)) (sym own) ∙ its_parents in
      let there : Has r list = listed_is list r (one_passes (is_listed list) s.parents r theirs k) in
      (p.snapshot, entry_of all list fit r p.snapshot there p.known, its_ref all r p.snapshot p.known)

  abbrev at_places : List ℕ → List Planned
  at_places js = flat_map (λ i. option_to_list (slice_get models i)) js

  refs_back : (refs : List Ref) → ((r : Ref) → Has r refs → (q : Snapshot) × Has q es × (snapshot_ref q ≡ r)) → map planned_ref (at_places (places_among es refs)) ≡ refs
  refs_back [] f = refl
  refs_back (r ∷ rs) f =
      let (q, h, its) = f r (inl refl) in
      let (i, first, s, at, ref) = found_at es r q h its in
      let (m, there, node_is) = model_at i s at in
      let s_in : Has s es = Has_from es s (placed_in es i s at) in
      let named : planned_ref m ≡ r = ap node_ref node_is ∙ entry_ref s s_in ∙ ref in
      ap (λ (o : Option ℕ). map planned_ref (at_places (option_to_list o ++ places_among es rs))) first
      ∙ ap (λ (o : Option Planned). map planned_ref (option_to_list o ++ at_places (places_among es rs))) there
      ∙ (λ j. named j ∷ refs_back rs (λ t k. f t (inr k)) j)

  its_parents : (p : Planned) (k : Has p models) → (kept p k).snapshot.parents ≡ map planned_ref (parents_in models p)
  its_parents p k =
      let (h, as_its) = entry_kept p k in
      sym (refs_back (kept p k).snapshot.parents (parent_entry (kept p k).snapshot h)) ∙ ap (λ (n : Node). map planned_ref (at_places n.parents)) as_its

  placed : (p : Planned) → Has p models → IsPlaced models all p
  placed p k = record {
    snapshot = (kept p k).snapshot;
    known = (kept p k).known;
    own = (kept p k).own;
    parents = its_parents p k;
    rank = (kept p k).rank;
    object = (kept p k).object;
    closure = (kept p k).closure;
  }

  -- each object of the list is recorded
  recorded : (p : Planned) → Has p models → (v : Version) × (version_of w.book p.object ≡ Some v)
  recorded p k =
      let s : Snapshot = (kept p k).snapshot in
      let (its, own) = is_entry all list fit s (entry_kept p k).0 in
      let made : IsObjectMade w.book s = sound.views.entries is.env its_env (snapshot_ref s) (inl (Has_to list (snapshot_ref s) its)) s own in
      (made.0, ap (version_of w.book) (sym (kept p k).object) ∙ made.1)

  put : (after : World) → after.book.snapshots ≡ w.book.snapshots → after.book.versions ≡ w.book.versions → after.book.environments ≡ w.book.environments → ArePut w.book models after
  put after snapshots versions environments = record {
    placed = subst (λ (ss : List Snapshot). AllByRecursion (IsPlaced models ss) models) (sym snapshots) (all_of (IsPlaced models all) models placed);
    versions = λ p k. its p (Has_from models p k);
    environments = environments;
  }
    where
      its : (p : Planned) → Has p models → version_of after.book p.object ≡ Some (put_version (version_of w.book p.object) p.object)
      its p k =
          let (v, at) = recorded p k in
          ap (found name_cmp version_object p.object) versions ∙ at ∙ sym (ap (λ (o : Option Version). Some (put_version o p.object)) at)

pub run_placed : (clock : Clock) (x : Parts) (w : World) (plan : Plan) → Sound x w → IsRunPlan clock w.book plan
    → AreApart plan.models × AreRanked plan.models [] plan.models
    × ((w' : World) → w'.book.snapshots ≡ w.book.snapshots → w'.book.versions ≡ w.book.versions → w'.book.environments ≡ w.book.environments → ArePut w.book plan.models w')
run_placed clock x w plan sound is = (
  models_apart (listed w.book.snapshots is.env.list) (proper clock x w plan sound is) plan.models is.nodes (one_name clock x w plan sound is),
  models_ranked (listed w.book.snapshots is.env.list) (proper clock x w plan sound is) plan.models is.nodes,
  put clock x w plan sound is,
)
