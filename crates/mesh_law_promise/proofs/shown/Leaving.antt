-- What no change of a sweep touches: the sources, the objects of the snapshots that stay, and a view of an
-- environment that stays.
use Rattle.std.proofs.Common.{◌≡◌, ℤ, Bool, true, false, cond, ◌⊎◌, inl, inr, List, [], ◌∷◌, ◌++◌, map, Some, None, refl, sym, ◌∙◌, ap, subst}
use Rattle.std.specs.Cmp.{Equal-is}
use Rattle.std.specs.List.{flat_map}
use Rattle.std.specs.Ordering.{is_eq}
use Rattle.std.specs.declared.option.Option.{Option}
use Rattle.std.proofs.lemmas.Bool.{false_from_ne_true as not_true}
use Rattle.mesh_list.specs.Keyed.{ascends, found}
use Rattle.mesh_list.proofs.Ascends.{and_left, and_right}
use Rattle.mesh_list.proofs.Each.{each_found}
use Rattle.mesh_list.proofs.Standing.{ascends-without}
use Rattle.mesh_base_values.specs.NameOrder.{names_exact, names_total, texts_total}
use Rattle.mesh_base_values.specs.Names.{name_cmp, text_cmp}
use Rattle.mesh_base_values.specs.declared.values.Name.{Name}
use Rattle.mesh_base.specs.Keys.{env_name, ref_name}
use Rattle.mesh_base.specs.declared.snapshots.Env.{Env}
use Rattle.mesh_base.specs.declared.snapshots.Ref.{Ref}
use Rattle.mesh_base.specs.declared.snapshots.Snapshot.{Snapshot}
use Rattle.mesh_base.specs.rules.Proper.{is_plain_schema}
use Rattle.mesh_house_book.specs.WellFormed.{are_kept, is_kept, snapshot_at}
use Rattle.mesh_house_book.specs.declared.book.Book.{Book}
use Rattle.mesh_law_query.proofs.Finding.{one_passes}
use Rattle.mesh_law_query.proofs.Has.{Has, Has_cases, Has_filter_from, Has_flat_from, Has_from, Has_left, Has_map_from, Has_right, Has_to}
use Rattle.mesh_spec_changes.proofs.listed.Books.{kept_at}
use Rattle.mesh_house.specs.Objects.{is_physical, object_name}
use Rattle.mesh_house.specs.Step.{run, step}
use Rattle.mesh_house.specs.World.{object_at, target_of, view, view_name}
use Rattle.mesh_house.specs.declared.objects.Object.{Object}
use Rattle.mesh_house.specs.declared.world.Change.{Change}
use Rattle.mesh_house.specs.declared.world.Change.TheVariants.{DeleteEnv, DeleteSnapshot, DropObject, DropView, ForgetVersion, Moment, SetPending}
use Rattle.mesh_house.specs.declared.world.World.{World}
use Rattle.mesh_spec_changes.specs.due.Parts.{Parts}
use Rattle.mesh_spec_changes.specs.Environments.{IsEnv, is_over, view_in}
use Rattle.mesh_spec_changes.specs.Kept.{both_lists, gone_snapshots, gone_tables, leaving, removes, sweeps}
use Rattle.mesh_spec_promise.specs.Sound.{IsEntry, Sound}
use Rattle.mesh_spec_promise.proofs.Fits.{plain_ref}
use Rattle.mesh_spec_promise.proofs.ViewNames.{view_names}
use Rattle.mesh_law_changes.proofs.EnvLaws.{is_old, own_of_old}
use Rattle.mesh_law_changes.proofs.Envs.{envs_rise}
use Rattle.mesh_law_changes.proofs.Rising.{found-without}
use Rattle.mesh_law_changes.proofs.SnapshotGone.{by_recursion}
use Rattle.mesh_law_steps.proofs.again.Names.{from_order}
use Rattle.mesh_law_steps.proofs.sweep.Walks.{its_names}

-- another key is none of these
other_key : (k q : Name) → (k ≡ q → ⊥) → is_eq (name_cmp k q) ≡ false
other_key k q other = not_true (is_eq (name_cmp k q)) (λ e. other (names_exact k q ((Equal-is (name_cmp k q)).0 e)))

module _ (x : Parts) (w : World) (sound : Sound x w) where
  -- each entry of an environment is a snapshot of the book
  pub entry_there : (e : Env) → IsEnv w.book e → (r : Ref) → Has r (both_lists e) → (s : Snapshot) × (snapshot_at w.book.snapshots r ≡ Some s)
  entry_there e known r h = go (Has_cases r e.list e.previous h)
    where
      list_kept : are_kept w.book.snapshots e.list ≡ true
      list_kept = and_left (are_kept w.book.snapshots e.list) _ (own_of_old x w sound e known)

      previous_kept : are_kept w.book.snapshots e.previous ≡ true
      previous_kept = and_left (are_kept w.book.snapshots e.previous) _ (and_right (are_kept w.book.snapshots e.list) _ (own_of_old x w sound e known))

      go : Has r e.list ⊎ Has r e.previous → (s : Snapshot) × (snapshot_at w.book.snapshots r ≡ Some s)
      go (inl k) = kept_at w.book.snapshots r (one_passes (is_kept w.book.snapshots) e.list r list_kept k)
      go (inr k) = kept_at w.book.snapshots r (one_passes (is_kept w.book.snapshots) e.previous r previous_kept k)

  pub entry_plain : (e : Env) → IsEnv w.book e → (r : Ref) → Has r (both_lists e) → is_plain_schema r.name.schema ≡ true
  entry_plain e known r h = let (s, at) = entry_there e known r h in plain_ref w.book r s sound.book.well_formed at

  pub entry_among : (e : Env) (r : Ref) → IsEntry e r → Has r (both_lists e)
  entry_among e r (inl k) = Has_left r e.list e.previous (Has_from e.list r k)
  entry_among e r (inr k) = Has_right r e.list e.previous (Has_from e.previous r k)

  env_own : (e : Env) → Has e w.book.environments → IsEnv w.book e
  env_own e h = by_recursion (λ (f : Env). IsEnv w.book f) w.book.environments e (each_found text_cmp texts_total env_name w.book.environments (envs_rise x w sound)) (Has_to w.book.environments e h)

  module _ (t : ℤ) (e : Env) (known : IsEnv w.book e) (stays : is_over t e.expires ≡ false) (r : Ref) (entry : IsEntry e r) where
    abbrev b : Book
    b = w.book

    -- the view
    abbrev pub shown : Name
    shown = view_in e.name r.name

    -- the view of an environment that goes is another one
    view_other : (f : Env) → Has f (leaving t b.environments) → (n : Name) → Has n (its_names f) → view_in f.name n ≡ shown → ⊥
    view_other f h n k same =
        let (there, over) = Has_filter_from (λ (g : Env). is_over t g.expires) b.environments f h in
        let its : IsEnv b f = env_own f there in
        let (q, j, named) = Has_map_from ref_name (both_lists f) n (from_order (map ref_name (both_lists f)) n k) in
        let plain : is_plain_schema n.schema ≡ true = ap (λ (m : Name). is_plain_schema m.schema) (sym named) ∙ entry_plain f its q j in
        let envs = view_names f.name e.name n r.name plain (entry_plain e known r (entry_among e r entry)) same in
        let one : f ≡ e = is_old x w sound e known f its envs.0 in
        let clash : true ≡ false = sym over ∙ ap (λ (g : Env). is_over t g.expires) one ∙ stays in
        cc

    -- what a change of the sweep may be
    abbrev IsHarmless : Change → Type 0
    IsHarmless (Moment t) = Unit {0}
    IsHarmless (SetPending env list expires) = Unit {0}
    IsHarmless (DropView view) = view ≡ shown → ⊥
    IsHarmless (DeleteEnv env) = Unit {0}
    IsHarmless (ForgetVersion object) = Unit {0}
    IsHarmless (DropObject object) = Has object (gone_tables b t)
    IsHarmless (DeleteSnapshot name fingerprint) = Unit {0}
    IsHarmless other = ⊥

    abbrev drops : Env → List Change
    drops f = map (λ n. DropView (view_in f.name n)) (its_names f)

    removes_harmless : (f : Env) → Has f (leaving t b.environments) → (c : Change) → Has c (removes f) → IsHarmless c
    removes_harmless f h c (inl is) = subst IsHarmless is tt
    removes_harmless f h c (inr k) = go (Has_cases c (drops f) (DeleteEnv f.name ∷ []) k)
      where
        go : Has c (drops f) ⊎ Has c (DeleteEnv f.name ∷ []) → IsHarmless c
        go (inl i) = let (n, j, is) = Has_map_from (λ n. DropView (view_in f.name n)) (its_names f) c i in subst IsHarmless is (view_other f h n j)
        go (inr (inl is)) = subst IsHarmless is tt
        go (inr (inr i)) = absurd i

    abbrev snapshots_go : List Change
    snapshots_go = map (λ (s : Snapshot). DeleteSnapshot s.name s.fingerprint) (gone_snapshots b t)

    abbrev objects_go : List Change
    objects_go = map (λ n. DropObject n) (gone_tables b t)

    abbrev versions_go : List Change
    versions_go = map (λ n. ForgetVersion n) (gone_tables b t)

    tables_harmless : (c : Change) → Has c (versions_go ++ (objects_go ++ snapshots_go)) → IsHarmless c
    tables_harmless c h = versions (Has_cases c versions_go (objects_go ++ snapshots_go) h)
      where
        objects : Has c objects_go ⊎ Has c snapshots_go → IsHarmless c
        objects (inl i) = let (n, j, is) = Has_map_from (λ n. DropObject n) (gone_tables b t) c i in subst IsHarmless is j
        objects (inr i) = let (s, j, is) = Has_map_from (λ (s : Snapshot). DeleteSnapshot s.name s.fingerprint) (gone_snapshots b t) c i in subst IsHarmless is tt

        versions : Has c versions_go ⊎ Has c (objects_go ++ snapshots_go) → IsHarmless c
        versions (inl i) = let (n, j, is) = Has_map_from (λ n. ForgetVersion n) (gone_tables b t) c i in subst IsHarmless is tt
        versions (inr i) = objects (Has_cases c objects_go snapshots_go i)

    sweep_harmless : (c : Change) → Has c (sweeps b t) → IsHarmless c
    sweep_harmless c (inl is) = subst IsHarmless is tt
    sweep_harmless c (inr k) = go (Has_cases c (flat_map removes (leaving t b.environments)) (versions_go ++ (objects_go ++ snapshots_go)) k)
      where
        go : Has c (flat_map removes (leaving t b.environments)) ⊎ Has c (versions_go ++ (objects_go ++ snapshots_go)) → IsHarmless c
        go (inl i) = let (f, j, l) = Has_flat_from removes (leaving t b.environments) c i in removes_harmless f j c l
        go (inr i) = tables_harmless c i

    -- what is as it was
    pub record IsSpared (v : World) : Type 0 where
      pub sources : v.sources ≡ w.sources
      pub view_is : view v shown ≡ view w shown
      pub object_is : (n : Name) → (Has n (gone_tables b t) → ⊥) → object_at v n ≡ object_at w n
      pub views_up : ascends name_cmp view_name v.views ≡ true
      pub objects_up : ascends name_cmp object_name v.objects ≡ true

    view_spared : (v : World) → IsSpared v → (n : Name) → (n ≡ shown → ⊥) → IsSpared (step v (DropView n))
    view_spared v spared n other = record {
      sources = spared.sources;
      view_is =
          ap target_of (found-without name_cmp names_total names_exact view_name n shown v.views spared.views_up
          ∙ ap (λ (c : Bool). cond c None (found name_cmp view_name shown v.views)) (other_key n shown other))
          ∙ spared.view_is;
      object_is = spared.object_is;
      views_up = ascends-without name_cmp names_total view_name n v.views spared.views_up;
      objects_up = spared.objects_up;
    }

    object_spared : (v : World) → IsSpared v → (n : Name) → Has n (gone_tables b t) → IsSpared (step v (DropObject n))
    object_spared v spared n gone = record {
      sources = spared.sources;
      view_is = spared.view_is;
      object_is = λ m other.
          ap (λ (o : Option Object). cond (is_physical m) o None)
          (found-without name_cmp names_total names_exact object_name n m v.objects spared.objects_up
          ∙ ap (λ (c : Bool). cond c None (found name_cmp object_name m v.objects)) (other_key n m (λ same. other (subst (λ (k : Name). Has k (gone_tables b t)) same gone))))
          ∙ spared.object_is m other;
      views_up = spared.views_up;
      objects_up = ascends-without name_cmp names_total object_name n v.objects spared.objects_up;
    }

    -- the book aside
    booked : (v : World) → IsSpared v → (c : Book) → IsSpared (record v { book = c })
    booked v spared c = record { sources = spared.sources; view_is = spared.view_is; object_is = spared.object_is; views_up = spared.views_up; objects_up = spared.objects_up }

    step_spared : (v : World) → IsSpared v → (c : Change) → IsHarmless c → IsSpared (step v c)
    step_spared v spared (Moment t) h = booked v spared (step v (Moment t)).book
    step_spared v spared (SetPending env list expires) h = booked v spared (step v (SetPending env list expires)).book
    step_spared v spared (DropView n) h = view_spared v spared n h
    step_spared v spared (DeleteEnv env) h = booked v spared (step v (DeleteEnv env)).book
    step_spared v spared (ForgetVersion object) h = booked v spared (step v (ForgetVersion object)).book
    step_spared v spared (DropObject n) h = object_spared v spared n h
    step_spared v spared (DeleteSnapshot name fingerprint) h = booked v spared (step v (DeleteSnapshot name fingerprint)).book
    step_spared v spared other h = absurd h

    run_spared : (v : World) → IsSpared v → (cs : List Change) → ((c : Change) → Has c cs → IsHarmless c) → IsSpared (run v cs)
    run_spared v spared [] h = spared
    run_spared v spared (c ∷ cs) h = run_spared (step v c) (step_spared v spared c (h c (inl refl))) cs (λ d k. h d (inr k))

    -- at every exit of the sweep
    pub exit_spared : (made rest : List Change) → sweeps b t ≡ made ++ rest → IsSpared (run w made)
    exit_spared made rest parts = run_spared w begun made (λ c h. sweep_harmless c (subst (Has c) (sym parts) (Has_left c made rest h)))
      where
        begun : IsSpared w
        begun = record { sources = refl; view_is = refl; object_is = λ n other. refl; views_up = sound.typed.views; objects_up = sound.typed.objects }
