-- A world stays well kept where an environment expires, is finalized or goes.
use Rattle.std.proofs.Common.{◌≡◌, ℕ, Bool, true, false, cond, inl, inr, List, Some, None, refl, sym, ◌∙◌, ap, subst, arith}
use Rattle.std.specs.Option.{ForSome}
use Rattle.std.specs.declared.option.Option.{Option}
use Rattle.std.specs.List.{Contains, list_all}
use Rattle.std.specs.Ordering.{is_eq}
use Rattle.std.proofs.lemmas.Map.Lookups.{exact_bytes}
use Rattle.std.proofs.lemmas.Bool.{and_from as and_both}
use Rattle.mesh_list.specs.Keyed.{ascends, without, exchanged}
use Rattle.mesh_list.proofs.Ascends.{and_left, and_right}
use Rattle.mesh_list.proofs.Standing.{ascends-exchanged, ascends-without}
use Rattle.mesh_base_values.specs.Names.{text_cmp}
use Rattle.mesh_base_values.specs.NameOrder.{texts_total}
use Rattle.mesh_base_values.specs.declared.values.Name.{Name}
use Rattle.mesh_base.specs.Keys.{env_name}
use Rattle.mesh_base.specs.declared.snapshots.Env.{Env}
use Rattle.mesh_base.specs.declared.snapshots.Ref.{Ref}
use Rattle.mesh_base.specs.declared.snapshots.Snapshot.{Snapshot}
use Rattle.mesh_house_book.specs.Changes.{as_expired, as_final, at_env}
use Rattle.mesh_house_book.specs.WellFormed.{are_kept, is_kept, snapshot_at}
use Rattle.mesh_house_book.proofs.Exchanged.{found_key}
use Rattle.mesh_spec_changes.proofs.listed.Books.{kept_at}
use Rattle.mesh_house.specs.declared.world.World.{World}
use Rattle.mesh_house.specs.declared.world.Change.TheVariants.{DeleteEnv, Expire, Finalize}
use Rattle.mesh_house.specs.Step.{step, with_book}
use Rattle.mesh_house.specs.World.{view}
use Rattle.mesh_house.proofs.Tested.{all-exchanged, all-without}
use Rattle.mesh_spec_changes.specs.due.Parts.{Parts}
use Rattle.mesh_spec_changes.specs.Environments.{IsEnv, env_at, view_in}
use Rattle.mesh_spec_promise.specs.Sound.{Sound, IsEntry, IsViewOf, IsObjectMade, AreViewsSound}
use Rattle.mesh_spec_promise.proofs.Found.{found-exchanged}
use Rattle.mesh_law_changes.proofs.Envs.{env_own, env_put, envs_changed, envs_keep, envs_rise, env_is, with_envs}
use Rattle.mesh_law_changes.proofs.Rising.{found_passes, found-without, item_passes}

module _ (x : Parts) (w : World) (sound : Sound x w) where
  module _ (old : Env) (known : IsEnv w.book old) where
    pub own_of_old : env_own w.book.snapshots old ≡ true
    own_of_old = found_passes text_cmp env_name (env_own w.book.snapshots) old.name old w.book.environments (envs_keep x w sound) known

    -- an environment of that name is this one
    pub is_old : (e : Env) → IsEnv w.book e → e.name ≡ old.name → e ≡ old
    is_old e k same = let both : Some e ≡ Some old = sym k ∙ ap (env_at w.book) same ∙ known in cc

    list_kept : are_kept w.book.snapshots old.list ≡ true
    list_kept = and_left (are_kept w.book.snapshots old.list) _ own_of_old

    pub listed_snapshot : (r : Ref) → Contains old.list r → (s : Snapshot) × (snapshot_at w.book.snapshots r ≡ Some s)
    listed_snapshot r k = kept_at w.book.snapshots r (item_passes (is_kept w.book.snapshots) old.list r list_kept k)

    -- this environment instead
    abbrev instead : Env → List Env
    instead e = exchanged text_cmp env_name e w.book.environments

    module _ (e : Env) (named : e.name ≡ old.name) (own : env_own w.book.snapshots e ≡ true) where
      pub instead_rise : ascends text_cmp env_name (instead e) ≡ true
      instead_rise = ascends-exchanged text_cmp texts_total env_name e w.book.environments (envs_rise x w sound)

      pub instead_keep : list_all (env_own w.book.snapshots) (instead e) ≡ true
      instead_keep = all-exchanged text_cmp env_name (env_own w.book.snapshots) e own w.book.environments (envs_keep x w sound)

      pub instead_found : (name : List ℕ) → env_at (with_envs x w sound (instead e)).book name ≡ cond (is_eq (text_cmp e.name name)) (Some e) (env_at w.book name)
      instead_found name = found-exchanged text_cmp exact_bytes env_name e name old w.book.environments (ap (env_at w.book) named ∙ known)

    abbrev expired : Env
    expired = as_expired old

    expired_sound : Sound x (with_envs x w sound (instead expired))
    expired_sound =
        let v = sound.views in
        env_put x w sound expired (instead expired) (instead_rise expired refl own_of_old) (instead_keep expired refl own_of_old) (instead_found expired refl own_of_old)
        (λ name target at i same.
        let is = is_old i.env i.known same in
        (i.entry, i.snapshot, subst (λ (e : Env). IsEntry e i.entry) is i.of, i.is, i.view ∙ ap (λ (e : Env). view_in e.name i.entry.name) is, i.object))
        (v.entries old known) (v.parents old known) (v.previous old known) (v.final old known)

    -- finalized, where it has the views of its list and no others
    module _ (shown : (r : Ref) → Contains old.list r → (s : Snapshot) → snapshot_at w.book.snapshots r ≡ Some s → view w (view_in old.name r.name) ≡ Some s.object)
        (gone : (r : Ref) → Contains old.previous r → (t : Name) → view w (view_in old.name r.name) ≡ Some t → (q : Ref) × Contains old.list q × (q.name ≡ r.name)) where
      abbrev ended : Env
      ended = as_final old

      ended_own : env_own w.book.snapshots ended ≡ true
      ended_own =
          let rest = and_right (are_kept w.book.snapshots old.list) _ own_of_old in
          and_both _ _ list_kept (and_both _ _ refl (and_right (are_kept w.book.snapshots old.previous) _ rest))

      ended_keeps : (name target : Name) → view w name ≡ Some target → (i : IsViewOf w name target) → i.env.name ≡ old.name → (r : Ref) × (s : Snapshot) × IsEntry ended r × (snapshot_at w.book.snapshots r ≡ Some s) × (name ≡ view_in old.name r.name) × (target ≡ s.object)
      ended_keeps name target at i same =
          let is = is_old i.env i.known same in
          go (i.view ∙ ap (λ (e : Env). view_in e.name i.entry.name) is) (subst (λ (e : Env). IsEntry e i.entry) is i.of)
        where
          go : name ≡ view_in old.name i.entry.name → IsEntry old i.entry → (r : Ref) × (s : Snapshot) × IsEntry ended r × (snapshot_at w.book.snapshots r ≡ Some s) × (name ≡ view_in old.name r.name) × (target ≡ s.object)
          go named (inl k) = (i.entry, i.snapshot, inl k, i.is, named, i.object)
          go named (inr k) =
              let q = gone i.entry k target (ap (view w) (sym named) ∙ at) in
              let s = listed_snapshot q.0 q.1 in
              let here : name ≡ view_in old.name q.0.name = named ∙ ap (view_in old.name) (sym q.2) in
              let object : target ≡ s.0.object = let both : Some target ≡ Some s.0.object = sym at ∙ ap (view w) here ∙ shown q.0 q.1 s.0 s.1 in cc in
              (q.0, s.0, inl q.1, s.1, here, object)

      ended_entries : (r : Ref) → IsEntry ended r → ForSome (snapshot_at w.book.snapshots r) (IsObjectMade w.book)
      ended_entries r (inl k) = sound.views.entries old known r (inl k)
      ended_entries r (inr k) = absurd (omega (arith, k.1))

      pub env_finalized : Sound x (step w (Finalize old.name))
      env_finalized =
          subst (Sound x) (sym (ap (λ (o : Option Env). with_book w (at_env o as_final w.book)) known))
          (env_put x w sound ended (instead ended) (instead_rise ended refl ended_own) (instead_keep ended refl ended_own) (instead_found ended refl ended_own)
          ended_keeps ended_entries refl (λ f. refl) (λ f r k s at. shown r k s at))

    -- gone, where it has no view
    module _ (none : (r : Ref) → IsEntry old r → view w (view_in old.name r.name) ≡ None) where
      abbrev rest : List Env
      rest = without text_cmp env_name old.name w.book.environments

      rest_found : (name : List ℕ) → env_at (with_envs x w sound rest).book name ≡ cond (is_eq (text_cmp old.name name)) None (env_at w.book name)
      rest_found name = found-without text_cmp texts_total exact_bytes env_name old.name name w.book.environments (envs_rise x w sound)

      was_known : (e : Env) → IsEnv (with_envs x w sound rest).book e → IsEnv w.book e
      was_known e k = go (is_eq (text_cmp old.name e.name)) (sym (rest_found e.name) ∙ k)
        where
          go : (b : Bool) → cond b None (env_at w.book e.name) ≡ Some e → IsEnv w.book e
          go true h = absurd (let f : None ≡ Some e = h in cc)
          go false h = h

      view_stays : (name target : Name) → view w name ≡ Some target → IsViewOf w name target → IsViewOf (with_envs x w sound rest) name target
      view_stays name target at i = go (is_eq (text_cmp old.name i.env.name)) refl (rest_found i.env.name)
        where
          go : (b : Bool) → is_eq (text_cmp old.name i.env.name) ≡ b → env_at (with_envs x w sound rest).book i.env.name ≡ cond b None (env_at w.book i.env.name) → IsViewOf (with_envs x w sound rest) name target
          go true h k =
              let is = is_old i.env i.known (sym (env_is x w sound old.name i.env.name h)) in
              let named : name ≡ view_in old.name i.entry.name = i.view ∙ ap (λ (e : Env). view_in e.name i.entry.name) is in
              let nothing = none i.entry (subst (λ (e : Env). IsEntry e i.entry) is i.of) in
              absurd (let clash : Some target ≡ None = sym at ∙ ap (view w) named ∙ nothing in cc)
          go false h k = record { env = i.env; known = k ∙ i.known; entry = i.entry; of = i.of; snapshot = i.snapshot; is = i.is; view = i.view; object = i.object }

      views_left : AreViewsSound (with_envs x w sound rest)
      views_left =
          let v = sound.views in
          record {
            views = λ name target at. view_stays name target at (v.views name target at);
            entries = λ e k. v.entries e (was_known e k);
            parents = λ e k. v.parents e (was_known e k);
            previous = λ e k. v.previous e (was_known e k);
            final = λ e k. v.final e (was_known e k);
          }

      pub env_deleted : Sound x (step w (DeleteEnv old.name))
      env_deleted = envs_changed x w sound rest (ascends-without text_cmp texts_total env_name old.name w.book.environments (envs_rise x w sound)) (all-without text_cmp env_name (env_own w.book.snapshots) old.name w.book.environments (envs_keep x w sound)) views_left

  -- one that isn't known doesn't expire
  pub env_expired : (name : List ℕ) → Sound x (step w (Expire name))
  env_expired name = go (env_at w.book name) refl
    where
      go : (o : Option Env) → env_at w.book name ≡ o → Sound x (with_book w (at_env o as_expired w.book))
      go None e = sound
      go (Some old) e = expired_sound old (ap (env_at w.book) (found_key text_cmp env_name exact_bytes name old w.book.environments e) ∙ e)
