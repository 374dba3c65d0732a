-- A world stays well kept along the changes of a sweep.
use Rattle.std.proofs.Common.{◌≡◌, ℤ, ◌≤ℤ◌, Bool, true, false, cond, not, ◌⊎◌, inl, inr, List, [], ◌∷◌, ◌++◌, map, Some, None, refl, ap, ◌∙◌, subst}
use Rattle.std.specs.Int.Signed.{lt_z}
use Rattle.std.specs.List.{flat_map}
use Rattle.std.proofs.lemmas.Map.Lookups.{exact_bytes}
use Rattle.mesh_list.specs.Keyed.{found}
use Rattle.mesh_list.proofs.Each.{each_found}
use Rattle.mesh_base_values.specs.Names.{name_cmp, text_cmp}
use Rattle.mesh_base_values.specs.NameOrder.{names_exact, names_total, texts_total}
use Rattle.mesh_base_values.specs.declared.values.Name.{Name}
use Rattle.mesh_base.specs.Keys.{env_name, ref_cmp, snapshot_ref}
use Rattle.mesh_base.specs.declared.snapshots.Env.{Env}
use Rattle.mesh_base.specs.declared.snapshots.Snapshot.{Snapshot}
use Rattle.mesh_time.proofs.Apart.{lt_not}
use Rattle.mesh_house_book.specs.Changes.{version_object}
use Rattle.mesh_house_book.specs.WellFormed.{is_moment, is_well_formed_book}
use Rattle.mesh_house_book.specs.declared.book.Book.{Book}
use Rattle.mesh_house_book.specs.declared.versions.Version.{Version}
use Rattle.mesh_house_book.proofs.Exchanged.{found_key}
use Rattle.mesh_spec_model.specs.Horizons.{Clock, Shows}
use Rattle.mesh_law_query.proofs.Has.{Has, Has_filter_from, Has_from, Has_to}
use Rattle.mesh_spec_changes.specs.listed.Closing.{IsSnapshot}
use Rattle.mesh_house.specs.Objects.{is_physical, object_name}
use Rattle.mesh_house.specs.Step.{step, with_book}
use Rattle.mesh_house.specs.World.{object_at, version_of}
use Rattle.mesh_house.specs.declared.world.Change.TheVariants.{DeleteSnapshot, DropObject, ForgetVersion, Moment}
use Rattle.mesh_house.specs.declared.world.World.{World}
use Rattle.mesh_spec_changes.specs.due.Parts.{Parts, either}
use Rattle.mesh_spec_changes.specs.Commands.{is_not_behind}
use Rattle.mesh_spec_changes.specs.Environments.{IsEnv, is_over}
use Rattle.mesh_spec_changes.specs.Kept.{gone_snapshots, gone_tables, is_kept, is_table_kept, leaving, removes, sweeps}
use Rattle.mesh_janitor.proofs.janitor.Goes.{gone_exactly}
use Rattle.mesh_spec_promise.specs.Histories.{left}
use Rattle.mesh_spec_promise.specs.Moved.{moved}
use Rattle.mesh_spec_promise.specs.Sound.{Sound}
use Rattle.mesh_spec_promise.proofs.Ends.{found_contained}
use Rattle.mesh_spec_promise.proofs.Moments.{moment_raised}
use Rattle.mesh_law_changes.proofs.Envs.{envs_rise}
use Rattle.mesh_law_changes.proofs.Recorded.{versions_rise}
use Rattle.mesh_law_changes.proofs.SnapshotGone.{by_recursion}
use Rattle.mesh_law_steps.proofs.again.Lists.{all_without}
use Rattle.mesh_law_changes.specs.along.Along.{StaysAlong}
use Rattle.mesh_law_changes.proofs.along.Along.{along_kept}
use Rattle.mesh_law_steps.proofs.sweep.Kept.{its, not_leaving, version_goes}
use Rattle.mesh_law_steps.proofs.sweep.Leaving.{envs_along}
use Rattle.mesh_law_steps.proofs.sweep.Lists.{AreApart, filter_apart, found_left, found_none}
use Rattle.mesh_law_steps.proofs.sweep.Loading.{either_first}
use Rattle.mesh_law_steps.proofs.sweep.Snapshots.{IsLeft, gone_down, snapshots_along}
use Rattle.mesh_law_steps.proofs.sweep.Tables.{IsBare, IsForgotten, objects_along, versions_along}
use Rattle.mesh_law_steps.proofs.sweep.Walks.{along_turn, envs_removed, objects_dropped, versions_forgotten, without_envs}

-- after the moment is raised
module _ (x : Parts) (w : World) (sound : Sound x w) (t : ℤ) where
  abbrev b : Book
  b = w.book

  well : is_well_formed_book b ≡ true
  well = sound.book.well_formed

  abbrev begun : World
  begun = step w (Moment t)

  abbrev gone : List Name
  gone = gone_tables b t

  abbrev over : List Env
  over = leaving t b.environments

  -- the world, one kind of change after another
  abbrev bare : World
  bare = without_envs over begun

  abbrev forgotten : World
  forgotten = with_book bare (record bare.book { versions = all_without name_cmp version_object gone b.versions })

  abbrev dropped : World
  dropped = record forgotten { objects = all_without name_cmp object_name gone w.objects }

  over_known : (e : Env) → Has e over → IsEnv begun.book e
  over_known e h =
      let c = Has_to b.environments e (Has_filter_from (λ (f : Env). is_over t f.expires) b.environments e h).0 in
      by_recursion (λ (f : Env). IsEnv b f) b.environments e (each_found text_cmp texts_total env_name b.environments (envs_rise x w sound)) c

  over_apart : AreApart text_cmp env_name over
  over_apart = filter_apart text_cmp texts_total env_name (λ (f : Env). is_over t f.expires) b.environments (envs_rise x w sound)

  is_bare : IsBare b well t bare
  is_bare = record {
    snapshots = refl;
    envs = λ e known.
        let a = found_left text_cmp texts_total exact_bytes env_name (map env_name over) b.environments e.name e (envs_rise x w sound) known in
        not_leaving b well t e a.0 a.1;
  }

  -- a version that isn't forgotten is that of a table that stays
  version_stays : (n : Name) (v : Version) → version_of forgotten.book n ≡ Some v → is_table_kept b t n ≡ true
  version_stays n v at = go (is_table_kept b t n) refl
    where
      a : (version_of b n ≡ Some v) × (Has n gone → ⊥)
      a = found_left name_cmp names_total names_exact version_object gone b.versions n v (versions_rise b well) at

      go : (c : Bool) → is_table_kept b t n ≡ c → c ≡ true
      go true e = refl
      go false e =
          let here : Has v b.versions = Has_from b.versions v (found_contained name_cmp version_object n v b.versions a.0) in
          let same : v.object ≡ n = found_key name_cmp version_object names_exact n v b.versions a.0 in
          absurd (a.1 (subst (λ (m : Name). Has m gone) same (version_goes b well t v here (ap (is_table_kept b t) same ∙ e))))

  is_forgotten : IsForgotten b well t forgotten
  is_forgotten = record { snapshots = refl; versions = version_stays; alone = sound.book.alone }

  no_version : (n : Name) → Has n gone → version_of dropped.book n ≡ None
  no_version n h = found_none name_cmp names_total names_exact version_object gone b.versions n (versions_rise b well) h

  no_object : (n : Name) → Has n gone → object_at dropped n ≡ None
  no_object n h = go (is_physical n) (found_none name_cmp names_total names_exact object_name gone w.objects n sound.typed.objects h)
    where
      go : (c : Bool) → found name_cmp object_name n dropped.objects ≡ None → cond c (found name_cmp object_name n dropped.objects) None ≡ None
      go true none = none
      go false none = refl

  gone_known : (s : Snapshot) → Has s (gone_snapshots b t) → IsSnapshot b.snapshots s × (is_kept b t s ≡ false)
  gone_known s h = let a = (gone_exactly b t well s).0 (Has_to (gone_snapshots b t) s h) in (its b well t s (Has_from b.snapshots s a.0), a.1)

  is_left : IsLeft b well t (gone_snapshots b t) dropped
  is_left = record {
    known = λ s known. (known, by_test s known (is_kept b t s) refl);
    kept = λ s known stays. known;
    envs = is_bare.envs;
    versions = no_version;
    objects = no_object;
  }
    where
      by_test : (s : Snapshot) → IsSnapshot b.snapshots s → (c : Bool) → is_kept b t s ≡ c → (is_kept b t s ≡ true) ⊎ Has s (gone_snapshots b t)
      by_test s known true e = inl e
      by_test s known false e = inr (Has_from (gone_snapshots b t) s ((gone_exactly b t well s).1 (found_contained ref_cmp snapshot_ref (snapshot_ref s) s b.snapshots known, e)))

  -- the changes that follow the moment
  pub rest_along : (y : Parts) → Sound y begun
      → StaysAlong y begun (flat_map removes over ++ (map (λ n. ForgetVersion n) gone ++ (map (λ n. DropObject n) gone ++ map (λ (s : Snapshot). DeleteSnapshot s.name s.fingerprint) (gone_snapshots b t))))
  rest_along y start =
      along_turn y begun bare (flat_map removes over) _ (envs_along y begun start over over_known over_apart) (envs_removed over begun)
      (λ sound_bare.
      along_turn _ bare forgotten (map (λ n. ForgetVersion n) gone) _ (versions_along b well t _ bare sound_bare is_bare gone (λ n h. h)) (versions_forgotten gone bare)
      (λ sound_forgotten.
      along_turn _ forgotten dropped (map (λ n. DropObject n) gone) _ (objects_along b well t _ forgotten sound_forgotten is_forgotten gone (λ n h. h)) (objects_dropped gone forgotten)
      (λ sound_dropped. snapshots_along b well t _ dropped sound_dropped (gone_snapshots b t) is_left (gone_down b t) gone_known)))

not_behind : (t : ℤ) (b : Book) → is_not_behind t b ≡ true → b.moment ≤ℤ t
not_behind t b h = lt_not t b.moment (go (lt_z t b.moment) h)
  where
    go : (c : Bool) → not c ≡ true → c ≡ false
    go true e = absurd (let clash : false ≡ true = e in cc)
    go false e = refl

pub sweep_along : (x : Parts) (w : World) (t : ℤ) (before after : Clock) → Sound x w → is_not_behind t w.book ≡ true → is_moment t ≡ true → Shows before w.book.moment → Shows after t
    → StaysAlong (either x (moved w before after w.sources)) w (sweeps w.book t)
sweep_along x w t before after sound ahead real was is =
    let y : Parts = either x (moved w before after w.sources) in
    let raised = along_kept y w (Moment t) (either_first x (moved w before after w.sources) w sound) (moment_raised x w sound t (not_behind t w.book ahead) real before after was is) (λ q. refl) in
    (raised.0, rest_along x w sound t (left (Moment t ∷ []) y) raised.1)
