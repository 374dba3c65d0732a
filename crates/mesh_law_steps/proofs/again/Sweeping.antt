-- What the changes of a sweep do to a world.
use Rattle.std.proofs.Common.{◌≡◌, ℕ, ℤ, Bool, true, false, not, List, [], ◌∷◌, ◌++◌, map, refl, sym, ap, ◌∙◌}
use Rattle.std.specs.Prelude.{◌||◌, ◌&&◌}
use Rattle.std.specs.List.{filter, flat_map, list_any}
use Rattle.std.specs.Ordering.{is_eq}
use Rattle.std.specs.declared.cmp.Ordering.{Ordering}
use Rattle.std.specs.declared.option.Option.{Option}
use Rattle.std.specs.declared.option.Option.TheVariants.{None, Some}
use Rattle.std.proofs.lemmas.Map.Lookups.{exact_bytes}
use Rattle.std.proofs.lemmas.Bool.{not-false as not_not, not-true as not_is, and_from as and_both}
use Rattle.mesh_list.specs.Keyed.{ascends, below_first, without}
use Rattle.mesh_list.proofs.Ascends.{and_left, and_right}
use Rattle.mesh_base_values.specs.Names.{name_cmp, text_cmp}
use Rattle.mesh_base_values.specs.NameOrder.{names_exact, names_total, texts_total}
use Rattle.mesh_base_values.specs.declared.values.Name.{Name}
use Rattle.mesh_base_values.proofs.Equals.{eq_turned as flip_eq}
use Rattle.mesh_base.specs.Keys.{env_name, ref_cmp, ref_name, refs_exact, refs_total, snapshot_ref}
use Rattle.mesh_base.specs.declared.snapshots.Env.{Env}
use Rattle.mesh_base.specs.declared.snapshots.Snapshot.{Snapshot}
use Rattle.mesh_base.specs.rules.Proper.{is_among}
use Rattle.mesh_house_book.specs.Changes.{previous_of, raise_moment, version_object}
use Rattle.mesh_house_book.specs.WellFormed.{all_fit, is_above, is_env_fit, is_moment, is_snapshot_fit, is_version, is_well_formed_book}
use Rattle.mesh_house_book.specs.declared.book.Book.{Book}
use Rattle.mesh_house_book.specs.declared.versions.Version.{Version}
use Rattle.mesh_law_query.proofs.Has.{Has, Has_filter, Has_filter_from, Has_from, Has_map, Has_map_from, Has_right, Has_to}
use Rattle.mesh_spec_changes.proofs.listed.Lists.{one_of_key}
use Rattle.mesh_house.specs.Objects.{object_name}
use Rattle.mesh_house.specs.Step.{run, step, with_book}
use Rattle.mesh_house.specs.World.{view_name}
use Rattle.mesh_house.specs.declared.objects.Object.{Object}
use Rattle.mesh_house.specs.declared.world.Change.{Change}
use Rattle.mesh_house.specs.declared.world.Change.TheVariants.{DeleteEnv, DeleteSnapshot, DropObject, DropView, ForgetVersion, SetPending}
use Rattle.mesh_house.specs.declared.world.ViewOf.{ViewOf}
use Rattle.mesh_house.specs.declared.world.World.{World}
use Rattle.mesh_house.proofs.Runs.{run-append}
use Rattle.mesh_spec_changes.specs.Changes.{names_by_order}
use Rattle.mesh_spec_changes.specs.Environments.{env_at, is_over, view_in}
use Rattle.mesh_spec_changes.specs.Kept.{both_lists, gone_snapshots, gone_tables, is_kept, is_table_kept, leaving, removes, staying, sweeps, tables}
use Rattle.mesh_janitor.proofs.janitor.Books.{snapshots_ascend}
use Rattle.mesh_janitor.proofs.janitor.Goes.{gone_exactly}
use Rattle.mesh_spec_promise.specs.Sound.{IsTyped}
use Rattle.mesh_law_steps.specs.again.Swept.{gone_views, swept, views_of}
use Rattle.mesh_law_steps.proofs.again.Lists.{all_without, all_without_is, filter_as, has_key, left_are, put_gone, without_more}
use Rattle.mesh_law_steps.proofs.again.Names.{in_order}

versions_forgotten : (ns : List Name) (w : World) → run w (map (λ n. ForgetVersion n) ns) ≡ with_book w (record w.book { versions = all_without name_cmp version_object ns w.book.versions })
versions_forgotten [] w = refl
versions_forgotten (n ∷ ns) w = versions_forgotten ns (step w (ForgetVersion n))

objects_dropped : (ns : List Name) (w : World) → run w (map (λ n. DropObject n) ns) ≡ record w { objects = all_without name_cmp object_name ns w.objects }
objects_dropped [] w = refl
objects_dropped (n ∷ ns) w = objects_dropped ns (step w (DropObject n))

snapshots_deleted : (ss : List Snapshot) (w : World) → run w (map (λ (s : Snapshot). DeleteSnapshot s.name s.fingerprint) ss) ≡ with_book w (record w.book { snapshots = all_without ref_cmp snapshot_ref (map snapshot_ref ss) w.book.snapshots })
snapshots_deleted [] w = refl
snapshots_deleted (s ∷ ss) w = snapshots_deleted ss (step w (DeleteSnapshot s.name s.fingerprint))

views_dropped : (env : List ℕ) (ns : List Name) (w : World) → run w (map (λ n. DropView (view_in env n)) ns) ≡ record w { views = all_without name_cmp view_name (map (view_in env) ns) w.views }
views_dropped env [] w = refl
views_dropped env (n ∷ ns) w = views_dropped env ns (step w (DropView (view_in env n)))

-- an environment goes
abbrev without_env : Env → World → World
without_env e w = record w {
  views = all_without name_cmp view_name (views_of e) w.views;
  book = record w.book { environments = without text_cmp env_name e.name w.book.environments };
}

removed : (e : Env) (w : World) → run w (removes e) ≡ without_env e w
removed e w =
    run-append (step w (SetPending e.name [] e.expires)) (map (λ n. DropView (view_in e.name n)) (names_by_order (map ref_name (both_lists e)))) (DeleteEnv e.name ∷ [])
    ∙ ap (λ (v : World). step v (DeleteEnv e.name)) (views_dropped e.name (names_by_order (map ref_name (both_lists e))) (step w (SetPending e.name [] e.expires)))
    ∙ ap (λ (l : List Env). record w { views = all_without name_cmp view_name (views_of e) w.views; book = record w.book { environments = l } })
    (put_gone text_cmp texts_total env_name (record { name = e.name; pending = true; list = []; previous = previous_of (env_at w.book e.name); expires = e.expires }) w.book.environments)

abbrev without_envs : List Env → World → World
without_envs es w = record w {
  views = all_without name_cmp view_name (flat_map views_of es) w.views;
  book = record w.book { environments = all_without text_cmp env_name (map env_name es) w.book.environments };
}

removed_all : (es : List Env) (w : World) → run w (flat_map removes es) ≡ without_envs es w
removed_all [] w = refl
removed_all (e ∷ es) w =
    run-append w (removes e) (flat_map removes es)
    ∙ ap (λ (v : World). run v (flat_map removes es)) (removed e w)
    ∙ removed_all es (without_env e w)
    ∙ ap (λ (l : List ViewOf). record w { views = l; book = record w.book { environments = all_without text_cmp env_name (map env_name (e ∷ es)) w.book.environments } })
    (without_more name_cmp view_name (views_of e) (flat_map views_of es) w.views)

-- four parts, one after another
in_turn : (a b c d : List Change) (u v x y z : World) → run u a ≡ v → run v b ≡ x → run x c ≡ y → run y d ≡ z → run u (a ++ (b ++ (c ++ d))) ≡ z
in_turn a b c d u v x y z p q r s =
    run-append u a (b ++ (c ++ d)) ∙ ap (λ (w : World). run w (b ++ (c ++ d))) p
    ∙ run-append v b (c ++ d) ∙ ap (λ (w : World). run w (c ++ d)) q
    ∙ run-append x c d ∙ ap (λ (w : World). run w d) r ∙ s

-- the lists of a well-formed book rise
rising : {A K : Type 0} (R : K → K → Ordering) (key : A → K) (rule : Option A → A → Bool) → ((o : Option A) (x : A) → rule o x ≡ true → is_above R key o x ≡ true) → (before : Option A) (xs : List A) → all_fit rule before xs ≡ true → ascends R key xs ≡ true
rising R key rule above before [] ok = refl
rising R key rule above before (x ∷ []) ok = refl
rising R key rule above before (x ∷ y ∷ ys) ok =
    let rest = and_right (rule before x) (all_fit rule (Some x) (y ∷ ys)) ok in
    let fit = and_left (rule (Some x) y) (all_fit rule (Some y) ys) rest in
    and_both (below_first R key (key x) (y ∷ ys)) (ascends R key (y ∷ ys)) (above (Some x) y fit) (rising R key rule above (Some x) (y ∷ ys) rest)

turned : (ns : List Name) (n : Name) → list_any (λ k. is_eq (name_cmp n k)) ns ≡ is_among ns n
turned [] n = refl
turned (k ∷ ks) n = λ i. (ap is_eq (names_total.antisymm n k) ∙ flip_eq (name_cmp k n)) i || turned ks n i

module _ (w : World) (t : ℤ) (well : is_well_formed_book w.book ≡ true) where
  abbrev b : Book
  b = w.book

  parts : (all_fit (is_snapshot_fit b.version b.snapshots) None b.snapshots && (all_fit (is_above name_cmp version_object) None b.versions && all_fit (is_env_fit b.snapshots) None b.environments)) ≡ true
  parts = and_right (is_moment b.moment && is_version b.version) _ well

  later : (all_fit (is_above name_cmp version_object) None b.versions && all_fit (is_env_fit b.snapshots) None b.environments) ≡ true
  later = and_right (all_fit (is_snapshot_fit b.version b.snapshots) None b.snapshots) _ parts

  versions_ascend : ascends name_cmp version_object b.versions ≡ true
  versions_ascend = rising name_cmp version_object (is_above name_cmp version_object) (λ o x h. h) None b.versions (and_left (all_fit (is_above name_cmp version_object) None b.versions) _ later)

  envs_ascend : ascends text_cmp env_name b.environments ≡ true
  envs_ascend =
      rising text_cmp env_name (is_env_fit b.snapshots) (λ o x h. and_left (is_above text_cmp env_name o x) _ h) None b.environments
      (and_right (all_fit (is_above name_cmp version_object) None b.versions) (all_fit (is_env_fit b.snapshots) None b.environments) later)

  snapshots_left : all_without ref_cmp snapshot_ref (map snapshot_ref (gone_snapshots b t)) b.snapshots ≡ filter (is_kept b t) b.snapshots
  snapshots_left = left_are ref_cmp refs_total snapshot_ref refs_exact (map snapshot_ref (gone_snapshots b t)) b.snapshots (is_kept b t) up out inside
    where
      up : ascends ref_cmp snapshot_ref b.snapshots ≡ true
      up = snapshots_ascend b well

      out : (s : Snapshot) → Has s b.snapshots → is_kept b t s ≡ true → Has (snapshot_ref s) (map snapshot_ref (gone_snapshots b t)) → ⊥
      out s h kept k =
          let (u, i, e) = Has_map_from snapshot_ref (gone_snapshots b t) (snapshot_ref s) k in
          let (c, goes) = (gone_exactly b t well u).0 (Has_to (gone_snapshots b t) u i) in
          let same : u ≡ s = one_of_key ref_cmp refs_total snapshot_ref b.snapshots up u s (Has_from b.snapshots u c) h e in
          absurd (let clash : true ≡ false = sym kept ∙ ap (is_kept b t) (sym same) ∙ goes in cc)

      inside : (s : Snapshot) → Has s b.snapshots → is_kept b t s ≡ false → Has (snapshot_ref s) (map snapshot_ref (gone_snapshots b t))
      inside s h e = Has_map snapshot_ref (gone_snapshots b t) s (snapshot_ref s) (Has_from (gone_snapshots b t) s ((gone_exactly b t well s).1 (Has_to b.snapshots s h, e))) refl

  versions_left : all_without name_cmp version_object (gone_tables b t) b.versions ≡ filter (λ (v : Version). is_table_kept b t v.object) b.versions
  versions_left = left_are name_cmp names_total version_object names_exact (gone_tables b t) b.versions (λ (v : Version). is_table_kept b t v.object) versions_ascend out inside
    where
      out : (v : Version) → Has v b.versions → is_table_kept b t v.object ≡ true → Has v.object (gone_tables b t) → ⊥
      out v h kept k =
          let goes = (Has_filter_from (λ n. not (is_table_kept b t n)) (tables b) v.object k).1 in
          absurd (let clash : true ≡ false = sym kept ∙ not_is (is_table_kept b t v.object) goes in cc)

      inside : (v : Version) → Has v b.versions → is_table_kept b t v.object ≡ false → Has v.object (gone_tables b t)
      inside v h e =
          let named = Has_right v.object (map (λ (s : Snapshot). s.object) b.snapshots) (map (λ (u : Version). u.object) b.versions) (Has_map (λ (u : Version). u.object) b.versions v v.object h refl) in
          Has_filter (λ n. not (is_table_kept b t n)) (tables b) v.object (in_order (map (λ (s : Snapshot). s.object) b.snapshots ++ map (λ (u : Version). u.object) b.versions) v.object named) (ap not e)

  envs_left : all_without text_cmp env_name (map env_name (leaving t b.environments)) b.environments ≡ staying t b.environments
  envs_left = left_are text_cmp texts_total env_name exact_bytes (map env_name (leaving t b.environments)) b.environments (λ (e : Env). not (is_over t e.expires)) envs_ascend out inside
    where
      out : (e : Env) → Has e b.environments → not (is_over t e.expires) ≡ true → Has e.name (map env_name (leaving t b.environments)) → ⊥
      out e h stays k =
          let (u, i, q) = Has_map_from env_name (leaving t b.environments) e.name k in
          let (c, goes) = Has_filter_from (λ (f : Env). is_over t f.expires) b.environments u i in
          let same : u ≡ e = one_of_key text_cmp texts_total env_name b.environments envs_ascend u e c h q in
          absurd (let clash : true ≡ false = sym goes ∙ ap (λ (f : Env). is_over t f.expires) same ∙ not_is (is_over t e.expires) stays in cc)

      inside : (e : Env) → Has e b.environments → not (is_over t e.expires) ≡ false → Has e.name (map env_name (leaving t b.environments))
      inside e h goes = Has_map env_name (leaving t b.environments) e e.name (Has_filter (λ (f : Env). is_over t f.expires) b.environments e h (not_not (is_over t e.expires) goes)) refl

  module _ (typed : IsTyped w) where
    objects_left : all_without name_cmp object_name (gone_tables b t) w.objects ≡ filter (λ (o : Object). not (is_among (gone_tables b t) o.name)) w.objects
    objects_left =
        all_without_is name_cmp names_total object_name names_exact (gone_tables b t) w.objects typed.objects
        ∙ filter_as (λ o. not (has_key name_cmp object_name (gone_tables b t) o)) (λ (o : Object). not (is_among (gone_tables b t) o.name)) w.objects (λ o h. ap not (turned (gone_tables b t) o.name))

    views_left : all_without name_cmp view_name (gone_views b t) w.views ≡ filter (λ (v : ViewOf). not (is_among (gone_views b t) v.view)) w.views
    views_left =
        all_without_is name_cmp names_total view_name names_exact (gone_views b t) w.views typed.views
        ∙ filter_as (λ v. not (has_key name_cmp view_name (gone_views b t) v)) (λ (v : ViewOf). not (is_among (gone_views b t) v.view)) w.views (λ v h. ap not (turned (gone_views b t) v.view))

    abbrev begun : World
    begun = with_book w (raise_moment b t)

    pub sweeping : run w (sweeps b t) ≡ swept w t
    sweeping =
        in_turn (flat_map removes (leaving t b.environments)) (map (λ n. ForgetVersion n) (gone_tables b t)) (map (λ n. DropObject n) (gone_tables b t)) (map (λ (s : Snapshot). DeleteSnapshot s.name s.fingerprint) (gone_snapshots b t))
        begun _ _ _ _
        (removed_all (leaving t b.environments) begun)
        (versions_forgotten (gone_tables b t) (without_envs (leaving t b.environments) begun))
        (objects_dropped (gone_tables b t) _)
        (snapshots_deleted (gone_snapshots b t) _)
        ∙ (λ i. record w {
          objects = objects_left i;
          views = views_left i;
          book = record (raise_moment b t) {
            snapshots = snapshots_left i;
            versions = versions_left i;
            environments = envs_left i;
          };
        })
