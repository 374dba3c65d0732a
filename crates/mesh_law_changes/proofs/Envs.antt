-- A world stays well kept where an environment of its book changes or goes.
use Rattle.std.proofs.Common.{◌≡◌, ℕ, Bool, true, false, cond, ◌&&◌, nat_le, List, [], length, Some, None, refl, sym, ◌∙◌, ap, subst}
use Rattle.std.specs.Option.{ForSome}
use Rattle.std.specs.Cmp.{Equal-is}
use Rattle.std.specs.List.{Contains, list_all}
use Rattle.std.specs.Ordering.{is_eq}
use Rattle.std.proofs.lemmas.Cmp.{tied_itself}
use Rattle.std.proofs.lemmas.Map.Lookups.{exact_bytes}
use Rattle.std.proofs.lemmas.Bool.{and_from as and_both}
use Rattle.mesh_list.specs.Keyed.{ascends}
use Rattle.mesh_list.proofs.Ascends.{and_left, and_right}
use Rattle.mesh_base_values.specs.Names.{name_cmp, text_cmp}
use Rattle.mesh_base_values.specs.NameOrder.{texts_total}
use Rattle.mesh_base_values.specs.declared.values.Name.{Name}
use Rattle.mesh_base_values.specs.declared.kinds.Kind.{Kind}
use Rattle.mesh_base_values.specs.declared.kinds.Kind.TheVariants.{Full, View, Seed, Incremental}
use Rattle.mesh_base.specs.Keys.{env_name, ref_name}
use Rattle.mesh_base.specs.declared.snapshots.Env.{Env}
use Rattle.mesh_base.specs.declared.snapshots.Ref.{Ref}
use Rattle.mesh_base.specs.declared.snapshots.Snapshot.{Snapshot}
use Rattle.mesh_house_book.specs.Changes.{version_object}
use Rattle.mesh_house_book.specs.declared.versions.Version.{Version}
use Rattle.mesh_house_book.specs.WellFormed.{all_fit, are_kept, have_parents, is_above, is_env_fit, is_moment, is_snapshot_fit, is_version, snapshot_at}
use Rattle.mesh_spec_model.specs.Horizons.{Clock}
use Rattle.mesh_house.specs.declared.world.World.{World}
use Rattle.mesh_house.specs.World.{view}
use Rattle.mesh_spec_changes.specs.due.Parts.{Parts}
use Rattle.mesh_spec_changes.specs.Environments.{IsEnv, env_at, view_in}
use Rattle.mesh_spec_promise.specs.Sound.{Sound, Uses, IsEntry, IsViewOf, IsObjectMade, IsTyped, IsBookSound, IsTableSound, AreObjectsSound, AreViewsSound}
use Rattle.mesh_law_changes.proofs.Rising.{rises, each_keeps, all_keep}

-- what an environment keeps by itself
abbrev pub env_own : List Snapshot → Env → Bool
env_own all e = are_kept all e.list && (are_kept all e.previous && (nat_le (length e.list) 4096 && (ascends name_cmp ref_name e.list && have_parents all e.list e.list)))

module _ (x : Parts) (w : World) (sound : Sound x w) where
  abbrev pub with_envs : List Env → World
  with_envs envs = record w { book = record w.book { environments = envs } }

  envs_fit : all_fit (is_env_fit w.book.snapshots) None w.book.environments ≡ true
  envs_fit =
      let one = and_right (is_moment w.book.moment && is_version w.book.version) _ sound.book.well_formed in
      let two = and_right (all_fit (is_snapshot_fit w.book.version w.book.snapshots) None w.book.snapshots) _ one in
      and_right (all_fit (is_above name_cmp version_object) None w.book.versions) _ two

  pub envs_rise : ascends text_cmp env_name w.book.environments ≡ true
  envs_rise = rises text_cmp env_name (env_own w.book.snapshots) (is_env_fit w.book.snapshots) (λ b e. refl) w.book.environments envs_fit

  pub envs_keep : list_all (env_own w.book.snapshots) w.book.environments ≡ true
  envs_keep = each_keeps text_cmp env_name (env_own w.book.snapshots) (is_env_fit w.book.snapshots) (λ b e. refl) w.book.environments envs_fit

  module _ (envs : List Env) (up : ascends text_cmp env_name envs ≡ true) (each : list_all (env_own w.book.snapshots) envs ≡ true) (views : AreViewsSound (with_envs envs)) where
    abbrev after : World
    after = with_envs envs

    uses_after : (name : Name) → Uses w.book name → Uses after.book name
    uses_after name u = record { snapshot = u.snapshot; kept = u.kept; uses = u.uses }

    typed_after : IsTyped after
    typed_after = let t = sound.typed in record { sources = t.sources; plain = t.plain; objects = t.objects; physical = t.physical; views = t.views; ranges = t.ranges; crons = t.crons }

    book_after : IsBookSound after.book
    book_after =
        let b = sound.book in
        let front = and_left (is_moment w.book.moment && is_version w.book.version) _ b.well_formed in
        let one = and_right (is_moment w.book.moment && is_version w.book.version) _ b.well_formed in
        let snapshots = and_left (all_fit (is_snapshot_fit w.book.version w.book.snapshots) None w.book.snapshots) _ one in
        let two = and_right (all_fit (is_snapshot_fit w.book.version w.book.snapshots) None w.book.snapshots) _ one in
        let versions = and_left (all_fit (is_above name_cmp version_object) None w.book.versions) _ two in
        record {
          well_formed = and_both _ _ front (and_both _ _ snapshots (and_both _ _ versions (all_keep text_cmp env_name (env_own w.book.snapshots) (is_env_fit w.book.snapshots) (λ b e. refl) envs up each)));
          names = b.names;
          versions = λ name v at. uses_after name (b.versions name v at);
          ranges = b.ranges;
          marks = b.marks;
          shared = b.shared;
          alone = b.alone;
        }

    table_after : (clock : Clock) (s : Snapshot) (v : Version) (kind : Kind) → IsTableSound clock x w s v kind → IsTableSound clock x after s v kind
    table_after clock s v (Incremental time lookback) h = h
    table_after clock s v Full h = h
    table_after clock s v Seed h = h
    table_after clock s v View h = tt

    objects_after : AreObjectsSound after
    objects_after =
        let o = sound.objects in
        record {
          named = λ name object at. uses_after name (o.named name object at);
          bodies = o.bodies;
          made = λ s known v at m. let i = o.made s known v at m in record { object = i.object; stands = i.stands; columns = i.columns; targets = i.targets };
        }

    pub envs_changed : Sound x after
    envs_changed = record {
      typed = typed_after;
      book = book_after;
      tables = λ clock now s known v at. table_after clock s v s.own.kind (sound.tables clock now s known v at);
      objects = objects_after;
      views = views;
    }

  pub same_env : (n : List ℕ) → is_eq (text_cmp n n) ≡ true
  same_env n = (Equal-is (text_cmp n n)).1 (tied_itself texts_total n)

  pub env_is : (m n : List ℕ) → is_eq (text_cmp m n) ≡ true → m ≡ n
  env_is m n h = exact_bytes m n ((Equal-is (text_cmp m n)).0 h)

  -- an environment is there as this one, instead of the one of its name or beside the others
  module _ (e : Env) (envs : List Env) (up : ascends text_cmp env_name envs ≡ true) (each : list_all (env_own w.book.snapshots) envs ≡ true)
      (found_after : (name : List ℕ) → env_at (with_envs envs).book name ≡ cond (is_eq (text_cmp e.name name)) (Some e) (env_at w.book name))
      (keeps : (name target : Name) → view w name ≡ Some target → (v : IsViewOf w name target) → v.env.name ≡ e.name → (r : Ref) × (s : Snapshot) × IsEntry e r × (snapshot_at w.book.snapshots r ≡ Some s) × (name ≡ view_in e.name r.name) × (target ≡ s.object))
      (entries : (r : Ref) → IsEntry e r → ForSome (snapshot_at w.book.snapshots r) (IsObjectMade w.book)) (parents : have_parents w.book.snapshots e.previous e.previous ≡ true)
      (previous : e.pending ≡ false → e.previous ≡ []) (ends : e.pending ≡ false → (r : Ref) → Contains e.list r → ForSome (snapshot_at w.book.snapshots r) (λ s. view w (view_in e.name r.name) ≡ Some s.object)) where
    abbrev now : World
    now = with_envs envs

    known_e : IsEnv now.book e
    known_e = found_after e.name ∙ ap (λ (b : Bool). cond b (Some e) (env_at w.book e.name)) (same_env e.name)

    other_known : (f : Env) → (f.name ≡ e.name → ⊥) → IsEnv w.book f → IsEnv now.book f
    other_known f other known = found_after f.name ∙ go (is_eq (text_cmp e.name f.name)) refl
      where
        go : (b : Bool) → is_eq (text_cmp e.name f.name) ≡ b → cond b (Some e) (env_at w.book f.name) ≡ Some f
        go true h = absurd (other (sym (env_is e.name f.name h)))
        go false h = known

    by_env : (P : Env → Type 0) (f : Env) → IsEnv now.book f → P e → (IsEnv w.book f → P f) → P f
    by_env P f known new old = go (is_eq (text_cmp e.name f.name)) (sym (found_after f.name) ∙ known)
      where
        go : (b : Bool) → cond b (Some e) (env_at w.book f.name) ≡ Some f → P f
        go true h = subst P (let same : e ≡ f = cc in same) new
        go false h = old h

    view_kept : (name target : Name) → view w name ≡ Some target → IsViewOf w name target → IsViewOf now name target
    view_kept name target at v = go (is_eq (text_cmp e.name v.env.name)) refl
      where
        go : (b : Bool) → is_eq (text_cmp e.name v.env.name) ≡ b → IsViewOf now name target
        go true h =
            let k = keeps name target at v (sym (env_is e.name v.env.name h)) in
            record { env = e; known = known_e; entry = k.0; of = k.2; snapshot = k.1; is = k.3; view = k.4; object = k.5 }
        go false h = record {
          env = v.env;
          known = other_known v.env (λ same. let t : true ≡ false = sym (ap (λ (n : List ℕ). is_eq (text_cmp e.name n)) same ∙ same_env e.name) ∙ h in cc) v.known;
          entry = v.entry;
          of = v.of;
          snapshot = v.snapshot;
          is = v.is;
          view = v.view;
          object = v.object;
        }

    views_now : AreViewsSound now
    views_now =
        let v = sound.views in
        record {
          views = λ name target at. view_kept name target at (v.views name target at);
          entries = λ f known. by_env (λ (g : Env). (r : Ref) → IsEntry g r → ForSome (snapshot_at w.book.snapshots r) (IsObjectMade w.book)) f known entries (v.entries f);
          parents = λ f known. by_env (λ (g : Env). have_parents w.book.snapshots g.previous g.previous ≡ true) f known parents (v.parents f);
          previous = λ f known. by_env (λ (g : Env). g.pending ≡ false → g.previous ≡ []) f known previous (v.previous f);
          final = λ f known. by_env (λ (g : Env). g.pending ≡ false → (r : Ref) → Contains g.list r → ForSome (snapshot_at w.book.snapshots r) (λ s. view w (view_in g.name r.name) ≡ Some s.object)) f known ends (v.final f);
        }

    pub env_put : Sound x now
    env_put = envs_changed envs up each views_now
