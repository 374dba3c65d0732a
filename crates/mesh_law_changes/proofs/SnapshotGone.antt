-- A world stays well kept where a snapshot goes that no entry and no snapshot stands on, and whose object is gone or
-- another's.
use Rattle.std.proofs.Common.{◌≡◌, ◌⊎◌, inl, inr, ℕ, zero, suc, Bool, true, false, cond, ◌&&◌, nat_le, length, List, [], ◌∷◌, ◌++◌, map, Some, None, refl, sym, ◌∙◌, ap, subst, arith, IsSome}
use Rattle.std.specs.declared.option.Option.{Option}
use Rattle.std.specs.Cmp.{Equal-is}
use Rattle.std.proofs.lemmas.Cmp.{tied_itself}
use Rattle.std.specs.List.{All, AllByRecursion, Contains, flat_map, list_all}
use Rattle.std.specs.Option.{is_some, option_to_list}
use Rattle.std.specs.Ordering.{is_eq}
use Rattle.std.proofs.lemmas.Bool.{and_from as and_both}
use Rattle.mesh_list.specs.Keyed.{ascends, without}
use Rattle.mesh_list.proofs.Ascends.{and_left, and_right}
use Rattle.mesh_list.proofs.Each.{each_found}
use Rattle.mesh_list.proofs.Standing.{ascends-without}
use Rattle.mesh_base_values.specs.Names.{has_two_underscores, name_cmp, text_cmp}
use Rattle.mesh_base_values.specs.NameOrder.{texts_total}
use Rattle.mesh_base_values.specs.declared.kinds.Kind.{Kind}
use Rattle.mesh_base_values.specs.declared.kinds.Kind.TheVariants.{Full, View, Seed, Incremental}
use Rattle.mesh_base_values.specs.declared.values.Name.{Name}
use Rattle.mesh_base_values.specs.declared.values.Pair.{Pair}
use Rattle.mesh_base.specs.Keys.{env_name, ref_cmp, ref_name, refs_exact, refs_total, snapshot_ref}
use Rattle.mesh_base.specs.declared.snapshots.Env.{Env}
use Rattle.mesh_base.specs.declared.snapshots.Ref.{Ref}
use Rattle.mesh_base.specs.declared.snapshots.Snapshot.{Snapshot}
use Rattle.mesh_base.specs.rules.Proper.{stands_on}
use Rattle.mesh_house_book.specs.Changes.{version_object}
use Rattle.mesh_house_book.specs.WellFormed.{all_fit, are_kept, columns_at, has_parents, have_parents, is_above, is_env_fit, is_kept, is_listed, is_moment, is_snapshot_fit, is_version, is_well_formed_book, parent, parents_at, parents_of, rank_at, snapshot_at, suits}
use Rattle.mesh_house_book.specs.declared.versions.Version.{Version}
use Rattle.mesh_spec_model.specs.Closures.{Closure}
use Rattle.mesh_spec_model.specs.Horizons.{Clock}
use Rattle.mesh_spec_changes.specs.reuse.Cores.{IsTwin}
use Rattle.mesh_house.specs.declared.objects.Body.{Body}
use Rattle.mesh_house.specs.declared.objects.Body.TheVariants.{Rows, Stored}
use Rattle.mesh_house.specs.declared.world.World.{World}
use Rattle.mesh_house.specs.declared.world.Change.TheVariants.{DeleteSnapshot}
use Rattle.mesh_house.specs.Step.{step}
use Rattle.mesh_house.specs.World.{object_at, version_of}
use Rattle.mesh_spec_changes.specs.listed.Closing.{closing, IsSnapshot}
use Rattle.mesh_spec_changes.proofs.listed.Closings.{closings_stay}
use Rattle.mesh_spec_changes.specs.due.Parts.{Parts}
use Rattle.mesh_spec_changes.specs.Environments.{IsEnv}
use Rattle.mesh_spec_promise.specs.Sound.{Sound, HasEachOnce, Uses, IsBodyOf, IsBookSound, IsEntry, IsFullSound, IsIncrementalSound, IsTyped, IsTableSound, AreObjectsSound, AreViewsSound, object_named, parent_objects, table_rows}
use Rattle.mesh_law_changes.proofs.Envs.{env_own, envs_rise, envs_keep}
use Rattle.mesh_law_changes.proofs.Rising.{all_keep, all_pass, each_keeps, found-without, found_passes, item_passes, rises}

pub by_recursion : {A : Type 0} (P : A → Type 0) (xs : List A) (x : A) → AllByRecursion P xs → Contains xs x → P x
by_recursion P [] x h (k, l, e) = absurd (omega (arith, l))
by_recursion P (y ∷ ys) x h (zero, l, e) = subst P e h.0
by_recursion P (y ∷ ys) x h (suc k, l, e) = by_recursion P ys x h.1 (k, omega (arith, l), e)

pub same_all : {A : Type 0} (p q : A → Bool) (xs : List A) → ((x : A) → Contains xs x → p x ≡ q x) → list_all p xs ≡ list_all q xs
same_all p q [] h = refl
same_all p q (x ∷ xs) h = λ i. h x (0, omega arith, refl) i && same_all p q xs (λ y k. h y (suc k.0, omega (arith, k.1), k.2)) i

pub same_map : {A B : Type 0} (f g : A → B) (xs : List A) → ((x : A) → Contains xs x → f x ≡ g x) → map f xs ≡ map g xs
same_map f g [] h = refl
same_map f g (x ∷ xs) h = λ i. h x (0, omega arith, refl) i ∷ same_map f g xs (λ y k. h y (suc k.0, omega (arith, k.1), k.2)) i

pub same_flat : {A B : Type 0} (f g : A → List B) (xs : List A) → ((x : A) → Contains xs x → f x ≡ g x) → flat_map f xs ≡ flat_map g xs
same_flat f g [] h = refl
same_flat f g (x ∷ xs) h = λ i. h x (0, omega arith, refl) i ++ same_flat f g xs (λ y k. h y (suc k.0, omega (arith, k.1), k.2)) i

-- what a snapshot keeps by itself
abbrev pub snapshot_own : ℕ → List Snapshot → Snapshot → Bool
snapshot_own version all s =
    has_two_underscores s.object.schema && (is_eq (name_cmp s.own.name s.name) && (suits version s.own.kind && (are_kept all s.parents && (nat_le s.rank 4095 && stands_on (parents_of all s.parents) s.rank s.own))))

-- lists of references whose snapshots are the same in two lists of snapshots
module _ (all rest : List Snapshot) (refs : List Ref) (same : (q : Ref) → Contains refs q → snapshot_at rest q ≡ snapshot_at all q) where
  kept_same : are_kept rest refs ≡ are_kept all refs
  kept_same = same_all (is_kept rest) (is_kept all) refs (λ q k. ap is_some (same q k))

  parents_same : parents_of rest refs ≡ parents_of all refs
  parents_same = same_map (parent rest) (parent all) refs (λ q k. ap (λ (o : Option Snapshot). record { rank = rank_at o; name = q.name; columns = columns_at o }) (same q k))

  objects_same : parent_objects rest refs ≡ parent_objects all refs
  objects_same = same_flat (object_named rest) (object_named all) refs (λ q k. ap (λ (o : Option Snapshot). map (λ (s : Snapshot). record { first = q.name; second = s.object }) (option_to_list o)) (same q k))

  lists_same : (list : List Ref) → have_parents rest list refs ≡ have_parents all list refs
  lists_same list = same_all (has_parents rest list) (has_parents all list) refs (λ q k. ap (λ (o : Option Snapshot). list_all (is_listed list) (parents_at o)) (same q k))

module _ (x : Parts) (w : World) (sound : Sound x w) (name : Name) (fingerprint : List ℕ) where
  abbrev r : Ref
  r = record { name = name; fingerprint = fingerprint }

  module _ (unlisted : (e : Env) → IsEnv w.book e → (q : Ref) → IsEntry e q → q ≡ r → ⊥) (childless : (p : Snapshot) → IsSnapshot w.book.snapshots p → (q : Ref) → Contains p.parents q → q ≡ r → ⊥)
      (left_over : (s : Snapshot) → snapshot_at w.book.snapshots r ≡ Some s → ((version_of w.book s.object ≡ None) × (object_at w s.object ≡ None)) ⊎ ((other : Snapshot) × IsSnapshot w.book.snapshots other × (other.object ≡ s.object) × (snapshot_ref other ≡ r → ⊥))) where
    abbrev after : World
    after = step w (DeleteSnapshot name fingerprint)

    abbrev all : List Snapshot
    all = w.book.snapshots

    abbrev rest : List Snapshot
    rest = without ref_cmp snapshot_ref r all

    snapshots_fit : all_fit (is_snapshot_fit w.book.version all) None all ≡ true
    snapshots_fit = and_left (all_fit (is_snapshot_fit w.book.version all) None all) _ (and_right (is_moment w.book.moment && is_version w.book.version) _ sound.book.well_formed)

    all_rise : ascends ref_cmp snapshot_ref all ≡ true
    all_rise = rises ref_cmp snapshot_ref (snapshot_own w.book.version all) (is_snapshot_fit w.book.version all) (λ b s. refl) all snapshots_fit

    rest_rise : ascends ref_cmp snapshot_ref rest ≡ true
    rest_rise = ascends-without ref_cmp refs_total snapshot_ref r all all_rise

    found_after : (q : Ref) → snapshot_at rest q ≡ cond (is_eq (ref_cmp r q)) None (snapshot_at all q)
    found_after q = found-without ref_cmp refs_total refs_exact snapshot_ref r q all all_rise

    same_ref : (q : Ref) → is_eq (ref_cmp q q) ≡ true
    same_ref q = (Equal-is (ref_cmp q q)).1 (tied_itself refs_total q)

    stays : (q : Ref) → (q ≡ r → ⊥) → snapshot_at rest q ≡ snapshot_at all q
    stays q other = found_after q ∙ go (is_eq (ref_cmp r q)) refl
      where
        go : (b : Bool) → is_eq (ref_cmp r q) ≡ b → cond b None (snapshot_at all q) ≡ snapshot_at all q
        go true e = absurd (other (sym (refs_exact r q ((Equal-is (ref_cmp r q)).0 e))))
        go false e = refl

    was : (q : Ref) (s : Snapshot) → snapshot_at rest q ≡ Some s → (snapshot_at all q ≡ Some s) × (q ≡ r → ⊥)
    was q s at = go (is_eq (ref_cmp r q)) (λ same. ap (λ (t : Ref). is_eq (ref_cmp r t)) same ∙ same_ref r) (sym (found_after q) ∙ at)
      where
        go : (b : Bool) → (q ≡ r → b ≡ true) → cond b None (snapshot_at all q) ≡ Some s → (snapshot_at all q ≡ Some s) × (q ≡ r → ⊥)
        go true same h = absurd (let f : None ≡ Some s = h in cc)
        go false same h = (h, λ e. let f : false ≡ true = same e in cc)

    parents_stay : (s : Snapshot) → IsSnapshot all s → (q : Ref) → Contains s.parents q → snapshot_at rest q ≡ snapshot_at all q
    parents_stay s known q k = stays q (childless s known q k)

    rest_own : (s : Snapshot) → Contains rest s → snapshot_own w.book.version rest s ≡ true
    rest_own s k =
        let known_rest : IsSnapshot rest s = by_recursion (λ (t : Snapshot). IsSnapshot rest t) rest s (each_found ref_cmp refs_total snapshot_ref rest rest_rise) k in
        let known : IsSnapshot all s = (was (snapshot_ref s) s known_rest).0 in
        let own : snapshot_own w.book.version all s ≡ true = found_passes ref_cmp snapshot_ref (snapshot_own w.book.version all) (snapshot_ref s) s all (each_keeps ref_cmp snapshot_ref (snapshot_own w.book.version all) (is_snapshot_fit w.book.version all) (λ b t. refl) all snapshots_fit) known in
        (λ i. has_two_underscores s.object.schema && (is_eq (name_cmp s.own.name s.name) && (suits w.book.version s.own.kind
        && (kept_same all rest s.parents (parents_stay s known) i && (nat_le s.rank 4095 && stands_on (parents_same all rest s.parents (parents_stay s known) i) s.rank s.own)))))
        ∙ own

    list_stays : (e : Env) → IsEnv w.book e → (q : Ref) → Contains e.list q → snapshot_at rest q ≡ snapshot_at all q
    list_stays e known q k = stays q (unlisted e known q (inl k))

    previous_stays : (e : Env) → IsEnv w.book e → (q : Ref) → Contains e.previous q → snapshot_at rest q ≡ snapshot_at all q
    previous_stays e known q k = stays q (unlisted e known q (inr k))

    env_still : (e : Env) → Contains w.book.environments e → env_own rest e ≡ true
    env_still e k =
        let known : IsEnv w.book e = by_recursion (λ (f : Env). IsEnv w.book f) w.book.environments e (each_found text_cmp texts_total env_name w.book.environments (envs_rise x w sound)) k in
        (λ i. kept_same all rest e.list (list_stays e known) i && (kept_same all rest e.previous (previous_stays e known) i
        && (nat_le (length e.list) 4096 && (ascends name_cmp ref_name e.list && lists_same all rest e.list (list_stays e known) e.list i))))
        ∙ item_passes (env_own all) w.book.environments e (envs_keep x w sound) k

    well : is_well_formed_book after.book ≡ true
    well =
        let front = and_left (is_moment w.book.moment && is_version w.book.version) _ sound.book.well_formed in
        let one = and_right (is_moment w.book.moment && is_version w.book.version) _ sound.book.well_formed in
        let two = and_right (all_fit (is_snapshot_fit w.book.version all) None all) _ one in
        let versions = and_left (all_fit (is_above name_cmp version_object) None w.book.versions) _ two in
        and_both _ _ front
        (and_both _ _ (all_keep ref_cmp snapshot_ref (snapshot_own w.book.version rest) (is_snapshot_fit w.book.version rest) (λ b s. refl) rest rest_rise (all_pass (snapshot_own w.book.version rest) rest rest_own))
        (and_both _ _ versions
        (all_keep text_cmp env_name (env_own rest) (is_env_fit rest) (λ b e. refl) w.book.environments (envs_rise x w sound) (all_pass (env_own rest) w.book.environments env_still))))

    closing_same : (s : Snapshot) → IsSnapshot rest s → closing all s ≡ closing rest s
    closing_same s known = closings_stay after.book well all (λ q p at. record { snapshot = p; known = (was q p at).0; own = refl; parents = refl; rank = refl }) s s known refl refl refl

    -- what an object or a version belongs to
    uses_after : (object : Name) → (version_of w.book object ≡ None → object_at w object ≡ None → ⊥) → Uses w.book object → Uses after.book object
    uses_after object there u = go (is_eq (ref_cmp r (snapshot_ref u.snapshot))) refl
      where
        beside : (s : Snapshot) → s.object ≡ object → ((version_of w.book s.object ≡ None) × (object_at w s.object ≡ None)) ⊎ ((other : Snapshot) × IsSnapshot w.book.snapshots other × (other.object ≡ s.object) × (snapshot_ref other ≡ r → ⊥)) → Uses after.book object
        beside s same (inl none) = absurd (there (ap (version_of w.book) (sym same) ∙ none.0) (ap (object_at w) (sym same) ∙ none.1))
        beside s same (inr other) = record { snapshot = other.0; kept = stays (snapshot_ref other.0) other.3 ∙ other.1; uses = other.2 ∙ same }

        go : (b : Bool) → is_eq (ref_cmp r (snapshot_ref u.snapshot)) ≡ b → Uses after.book object
        go true e =
            let is : r ≡ snapshot_ref u.snapshot = refs_exact r (snapshot_ref u.snapshot) ((Equal-is (ref_cmp r (snapshot_ref u.snapshot))).0 e) in
            beside u.snapshot u.uses (left_over u.snapshot (ap (snapshot_at all) is ∙ u.kept))
        go false e = record {
          snapshot = u.snapshot;
          kept = stays (snapshot_ref u.snapshot) (λ same. let t : true ≡ false = sym (ap (λ (q : Ref). is_eq (ref_cmp r q)) same ∙ same_ref r) ∙ e in cc) ∙ u.kept;
          uses = u.uses;
        }

    typed_after : IsTyped after
    typed_after = let t = sound.typed in record { sources = t.sources; plain = t.plain; objects = t.objects; physical = t.physical; views = t.views; ranges = t.ranges; crons = λ s known. t.crons s (was (snapshot_ref s) s known).0 }

    book_after : IsBookSound after.book
    book_after =
        let b = sound.book in
        record {
          well_formed = well;
          names = λ s known. subst HasEachOnce (closing_same s known) (b.names s (was (snapshot_ref s) s known).0);
          versions = λ object v at. uses_after object (λ none gone. let clash : None ≡ Some v = sym none ∙ at in cc) (b.versions object v at);
          ranges = b.ranges;
          marks = b.marks;
          shared = λ s t known_s known_t same.
              let both = b.shared s t (was (snapshot_ref s) s known_s).0 (was (snapshot_ref t) t known_t).0 same in
              (both.0, subst (λ (c : Closure). IsTwin c (closing rest t)) (closing_same s known_s) (subst (IsTwin (closing all s)) (closing_same t known_t) both.1));
          alone = λ s t known_s known_t. b.alone s t (was (snapshot_ref s) s known_s).0 (was (snapshot_ref t) t known_t).0;
        }

    table_after : (clock : Clock) (s : Snapshot) (v : Version) → closing all s ≡ closing rest s → (kind : Kind) → IsTableSound clock x w s v kind → IsTableSound clock x after s v kind
    table_after clock s v same (Incremental time lookback) h = subst (λ (c : Closure). IsIncrementalSound clock x w.sources (table_rows w s.object) s.object c s.own v) same h
    table_after clock s v same Full h = subst (λ (c : Closure). IsFullSound clock x w.sources (table_rows w s.object) s.object c v) same h
    table_after clock s v same Seed h = h
    table_after clock s v same View h = tt

    body_after : (s : Snapshot) → parent_objects all s.parents ≡ parent_objects rest s.parents → (kind : Kind) (body : Body) → IsBodyOf all s kind body → IsBodyOf rest s kind body
    body_after s same View (Stored own targets) h = (h.0, h.1 ∙ same)
    body_after s same View (Rows rows) h = absurd h
    body_after s same (Incremental time lookback) (Rows rows) h = tt
    body_after s same (Incremental time lookback) (Stored own targets) h = absurd h
    body_after s same Full (Rows rows) h = tt
    body_after s same Full (Stored own targets) h = absurd h
    body_after s same Seed (Rows rows) h = tt
    body_after s same Seed (Stored own targets) h = absurd h

    targets_same : (s : Snapshot) → IsSnapshot rest s → parent_objects all s.parents ≡ parent_objects rest s.parents
    targets_same s known = sym (objects_same all rest s.parents (parents_stay s (was (snapshot_ref s) s known).0))

    objects_after : AreObjectsSound after
    objects_after =
        let o = sound.objects in
        record {
          named = λ object p at. uses_after object (λ none gone. let clash : None ≡ Some p = sym gone ∙ at in cc) (o.named object p at);
          bodies = λ s known p at. body_after s (targets_same s known) s.own.kind p.body (o.bodies s (was (snapshot_ref s) s known).0 p at);
          made = λ s known v at m.
              let i = o.made s (was (snapshot_ref s) s known).0 v at m in
              record {
                object = i.object;
                stands = i.stands;
                columns = i.columns;
                targets = λ is. subst (All (λ (t : Pair). IsSome (object_at w t.second))) (targets_same s known) (i.targets is);
              };
        }

    views_after : AreViewsSound after
    views_after =
        let v = sound.views in
        record {
          views = λ n target at.
              let i = v.views n target at in
              record { env = i.env; known = i.known; entry = i.entry; of = i.of; snapshot = i.snapshot; is = stays i.entry (unlisted i.env i.known i.entry i.of) ∙ i.is; view = i.view; object = i.object };
          entries = λ e known q k s at. v.entries e known q k s (was q s at).0;
          parents = λ e known. lists_same all rest e.previous (previous_stays e known) e.previous ∙ v.parents e known;
          previous = v.previous;
          final = λ e known ended q k s at. v.final e known ended q k s (was q s at).0;
        }

    pub snapshot_deleted : Sound x after
    snapshot_deleted = record {
      typed = typed_after;
      book = book_after;
      tables = λ clock now s known v at. table_after clock s v (closing_same s known) s.own.kind (sound.tables clock now s (was (snapshot_ref s) s known).0 v at);
      objects = objects_after;
      views = views_after;
    }
