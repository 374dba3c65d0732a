-- A world stays well kept where a snapshot is put that fits the book, and whose table, if it is another's too, is a
-- twin's.
use Rattle.std.proofs.Common.{◌≡◌, inl, inr, Bool, true, false, cond, ◌&&◌, nat_eq, nat_le, length, List, [], ◌∷◌, map, Some, None, refl, sym, ◌∙◌, ap, subst, IsSome, IsTrue}
use Rattle.std.specs.declared.option.Option.{Option}
use Rattle.std.specs.Cmp.{Equal-is}
use Rattle.std.specs.List.{All, Contains, list_all}
use Rattle.std.specs.Option.{is_some, option_to_list}
use Rattle.std.specs.Ordering.{is_eq}
use Rattle.std.proofs.lemmas.Cmp.{tied_itself}
use Rattle.std.proofs.lemmas.Bool.{and_from as and_both}
use Rattle.mesh_list.specs.Keyed.{ascends}
use Rattle.mesh_list.proofs.Ascends.{and_left, and_right}
use Rattle.mesh_base_values.specs.Crons.{is_cron}
use Rattle.mesh_base_values.specs.Names.{has_two_underscores, name_cmp, text_cmp}
use Rattle.mesh_base_values.specs.declared.kinds.Kind.{Kind}
use Rattle.mesh_base_values.specs.declared.kinds.Kind.TheVariants.{Full, View, Seed, Incremental}
use Rattle.mesh_base_values.specs.declared.values.Name.{Name}
use Rattle.mesh_base_values.specs.declared.values.Pair.{Pair}
use Rattle.mesh_base.specs.Keys.{env_name, ref_cmp, ref_name, refs_exact, refs_total, snapshot_ref}
use Rattle.mesh_base.specs.Outputs.{columns_of}
use Rattle.mesh_base.specs.declared.definitions.Own.{Own}
use Rattle.mesh_base.specs.declared.snapshots.Env.{Env}
use Rattle.mesh_base.specs.declared.snapshots.Ref.{Ref}
use Rattle.mesh_base.specs.declared.snapshots.Snapshot.{Snapshot}
use Rattle.mesh_base.specs.rules.Proper.{is_body_of, is_plain_schema, is_well_formed, stands_on}
use Rattle.mesh_base.specs.rules.Relations.{rank_over}
use Rattle.mesh_house_book.specs.Changes.{version_object}
use Rattle.mesh_house_book.specs.WellFormed.{all_fit, are_kept, columns_at, has_parents, have_parents, is_above, is_env_fit, is_kept, is_listed, is_moment, is_snapshot_fit, is_version, is_well_formed_book, parent, parents_at, parents_of, rank_at, snapshot_at, suits}
use Rattle.mesh_house_book.specs.declared.versions.Version.{Version}
use Rattle.mesh_spec_model.specs.Closures.{Closure, Model, own_of}
use Rattle.mesh_spec_model.specs.Horizons.{Clock, Shows}
use Rattle.mesh_spec_changes.specs.reuse.Cores.{IsTwin, core}
use Rattle.mesh_house.specs.declared.objects.Body.{Body}
use Rattle.mesh_house.specs.declared.objects.Body.TheVariants.{Rows, Stored}
use Rattle.mesh_house.specs.declared.objects.Object.{Object}
use Rattle.mesh_house.specs.declared.world.World.{World}
use Rattle.mesh_house.specs.World.{object_at, version_of}
use Rattle.mesh_spec_changes.specs.listed.Closing.{closing, IsSnapshot, IsAlike}
use Rattle.mesh_spec_changes.proofs.listed.Books.{kept_at}
use Rattle.mesh_spec_changes.proofs.listed.Closings.{closings_stay}
use Rattle.mesh_spec_changes.specs.due.Parts.{Parts}
use Rattle.mesh_spec_changes.specs.Environments.{IsEnv}
use Rattle.mesh_spec_promise.specs.Sound.{Sound, HasEachOnce, Uses, IsBodyOf, IsBookSound, IsEntry, IsFullSound, IsIncrementalSound, IsMade, IsTyped, IsTableSound, AreObjectsSound, AreViewsSound, object_named, parent_objects, table_rows}
use Rattle.mesh_spec_promise.proofs.Tables.{closed_own}
use Rattle.mesh_law_changes.proofs.Envs.{env_own, envs_rise, envs_keep}
use Rattle.mesh_law_changes.proofs.EnvLaws.{own_of_old}
use Rattle.mesh_law_changes.proofs.Rising.{all_keep, all_pass, each_keeps, found_passes, item_passes}
use Rattle.mesh_law_changes.proofs.SnapshotGone.{same_all, same_flat, same_map, snapshot_own}

core_own : (c : Closure) → own_of (core c) ≡ own_of c
core_own (Model own parents) = refl

twin_own : (a b : Closure) → IsTwin a b → own_of a ≡ own_of b
twin_own a b t = sym (core_own a) ∙ ap own_of t ∙ core_own b

-- a snapshot of which only the time that it stays may differ
pub record IsAgain (old s : Snapshot) : Type 0 where
  pub own : s.own ≡ old.own
  pub parents : s.parents ≡ old.parents
  pub rank : s.rank ≡ old.rank
  pub object : s.object ≡ old.object

module _ (x : Parts) (w : World) (sound : Sound x w) (s : Snapshot) (more : List Snapshot) (up : ascends ref_cmp snapshot_ref more ≡ true)
    (each : (p : Snapshot → Bool) → p s ≡ true → list_all p w.book.snapshots ≡ true → list_all p more ≡ true)
    (found_after : (q : Ref) → snapshot_at more q ≡ cond (is_eq (ref_cmp (snapshot_ref s) q)) (Some s) (snapshot_at w.book.snapshots q))
    (again : (old : Snapshot) → snapshot_at w.book.snapshots (snapshot_ref s) ≡ Some old → IsAgain old s)
    (fit : snapshot_own w.book.version w.book.snapshots s ≡ true) (names : HasEachOnce (closing more s))
    (twins : (t : Snapshot) → IsSnapshot w.book.snapshots t → t.object ≡ s.object → (snapshot_ref s ≡ snapshot_ref t → ⊥) → (t.name ≡ s.name) × IsTwin (closing w.book.snapshots t) (closing more s) × (t.own.kind ≡ View → ⊥))
    (table : (clock : Clock) → Shows clock w.book.moment → (v : Version) → version_of w.book s.object ≡ Some v → IsTableSound clock x (record w { book = record w.book { snapshots = more } }) s v s.own.kind) where
  abbrev all : List Snapshot
  all = w.book.snapshots

  abbrev after : World
  after = record w { book = record w.book { snapshots = more } }

  same_ref : (q : Ref) → is_eq (ref_cmp q q) ≡ true
  same_ref q = (Equal-is (ref_cmp q q)).1 (tied_itself refs_total q)

  ref_is : (q r : Ref) → is_eq (ref_cmp q r) ≡ true → q ≡ r
  ref_is q r e = refs_exact q r ((Equal-is (ref_cmp q r)).0 e)

  -- a snapshot that was there is there, or is there again
  record Still (q : Ref) (p : Snapshot) : Type 0 where
    now : Snapshot
    known : snapshot_at more q ≡ Some now
    own : now.own ≡ p.own
    parents : now.parents ≡ p.parents
    rank : now.rank ≡ p.rank
    object : now.object ≡ p.object

  still : (q : Ref) (p : Snapshot) → snapshot_at all q ≡ Some p → Still q p
  still q p at = go (is_eq (ref_cmp (snapshot_ref s) q)) refl (found_after q)
    where
      go : (b : Bool) → is_eq (ref_cmp (snapshot_ref s) q) ≡ b → snapshot_at more q ≡ cond b (Some s) (snapshot_at all q) → Still q p
      go true e is =
          let a = again p (ap (snapshot_at all) (ref_is (snapshot_ref s) q e) ∙ at) in
          record { now = s; known = is; own = a.own; parents = a.parents; rank = a.rank; object = a.object }
      go false e is = record { now = p; known = is ∙ at; own = refl; parents = refl; rank = refl; object = refl }

  -- a snapshot is the new one, or was there
  by_snapshot : (P : Snapshot → Type 0) (t : Snapshot) → IsSnapshot more t → P s → (IsSnapshot all t → (snapshot_ref s ≡ snapshot_ref t → ⊥) → P t) → P t
  by_snapshot P t known f g = go (is_eq (ref_cmp (snapshot_ref s) (snapshot_ref t))) refl (sym (found_after (snapshot_ref t)) ∙ known)
    where
      go : (b : Bool) → is_eq (ref_cmp (snapshot_ref s) (snapshot_ref t)) ≡ b → cond b (Some s) (snapshot_at all (snapshot_ref t)) ≡ Some t → P t
      go true e is = subst P (let same : s ≡ t = cc in same) f
      go false e is = g is (λ same. let f : true ≡ false = sym (ap (λ (q : Ref). is_eq (ref_cmp q (snapshot_ref t))) same ∙ same_ref (snapshot_ref t)) ∙ e in cc)

  its_own : IsSnapshot more s
  its_own = found_after (snapshot_ref s) ∙ ap (λ (b : Bool). cond b (Some s) (snapshot_at all (snapshot_ref s))) (same_ref (snapshot_ref s))

  alike : (q : Ref) (p : Snapshot) → snapshot_at all q ≡ Some p → IsAlike more q p
  alike q p at = let h = still q p at in record { snapshot = h.now; known = h.known; own = h.own; parents = h.parents; rank = h.rank }

  closing_same : (t : Snapshot) → IsSnapshot all t → closing more t ≡ closing all t
  closing_same t known = closings_stay w.book sound.book.well_formed more alike t t known refl refl refl

  -- references that were kept
  module _ (refs : List Ref) (kept : are_kept all refs ≡ true) where
    there : (q : Ref) → Contains refs q → (p : Snapshot) × (snapshot_at all q ≡ Some p)
    there q k = kept_at all q (item_passes (is_kept all) refs q kept k)

    kept_still : are_kept more refs ≡ true
    kept_still = all_pass (is_kept more) refs (λ q k. let p = there q k in ap is_some (still q p.0 p.1).known)

    parents_same : parents_of more refs ≡ parents_of all refs
    parents_same = same_map (parent more) (parent all) refs (λ q k. let p = there q k in let h = still q p.0 p.1 in
        ap (λ (o : Option Snapshot). record { rank = rank_at o; name = q.name; columns = columns_at o }) h.known
        ∙ (λ i. record { rank = h.rank i; name = q.name; columns = columns_of (h.own i) })
        ∙ sym (ap (λ (o : Option Snapshot). record { rank = rank_at o; name = q.name; columns = columns_at o }) p.1))

    objects_same : parent_objects more refs ≡ parent_objects all refs
    objects_same = same_flat (object_named more) (object_named all) refs (λ q k. let p = there q k in let h = still q p.0 p.1 in
        ap (λ (o : Option Snapshot). map (λ (t : Snapshot). record { first = q.name; second = t.object }) (option_to_list o)) h.known
        ∙ (λ i. record { first = q.name; second = h.object i } ∷ [])
        ∙ sym (ap (λ (o : Option Snapshot). map (λ (t : Snapshot). record { first = q.name; second = t.object }) (option_to_list o)) p.1))

    lists_same : (list : List Ref) → have_parents more list refs ≡ have_parents all list refs
    lists_same list = same_all (has_parents more list) (has_parents all list) refs (λ q k. let p = there q k in let h = still q p.0 p.1 in
        ap (λ (o : Option Snapshot). list_all (is_listed list) (parents_at o)) h.known
        ∙ ap (list_all (is_listed list)) h.parents
        ∙ sym (ap (λ (o : Option Snapshot). list_all (is_listed list) (parents_at o)) p.1))

  its_parents : (t : Snapshot) → snapshot_own w.book.version all t ≡ true → are_kept all t.parents ≡ true
  its_parents t own = and_left (are_kept all t.parents) _ (and_right (suits w.book.version t.own.kind) _ (and_right (is_eq (name_cmp t.own.name t.name)) _ (and_right (has_two_underscores t.object.schema) _ own)))

  own_still : (t : Snapshot) → snapshot_own w.book.version all t ≡ true → snapshot_own w.book.version more t ≡ true
  own_still t own =
      let kept = its_parents t own in
      (λ i. has_two_underscores t.object.schema && (is_eq (name_cmp t.own.name t.name) && (suits w.book.version t.own.kind
      && ((kept_still t.parents kept ∙ sym kept) i && (nat_le t.rank 4095 && stands_on (parents_same t.parents kept i) t.rank t.own)))))
      ∙ own

  snapshots_fit : all_fit (is_snapshot_fit w.book.version all) None all ≡ true
  snapshots_fit = and_left (all_fit (is_snapshot_fit w.book.version all) None all) _ (and_right (is_moment w.book.moment && is_version w.book.version) _ sound.book.well_formed)

  all_own : list_all (snapshot_own w.book.version all) all ≡ true
  all_own = each_keeps ref_cmp snapshot_ref (snapshot_own w.book.version all) (is_snapshot_fit w.book.version all) (λ b t. refl) all snapshots_fit

  more_own : list_all (snapshot_own w.book.version more) more ≡ true
  more_own = each (snapshot_own w.book.version more) (own_still s fit) (all_pass (snapshot_own w.book.version more) all (λ t k. own_still t (item_passes (snapshot_own w.book.version all) all t all_own k)))

  env_still : (e : Env) → env_own all e ≡ true → env_own more e ≡ true
  env_still e own =
      let list = and_left (are_kept all e.list) _ own in
      let previous = and_left (are_kept all e.previous) _ (and_right (are_kept all e.list) _ own) in
      (λ i. (kept_still e.list list ∙ sym list) i && ((kept_still e.previous previous ∙ sym previous) i
      && (nat_le (length e.list) 4096 && (ascends name_cmp ref_name e.list && lists_same e.list list e.list i))))
      ∙ own

  well : is_well_formed_book after.book ≡ true
  well =
      let front = and_left (is_moment w.book.moment && is_version w.book.version) _ sound.book.well_formed in
      let one = and_right (is_moment w.book.moment && is_version w.book.version) _ sound.book.well_formed in
      let two = and_right (all_fit (is_snapshot_fit w.book.version all) None all) _ one in
      let versions = and_left (all_fit (is_above name_cmp version_object) None w.book.versions) _ two in
      and_both _ _ front
      (and_both _ _ (all_keep ref_cmp snapshot_ref (snapshot_own w.book.version more) (is_snapshot_fit w.book.version more) (λ b t. refl) more up more_own)
      (and_both _ _ versions
      (all_keep text_cmp env_name (env_own more) (is_env_fit more) (λ b e. refl) w.book.environments (envs_rise x w sound)
      (all_pass (env_own more) w.book.environments (λ e k. env_still e (item_passes (env_own all) w.book.environments e (envs_keep x w sound) k))))))

  uses_after : (object : Name) → Uses w.book object → Uses after.book object
  uses_after object u = go (is_eq (ref_cmp (snapshot_ref s) (snapshot_ref u.snapshot))) refl
    where
      go : (b : Bool) → is_eq (ref_cmp (snapshot_ref s) (snapshot_ref u.snapshot)) ≡ b → Uses after.book object
      go true e =
          let a = again u.snapshot (ap (snapshot_at all) (ref_is (snapshot_ref s) (snapshot_ref u.snapshot) e) ∙ u.kept) in
          record { snapshot = s; kept = its_own; uses = a.object ∙ u.uses }
      go false e = record { snapshot = u.snapshot; kept = found_after (snapshot_ref u.snapshot) ∙ ap (λ (b : Bool). cond b (Some s) (snapshot_at all (snapshot_ref u.snapshot))) e ∙ u.kept; uses = u.uses }

  cron : is_cron s.own.cron ≡ true
  cron =
      let ranked = and_right (are_kept all s.parents) _ (and_right (suits w.book.version s.own.kind) _ (and_right (is_eq (name_cmp s.own.name s.name)) _ (and_right (has_two_underscores s.object.schema) _ fit))) in
      let stands = and_right (nat_le s.rank 4095) _ ranked in
      let formed : is_well_formed (parents_of all s.parents) s.own ≡ true = and_right (nat_eq s.rank (rank_over 0 (parents_of all s.parents))) _ stands in
      let bodied = and_right (is_plain_schema s.own.name.schema) _ formed in
      and_left (is_cron s.own.cron) _ (and_right (is_body_of s.own.kind s.own.defn) _ bodied)

  typed_after : IsTyped after
  typed_after =
      let t = sound.typed in
      record {
        sources = t.sources;
        plain = t.plain;
        objects = t.objects;
        physical = t.physical;
        views = t.views;
        ranges = t.ranges;
        crons = λ p known. by_snapshot (λ (q : Snapshot). IsTrue (is_cron q.own.cron)) p known cron (λ before other. t.crons p before);
      }

  -- a twin has its definition
  twin_is : (t : Snapshot) → IsTwin (closing all t) (closing more s) → t.own ≡ s.own
  twin_is t twin = sym (ap own_of (closed_own all t.rank t).1) ∙ twin_own (closing all t) (closing more s) twin ∙ ap own_of (closed_own more s.rank s).1

  book_after : IsBookSound after.book
  book_after =
      let b = sound.book in
      record {
        well_formed = well;
        names = λ t known. by_snapshot (λ (q : Snapshot). HasEachOnce (closing more q)) t known names (λ before other. subst HasEachOnce (sym (closing_same t before)) (b.names t before));
        versions = λ object v at. uses_after object (b.versions object v at);
        ranges = b.ranges;
        marks = b.marks;
        shared = λ p q kp kq. by_snapshot (λ (a : Snapshot). a.object ≡ q.object → (a.name ≡ q.name) × IsTwin (closing more a) (closing more q)) p kp
            (by_snapshot (λ (c : Snapshot). s.object ≡ c.object → (s.name ≡ c.name) × IsTwin (closing more s) (closing more c)) q kq
            (λ same. (refl, refl))
            (λ before other same. let t = twins q before (sym same) other in (sym t.0, sym t.1 ∙ ap core (sym (closing_same q before)))))
            (λ before other. by_snapshot (λ (c : Snapshot). p.object ≡ c.object → (p.name ≡ c.name) × IsTwin (closing more p) (closing more c)) q kq
            (λ same. let t = twins p before same other in (t.0, ap core (closing_same p before) ∙ t.1))
            (λ before_q other_q same. let t = b.shared p q before before_q same in (t.0, ap core (closing_same p before) ∙ t.1 ∙ ap core (sym (closing_same q before_q)))));
        alone = λ p q kp kq. by_snapshot (λ (a : Snapshot). a.object ≡ q.object → a.own.kind ≡ View → snapshot_ref a ≡ snapshot_ref q) p kp
            (by_snapshot (λ (c : Snapshot). s.object ≡ c.object → s.own.kind ≡ View → snapshot_ref s ≡ snapshot_ref c) q kq
            (λ same is. refl)
            (λ before other same is. let t = twins q before (sym same) other in absurd (t.2 (ap (λ (o : Own). o.kind) (twin_is q t.1) ∙ is))))
            (λ before other. by_snapshot (λ (c : Snapshot). p.object ≡ c.object → p.own.kind ≡ View → snapshot_ref p ≡ snapshot_ref c) q kq
            (λ same is. absurd ((twins p before same other).2 is))
            (λ before_q other_q same is. b.alone p q before before_q same is));
      }

  table_after : (clock : Clock) (t : Snapshot) (v : Version) → closing all t ≡ closing more t → (kind : Kind) → IsTableSound clock x w t v kind → IsTableSound clock x after t v kind
  table_after clock t v same (Incremental time lookback) h = subst (λ (c : Closure). IsIncrementalSound clock x w.sources (table_rows w t.object) t.object c t.own v) same h
  table_after clock t v same Full h = subst (λ (c : Closure). IsFullSound clock x w.sources (table_rows w t.object) t.object c v) same h
  table_after clock t v same Seed h = h
  table_after clock t v same View h = tt

  -- what stands behind a snapshot is the same behind one that has its definition and its parents' objects
  body_after : (t u : Snapshot) → t.own ≡ u.own → parent_objects all t.parents ≡ parent_objects more u.parents → (kind : Kind) (body : Body) → IsBodyOf all t kind body → IsBodyOf more u kind body
  body_after t u one same View (Stored own targets) h = (h.0 ∙ one, h.1 ∙ same)
  body_after t u one same View (Rows rows) h = absurd h
  body_after t u one same (Incremental time lookback) (Rows rows) h = tt
  body_after t u one same (Incremental time lookback) (Stored own targets) h = absurd h
  body_after t u one same Full (Rows rows) h = tt
  body_after t u one same Full (Stored own targets) h = absurd h
  body_after t u one same Seed (Rows rows) h = tt
  body_after t u one same Seed (Stored own targets) h = absurd h

  body_twin : (t u : Snapshot) (kind : Kind) (body : Body) → (kind ≡ View → ⊥) → IsBodyOf all t kind body → IsBodyOf more u kind body
  body_twin t u View body table_ h = absurd (table_ refl)
  body_twin t u (Incremental time lookback) (Rows rows) table_ h = tt
  body_twin t u (Incremental time lookback) (Stored own targets) table_ h = absurd h
  body_twin t u Full (Rows rows) table_ h = tt
  body_twin t u Full (Stored own targets) table_ h = absurd h
  body_twin t u Seed (Rows rows) table_ h = tt
  body_twin t u Seed (Stored own targets) table_ h = absurd h

  targets_same : (t : Snapshot) → IsSnapshot all t → parent_objects all t.parents ≡ parent_objects more t.parents
  targets_same t known = sym (objects_same t.parents (its_parents t (found_passes ref_cmp snapshot_ref (snapshot_own w.book.version all) (snapshot_ref t) t all all_own known)))

  -- what is there of the new one's object is that of the same one from before, or of a twin
  by_user : (P : Type 0) → Uses w.book s.object → ((old : Snapshot) → IsSnapshot all old → IsAgain old s → P) → ((t : Snapshot) → IsSnapshot all t → t.object ≡ s.object → t.own ≡ s.own → (t.own.kind ≡ View → ⊥) → P) → P
  by_user P u f g = go (is_eq (ref_cmp (snapshot_ref s) (snapshot_ref u.snapshot))) refl
    where
      go : (b : Bool) → is_eq (ref_cmp (snapshot_ref s) (snapshot_ref u.snapshot)) ≡ b → P
      go true e = f u.snapshot u.kept (again u.snapshot (ap (snapshot_at all) (ref_is (snapshot_ref s) (snapshot_ref u.snapshot) e) ∙ u.kept))
      go false e =
          let t = twins u.snapshot u.kept u.uses (λ same. let f : true ≡ false = sym (ap (λ (q : Ref). is_eq (ref_cmp q (snapshot_ref u.snapshot))) same ∙ same_ref (snapshot_ref u.snapshot)) ∙ e in cc) in
          g u.snapshot u.kept u.uses (twin_is u.snapshot t.1) t.2

  its_body : (o : Object) → object_at w s.object ≡ Some o → IsBodyOf more s s.own.kind o.body
  its_body o at = by_user (IsBodyOf more s s.own.kind o.body) (sound.objects.named s.object o at)
      (λ old known a. subst (λ (k : Kind). IsBodyOf more s k o.body) (ap (λ (d : Own). d.kind) (sym a.own))
      (body_after old s (sym a.own) (targets_same old known ∙ ap (parent_objects more) (sym a.parents)) old.own.kind o.body (sound.objects.bodies old known o (ap (object_at w) (sym a.object) ∙ at))))
      (λ t known same own table_. subst (λ (k : Kind). IsBodyOf more s k o.body) (ap (λ (d : Own). d.kind) own)
      (body_twin t s t.own.kind o.body table_ (sound.objects.bodies t known o (ap (object_at w) same ∙ at))))

  its_made : (v : Version) → version_of w.book s.object ≡ Some v → v.made ≡ true → IsMade after s
  its_made v at m = by_user (IsMade after s) (sound.book.versions s.object v at)
      (λ old known a. let i = sound.objects.made old known v (ap (version_of w.book) (sym a.object) ∙ at) m in record {
        object = i.object;
        stands = ap (object_at w) a.object ∙ i.stands;
        columns = i.columns ∙ ap columns_of (sym a.own);
        targets = λ is. subst (All (λ (t : Pair). IsSome (object_at w t.second))) (targets_same old known ∙ ap (parent_objects more) (sym a.parents)) (i.targets (ap (λ (d : Own). d.kind) (sym a.own) ∙ is));
      })
      (λ t known same own table_. let i = sound.objects.made t known v (ap (version_of w.book) same ∙ at) m in record {
        object = i.object;
        stands = ap (object_at w) (sym same) ∙ i.stands;
        columns = i.columns ∙ ap columns_of own;
        targets = λ is. absurd (table_ (ap (λ (d : Own). d.kind) own ∙ is));
      })

  objects_after : AreObjectsSound after
  objects_after =
      let o = sound.objects in
      record {
        named = λ object p at. uses_after object (o.named object p at);
        bodies = λ t known. by_snapshot (λ (q : Snapshot). (p : Object) → object_at w q.object ≡ Some p → IsBodyOf more q q.own.kind p.body) t known its_body
            (λ before other p at. body_after t t refl (targets_same t before) t.own.kind p.body (o.bodies t before p at));
        made = λ t known. by_snapshot (λ (q : Snapshot). (v : Version) → version_of w.book q.object ≡ Some v → v.made ≡ true → IsMade after q) t known its_made
            (λ before other v at m. let i = o.made t before v at m in record {
              object = i.object;
              stands = i.stands;
              columns = i.columns;
              targets = λ is. subst (All (λ (p : Pair). IsSome (object_at w p.second))) (targets_same t before) (i.targets is);
            });
      }

  entry_kept : (e : Env) → IsEnv w.book e → (q : Ref) → IsEntry e q → (p : Snapshot) × (snapshot_at all q ≡ Some p)
  entry_kept e known q (inl k) = there e.list (and_left (are_kept all e.list) _ (own_of_old x w sound e known)) q k
  entry_kept e known q (inr k) = there e.previous (and_left (are_kept all e.previous) _ (and_right (are_kept all e.list) _ (own_of_old x w sound e known))) q k

  -- the snapshot of an entry has the object that it had
  entry_object : (e : Env) → IsEnv w.book e → (q : Ref) → IsEntry e q → (t : Snapshot) → snapshot_at more q ≡ Some t → (p : Snapshot) × (snapshot_at all q ≡ Some p) × (t.object ≡ p.object)
  entry_object e known q k t at =
      let p = entry_kept e known q k in
      let h = still q p.0 p.1 in
      let same : t ≡ h.now = let both : Some t ≡ Some h.now = sym at ∙ h.known in cc in
      (p.0, p.1, ap (λ (u : Snapshot). u.object) same ∙ h.object)

  views_after : AreViewsSound after
  views_after =
      let v = sound.views in
      record {
        views = λ n target at.
            let i = v.views n target at in
            let h = still i.entry i.snapshot i.is in
            record { env = i.env; known = i.known; entry = i.entry; of = i.of; snapshot = h.now; is = h.known; view = i.view; object = i.object ∙ sym h.object };
        entries = λ e known q k t at. let p = entry_object e known q k t at in let m = v.entries e known q k p.0 p.1 in (m.0, ap (version_of w.book) p.2 ∙ m.1, m.2);
        parents = λ e known. lists_same e.previous (and_left (are_kept all e.previous) _ (and_right (are_kept all e.list) _ (own_of_old x w sound e known))) e.previous ∙ v.parents e known;
        previous = v.previous;
        final = λ e known ended q k t at. let p = entry_object e known q (inl k) t at in v.final e known ended q k p.0 p.1 ∙ ap (λ (n : Name). Some n) (sym p.2);
      }

  pub snapshot_joined : Sound x after
  snapshot_joined = record {
    typed = typed_after;
    book = book_after;
    tables = λ clock now t known. by_snapshot (λ (q : Snapshot). (v : Version) → version_of w.book q.object ≡ Some v → IsTableSound clock x after q v q.own.kind) t known (table clock now)
        (λ before other v at. table_after clock t v (sym (closing_same t before)) t.own.kind (sound.tables clock now t before v at));
    objects = objects_after;
    views = views_after;
  }
