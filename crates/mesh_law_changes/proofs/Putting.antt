-- A world stays well kept where a command puts a snapshot.
use Rattle.std.proofs.Common.{◌≡◌, Bool, true, false, cond, ◌&&◌, List, Some, None, refl, sym, ◌∙◌, ap, subst}
use Rattle.std.specs.declared.option.Option.{Option}
use Rattle.std.specs.Cmp.{Equal-is}
use Rattle.std.specs.List.{list_all}
use Rattle.std.specs.Ordering.{is_eq}
use Rattle.std.proofs.lemmas.Cmp.{tied_itself}
use Rattle.mesh_list.specs.Keyed.{ascends}
use Rattle.mesh_list.proofs.Ascends.{and_left, and_right, ascends-placed}
use Rattle.mesh_list.proofs.Found.{found-placed}
use Rattle.mesh_list.proofs.Standing.{ascends-exchanged}
use Rattle.mesh_base_values.specs.declared.kinds.Kind.{Kind}
use Rattle.mesh_base_values.specs.declared.kinds.Kind.TheVariants.{Full, View, Seed, Incremental}
use Rattle.mesh_base_values.specs.declared.values.Name.{Name}
use Rattle.mesh_base.specs.Keys.{ref_cmp, refs_exact, refs_total, snapshot_ref}
use Rattle.mesh_base.specs.declared.definitions.Own.{Own}
use Rattle.mesh_base.specs.declared.snapshots.Ref.{Ref}
use Rattle.mesh_base.specs.declared.snapshots.Snapshot.{Snapshot}
use Rattle.mesh_house_book.specs.Changes.{put_for, put_snapshot, with_version}
use Rattle.mesh_house_book.specs.WellFormed.{all_fit, is_moment, is_snapshot_fit, is_version, snapshot_at}
use Rattle.mesh_house_book.specs.declared.versions.Version.{Version}
use Rattle.mesh_spec_model.specs.Closures.{Closure}
use Rattle.mesh_spec_model.specs.Horizons.{Clock, Shows}
use Rattle.mesh_spec_changes.specs.reuse.Cores.{IsTwin, core}
use Rattle.mesh_house.specs.declared.world.World.{World}
use Rattle.mesh_house.specs.declared.world.Change.TheVariants.{PutSnapshot}
use Rattle.mesh_house.specs.Step.{step}
use Rattle.mesh_house.specs.World.{version_of}
use Rattle.mesh_house.proofs.Tested.{all-exchanged, all-placed}
use Rattle.mesh_spec_changes.specs.listed.Closing.{closing, IsAlike, IsSnapshot}
use Rattle.mesh_spec_changes.proofs.listed.Books.{is_its_own, its_ref}
use Rattle.mesh_spec_changes.proofs.listed.Closings.{closings_stay}
use Rattle.mesh_spec_changes.specs.due.Parts.{Parts}
use Rattle.mesh_spec_promise.specs.Sound.{Sound, HasEachOnce, IsFullSound, IsIncrementalSound, IsSeedSound, IsTableSound, table_rows}
use Rattle.mesh_spec_promise.proofs.Found.{found-exchanged}
use Rattle.mesh_law_changes.proofs.Rising.{rises}
use Rattle.mesh_law_changes.proofs.SnapshotGone.{snapshot_own}
use Rattle.mesh_law_changes.proofs.SnapshotPut.{IsAgain, snapshot_joined}
use Rattle.mesh_law_changes.proofs.VersionNew.{version_new}

module _ (x : Parts) (w : World) (sound : Sound x w) (s : Snapshot) (fit : is_snapshot_fit w.book.version w.book.snapshots None s ≡ true)
    (same : (old : Snapshot) → snapshot_at w.book.snapshots (snapshot_ref s) ≡ Some old → (s.own ≡ old.own) × (s.parents ≡ old.parents) × (s.rank ≡ old.rank) × (s.object ≡ old.object))
    (names : snapshot_at w.book.snapshots (snapshot_ref s) ≡ None → HasEachOnce (closing (put_snapshot w.book s).snapshots s))
    (twins : snapshot_at w.book.snapshots (snapshot_ref s) ≡ None → (t : Snapshot) → IsSnapshot w.book.snapshots t → t.object ≡ s.object
    → (t.name ≡ s.name) × IsTwin (closing w.book.snapshots t) (closing (put_snapshot w.book s).snapshots s) × (t.own.kind ≡ View → ⊥))
    (table : snapshot_at w.book.snapshots (snapshot_ref s) ≡ None → (clock : Clock) → Shows clock w.book.moment → (v : Version) → version_of w.book s.object ≡ Some v → IsTableSound clock x (step w (PutSnapshot s)) s v s.own.kind) where
  abbrev all : List Snapshot
  all = w.book.snapshots

  abbrev more : List Snapshot
  more = (put_snapshot w.book s).snapshots

  abbrev joined : World
  joined = record w { book = record w.book { snapshots = more } }

  all_rise : ascends ref_cmp snapshot_ref all ≡ true
  all_rise =
      rises ref_cmp snapshot_ref (snapshot_own w.book.version all) (is_snapshot_fit w.book.version all) (λ b t. refl) all
      (and_left (all_fit (is_snapshot_fit w.book.version all) None all) _ (and_right (is_moment w.book.moment && is_version w.book.version) _ sound.book.well_formed))

  up_at : (o : Option Snapshot) → ascends ref_cmp snapshot_ref (put_for o ref_cmp snapshot_ref s all) ≡ true
  up_at None = ascends-placed ref_cmp refs_total snapshot_ref s all all_rise
  up_at (Some old) = ascends-exchanged ref_cmp refs_total snapshot_ref s all all_rise

  each_at : (p : Snapshot → Bool) → p s ≡ true → list_all p all ≡ true → (o : Option Snapshot) → list_all p (put_for o ref_cmp snapshot_ref s all) ≡ true
  each_at p h k None = all-placed ref_cmp snapshot_ref p s h all k
  each_at p h k (Some old) = all-exchanged ref_cmp snapshot_ref p s h all k

  found_at : (q : Ref) (o : Option Snapshot) → snapshot_at all (snapshot_ref s) ≡ o → snapshot_at (put_for o ref_cmp snapshot_ref s all) q ≡ cond (is_eq (ref_cmp (snapshot_ref s) q)) (Some s) (snapshot_at all q)
  found_at q None e = found-placed ref_cmp refs_exact snapshot_ref s q all
  found_at q (Some old) e = found-exchanged ref_cmp refs_exact snapshot_ref s q old all e

  found_after : (q : Ref) → snapshot_at more q ≡ cond (is_eq (ref_cmp (snapshot_ref s) q)) (Some s) (snapshot_at all q)
  found_after q = found_at q (snapshot_at all (snapshot_ref s)) refl

  again : (old : Snapshot) → snapshot_at all (snapshot_ref s) ≡ Some old → IsAgain old s
  again old e = let h = same old e in record { own = h.0; parents = h.1; rank = h.2; object = h.3 }

  alike : (q : Ref) (p : Snapshot) → snapshot_at all q ≡ Some p → IsAlike more q p
  alike q p at = go (is_eq (ref_cmp (snapshot_ref s) q)) refl (found_after q)
    where
      go : (b : Bool) → is_eq (ref_cmp (snapshot_ref s) q) ≡ b → snapshot_at more q ≡ cond b (Some s) (snapshot_at all q) → IsAlike more q p
      go true e is =
          let a = again p (ap (snapshot_at all) (refs_exact (snapshot_ref s) q ((Equal-is (ref_cmp (snapshot_ref s) q)).0 e)) ∙ at) in
          record { snapshot = s; known = is; own = a.own; parents = a.parents; rank = a.rank }
      go false e is = record { snapshot = p; known = is ∙ at; own = refl; parents = refl; rank = refl }

  -- where it was there before
  module _ (old : Snapshot) (there : snapshot_at all (snapshot_ref s) ≡ Some old) where
    its_own : IsSnapshot all old
    its_own = is_its_own all (snapshot_ref s) old there

    refs : snapshot_ref old ≡ snapshot_ref s
    refs = its_ref all (snapshot_ref s) old there

    closing_is : closing more s ≡ closing all old
    closing_is = let a = again old there in closings_stay w.book sound.book.well_formed more alike old s its_own a.own a.parents a.rank

    twin_before : (t : Snapshot) → IsSnapshot all t → t.object ≡ s.object → (snapshot_ref s ≡ snapshot_ref t → ⊥) → (t.name ≡ s.name) × IsTwin (closing all t) (closing more s) × (t.own.kind ≡ View → ⊥)
    twin_before t known one other =
        let to_old : t.object ≡ old.object = one ∙ (again old there).object in
        let both = sound.book.shared t old known its_own to_old in
        (both.0 ∙ ap (λ (r : Ref). r.name) refs, both.1 ∙ ap core (sym closing_is), λ is. other (sym (sound.book.alone t old known its_own to_old is ∙ refs)))

    table_moved : (clock : Clock) (v : Version) (kind : Kind) → IsTableSound clock x w old v kind → IsTableSound clock x joined s v kind
    table_moved clock v (Incremental time lookback) h =
        let a = again old there in
        subst (λ (c : Closure). IsIncrementalSound clock x w.sources (table_rows w s.object) s.object c s.own v) (sym closing_is)
        (subst (λ (d : Own). IsIncrementalSound clock x w.sources (table_rows w s.object) s.object (closing all old) d v) (sym a.own)
        (subst (λ (n : Name). IsIncrementalSound clock x w.sources (table_rows w n) n (closing all old) old.own v) (sym a.object) h))
    table_moved clock v Full h =
        let a = again old there in
        subst (λ (c : Closure). IsFullSound clock x w.sources (table_rows w s.object) s.object c v) (sym closing_is)
        (subst (λ (n : Name). IsFullSound clock x w.sources (table_rows w n) n (closing all old) v) (sym a.object) h)
    table_moved clock v Seed h =
        let a = again old there in
        subst (λ (d : Own). IsSeedSound (table_rows w s.object) d v) (sym a.own) (subst (λ (n : Name). IsSeedSound (table_rows w n) old.own v) (sym a.object) h)
    table_moved clock v View h = tt

    table_before : (clock : Clock) → Shows clock w.book.moment → (v : Version) → version_of w.book s.object ≡ Some v → IsTableSound clock x joined s v s.own.kind
    table_before clock shows v at =
        let a = again old there in
        subst (λ (d : Own). IsTableSound clock x joined s v d.kind) (sym a.own) (table_moved clock v old.own.kind (sound.tables clock shows old its_own v (ap (version_of w.book) (sym a.object) ∙ at)))

  names_at : (o : Option Snapshot) → snapshot_at all (snapshot_ref s) ≡ o → HasEachOnce (closing more s)
  names_at None e = names e
  names_at (Some old) e = subst HasEachOnce (sym (closing_is old e)) (sound.book.names old (its_own old e))

  twins_at : (o : Option Snapshot) → snapshot_at all (snapshot_ref s) ≡ o → (t : Snapshot) → IsSnapshot all t → t.object ≡ s.object → (snapshot_ref s ≡ snapshot_ref t → ⊥) → (t.name ≡ s.name) × IsTwin (closing all t) (closing more s) × (t.own.kind ≡ View → ⊥)
  twins_at None e t known one other = twins e t known one
  twins_at (Some old) e t known one other = twin_before old e t known one other

  table_at : (o : Option Snapshot) → snapshot_at all (snapshot_ref s) ≡ o → (clock : Clock) → Shows clock w.book.moment → (v : Version) → version_of w.book s.object ≡ Some v → IsTableSound clock x joined s v s.own.kind
  table_at None e clock shows v at = table e clock shows v at
  table_at (Some old) e clock shows v at = table_before old e clock shows v at

  joined_sound : Sound x joined
  joined_sound =
      snapshot_joined x w sound s more (up_at (snapshot_at all (snapshot_ref s))) (λ p h k. each_at p h k (snapshot_at all (snapshot_ref s))) found_after again fit
      (names_at (snapshot_at all (snapshot_ref s)) refl) (twins_at (snapshot_at all (snapshot_ref s)) refl) (table_at (snapshot_at all (snapshot_ref s)) refl)

  now_known : IsSnapshot more s
  now_known = found_after (snapshot_ref s) ∙ ap (λ (b : Bool). cond b (Some s) (snapshot_at all (snapshot_ref s))) ((Equal-is (ref_cmp (snapshot_ref s) (snapshot_ref s))).1 (tied_itself refs_total (snapshot_ref s)))

  version_at : (o : Option Version) → version_of w.book s.object ≡ o → Sound x (record w { book = record w.book { snapshots = more; versions = with_version o s.object w.book.versions } })
  version_at None e = version_new x joined joined_sound s.object e (record { snapshot = s; kept = now_known; uses = refl })
  version_at (Some v) e = joined_sound

  pub snapshot_put : Sound x (step w (PutSnapshot s))
  snapshot_put = version_at (version_of w.book s.object) refl
