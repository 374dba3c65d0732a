-- A world stays well kept where the versions of tables that go are forgotten, and then their objects go.
use Rattle.std.proofs.Common.{◌≡◌, ℤ, true, inl, inr, List, [], ◌∷◌, map, Some, refl, sym, ap, ◌∙◌, subst}
use Rattle.std.specs.List.{All}
use Rattle.std.specs.Option.{option_to_list}
use Rattle.mesh_base_values.specs.declared.kinds.Kind.TheVariants.{View}
use Rattle.mesh_base_values.specs.declared.values.Name.{Name}
use Rattle.mesh_base_values.specs.declared.values.Pair.{Pair}
use Rattle.mesh_base.specs.Keys.{snapshot_ref}
use Rattle.mesh_base.specs.declared.snapshots.Env.{Env}
use Rattle.mesh_base.specs.declared.snapshots.Ref.{Ref}
use Rattle.mesh_base.specs.declared.snapshots.Snapshot.{Snapshot}
use Rattle.mesh_house_book.specs.WellFormed.{is_well_formed_book, snapshot_at}
use Rattle.mesh_house_book.specs.declared.book.Book.{Book}
use Rattle.mesh_house_book.specs.declared.versions.Version.{Version}
use Rattle.mesh_law_query.proofs.Has.{Has, Has_flat_from, Has_map_from, Has_some_from}
use Rattle.mesh_spec_changes.specs.listed.Closing.{IsSnapshot}
use Rattle.mesh_spec_changes.proofs.listed.Books.{is_its_own}
use Rattle.mesh_house.specs.Step.{step}
use Rattle.mesh_house.specs.World.{version_of}
use Rattle.mesh_house.specs.declared.world.Change.TheVariants.{DropObject, ForgetVersion}
use Rattle.mesh_house.specs.declared.world.World.{World}
use Rattle.mesh_spec_changes.specs.due.Parts.{Parts}
use Rattle.mesh_spec_changes.specs.Environments.{IsEnv}
use Rattle.mesh_spec_changes.specs.Kept.{gone_tables, is_kept, is_table_kept}
use Rattle.mesh_janitor.proofs.janitor.Books.{all_from}
use Rattle.mesh_janitor.proofs.janitor.Reached.{kept_parent}
use Rattle.mesh_spec_promise.specs.Histories.{left}
use Rattle.mesh_spec_promise.specs.Sound.{IsEntry, Sound, object_named, parent_objects}
use Rattle.mesh_law_changes.proofs.ObjectGone.{object_dropped}
use Rattle.mesh_law_changes.proofs.VersionGone.{version_forgotten}
use Rattle.mesh_law_changes.specs.along.Along.{StaysAlong}
use Rattle.mesh_law_changes.proofs.along.Along.{along_kept}
use Rattle.mesh_law_steps.proofs.sweep.Kept.{IsStaying, entry_kept, gone_not, kept_object, one_snapshot, table_user, there}

module _ (b : Book) (well : is_well_formed_book b ≡ true) (t : ℤ) where
  -- Of the book's environments those are left that stay, and of its snapshots all.
  pub record IsBare (w : World) : Type 0 where
    pub snapshots : w.book.snapshots ≡ b.snapshots
    pub envs : (e : Env) → IsEnv w.book e → IsStaying b well t e

  -- no entry has a table that goes
  unused : (w : World) → IsBare w → (n : Name) → Has n (gone_tables b t) → (e : Env) → IsEnv w.book e → (r : Ref) → IsEntry e r → (s : Snapshot) → snapshot_at w.book.snapshots r ≡ Some s → s.object ≡ n → ⊥
  unused w bare n goes e known r entry s at same =
      let here : snapshot_at b.snapshots r ≡ Some s = ap (λ (l : List Snapshot). snapshot_at l r) (sym bare.snapshots) ∙ at in
      kept_object b well t s (is_its_own b.snapshots r s here) (entry_kept b well t e (bare.envs e known) r entry s here) (subst (λ (m : Name). Has m (gone_tables b t)) (sym same) goes)

  pub versions_along : (x : Parts) (w : World) → Sound x w → IsBare w → (ns : List Name) → ((n : Name) → Has n ns → Has n (gone_tables b t)) → StaysAlong x w (map (λ n. ForgetVersion n) ns)
  versions_along x w sound bare [] gone = sound
  versions_along x w sound bare (n ∷ ns) gone = (
    sound,
    versions_along (left (ForgetVersion n ∷ []) x) (step w (ForgetVersion n)) (version_forgotten x w sound n (unused w bare n (gone n (inl refl)))) (record { snapshots = bare.snapshots; envs = bare.envs }) ns (λ m h. gone m (inr h)),
  )

  -- Each version that is left is that of a table that stays, and no view shares its object.
  pub record IsForgotten (w : World) : Type 0 where
    pub snapshots : w.book.snapshots ≡ b.snapshots
    pub versions : (n : Name) (v : Version) → version_of w.book n ≡ Some v → is_table_kept b t n ≡ true
    pub alone : (s p : Snapshot) → IsSnapshot b.snapshots s → IsSnapshot b.snapshots p → s.object ≡ p.object → s.own.kind ≡ View → snapshot_ref s ≡ snapshot_ref p

  -- no parent of a snapshot that stays has a table that goes
  parent_stays : (s : Snapshot) → IsSnapshot b.snapshots s → is_kept b t s ≡ true → (n : Name) → Has n (gone_tables b t) → (q : Pair) → Has q (parent_objects b.snapshots s.parents) → q.second ≡ n → ⊥
  parent_stays s known stays n goes q h same =
      let (r, i, j) = Has_flat_from (object_named b.snapshots) s.parents q h in
      let (p, k, is) = Has_map_from (λ (u : Snapshot). record { first = r.name; second = u.object }) (option_to_list (snapshot_at b.snapshots r)) q j in
      let at : snapshot_at b.snapshots r ≡ Some p = Has_some_from (snapshot_at b.snapshots r) p k in
      let object : p.object ≡ n = ap (λ (o : Pair). o.second) is ∙ same in
      kept_object b well t p (is_its_own b.snapshots r p at) (kept_parent b well t s p r (there b well t s known) stays i at) (subst (λ (m : Name). Has m (gone_tables b t)) (sym object) goes)

  -- a view that is made stays
  view_stays : (w : World) → IsForgotten w → (s : Snapshot) → IsSnapshot b.snapshots s → s.own.kind ≡ View → (v : Version) → version_of w.book s.object ≡ Some v → is_kept b t s ≡ true
  view_stays w forgotten s known view v at =
      let (p, own, stays, same) = table_user b well t s.object (forgotten.versions s.object v at) in
      let one : s ≡ p = one_snapshot b well t s p known own (forgotten.alone s p known own (sym same) view) in
      ap (is_kept b t) one ∙ stays

  untold : (w : World) → IsForgotten w → (n : Name) → Has n (gone_tables b t) → (s : Snapshot) → IsSnapshot w.book.snapshots s → s.own.kind ≡ View → (v : Version) → version_of w.book s.object ≡ Some v → v.made ≡ true
      → All (λ (q : Pair). q.second ≡ n → ⊥) (parent_objects w.book.snapshots s.parents)
  untold w forgotten n goes s known view v at made =
      let own : IsSnapshot b.snapshots s = ap (λ (l : List Snapshot). snapshot_at l (snapshot_ref s)) (sym forgotten.snapshots) ∙ known in
      let stays = view_stays w forgotten s own view v at in
      subst (λ (l : List Snapshot). All (λ (q : Pair). q.second ≡ n → ⊥) (parent_objects l s.parents)) (sym forgotten.snapshots)
      (all_from (λ (q : Pair). q.second ≡ n → ⊥) (parent_objects b.snapshots s.parents) (parent_stays s own stays n goes))

  pub objects_along : (x : Parts) (w : World) → Sound x w → IsForgotten w → (ns : List Name) → ((n : Name) → Has n ns → Has n (gone_tables b t)) → StaysAlong x w (map (λ n. DropObject n) ns)
  objects_along x w sound forgotten [] gone = sound
  objects_along x w sound forgotten (n ∷ ns) gone =
      let goes = gone n (inl refl) in
      let next = along_kept x w (DropObject n) sound
      (object_dropped x w sound n (λ v at. absurd (gone_not b well t n goes (forgotten.versions n v at))) (untold w forgotten n goes)) (λ q. refl) in
      (sound, objects_along (left (DropObject n ∷ []) x) (step w (DropObject n)) next.1 (record { snapshots = forgotten.snapshots; versions = forgotten.versions; alone = forgotten.alone }) ns (λ m h. gone m (inr h)))
