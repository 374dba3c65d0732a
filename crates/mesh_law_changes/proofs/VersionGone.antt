-- A world stays well kept where a version is forgotten whose object no environment has an entry for.
use Rattle.std.proofs.Common.{◌≡◌, Bool, true, false, cond, not, ◌&&◌, ◌||◌, [], ◌∷◌, Some, None, refl, sym, ◌∙◌, ap}
use Rattle.std.specs.Ordering.{is_eq}
use Rattle.mesh_list.proofs.Standing.{ascends-without}
use Rattle.mesh_base_values.specs.Names.{name_cmp}
use Rattle.mesh_base_values.specs.NameOrder.{names_exact, names_total}
use Rattle.mesh_base_values.specs.declared.kinds.Kind.{Kind}
use Rattle.mesh_base_values.specs.declared.kinds.Kind.TheVariants.{Full, View, Seed, Incremental}
use Rattle.mesh_base_values.specs.declared.values.Name.{Name}
use Rattle.mesh_base.specs.declared.forgets.Forget.{Forget}
use Rattle.mesh_base.specs.declared.forgets.Forget.TheVariants.{Marks}
use Rattle.mesh_base.specs.declared.snapshots.Env.{Env}
use Rattle.mesh_base.specs.declared.snapshots.Ref.{Ref}
use Rattle.mesh_base.specs.declared.snapshots.Snapshot.{Snapshot}
use Rattle.mesh_house_book.specs.Changes.{version_object}
use Rattle.mesh_house_book.specs.WellFormed.{snapshot_at}
use Rattle.mesh_house_book.specs.declared.versions.Version.{Version}
use Rattle.mesh_spec_model.specs.Horizons.{Clock}
use Rattle.mesh_house.specs.declared.world.World.{World}
use Rattle.mesh_house.specs.declared.world.Change.TheVariants.{ForgetVersion}
use Rattle.mesh_house.specs.Step.{step}
use Rattle.mesh_house.specs.World.{version_of}
use Rattle.mesh_spec_changes.specs.due.Parts.{Parts, object_of, same_name, unit_of}
use Rattle.mesh_spec_changes.specs.Environments.{IsEnv}
use Rattle.mesh_spec_promise.specs.Histories.{left}
use Rattle.mesh_spec_promise.specs.Sound.{Sound, Uses, IsEntry, IsTyped, IsBookSound, IsTableSound, AreObjectsSound, AreViewsSound}
use Rattle.mesh_law_changes.proofs.Recorded.{Spares, other_object, same_object, versions_rise, well_with_versions}
use Rattle.mesh_law_changes.proofs.Rising.{found-without}

module _ (x y : Parts) (w : World) (sound : Sound x w) (object : Name) (spares : Spares object x y)
    (unused : (e : Env) → IsEnv w.book e → (r : Ref) → IsEntry e r → (s : Snapshot) → snapshot_at w.book.snapshots r ≡ Some s → s.object ≡ object → ⊥) where
  abbrev after : World
  after = step w (ForgetVersion object)

  found_after : (name : Name) → version_of after.book name ≡ cond (is_eq (name_cmp object name)) None (version_of w.book name)
  found_after name = found-without name_cmp names_total names_exact version_object object name w.book.versions (versions_rise w.book sound.book.well_formed)

  was : (name : Name) (v : Version) → version_of after.book name ≡ Some v → (version_of w.book name ≡ Some v) × (name ≡ object → ⊥)
  was name v at = go (is_eq (name_cmp object name)) (λ same. ap (is_eq) (ap (name_cmp object) same) ∙ same_object object) (sym (found_after name) ∙ at)
    where
      go : (b : Bool) → (name ≡ object → b ≡ true) → cond b None (version_of w.book name) ≡ Some v → (version_of w.book name ≡ Some v) × (name ≡ object → ⊥)
      go true same h = absurd (let f : None ≡ Some v = h in cc)
      go false same h = (h, λ e. let f : false ≡ true = same e in cc)

  stays : (name : Name) → (name ≡ object → ⊥) → version_of after.book name ≡ version_of w.book name
  stays name other = found_after name ∙ ap (λ (b : Bool). cond b None (version_of w.book name)) (other_object object name (λ e. other (sym e)))

  uses_after : (name : Name) → Uses w.book name → Uses after.book name
  uses_after name u = record { snapshot = u.snapshot; kept = u.kept; uses = u.uses }

  table_after : (clock : Clock) (s : Snapshot) (v : Version) → ((q : Forget) → object_of q ≡ s.object → y q ≡ false → x q ≡ false) → (kind : Kind) → IsTableSound clock x w s v kind → IsTableSound clock y after s v kind
  table_after clock s v fewer (Incremental time lookback) h = record { units = h.units; within = h.within; pieces = λ m u k held free. h.pieces m u k held (fewer (unit_of s.object u) refl free) }
  table_after clock s v fewer Full h = record { no_later = h.no_later; rows = λ at free. h.rows at (fewer (Marks s.object) refl free) }
  table_after clock s v fewer Seed h = h
  table_after clock s v fewer View h = tt

  typed_after : IsTyped after
  typed_after =
      let t = sound.typed in
      record {
        sources = t.sources;
        plain = t.plain;
        objects = t.objects;
        physical = t.physical;
        views = t.views;
        ranges = λ name v at. t.ranges name v (was name v at).0;
        crons = t.crons;
      }

  book_after : IsBookSound after.book
  book_after =
      let b = sound.book in
      record {
        well_formed = well_with_versions w.book after.book.versions b.well_formed (ascends-without name_cmp names_total version_object object w.book.versions (versions_rise w.book b.well_formed));
        names = b.names;
        versions = λ name v at. uses_after name (b.versions name v (was name v at).0);
        ranges = λ name v at. b.ranges name v (was name v at).0;
        marks = λ name v at. b.marks name v (was name v at).0;
        shared = b.shared;
        alone = b.alone;
      }

  objects_after : AreObjectsSound after
  objects_after =
      let o = sound.objects in
      record {
        named = λ name object at. uses_after name (o.named name object at);
        bodies = o.bodies;
        made = λ s known v at m. let i = o.made s known v (was s.object v at).0 m in record { object = i.object; stands = i.stands; columns = i.columns; targets = i.targets };
      }

  views_after : AreViewsSound after
  views_after =
      let v = sound.views in
      record {
        views = λ name target at. let i = v.views name target at in record { env = i.env; known = i.known; entry = i.entry; of = i.of; snapshot = i.snapshot; is = i.is; view = i.view; object = i.object };
        entries = λ e known r i s at. let m = v.entries e known r i s at in (m.0, stays s.object (unused e known r i s at) ∙ m.1, m.2);
        parents = v.parents;
        previous = v.previous;
        final = v.final;
      }

  version_gone : Sound y after
  version_gone = record {
    typed = typed_after;
    book = book_after;
    tables = λ clock now s known v at. let before = was s.object v at in table_after clock s v (λ q of free. spares q (λ is. before.1 (sym of ∙ is)) free) s.own.kind (sound.tables clock now s known v before.0);
    objects = objects_after;
    views = views_after;
  }

-- no part of it is in doubt
pub version_forgotten : (x : Parts) (w : World) → Sound x w → (object : Name) → ((e : Env) → IsEnv w.book e → (r : Ref) → IsEntry e r → (s : Snapshot) → snapshot_at w.book.snapshots r ≡ Some s → s.object ≡ object → ⊥)
    → Sound (left (ForgetVersion object ∷ []) x) (step w (ForgetVersion object))
version_forgotten x w sound object unused = version_gone x (left (ForgetVersion object ∷ []) x) w sound object spares unused
  where
    spares : Spares object x (left (ForgetVersion object ∷ []) x)
    spares q other free = go (x q) (same_name object (object_of q)) (other_object object (object_of q) (λ e. other (sym e))) free
      where
        go : (a b : Bool) → b ≡ false → (a && not (b || false)) ≡ false → a ≡ false
        go true b e f = absurd (let t : true ≡ false = sym (ap (λ (c : Bool). not (c || false)) e) ∙ f in cc)
        go false b e f = refl
