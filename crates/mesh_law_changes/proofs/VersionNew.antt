-- A world stays well kept where the object of a snapshot gets a version, which isn't made.
use Rattle.std.proofs.Common.{◌≡◌, Bool, true, false, cond, [], Some, None, refl, sym, ◌∙◌, ap, subst, IsTrue}
use Rattle.std.specs.Ordering.{is_eq}
use Rattle.mesh_list.specs.Keyed.{placed}
use Rattle.mesh_list.proofs.Ascends.{ascends-placed}
use Rattle.mesh_list.proofs.Found.{found-placed}
use Rattle.mesh_base_values.specs.Names.{name_cmp}
use Rattle.mesh_base_values.specs.NameOrder.{names_exact, names_total}
use Rattle.mesh_base_values.specs.declared.kinds.Kind.{Kind}
use Rattle.mesh_base_values.specs.declared.kinds.Kind.TheVariants.{Full, View, Seed, Incremental}
use Rattle.mesh_base_values.specs.declared.values.Name.{Name}
use Rattle.mesh_base_values.proofs.Equals.{name_is as object_is}
use Rattle.mesh_base.specs.declared.snapshots.Snapshot.{Snapshot}
use Rattle.mesh_time.specs.Ranges.{is_apart}
use Rattle.mesh_house_book.specs.Changes.{new_version, version_object}
use Rattle.mesh_house_book.specs.declared.versions.Version.{Version}
use Rattle.mesh_spec_model.specs.Horizons.{Clock}
use Rattle.mesh_house.specs.declared.world.World.{World}
use Rattle.mesh_house.specs.World.{version_of}
use Rattle.mesh_spec_changes.specs.listed.Closing.{closing}
use Rattle.mesh_spec_changes.specs.due.Marks.{marks}
use Rattle.mesh_spec_changes.specs.due.Parts.{Parts}
use Rattle.mesh_spec_promise.specs.Sound.{Sound, Uses, IsMade, IsObjectMade, IsTyped, IsBookSound, IsTableSound, AreObjectsSound, AreViewsSound}
use Rattle.mesh_law_changes.proofs.Recorded.{versions_rise, well_with_versions}

module _ (x : Parts) (w : World) (sound : Sound x w) (object : Name) (unknown : version_of w.book object ≡ None) (used : Uses w.book object) where
  abbrev fresh : Version
  fresh = new_version object

  abbrev after : World
  after = record w { book = record w.book { versions = placed name_cmp version_object fresh w.book.versions } }

  found_after : (name : Name) → version_of after.book name ≡ cond (is_eq (name_cmp object name)) (Some fresh) (version_of w.book name)
  found_after name = found-placed name_cmp names_exact version_object fresh name w.book.versions

  by_version : (P : Version → Type 0) (name : Name) (v : Version) → version_of after.book name ≡ Some v → (object ≡ name → P fresh) → (version_of w.book name ≡ Some v → P v) → P v
  by_version P name v at f g = go (is_eq (name_cmp object name)) refl (sym (found_after name) ∙ at)
    where
      go : (b : Bool) → is_eq (name_cmp object name) ≡ b → cond b (Some fresh) (version_of w.book name) ≡ Some v → P v
      go true e is = let same : fresh ≡ v = cc in subst P same (f (object_is object name e))
      go false e is = g is

  uses_after : (name : Name) → Uses w.book name → Uses after.book name
  uses_after name u = record { snapshot = u.snapshot; kept = u.kept; uses = u.uses }

  fresh_table : (clock : Clock) (s : Snapshot) (kind : Kind) → IsTableSound clock x after s fresh kind
  fresh_table clock s (Incremental time lookback) = record {
    units = λ t has. absurd has;
    within = λ m. absurd (let f : false ≡ true = m in cc);
    pieces = λ m. absurd (let f : false ≡ true = m in cc);
  }
  fresh_table clock s Full = record {
    no_later = λ old at. absurd (let f : None ≡ Some old = at in cc);
    rows = λ at. absurd (let f : None ≡ Some (marks clock (closing w.book.snapshots s)) = at in cc);
  }
  fresh_table clock s Seed = λ some. absurd (let f : false ≡ true = some in cc)
  fresh_table clock s View = tt

  table_after : (clock : Clock) (s : Snapshot) (v : Version) (kind : Kind) → IsTableSound clock x w s v kind → IsTableSound clock x after s v kind
  table_after clock s v (Incremental time lookback) h = h
  table_after clock s v Full h = h
  table_after clock s v Seed h = h
  table_after clock s v View h = tt

  object_made_after : (s : Snapshot) → IsObjectMade w.book s → IsObjectMade after.book s
  object_made_after s (v, at, m) = go (is_eq (name_cmp object s.object)) refl (found_after s.object)
    where
      go : (b : Bool) → is_eq (name_cmp object s.object) ≡ b → version_of after.book s.object ≡ cond b (Some fresh) (version_of w.book s.object) → IsObjectMade after.book s
      go true e is = absurd (let clash : None ≡ Some v = sym unknown ∙ ap (version_of w.book) (object_is object s.object e) ∙ at in cc)
      go false e is = (v, is ∙ at, m)

  typed_after : IsTyped after
  typed_after =
      let t = sound.typed in
      record {
        sources = t.sources;
        plain = t.plain;
        objects = t.objects;
        physical = t.physical;
        views = t.views;
        ranges = λ name v at. by_version (λ u. IsTrue (is_apart u.ranges)) name v at (λ same. refl) (λ before. t.ranges name v before);
        crons = t.crons;
      }

  book_after : IsBookSound after.book
  book_after =
      let b = sound.book in
      record {
        well_formed = well_with_versions w.book after.book.versions b.well_formed (ascends-placed name_cmp names_total version_object fresh w.book.versions (versions_rise w.book b.well_formed));
        names = b.names;
        versions = λ name v at. by_version (λ u. Uses after.book name) name v at (λ same. subst (Uses after.book) same (uses_after object used)) (λ before. uses_after name (b.versions name v before));
        ranges = λ name v at. by_version (λ u. u.made ≡ false → u.ranges ≡ []) name v at (λ same m. refl) (λ before. b.ranges name v before);
        marks = λ name v at. by_version (λ u. u.made ≡ false → u.marks ≡ None) name v at (λ same m. refl) (λ before. b.marks name v before);
        shared = b.shared;
        alone = b.alone;
      }

  objects_after : AreObjectsSound after
  objects_after =
      let o = sound.objects in
      record {
        named = λ name p at. uses_after name (o.named name p at);
        bodies = o.bodies;
        made = λ s known v at. by_version (λ u. u.made ≡ true → IsMade after s) s.object v at
            (λ same m. absurd (let f : false ≡ true = m in cc))
            (λ before m. let i = o.made s known v before m in record { object = i.object; stands = i.stands; columns = i.columns; targets = i.targets });
      }

  views_after : AreViewsSound after
  views_after =
      let v = sound.views in
      record {
        views = λ name target at. let i = v.views name target at in record { env = i.env; known = i.known; entry = i.entry; of = i.of; snapshot = i.snapshot; is = i.is; view = i.view; object = i.object };
        entries = λ e known r i s at. object_made_after s (v.entries e known r i s at);
        parents = v.parents;
        previous = v.previous;
        final = v.final;
      }

  pub version_new : Sound x after
  version_new = record {
    typed = typed_after;
    book = book_after;
    tables = λ clock now s known v at. by_version (λ u. IsTableSound clock x after s u s.own.kind) s.object v at
        (λ same. fresh_table clock s s.own.kind)
        (λ before. table_after clock s v s.own.kind (sound.tables clock now s known v before));
    objects = objects_after;
    views = views_after;
  }
