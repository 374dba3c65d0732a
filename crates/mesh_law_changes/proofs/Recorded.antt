-- A world stays well kept where what is recorded of one version changes, if that is so of its table.
use Rattle.std.proofs.Common.{◌≡◌, Bool, true, false, cond, ◌&&◌, List, [], Some, None, refl, sym, ◌∙◌, ap, subst, IsTrue}
use Rattle.std.specs.Cmp.{Equal-is}
use Rattle.std.proofs.lemmas.Cmp.{tied_itself}
use Rattle.std.specs.Ordering.{is_eq}
use Rattle.std.proofs.lemmas.Bool.{and_from as and_both}
use Rattle.mesh_list.specs.Keyed.{ascends, exchanged}
use Rattle.mesh_list.proofs.Ascends.{and_left, and_right}
use Rattle.mesh_list.proofs.Standing.{ascends-exchanged}
use Rattle.mesh_base_values.specs.Names.{name_cmp}
use Rattle.mesh_base_values.specs.NameOrder.{names_exact, names_total}
use Rattle.mesh_base_values.specs.declared.kinds.Kind.{Kind}
use Rattle.mesh_base_values.specs.declared.kinds.Kind.TheVariants.{Full, View, Seed, Incremental}
use Rattle.mesh_base_values.specs.declared.values.Name.{Name}
use Rattle.mesh_base_values.proofs.Equals.{name_is as object_is}
use Rattle.mesh_base.specs.declared.forgets.Forget.{Forget}
use Rattle.mesh_base.specs.declared.forgets.Forget.TheVariants.{Marks}
use Rattle.mesh_base.specs.declared.snapshots.Snapshot.{Snapshot}
use Rattle.mesh_time.specs.Ranges.{is_apart}
use Rattle.mesh_house_book.specs.declared.book.Book.{Book}
use Rattle.mesh_house_book.specs.declared.versions.Version.{Version}
use Rattle.mesh_house_book.specs.Changes.{version_object}
use Rattle.mesh_house_book.specs.WellFormed.{all_fit, is_above, is_moment, is_snapshot_fit, is_version, is_well_formed_book}
use Rattle.mesh_spec_model.specs.Horizons.{Clock, Shows}
use Rattle.mesh_house.specs.declared.world.World.{World}
use Rattle.mesh_house.specs.World.{version_of}
use Rattle.mesh_spec_changes.specs.listed.Closing.{IsSnapshot}
use Rattle.mesh_spec_changes.specs.due.Parts.{Parts, object_of, unit_of}
use Rattle.mesh_spec_promise.specs.Sound.{Sound, Uses, IsMade, IsViewOf, IsTyped, IsBookSound, IsTableSound, AreTablesSound, AreObjectsSound, AreViewsSound, IsObjectMade}
use Rattle.mesh_spec_promise.proofs.Found.{found-exchanged}
use Rattle.mesh_law_changes.proofs.Rising.{all_keep, all_pass, rises}

-- a part is looked at as before where it is of another object
abbrev pub Spares : Name → Parts → Parts → Type 0
Spares object x y = (q : Forget) → (object_of q ≡ object → ⊥) → y q ≡ false → x q ≡ false

and_nothing : (b : Bool) → b ≡ (b && true)
and_nothing true = refl
and_nothing false = refl

-- the versions of a well-formed book rise
pub versions_rise : (b : Book) → is_well_formed_book b ≡ true → ascends name_cmp version_object b.versions ≡ true
versions_rise b well =
    let one = and_right (is_moment b.moment && is_version b.version) _ well in
    let two = and_right (all_fit (is_snapshot_fit b.version b.snapshots) None b.snapshots) _ one in
    rises name_cmp version_object (λ v. true) (is_above name_cmp version_object) (λ o v. and_nothing (is_above name_cmp version_object o v)) b.versions (and_left (all_fit (is_above name_cmp version_object) None b.versions) _ two)

-- it stays well formed with other versions that rise
pub well_with_versions : (b : Book) (vs : List Version) → is_well_formed_book b ≡ true → ascends name_cmp version_object vs ≡ true → is_well_formed_book (record b { versions = vs }) ≡ true
well_with_versions b vs well up =
    let one = and_right (is_moment b.moment && is_version b.version) _ well in
    let two = and_right (all_fit (is_snapshot_fit b.version b.snapshots) None b.snapshots) _ one in
    and_both _ _ (and_left (is_moment b.moment && is_version b.version) _ well)
    (and_both _ _ (and_left (all_fit (is_snapshot_fit b.version b.snapshots) None b.snapshots) _ one)
    (and_both _ _ (all_keep name_cmp version_object (λ v. true) (is_above name_cmp version_object) (λ o v. and_nothing (is_above name_cmp version_object o v)) vs up (all_pass (λ v. true) vs (λ v k. refl)))
    (and_right (all_fit (is_above name_cmp version_object) None b.versions) _ two)))

pub same_object : (n : Name) → is_eq (name_cmp n n) ≡ true
same_object n = (Equal-is (name_cmp n n)).1 (tied_itself names_total n)

pub other_object : (m n : Name) → (m ≡ n → ⊥) → is_eq (name_cmp m n) ≡ false
other_object m n other = go (is_eq (name_cmp m n)) refl
  where
    go : (b : Bool) → is_eq (name_cmp m n) ≡ b → b ≡ false
    go true h = absurd (other (object_is m n h))
    go false h = refl

-- what is recorded of a table is so where fewer of its parts are in doubt, but for those that were
pub table_retold : (x y : Parts) (w : World) (clock : Clock) (s : Snapshot) (v : Version) → ((q : Forget) → object_of q ≡ s.object → y q ≡ false → x q ≡ false) → (kind : Kind) → IsTableSound clock x w s v kind → IsTableSound clock y w s v kind
table_retold x y w clock s v fewer (Incremental time lookback) h = record { units = h.units; within = h.within; pieces = λ m u k held free. h.pieces m u k held (fewer (unit_of s.object u) refl free) }
table_retold x y w clock s v fewer Full h = record { no_later = h.no_later; rows = λ at free. h.rows at (fewer (Marks s.object) refl free) }
table_retold x y w clock s v fewer Seed h = h
table_retold x y w clock s v fewer View h = tt

-- a world is well kept but for other parts, where its tables are
pub retold : (x y : Parts) (w : World) → Sound x w → AreTablesSound y w → Sound y w
retold x y w sound tables = record { typed = sound.typed; book = sound.book; tables = tables; objects = sound.objects; views = sound.views }

module _ (x y : Parts) (w : World) (sound : Sound x w) (old new : Version) (here : version_of w.book new.object ≡ Some old) (made : old.made ≡ true → new.made ≡ true) (apart : IsTrue (is_apart new.ranges))
    (no_ranges : new.made ≡ false → new.ranges ≡ []) (no_marks : new.made ≡ false → new.marks ≡ None) (spares : Spares new.object x y)
    (stands : new.made ≡ true → (s : Snapshot) → IsSnapshot w.book.snapshots s → s.object ≡ new.object → IsMade w s)
    (table : (clock : Clock) → Shows clock w.book.moment → (s : Snapshot) → IsSnapshot w.book.snapshots s → s.object ≡ new.object → IsTableSound clock y w s new s.own.kind) where
  abbrev after : World
  after = record w { book = record w.book { versions = exchanged name_cmp version_object new w.book.versions } }

  found_after : (name : Name) → version_of after.book name ≡ cond (is_eq (name_cmp new.object name)) (Some new) (version_of w.book name)
  found_after name = found-exchanged name_cmp names_exact version_object new name old w.book.versions here

  -- a version is the new one, or as it was
  by_version : (P : Version → Type 0) (name : Name) (v : Version) → version_of after.book name ≡ Some v → (new.object ≡ name → P new) → ((new.object ≡ name → ⊥) → version_of w.book name ≡ Some v → P v) → P v
  by_version P name v at f g =
      go (is_eq (name_cmp new.object name)) refl (sym (found_after name) ∙ at)
    where
      go : (b : Bool) → is_eq (name_cmp new.object name) ≡ b → cond b (Some new) (version_of w.book name) ≡ Some v → P v
      go true e is = let same : new ≡ v = cc in subst P same (f (object_is new.object name e))
      go false e is = g (λ same. let t : is_eq (name_cmp new.object name) ≡ true = ap (λ (n : Name). is_eq (name_cmp n name)) same ∙ same_object name in let f : true ≡ false = sym t ∙ e in cc) is

  uses_after : (name : Name) → Uses w.book name → Uses after.book name
  uses_after name u = record { snapshot = u.snapshot; kept = u.kept; uses = u.uses }

  made_after : (s : Snapshot) → IsMade w s → IsMade after s
  made_after s m = record { object = m.object; stands = m.stands; columns = m.columns; targets = m.targets }

  view_after : (name target : Name) → IsViewOf w name target → IsViewOf after name target
  view_after name target v = record { env = v.env; known = v.known; entry = v.entry; of = v.of; snapshot = v.snapshot; is = v.is; view = v.view; object = v.object }

  table_after : (clock : Clock) (z : Parts) (s : Snapshot) (v : Version) → ((q : Forget) → object_of q ≡ s.object → y q ≡ false → z q ≡ false) → (kind : Kind) → IsTableSound clock z w s v kind → IsTableSound clock y after s v kind
  table_after clock z s v fewer (Incremental time lookback) h = record { units = h.units; within = h.within; pieces = λ m u k held free. h.pieces m u k held (fewer (unit_of s.object u) refl free) }
  table_after clock z s v fewer Full h = record { no_later = h.no_later; rows = λ at free. h.rows at (fewer (Marks s.object) refl free) }
  table_after clock z s v fewer Seed h = h
  table_after clock z s v fewer View h = tt

  object_made_after : (s : Snapshot) → IsObjectMade w.book s → IsObjectMade after.book s
  object_made_after s (v, at, m) = go (is_eq (name_cmp new.object s.object)) refl (found_after s.object)
    where
      go : (b : Bool) → is_eq (name_cmp new.object s.object) ≡ b → version_of after.book s.object ≡ cond b (Some new) (version_of w.book s.object) → IsObjectMade after.book s
      go true e is =
          let object : new.object ≡ s.object = object_is new.object s.object e in
          let same : old ≡ v = let both : Some old ≡ Some v = sym here ∙ ap (version_of w.book) object ∙ at in cc in
          (new, is, made (ap (λ (u : Version). u.made) same ∙ m))
      go false e is = (v, is ∙ at, m)

  typed_after : IsTyped after
  typed_after =
      let t = sound.typed in
      record {
        sources = t.sources;
        plain = t.plain;
        objects = t.objects;
        physical = t.physical;
        views = t.views;
        ranges = λ name v at. by_version (λ u. IsTrue (is_apart u.ranges)) name v at (λ same. apart) (λ other kept. t.ranges name v kept);
        crons = t.crons;
      }

  book_after : IsBookSound after.book
  book_after =
      let b = sound.book in
      record {
        well_formed = well_with_versions w.book after.book.versions b.well_formed (ascends-exchanged name_cmp names_total version_object new w.book.versions (versions_rise w.book b.well_formed));
        names = b.names;
        versions = λ name v at. by_version (λ u. Uses after.book name) name v at
            (λ same. subst (Uses after.book) same (uses_after new.object (b.versions new.object old here))) (λ other before. uses_after name (b.versions name v before));
        ranges = λ name v at. by_version (λ u. u.made ≡ false → u.ranges ≡ []) name v at (λ same. no_ranges) (λ other before. b.ranges name v before);
        marks = λ name v at. by_version (λ u. u.made ≡ false → u.marks ≡ None) name v at (λ same. no_marks) (λ other before. b.marks name v before);
        shared = b.shared;
        alone = b.alone;
      }

  objects_after : AreObjectsSound after
  objects_after =
      let o = sound.objects in
      record {
        named = λ name object at. uses_after name (o.named name object at);
        bodies = o.bodies;
        made = λ s known v at. by_version (λ u. u.made ≡ true → IsMade after s) s.object v at
            (λ same m. made_after s (stands m s known (sym same)))
            (λ other before m. made_after s (o.made s known v before m));
      }

  views_after : AreViewsSound after
  views_after =
      let v = sound.views in
      record {
        views = λ name target at. view_after name target (v.views name target at);
        entries = λ e known r i s at. object_made_after s (v.entries e known r i s at);
        parents = v.parents;
        previous = v.previous;
        final = v.final;
      }

  pub recorded_sound : Sound y after
  recorded_sound = record {
    typed = typed_after;
    book = book_after;
    tables = λ clock now s known v at. by_version (λ u. IsTableSound clock y after s u s.own.kind) s.object v at
        (λ same. table_after clock y s new (λ q is free. free) s.own.kind (table clock now s known (sym same)))
        (λ other before. table_after clock x s v (λ q is free. spares q (λ of. other (sym of ∙ is)) free) s.own.kind (sound.tables clock now s known v before));
    objects = objects_after;
    views = views_after;
  }

-- where what is made stays so
pub stands_made : (x : Parts) (w : World) → Sound x w → (old : Version) (object : Name) → version_of w.book object ≡ Some old → old.made ≡ true → (s : Snapshot) → IsSnapshot w.book.snapshots s → s.object ≡ object → IsMade w s
stands_made x w sound old object here m s known same = sound.objects.made s known old (ap (version_of w.book) same ∙ here) m
