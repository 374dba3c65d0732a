-- What a change of one object leaves as it was, and what it makes of that object.
use Rattle.std.proofs.Common.{◌≡◌, ℕ, ℤ, ◌<ℤ◌, Bool, true, false, cond, List, [], Some, None, refl, sym, ◌∙◌, ap}
use Rattle.std.specs.declared.option.Option.{Option}
use Rattle.std.specs.Ordering.{is_eq}
use Rattle.mesh_list.specs.Keyed.{exchanged, found}
use Rattle.mesh_base_values.specs.Names.{name_cmp}
use Rattle.mesh_base_values.specs.NameOrder.{names_exact}
use Rattle.mesh_base_values.specs.declared.values.Cell.{Cell}
use Rattle.mesh_base_values.specs.declared.values.Column.{Column}
use Rattle.mesh_base_values.specs.declared.values.Name.{Name}
use Rattle.mesh_base_values.specs.declared.values.Pair.{Pair}
use Rattle.mesh_base_values.proofs.Tests.{lt_true}
use Rattle.mesh_base.specs.declared.definitions.Own.{Own}
use Rattle.mesh_time_days.specs.seconds.Rows.{rewritten}
use Rattle.mesh_house_book.specs.Changes.{as_table, as_view, at_version, make_table as table_made, make_view as view_made, version_object, with_marks, with_range}
use Rattle.mesh_house_book.specs.declared.book.Book.{Book}
use Rattle.mesh_house_book.specs.declared.versions.Version.{Version}
use Rattle.mesh_house_book.proofs.Exchanged.{found_key}
use Rattle.mesh_house.specs.declared.objects.Body.{Body}
use Rattle.mesh_house.specs.declared.objects.Body.TheVariants.{Rows, Stored}
use Rattle.mesh_house.specs.declared.objects.Object.{Object}
use Rattle.mesh_house.specs.declared.world.World.{World}
use Rattle.mesh_house.specs.declared.world.Change.TheVariants.{MakeTable, MakeView, RecordMarks, RecordRange, ReplaceRows, WriteRange}
use Rattle.mesh_house.specs.Objects.{is_physical, object_name}
use Rattle.mesh_house.specs.Step.{filled, filled_at, step, with_book, with_object, written_at, written_body, written_object}
use Rattle.mesh_house.specs.World.{body_of, object_at, rows_of, version_of}
use Rattle.mesh_house.proofs.After.{object_at-with_object}
use Rattle.mesh_spec_promise.specs.Sound.{table_rows}
use Rattle.mesh_spec_promise.proofs.Found.{found-exchanged}
use Rattle.mesh_law_changes.proofs.Recorded.{other_object, same_object}
use Rattle.mesh_law_changes.specs.along.Filled.{IsOfObject}

-- a world with the sources and the book of another
pub of_object : (object : Name) (w v : World) → v.sources ≡ w.sources → v.book ≡ w.book → IsOfObject object w v
of_object object w v sources book = record {
  sources = sources;
  moment = ap (λ (b : Book). b.moment) book;
  snapshots = ap (λ (b : Book). b.snapshots) book;
  environments = ap (λ (b : Book). b.environments) book;
  versions = λ name other. ap (λ (b : Book). version_of b name) book;
}

pub of_object_then : (object : Name) (u v w : World) → IsOfObject object u v → IsOfObject object v w → IsOfObject object u w
of_object_then object u v w h k = record {
  sources = k.sources ∙ h.sources;
  moment = k.moment ∙ h.moment;
  snapshots = k.snapshots ∙ h.snapshots;
  environments = k.environments ∙ h.environments;
  versions = λ name other. k.versions name other ∙ h.versions name other;
}

-- one version changes
module _ (w v : World) (object : Name) (f : Version → Version) (keeps : (u : Version) → (f u).object ≡ u.object) (sources : v.sources ≡ w.sources) (book : v.book ≡ at_version (version_of w.book object) f w.book)
    (old : Version) (here : version_of w.book object ≡ Some old) where
  its : (f old).object ≡ object
  its = keeps old ∙ found_key name_cmp version_object names_exact object old w.book.versions here

  book_is : v.book ≡ record w.book { versions = exchanged name_cmp version_object (f old) w.book.versions }
  book_is = book ∙ ap (λ (o : Option Version). at_version o f w.book) here

  found_now : (name : Name) → version_of v.book name ≡ cond (is_eq (name_cmp (f old).object name)) (Some (f old)) (version_of w.book name)
  found_now name =
      ap (λ (b : Book). version_of b name) book_is
      ∙ found-exchanged name_cmp names_exact version_object (f old) name old w.book.versions (ap (version_of w.book) its ∙ here)

  pub version_changed : version_of v.book object ≡ Some (f old)
  version_changed = found_now object ∙ ap (λ (b : Bool). cond b (Some (f old)) (version_of w.book object)) (ap (λ (n : Name). is_eq (name_cmp n object)) its ∙ same_object object)

  pub version_of_object : IsOfObject object w v
  version_of_object = record {
    sources = sources;
    moment = ap (λ (b : Book). b.moment) book_is;
    snapshots = ap (λ (b : Book). b.snapshots) book_is;
    environments = ap (λ (b : Book). b.environments) book_is;
    versions = λ name other. found_now name ∙ ap (λ (b : Bool). cond b (Some (f old)) (version_of w.book name)) (other_object (f old).object name (λ same. other (sym same ∙ its)));
  }

-- marks or a unit are recorded, and a table or a view is made
module _ (w : World) (object : Name) (old : Version) (here : version_of w.book object ≡ Some old) where
  module _ (ms : List ℤ) where
    pub marked_object : IsOfObject object w (step w (RecordMarks object ms))
    marked_object = version_of_object w (step w (RecordMarks object ms)) object (with_marks ms) (λ u. refl) refl refl old here

    pub marked_version : version_of (step w (RecordMarks object ms)).book object ≡ Some (with_marks ms old)
    marked_version = version_changed w (step w (RecordMarks object ms)) object (with_marks ms) (λ u. refl) refl refl old here

  module _ (start end : ℤ) (proper : start <ℤ end) where
    ranged : step w (RecordRange object start end) ≡ with_book w (at_version (version_of w.book object) (with_range start end) w.book)
    ranged = ap (λ (b : Bool). with_book w (cond b (at_version (version_of w.book object) (with_range start end) w.book) w.book)) (lt_true start end proper)

    pub ranged_object : IsOfObject object w (step w (RecordRange object start end))
    ranged_object =
        version_of_object w (step w (RecordRange object start end)) object (with_range start end) (λ u. refl)
        refl (ap (λ (v : World). v.book) ranged) old here

    pub ranged_version : version_of (step w (RecordRange object start end)).book object ≡ Some (with_range start end old)
    ranged_version =
        version_changed w (step w (RecordRange object start end)) object (with_range start end) (λ u. refl)
        refl (ap (λ (v : World). v.book) ranged) old here

  module _ (physical : is_physical object ≡ true) (columns : List Column) where
    table_is : step w (MakeTable object columns) ≡ with_book (with_object w (record { name = object; columns = columns; body = Rows [] })) (table_made w.book object)
    table_is = ap (λ (b : Bool). cond b (with_book (with_object w (record { name = object; columns = columns; body = Rows [] })) (table_made w.book object)) w) physical

    pub table_object : IsOfObject object w (step w (MakeTable object columns))
    table_object =
        version_of_object w (step w (MakeTable object columns)) object as_table (λ u. refl)
        (ap (λ (v : World). v.sources) table_is) (ap (λ (v : World). v.book) table_is) old here

    pub table_version : version_of (step w (MakeTable object columns)).book object ≡ Some (as_table old)
    table_version =
        version_changed w (step w (MakeTable object columns)) object as_table (λ u. refl)
        (ap (λ (v : World). v.sources) table_is) (ap (λ (v : World). v.book) table_is) old here

    module _ (own : Own) (targets : List Pair) where
      view_is : step w (MakeView object columns own targets) ≡ with_book (with_object w (record { name = object; columns = columns; body = Stored own targets })) (view_made w.book object)
      view_is = ap (λ (b : Bool). cond b (with_book (with_object w (record { name = object; columns = columns; body = Stored own targets })) (view_made w.book object)) w) physical

      pub view_object : IsOfObject object w (step w (MakeView object columns own targets))
      view_object =
          version_of_object w (step w (MakeView object columns own targets)) object as_view (λ u. refl)
          (ap (λ (v : World). v.sources) view_is) (ap (λ (v : World). v.book) view_is) old here

      pub view_version : version_of (step w (MakeView object columns own targets)).book object ≡ Some (as_view old)
      view_version =
          version_changed w (step w (MakeView object columns own targets)) object as_view (λ u. refl)
          (ap (λ (v : World). v.sources) view_is) (ap (λ (v : World). v.book) view_is) old here

-- an object that stands has a name that an object may have
physical_at : (w : World) (name : Name) (o : Object) → object_at w name ≡ Some o → (is_physical name ≡ true) × (found name_cmp object_name name w.objects ≡ Some o)
physical_at w name o at = go (is_physical name) at
  where
    go : (b : Bool) → cond b (found name_cmp object_name name w.objects) None ≡ Some o → (b ≡ true) × (found name_cmp object_name name w.objects ≡ Some o)
    go true e = (refl, e)
    go false e = absurd (let f : None ≡ Some o = e in cc)

rows_at : (w : World) (name : Name) (o : Object) (b : Body) → object_at w name ≡ Some o → o.body ≡ b → table_rows w name ≡ rows_of (Some b)
rows_at w name o b at is = ap (λ (p : Option Object). rows_of (body_of p)) at ∙ ap (λ (c : Body). rows_of (Some c)) is

-- a table's rows are replaced
module _ (w : World) (object : Name) (rows : List (List Cell)) where
  pub replaced_keeps : ((step w (ReplaceRows object rows)).sources ≡ w.sources) × ((step w (ReplaceRows object rows)).book ≡ w.book)
  replaced_keeps = at (object_at w object)
    where
      bodied : (o : Object) (b : Body) → ((filled b o.columns w object rows).sources ≡ w.sources) × ((filled b o.columns w object rows).book ≡ w.book)
      bodied o (Rows old) = (refl, refl)
      bodied o (Stored own targets) = (refl, refl)

      at : (o : Option Object) → ((filled_at o w object rows).sources ≡ w.sources) × ((filled_at o w object rows).book ≡ w.book)
      at None = (refl, refl)
      at (Some o) = bodied o o.body

  -- and where it has rows after that, it has these
  pub replaced_rows : (now : List (List Cell)) → table_rows (step w (ReplaceRows object rows)) object ≡ Some now → rows ≡ now
  replaced_rows now is = at (object_at w object) refl is
    where
      bodied : (o : Object) → object_at w object ≡ Some o → (b : Body) → o.body ≡ b → table_rows (filled b o.columns w object rows) object ≡ Some now → rows ≡ now
      bodied o here (Rows old) was e =
          let new : Object = record { name = object; columns = o.columns; body = Rows rows } in
          let there : object_at (with_object w new) object ≡ Some new =
          object_at-with_object w new object (physical_at w object o here).0 ∙ ap (λ (b : Bool). cond b (Some new) (object_at w object)) (same_object object) in
          let both : Some rows ≡ Some now = sym (rows_at (with_object w new) object new (Rows rows) there refl) ∙ e in cc
      bodied o here (Stored own targets) was e = absurd (let f : None ≡ Some now = sym (rows_at w object o (Stored own targets) here was) ∙ e in cc)

      at : (o : Option Object) → object_at w object ≡ o → table_rows (filled_at o w object rows) object ≡ Some now → rows ≡ now
      at None here e = absurd (let f : None ≡ Some now = sym (ap (λ (p : Option Object). rows_of (body_of p)) here) ∙ e in cc)
      at (Some o) here e = bodied o here o.body refl e

-- rows of a range are written
module _ (w : World) (object : Name) (time : List ℕ) (start end : ℤ) (rows : List (List Cell)) where
  pub written_keeps : ((step w (WriteRange object time start end rows)).sources ≡ w.sources) × ((step w (WriteRange object time start end rows)).book ≡ w.book)
  written_keeps = at (object_at w object)
    where
      at : (o : Option Object) → ((written_at o w time start end rows).sources ≡ w.sources) × ((written_at o w time start end rows).book ≡ w.book)
      at None = (refl, refl)
      at (Some o) = (refl, refl)

-- the rows that are there after that
pub record AreWritten (w : World) (object : Name) (time : List ℕ) (start end : ℤ) (rows now : List (List Cell)) : Type 0 where
  pub table : Object
  pub stood : object_at w object ≡ Some table
  pub before : List (List Cell)
  pub are : rewritten table.columns time start end rows before ≡ now

module _ (w : World) (object : Name) (time : List ℕ) (start end : ℤ) (rows : List (List Cell)) where
  pub written_rows : (now : List (List Cell)) → table_rows (step w (WriteRange object time start end rows)) object ≡ Some now → AreWritten w object time start end rows now
  written_rows now is = at (object_at w object) refl is
    where
      bodied : (o : Object) → object_at w object ≡ Some o → (b : Body) → o.body ≡ b → Some now ≡ rows_of (Some (written_body o.columns time start end rows b)) → AreWritten w object time start end rows now
      bodied o here (Rows old) was e = record { table = o; stood = here; before = old; are = let same : rewritten o.columns time start end rows old ≡ now = cc in same }
      bodied o here (Stored own targets) was e = absurd (let f : Some now ≡ None = e in cc)

      at : (o : Option Object) → object_at w object ≡ o → table_rows (written_at o w time start end rows) object ≡ Some now → AreWritten w object time start end rows now
      at None here e = absurd (let f : None ≡ Some now = sym (ap (λ (p : Option Object). rows_of (body_of p)) here) ∙ e in cc)
      at (Some o) here e =
          let new : Object = written_object o time start end rows in
          let after : World = record w { objects = exchanged name_cmp object_name new w.objects } in
          let found_it = physical_at w object o here in
          let named : o.name ≡ object = found_key name_cmp object_name names_exact object o w.objects found_it.1 in
          let there : object_at after object ≡ Some new =
          ap (λ (b : Bool). cond b (found name_cmp object_name object after.objects) None) found_it.0
          ∙ found-exchanged name_cmp names_exact object_name new object o w.objects (ap (λ (n : Name). found name_cmp object_name n w.objects) named ∙ found_it.1)
          ∙ ap (λ (b : Bool). cond b (Some new) (found name_cmp object_name object w.objects)) (ap (λ (n : Name). is_eq (name_cmp n object)) named ∙ same_object object) in
          bodied o here o.body refl (sym e ∙ ap (λ (p : Option Object). rows_of (body_of p)) there)
