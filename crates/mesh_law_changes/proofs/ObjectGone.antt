-- A world stays well kept where an object goes whose version isn't made and which is no target of a made view.
use Rattle.std.proofs.Common.{◌≡◌, Bool, true, false, cond, List, Some, None, refl, sym, ◌∙◌, ap, subst, IsSome}
use Rattle.std.specs.declared.option.Option.{Option}
use Rattle.std.specs.List.{All, slice_index_or}
use Rattle.std.specs.Option.{is_some}
use Rattle.std.specs.Ordering.{is_eq}
use Rattle.mesh_list.specs.Keyed.{found}
use Rattle.mesh_list.proofs.Standing.{ascends-without}
use Rattle.mesh_base_values.specs.Names.{name_cmp}
use Rattle.mesh_base_values.specs.NameOrder.{names_exact, names_total}
use Rattle.mesh_base_values.specs.declared.kinds.Kind.{Kind}
use Rattle.mesh_base_values.specs.declared.kinds.Kind.TheVariants.{Full, View, Seed, Incremental}
use Rattle.mesh_base_values.specs.declared.values.Cell.{Cell}
use Rattle.mesh_base_values.specs.declared.values.Name.{Name}
use Rattle.mesh_base_values.specs.declared.values.Pair.{Pair}
use Rattle.mesh_base_values.proofs.Equals.{name_is as object_is}
use Rattle.mesh_base.specs.declared.snapshots.Snapshot.{Snapshot}
use Rattle.mesh_house_book.specs.declared.book.Book.{Book}
use Rattle.mesh_house_book.specs.declared.versions.Version.{Version}
use Rattle.mesh_spec_model.specs.Horizons.{Clock, schedule}
use Rattle.mesh_house.specs.declared.objects.Object.{Object}
use Rattle.mesh_house.specs.declared.world.World.{World}
use Rattle.mesh_house.specs.declared.world.Change.TheVariants.{DropObject}
use Rattle.mesh_house.specs.Objects.{is_physical, object_name}
use Rattle.mesh_house.specs.Step.{step}
use Rattle.mesh_house.specs.World.{body_of, object_at, rows_of, version_of}
use Rattle.mesh_house.proofs.Tested.{all-without}
use Rattle.mesh_spec_changes.specs.listed.Closing.{closing, IsSnapshot}
use Rattle.mesh_spec_changes.specs.due.Marks.{marks}
use Rattle.mesh_spec_changes.specs.due.Parts.{Parts}
use Rattle.mesh_spec_promise.specs.Sound.{Sound, AreUnits, IsMade, IsTyped, IsFullSound, IsIncrementalSound, IsSeedSound, IsTableSound, AreObjectsSound, AreViewsSound, parent_objects, table_rows}
use Rattle.mesh_law_changes.proofs.Recorded.{other_object, same_object}
use Rattle.mesh_law_changes.proofs.Rising.{found-without}

-- what is recorded of a version that isn't made is so of any table
pub table_unmade : (clock : Clock) (x : Parts) (w z : World) (s : Snapshot) (v : Version) → z.sources ≡ w.sources → z.book ≡ w.book → v.made ≡ false → v.marks ≡ None → (kind : Kind) → IsTableSound clock x w s v kind → IsTableSound clock x z s v kind
table_unmade clock x w z s v sources book unmade none (Incremental time lookback) h = record {
  units = subst (λ (b : Book). AreUnits (schedule clock (closing b.snapshots s)) v.ranges) (sym book) h.units;
  within = λ m. absurd (let f : true ≡ false = sym m ∙ unmade in cc);
  pieces = λ m. absurd (let f : true ≡ false = sym m ∙ unmade in cc);
}
table_unmade clock x w z s v sources book unmade none Full h = record {
  no_later = λ old at. absurd (let f : None ≡ Some old = sym none ∙ at in cc);
  rows = λ at. absurd (let f : None ≡ Some (marks clock (closing z.book.snapshots s)) = sym none ∙ at in cc);
}
table_unmade clock x w z s v sources book unmade none Seed h = λ some. absurd (let f : false ≡ true = sym (ap is_some none) ∙ some in cc)
table_unmade clock x w z s v sources book unmade none View h = tt

module _ (x : Parts) (w : World) (sound : Sound x w) (object : Name) (unmade : (v : Version) → version_of w.book object ≡ Some v → v.made ≡ false)
    (untold : (s : Snapshot) → IsSnapshot w.book.snapshots s → s.own.kind ≡ View → (v : Version) → version_of w.book s.object ≡ Some v → v.made ≡ true → All (λ (t : Pair). ¬ (t.second ≡ object)) (parent_objects w.book.snapshots s.parents)) where
  abbrev after : World
  after = step w (DropObject object)

  found_after : (name : Name) → object_at after name ≡ cond (is_eq (name_cmp object name)) None (object_at w name)
  found_after name =
      ap (λ (o : Option Object). cond (is_physical name) o None) (found-without name_cmp names_total names_exact object_name object name w.objects sound.typed.objects)
      ∙ go (is_physical name) (is_eq (name_cmp object name))
    where
      go : (a b : Bool) → cond a (cond b None (found name_cmp object_name name w.objects)) None ≡ cond b None (cond a (found name_cmp object_name name w.objects) None)
      go true b = refl
      go false true = refl
      go false false = refl

  was : (name : Name) (o : Object) → object_at after name ≡ Some o → object_at w name ≡ Some o
  was name o at = go (is_eq (name_cmp object name)) (sym (found_after name) ∙ at)
    where
      go : (b : Bool) → cond b None (object_at w name) ≡ Some o → object_at w name ≡ Some o
      go true h = absurd (let f : None ≡ Some o = h in cc)
      go false h = h

  stays : (name : Name) → (name ≡ object → ⊥) → object_at after name ≡ object_at w name
  stays name other = found_after name ∙ ap (λ (b : Bool). cond b None (object_at w name)) (other_object object name (λ e. other (sym e)))

  typed_after : IsTyped after
  typed_after =
      let t = sound.typed in
      record {
        sources = t.sources;
        plain = t.plain;
        objects = ascends-without name_cmp names_total object_name object w.objects t.objects;
        physical = all-without name_cmp object_name (λ (o : Object). is_physical o.name) object w.objects t.physical;
        views = t.views;
        ranges = t.ranges;
        crons = t.crons;
      }

  table_after : (clock : Clock) (s : Snapshot) (v : Version) → table_rows w s.object ≡ table_rows after s.object → (kind : Kind) → IsTableSound clock x w s v kind → IsTableSound clock x after s v kind
  table_after clock s v same (Incremental time lookback) h = subst (λ (t : Option (List (List Cell))). IsIncrementalSound clock x w.sources t s.object (closing w.book.snapshots s) s.own v) same h
  table_after clock s v same Full h = subst (λ (t : Option (List (List Cell))). IsFullSound clock x w.sources t s.object (closing w.book.snapshots s) v) same h
  table_after clock s v same Seed h = subst (λ (t : Option (List (List Cell))). IsSeedSound t s.own v) same h
  table_after clock s v same View h = tt

  -- by whether a name is the object's
  by_name : {P : Type 0} (name : Name) → (name ≡ object → P) → ((name ≡ object → ⊥) → P) → P
  by_name {P} name f g = go (is_eq (name_cmp name object)) refl
    where
      go : (b : Bool) → is_eq (name_cmp name object) ≡ b → P
      go true e = f (object_is name object e)
      go false e = g (λ same. let t : true ≡ false = sym (ap (λ (n : Name). is_eq (name_cmp n object)) same ∙ same_object object) ∙ e in cc)

  made_after : (s : Snapshot) → IsSnapshot w.book.snapshots s → (v : Version) → version_of w.book s.object ≡ Some v → v.made ≡ true → IsMade after s
  made_after s known v at m =
      let i = sound.objects.made s known v at m in
      let other : s.object ≡ object → ⊥ = λ same. let f : true ≡ false = sym m ∙ unmade v (ap (version_of w.book) (sym same) ∙ at) in cc in
      record {
        object = i.object;
        stands = stays s.object other ∙ i.stands;
        columns = i.columns;
        targets = λ view. λ k d l. some_left (slice_index_or (parent_objects w.book.snapshots s.parents) k d) (untold s known view v at m k d l) (i.targets view k d l);
      }
    where
      some_left : (t : Pair) → (t.second ≡ object → ⊥) → IsSome (object_at w t.second) → IsSome (object_at after t.second)
      some_left t other some = subst (λ (o : Option Object). IsSome o) (sym (stays t.second other)) some

  objects_after : AreObjectsSound after
  objects_after =
      let o = sound.objects in
      record {
        named = λ name object at. o.named name object (was name object at);
        bodies = λ s known object at. o.bodies s known object (was s.object object at);
        made = made_after;
      }

  views_after : AreViewsSound after
  views_after =
      let v = sound.views in
      record {
        views = λ name target at. let i = v.views name target at in record { env = i.env; known = i.known; entry = i.entry; of = i.of; snapshot = i.snapshot; is = i.is; view = i.view; object = i.object };
        entries = v.entries;
        parents = v.parents;
        previous = v.previous;
        final = v.final;
      }

  pub object_dropped : Sound x after
  object_dropped = record {
    typed = typed_after;
    book = sound.book;
    tables = λ clock now s known v at.
        by_name s.object
        (λ same. let no = unmade v (ap (version_of w.book) (sym same) ∙ at) in table_unmade clock x w after s v refl refl no (sound.book.marks s.object v at no) s.own.kind (sound.tables clock now s known v at))
        (λ other. table_after clock s v (ap (λ (o : Option Object). rows_of (body_of o)) (sym (stays s.object other))) s.own.kind (sound.tables clock now s known v at));
    objects = objects_after;
    views = views_after;
  }
