-- A world stays well kept where an object is put, if what is recorded of it is so of the new one.
use Rattle.std.proofs.Common.{◌≡◌, Bool, true, false, cond, List, Some, refl, sym, ◌∙◌, ap, subst, IsTrue, IsSome}
use Rattle.std.specs.declared.option.Option.{Option}
use Rattle.std.specs.List.{All, slice_index_or}
use Rattle.std.specs.Ordering.{is_eq}
use Rattle.mesh_list.specs.Keyed.{ascends}
use Rattle.mesh_base_values.specs.Names.{name_cmp}
use Rattle.mesh_base_values.specs.declared.kinds.Kind.{Kind}
use Rattle.mesh_base_values.specs.declared.kinds.Kind.TheVariants.{Full, View, Seed, Incremental}
use Rattle.mesh_base_values.specs.declared.values.Cell.{Cell}
use Rattle.mesh_base_values.specs.declared.values.Name.{Name}
use Rattle.mesh_base_values.specs.declared.values.Pair.{Pair}
use Rattle.mesh_base_values.proofs.Equals.{name_is as object_is}
use Rattle.mesh_base.specs.Outputs.{columns_of}
use Rattle.mesh_base.specs.declared.snapshots.Snapshot.{Snapshot}
use Rattle.mesh_house_book.specs.declared.versions.Version.{Version}
use Rattle.mesh_spec_model.specs.Horizons.{Clock, Shows}
use Rattle.mesh_house.specs.declared.objects.Object.{Object}
use Rattle.mesh_house.specs.declared.world.World.{World}
use Rattle.mesh_house.specs.Objects.{object_name, are_physical}
use Rattle.mesh_house.specs.World.{body_of, object_at, rows_of, version_of}
use Rattle.mesh_spec_changes.specs.listed.Closing.{closing, IsSnapshot}
use Rattle.mesh_spec_changes.specs.due.Parts.{Parts}
use Rattle.mesh_spec_promise.specs.Sound.{Sound, Uses, IsBodyOf, IsFullSound, IsIncrementalSound, IsMade, IsSeedSound, IsTyped, IsTableSound, AreObjectsSound, AreViewsSound, parent_objects, table_rows}
use Rattle.mesh_law_changes.proofs.Recorded.{same_object}

module _ (x : Parts) (w : World) (sound : Sound x w) (new : Object) (objects : List Object) (ascend : IsTrue (ascends name_cmp object_name objects)) (physical : IsTrue (are_physical objects))
    (found_after : (name : Name) → object_at (record w { objects = objects }) name ≡ cond (is_eq (name_cmp new.name name)) (Some new) (object_at w name)) (used : Uses w.book new.name)
    (body : (s : Snapshot) → IsSnapshot w.book.snapshots s → s.object ≡ new.name → IsBodyOf w.book.snapshots s s.own.kind new.body)
    (columns : (s : Snapshot) → IsSnapshot w.book.snapshots s → s.object ≡ new.name → (v : Version) → version_of w.book s.object ≡ Some v → v.made ≡ true → new.columns ≡ columns_of s.own)
    (table : (clock : Clock) → Shows clock w.book.moment → (s : Snapshot) → IsSnapshot w.book.snapshots s → s.object ≡ new.name → (v : Version) → version_of w.book s.object ≡ Some v → IsTableSound clock x (record w { objects = objects }) s v s.own.kind) where
  abbrev after : World
  after = record w { objects = objects }

  -- by whether a name is the object's
  by_name : {P : Type 0} (name : Name) → (new.name ≡ name → object_at after name ≡ Some new → P) → ((new.name ≡ name → ⊥) → object_at after name ≡ object_at w name → P) → P
  by_name {P} name f g = go (is_eq (name_cmp new.name name)) refl (found_after name)
    where
      go : (b : Bool) → is_eq (name_cmp new.name name) ≡ b → object_at after name ≡ cond b (Some new) (object_at w name) → P
      go true e at = f (object_is new.name name e) at
      go false e at = g (λ same. let t : true ≡ false = sym (ap (λ (n : Name). is_eq (name_cmp n name)) same ∙ same_object name) ∙ e in cc) at

  typed_after : IsTyped after
  typed_after =
      let t = sound.typed in
      record {
        sources = t.sources;
        plain = t.plain;
        objects = ascend;
        physical = physical;
        views = t.views;
        ranges = t.ranges;
        crons = t.crons;
      }

  table_after : (clock : Clock) (s : Snapshot) (v : Version) → table_rows w s.object ≡ table_rows after s.object → (kind : Kind) → IsTableSound clock x w s v kind → IsTableSound clock x after s v kind
  table_after clock s v same (Incremental time lookback) h = subst (λ (t : Option (List (List Cell))). IsIncrementalSound clock x w.sources t s.object (closing w.book.snapshots s) s.own v) same h
  table_after clock s v same Full h = subst (λ (t : Option (List (List Cell))). IsFullSound clock x w.sources t s.object (closing w.book.snapshots s) v) same h
  table_after clock s v same Seed h = subst (λ (t : Option (List (List Cell))). IsSeedSound t s.own v) same h
  table_after clock s v same View h = tt

  pub some_after : (name : Name) → IsSome (object_at w name) → IsSome (object_at after name)
  some_after name some = by_name name (λ same at. subst (λ (o : Option Object). IsSome o) (sym at) refl) (λ other at. subst (λ (o : Option Object). IsSome o) (sym at) some)

  objects_after : AreObjectsSound after
  objects_after =
      let o = sound.objects in
      record {
        named = λ name object at. by_name name (λ same here. subst (Uses w.book) same used) (λ other here. o.named name object (sym here ∙ at));
        bodies = λ s known object at. by_name s.object
            (λ same here. let is : new ≡ object = let both : Some new ≡ Some object = sym here ∙ at in cc in subst (λ (p : Object). IsBodyOf w.book.snapshots s s.own.kind p.body) is (body s known (sym same)))
            (λ other here. o.bodies s known object (sym here ∙ at));
        made = made_after;
      }
    where
      made_after : (s : Snapshot) → IsSnapshot w.book.snapshots s → (v : Version) → version_of w.book s.object ≡ Some v → v.made ≡ true → IsMade after s
      made_after s known v at m =
          let i = sound.objects.made s known v at m in
          let targets : s.own.kind ≡ View → All (λ (t : Pair). IsSome (object_at after t.second)) (parent_objects w.book.snapshots s.parents) = λ view. λ k d l. some_after (slice_index_or (parent_objects w.book.snapshots s.parents) k d).second (i.targets view k d l) in
          by_name s.object
          (λ same here. record { object = new; stands = here; columns = columns s known (sym same) v at m; targets = targets })
          (λ other here. record { object = i.object; stands = here ∙ i.stands; columns = i.columns; targets = targets })

  views_after : AreViewsSound after
  views_after =
      let v = sound.views in
      record {
        views = λ name target at. let i = v.views name target at in record { env = i.env; known = i.known; entry = i.entry; of = i.of; snapshot = i.snapshot; is = i.is; view = i.view; object = i.object };
        entries = v.entries;
        parents = v.parents;
        previous = v.previous;
        final = v.final;
      }

  pub object_put : Sound x after
  object_put = record {
    typed = typed_after;
    book = sound.book;
    tables = λ clock now s known v at.
        by_name s.object
        (λ same here. table clock now s known (sym same) v at)
        (λ other here. table_after clock s v (ap (λ (o : Option Object). rows_of (body_of o)) (sym here)) s.own.kind (sound.tables clock now s known v at));
    objects = objects_after;
    views = views_after;
  }
