-- A world stays well kept where a table or a view is made, and where the rows of a table are replaced.
use Rattle.std.proofs.Common.{◌≡◌, Bool, true, false, cond, not, ◌&&◌, ◌||◌, List, [], ◌∷◌, Some, None, refl, sym, ◌∙◌, ap, subst, arith, IsSome}
use Rattle.std.specs.declared.option.Option.{Option}
use Rattle.std.specs.List.{All, slice_index_or}
use Rattle.std.proofs.lemmas.Int.{ints}
use Rattle.std.proofs.lemmas.List.Elements.{All-nil}
use Rattle.mesh_list.specs.Keyed.{placed}
use Rattle.mesh_list.proofs.Ascends.{and_left, and_right, ascends-placed}
use Rattle.mesh_base_values.specs.Names.{has_two_underscores, name_cmp}
use Rattle.mesh_base_values.specs.NameOrder.{names_exact, names_total}
use Rattle.mesh_base_values.specs.declared.kinds.Kind.{Kind}
use Rattle.mesh_base_values.specs.declared.kinds.Kind.TheVariants.{Full, View, Seed, Incremental}
use Rattle.mesh_base_values.specs.declared.values.Cell.{Cell}
use Rattle.mesh_base_values.specs.declared.values.Column.{Column}
use Rattle.mesh_base_values.specs.declared.values.Name.{Name}
use Rattle.mesh_base_values.specs.declared.values.Pair.{Pair}
use Rattle.mesh_base.specs.Keys.{ref_cmp, snapshot_ref}
use Rattle.mesh_base.specs.Outputs.{columns_of}
use Rattle.mesh_base.specs.declared.definitions.Own.{Own}
use Rattle.mesh_base.specs.declared.snapshots.Snapshot.{Snapshot}
use Rattle.mesh_time.proofs.Held.{has_if_held}
use Rattle.mesh_house_book.specs.Changes.{as_table, as_view, at_version, make_table as table_made, make_view as view_made, version_object}
use Rattle.mesh_house_book.specs.WellFormed.{all_fit, is_above, is_moment, is_snapshot_fit, is_version}
use Rattle.mesh_house_book.specs.declared.versions.Version.{Version}
use Rattle.mesh_house_book.proofs.Exchanged.{found_key}
use Rattle.mesh_spec_model.specs.Horizons.{Clock, Shows, schedule}
use Rattle.mesh_house.specs.declared.objects.Body.TheVariants.{Rows, Stored}
use Rattle.mesh_house.specs.declared.objects.Object.{Object}
use Rattle.mesh_house.specs.declared.world.World.{World}
use Rattle.mesh_house.specs.declared.world.Change.TheVariants.{MakeTable, MakeView}
use Rattle.mesh_house.specs.Objects.{is_physical, object_name}
use Rattle.mesh_house.specs.Step.{step, with_book, with_object}
use Rattle.mesh_house.specs.World.{body_of, object_at, rows_of, version_of}
use Rattle.mesh_house.proofs.After.{object_at-with_object}
use Rattle.mesh_house.proofs.Tested.{all-placed}
use Rattle.mesh_spec_changes.specs.listed.Closing.{closing, IsSnapshot}
use Rattle.mesh_spec_changes.specs.due.Marks.{marks}
use Rattle.mesh_spec_changes.specs.due.Parts.{Parts, object_of, same_name}
use Rattle.mesh_spec_promise.specs.Histories.{left}
use Rattle.mesh_spec_promise.specs.Sound.{Sound, Uses, IsBodyOf, IsTableSound, lies_among, parent_objects, table_rows}
use Rattle.mesh_spec_promise.proofs.Fits.{fit_found}
use Rattle.mesh_spec_promise.proofs.Seconds.{scheduled_proper}
use Rattle.mesh_law_changes.proofs.ObjectGone.{table_unmade}
use Rattle.mesh_law_changes.proofs.ObjectPut.{object_put}
use Rattle.mesh_law_changes.proofs.Recorded.{Spares, other_object, recorded_sound, same_object}

-- an object that a snapshot uses has a name that an object may have
pub used_physical : (x : Parts) (w : World) → Sound x w → (object : Name) → Uses w.book object → is_physical object ≡ true
used_physical x w sound object u =
    let all = w.book.snapshots in
    let snapshots = and_left (all_fit (is_snapshot_fit w.book.version all) None all) _ (and_right (is_moment w.book.moment && is_version w.book.version) _ sound.book.well_formed) in
    let rule = fit_found ref_cmp snapshot_ref (is_snapshot_fit w.book.version all) all None (snapshot_ref u.snapshot) u.snapshot snapshots u.kept in
    ap is_physical (sym u.uses) ∙ and_left (has_two_underscores u.snapshot.object.schema) _ (and_right (is_above ref_cmp snapshot_ref rule.0 u.snapshot) _ rule.1)

module _ (x : Parts) (w : World) (sound : Sound x w) where
  -- what stands there after an object is put
  stands_there : (o : Object) → is_physical o.name ≡ true → object_at (with_object w o) o.name ≡ Some o
  stands_there o physical = object_at-with_object w o o.name physical ∙ ap (λ (b : Bool). cond b (Some o) (object_at w o.name)) (same_object o.name)

  module _ (o : Object) (used : Uses w.book o.name) (body : (s : Snapshot) → IsSnapshot w.book.snapshots s → s.object ≡ o.name → IsBodyOf w.book.snapshots s s.own.kind o.body)
      (columns : (s : Snapshot) → IsSnapshot w.book.snapshots s → s.object ≡ o.name → (v : Version) → version_of w.book s.object ≡ Some v → v.made ≡ true → o.columns ≡ columns_of s.own)
      (table : (clock : Clock) → Shows clock w.book.moment → (s : Snapshot) → IsSnapshot w.book.snapshots s → s.object ≡ o.name → (v : Version) → version_of w.book s.object ≡ Some v → IsTableSound clock x (with_object w o) s v s.own.kind) where
    physical : is_physical o.name ≡ true
    physical = used_physical x w sound o.name used

    pub one_put : Sound x (with_object w o)
    one_put =
        object_put x w sound o (placed name_cmp object_name o w.objects) (ascends-placed name_cmp names_total object_name o w.objects sound.typed.objects)
        (all-placed name_cmp object_name (λ (p : Object). is_physical p.name) o physical w.objects sound.typed.physical)
        (λ q. object_at-with_object w o q physical) used body columns table

  table_body : (s : Snapshot) (kind : Kind) → (kind ≡ View → ⊥) → (rows : List (List Cell)) → IsBodyOf w.book.snapshots s kind (Rows rows)
  table_body s View other rows = absurd (other refl)
  table_body s (Incremental time lookback) other rows = tt
  table_body s Full other rows = tt
  table_body s Seed other rows = tt

  module _ (object : Name) (columns : List Column) (v : Version) (at_object : version_of w.book object ≡ Some v) where
    named : v.object ≡ object
    named = found_key name_cmp version_object names_exact object v w.book.versions at_object

    here : version_of w.book v.object ≡ Some v
    here = ap (version_of w.book) named ∙ at_object

    used : Uses w.book object
    used = sound.book.versions object v at_object

    may_be : is_physical object ≡ true
    may_be = used_physical x w sound object used

    is_v : (s : Snapshot) → s.object ≡ object → (u : Version) → version_of w.book s.object ≡ Some u → u ≡ v
    is_v s same u at = let both : Some u ≡ Some v = sym at ∙ ap (version_of w.book) same ∙ at_object in cc

    module _ (unmade : v.made ≡ false) (tabular : (s : Snapshot) → IsSnapshot w.book.snapshots s → s.object ≡ object → (s.own.kind ≡ View → ⊥) × (columns ≡ columns_of s.own)) where
      abbrev empty : Object
      empty = record { name = object; columns = columns; body = Rows [] }

      abbrev y : Parts
      y = left (MakeTable object columns ∷ []) x

      spares : Spares object x y
      spares q other free = go (x q) (same_name object (object_of q)) (other_object object (object_of q) (λ e. other (sym e))) free
        where
          go : (a b : Bool) → b ≡ false → (a && not (b || false)) ≡ false → a ≡ false
          go true b e f = absurd (let t : true ≡ false = sym (ap (λ (c : Bool). not (c || false)) e) ∙ f in cc)
          go false b e f = refl

      there : Sound x (with_object w empty)
      there =
          one_put empty used (λ s known same. table_body s s.own.kind (tabular s known same).0 []) (λ s known same u at m. (tabular s known same).1)
          (λ clock shows s known same u at.
          let no_ : u.made ≡ false = ap (λ (z : Version). z.made) (is_v s same u at) ∙ unmade in
          table_unmade clock x w (with_object w empty) s u refl refl no_ (sound.book.marks s.object u at no_) s.own.kind (sound.tables clock shows s known u at))

      rows_there : (s : Snapshot) → s.object ≡ object → table_rows (with_object w empty) s.object ≡ Some []
      rows_there s same = ap (table_rows (with_object w empty)) same ∙ ap (λ (o : Option Object). rows_of (body_of o)) (stands_there empty may_be)

      table_new : (clock : Clock) (s : Snapshot) → s.object ≡ object → (kind : Kind) → IsTableSound clock y (with_object w empty) s (as_table v) kind
      table_new clock s same (Incremental time lookback) = record {
        units = λ t has. absurd has;
        within = λ m rows at.
            let none : [] ≡ rows = let both : Some [] ≡ Some rows = sym (rows_there s same) ∙ at in cc in
            subst (All (lies_among s.own (schedule clock (closing w.book.snapshots s)))) none (All-nil (lies_among s.own (schedule clock (closing w.book.snapshots s))));
        pieces = λ m u k held. absurd (has_if_held [] u.start u.end held u.start (omega (arith, ints)) (scheduled_proper clock (closing w.book.snapshots s) u k));
      }
      table_new clock s same Full = record {
        no_later = λ old at. absurd (let f : None ≡ Some old = at in cc);
        rows = λ at. absurd (let f : None ≡ Some (marks clock (closing w.book.snapshots s)) = at in cc);
      }
      table_new clock s same Seed = λ some. absurd (let f : false ≡ true = some in cc)
      table_new clock s same View = tt

      step_is : step w (MakeTable object columns) ≡ with_book (with_object w empty) (at_version (Some v) as_table w.book)
      step_is =
          ap (λ (b : Bool). cond b (with_book (with_object w empty) (table_made w.book object)) w) may_be
          ∙ ap (λ (o : Option Version). with_book (with_object w empty) (at_version o as_table w.book)) at_object

      pub table_made_sound : Sound y (step w (MakeTable object columns))
      table_made_sound =
          subst (Sound y) (sym step_is)
          (recorded_sound x y (with_object w empty) there v (as_table v) here (λ m. refl) refl (λ m. refl) (λ m. refl) (λ q other free. spares q (λ e. other (e ∙ sym named)) free)
          (λ m s known same. record {
            object = empty;
            stands = ap (object_at (with_object w empty)) (same ∙ named) ∙ stands_there empty may_be;
            columns = (tabular s known (same ∙ named)).1;
            targets = λ view. absurd ((tabular s known (same ∙ named)).0 view);
          })
          (λ clock shows s known same. table_new clock s (same ∙ named) s.own.kind))

    module _ (own : Own) (targets : List Pair) (viewed : (s : Snapshot) → IsSnapshot w.book.snapshots s → s.object ≡ object → (s.own.kind ≡ View) × (own ≡ s.own) × (columns ≡ columns_of s.own) × (targets ≡ parent_objects w.book.snapshots s.parents))
        (stand : All (λ (t : Pair). IsSome (object_at w t.second)) targets) where
      abbrev query : Object
      query = record { name = object; columns = columns; body = Stored own targets }

      stored : Sound x (with_object w query)
      stored =
          one_put query used
          (λ s known same. let i = viewed s known same in subst (λ (k : Kind). IsBodyOf w.book.snapshots s k (Stored own targets)) (sym i.0) (i.1, i.3))
          (λ s known same u at m. (viewed s known same).2)
          (λ clock shows s known same u at. subst (IsTableSound clock x (with_object w query) s u) (sym (viewed s known same).0) tt)

      -- targets stand where the query does
      still : (name : Name) → IsSome (object_at w name) → IsSome (object_at (with_object w query) name)
      still name some = subst (λ (o : Option Object). IsSome o) (sym (object_at-with_object w query name may_be)) (go (same_name object name))
        where
          go : (b : Bool) → IsSome (cond b (Some query) (object_at w name))
          go true = refl
          go false = some

      view_step : step w (MakeView object columns own targets) ≡ with_book (with_object w query) (at_version (Some v) as_view w.book)
      view_step =
          ap (λ (b : Bool). cond b (with_book (with_object w query) (view_made w.book object)) w) may_be
          ∙ ap (λ (o : Option Version). with_book (with_object w query) (at_version o as_view w.book)) at_object

      pub view_made_sound : Sound x (step w (MakeView object columns own targets))
      view_made_sound =
          subst (Sound x) (sym view_step)
          (recorded_sound x x (with_object w query) stored v (as_view v) here (λ m. refl) (sound.typed.ranges object v at_object) (λ m. absurd (let f : true ≡ false = m in cc)) (λ m. refl) (λ q other free. free)
          (λ m s known same. let i = viewed s known (same ∙ named) in record {
            object = query;
            stands = ap (object_at (with_object w query)) (same ∙ named) ∙ stands_there query may_be;
            columns = i.2;
            targets = λ view. subst (All (λ (t : Pair). IsSome (object_at (with_object w query) t.second))) i.3 (λ k d l. still (slice_index_or targets k d).second (stand k d l));
          })
          (λ clock shows s known same. subst (IsTableSound clock x (with_object w query) s (as_view v)) (sym (viewed s known (same ∙ named)).0) tt))
