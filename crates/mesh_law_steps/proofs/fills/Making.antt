-- A planned model's table or view is made, where it has to be.
use Rattle.std.proofs.Common.{◌≡◌, Bool, true, false, not, List, [], ◌∷◌, ◌++◌, map, Some, refl, sym, ◌∙◌, ap, subst, IsSome}
use Rattle.std.specs.List.{All, AllByRecursion}
use Rattle.std.specs.Option.{is_some, option_to_list}
use Rattle.std.specs.declared.option.Option.{Option}
use Rattle.std.proofs.lemmas.List.Elements.{All-nil, All-cons}
use Rattle.mesh_base_values.specs.declared.kinds.Kind.{Kind}
use Rattle.mesh_base_values.specs.declared.kinds.Kind.TheVariants.{Full, View, Seed, Incremental}
use Rattle.mesh_base_values.specs.declared.times.Bounds.{Bounds}
use Rattle.mesh_base_values.specs.declared.values.Pair.{Pair}
use Rattle.mesh_base.specs.Keys.{snapshot_ref}
use Rattle.mesh_base.specs.Outputs.{columns_of}
use Rattle.mesh_base.specs.declared.definitions.Own.{Own}
use Rattle.mesh_base.specs.declared.forgets.Forget.{Forget}
use Rattle.mesh_base.specs.declared.snapshots.Snapshot.{Snapshot}
use Rattle.mesh_time.specs.Ranges.{is_held}
use Rattle.mesh_house_book.specs.Changes.{as_table, as_view}
use Rattle.mesh_house_book.specs.declared.book.Book.{Book}
use Rattle.mesh_house_book.specs.declared.versions.Version.{Version}
use Rattle.mesh_house_book.specs.WellFormed.{snapshot_at}
use Rattle.mesh_spec_model.specs.Horizons.{Clock}
use Rattle.mesh_house.specs.declared.objects.Object.{Object}
use Rattle.mesh_house.specs.declared.world.Change.{Change}
use Rattle.mesh_house.specs.declared.world.Change.TheVariants.{MakeTable, MakeView}
use Rattle.mesh_house.specs.declared.world.World.{World}
use Rattle.mesh_house.specs.Objects.{is_physical}
use Rattle.mesh_house.specs.Step.{run, step}
use Rattle.mesh_house.specs.World.{object_at, version_of}
use Rattle.mesh_spec_changes.proofs.listed.Books.{is_its_own}
use Rattle.mesh_spec_changes.specs.due.Dues.{due}
use Rattle.mesh_spec_changes.specs.due.Parts.{Parts}
use Rattle.mesh_spec_changes.specs.due.Plans.{Planned, is_made}
use Rattle.mesh_spec_changes.specs.Changes.{is_any, makes, parents_in, planned_ref, target_of}
use Rattle.mesh_spec_promise.specs.Current.{IsReadable}
use Rattle.mesh_spec_promise.specs.Histories.{left}
use Rattle.mesh_spec_promise.specs.Sound.{Sound, parent_objects}
use Rattle.mesh_spec_promise.proofs.Doubts.{doubted}
use Rattle.mesh_law_changes.proofs.Making.{table_made_sound, used_physical, view_made_sound}
use Rattle.mesh_law_changes.specs.along.Along.{StaysAlong}
use Rattle.mesh_law_changes.specs.along.Filled.{IsOfObject, making_of}
use Rattle.mesh_law_changes.specs.along.Ready.{HasTheRest, IsOpened, IsPlaced}
use Rattle.mesh_law_changes.proofs.along.Along.{along_kept, along_end, left_none}
use Rattle.mesh_law_steps.proofs.fills.Kept.{of_object, table_object, table_version, view_object, view_version}
use Rattle.mesh_law_steps.proofs.fills.Twins.{planned_known, twin_kind, twin_own}

-- A model's table or view is made, and what isn't due of it is recorded; nothing else has changed.
pub record IsBegun (clock : Clock) (b : Book) (forgets : List Forget) (p : Planned) (before : World) (x : Parts) (w : World) : Type 0 where
  pub sound : Sound x w
  pub version : Version
  pub known : version_of w.book p.object ≡ Some version
  pub made : version.made ≡ true
  pub rest : HasTheRest clock b forgets version p p.node.own.kind
  pub only : IsOfObject p.object before w

-- what a version has of a model hangs on its ranges and marks alone
rest_as : (clock : Clock) (b : Book) (forgets : List Forget) (p : Planned) (u v : Version) → v.ranges ≡ u.ranges → v.marks ≡ u.marks → (kind : Kind) → HasTheRest clock b forgets u p kind → HasTheRest clock b forgets v p kind
rest_as clock b forgets p u v ranges marks (Incremental time lookback) h = λ d k. ap (λ (r : List Bounds). is_held r d.start d.end) ranges ∙ h d k
rest_as clock b forgets p u v ranges marks Full h = (λ e. marks ∙ h.0 e, λ e same. h.1 e (sym marks ∙ same))
rest_as clock b forgets p u v ranges marks View h = ap is_some marks ∙ h
rest_as clock b forgets p u v ranges marks Seed h = ap is_some marks ∙ h

-- the targets of a view are its parents' objects
targets_are : (clock : Clock) (x : Parts) (b : Book) (qs : List Planned) → AllByRecursion (IsReadable clock x b) qs → map target_of qs ≡ parent_objects b.snapshots (map planned_ref qs)
targets_are clock x b [] h = refl
targets_are clock x b (q ∷ qs) h =
    (λ i. record { first = q.node.own.name; second = sym h.0.done.object i } ∷ targets_are clock x b qs h.1 i)
    ∙ sym (ap (λ (o : Option Snapshot). map (λ (s : Snapshot). record { first = q.node.own.name; second = s.object }) (option_to_list o) ++ parent_objects b.snapshots (map planned_ref qs)) h.0.done.known)

-- and these stand
targets_stand : (clock : Clock) (x : Parts) (w : World) → Sound x w → (qs : List Planned) → AllByRecursion (IsReadable clock x w.book) qs → All (λ (t : Pair). IsSome (object_at w t.second)) (map target_of qs)
targets_stand clock x w sound [] h = All-nil (λ (t : Pair). IsSome (object_at w t.second))
targets_stand clock x w sound (q ∷ qs) h =
    let d = h.0.done in
    let stands = sound.objects.made d.snapshot (is_its_own w.book.snapshots (planned_ref q) d.snapshot d.known) d.current.version d.current.known d.current.made in
    let there : object_at w q.object ≡ Some stands.object = ap (object_at w) (sym d.object) ∙ stands.stands in
    All-cons (λ (t : Pair). IsSome (object_at w t.second)) (target_of q) (map target_of qs) (subst (λ (o : Option Object). IsSome o) (sym there) refl) (targets_stand clock x w sound qs h.1)

module _ (clock : Clock) (b : Book) (forgets : List Forget) (all : List Planned) (p : Planned) (x : Parts) (w : World) (sound : Sound x w) (placed : IsPlaced all w.book.snapshots p) (opened : IsOpened clock b forgets w.book p)
    (readable : AllByRecursion (IsReadable clock x w.book) (parents_in all p)) where
  abbrev Made : List Change → Type 0
  Made list = StaysAlong x w list × IsBegun clock b forgets p w (left list x) (run w list)

  physical : is_physical p.object ≡ true
  physical = used_physical x w sound p.object (sound.book.versions p.object opened.version opened.known)

  -- it is made already
  made_before : opened.version.made ≡ true → Made []
  made_before made = (
    sound,
    record {
      sound = doubted x (left [] x) w (left_none x) sound;
      version = opened.version;
      known = opened.known;
      made = made;
      rest = opened.rest;
      only = of_object p.object w w refl refl;
    },
  )

  -- a table is made
  table_begun : (p.node.own.kind ≡ View → ⊥) → opened.version.made ≡ false → Made (MakeTable p.object (columns_of p.node.own) ∷ [])
  table_begun other unmade =
      let v = opened.version in
      let columns = columns_of p.node.own in
      let made : Sound (left (MakeTable p.object columns ∷ []) x) (step w (MakeTable p.object columns)) =
      table_made_sound x w sound p.object columns v opened.known unmade
      (λ s known same. (λ view. other (sym (ap (λ (o : Own). o.kind) (twin_own x w sound all p placed s known same)) ∙ view), ap columns_of (sym (twin_own x w sound all p placed s known same)))) in (
        (sound, made),
        record {
          sound = made;
          version = as_table v;
          known = table_version w p.object v opened.known physical columns;
          made = refl;
          rest = rest_as clock b forgets p v (as_table v) (sym (sound.book.ranges p.object v opened.known unmade)) (sym (sound.book.marks p.object v opened.known unmade)) p.node.own.kind opened.rest;
          only = table_object w p.object v opened.known physical columns;
        },
      )

  -- a view is made, perhaps again
  view_begun : p.node.own.kind ≡ View → is_any (due clock b forgets p) ≡ true → Made (MakeView p.object (columns_of p.node.own) p.node.own (map target_of (parents_in all p)) ∷ [])
  view_begun view is_due =
      let v = opened.version in
      let columns = columns_of p.node.own in
      let targets = map target_of (parents_in all p) in
      let made : Sound x (step w (MakeView p.object columns p.node.own targets)) =
      view_made_sound x w sound p.object columns v opened.known p.node.own targets
      (λ s known same.
      let own = twin_own x w sound all p placed s known same in
      let one : snapshot_ref s ≡ snapshot_ref placed.snapshot = sound.book.alone s placed.snapshot known (planned_known x w sound all p placed) (same ∙ sym placed.object) (twin_kind x w sound all p placed s known same View view) in
      let is : s ≡ placed.snapshot =
      let both : Some s ≡ Some placed.snapshot = sym known ∙ ap (snapshot_at w.book.snapshots) one ∙ planned_known x w sound all p placed in cc in
      let parents : s.parents ≡ map planned_ref (parents_in all p) = ap (λ (t : Snapshot). t.parents) is ∙ placed.parents in
      (twin_kind x w sound all p placed s known same View view, sym own, ap columns_of (sym own), targets_are clock x w.book (parents_in all p) readable ∙ ap (parent_objects w.book.snapshots) (sym parents)))
      (targets_stand clock x w sound (parents_in all p) readable) in
      let along = along_kept x w (MakeView p.object columns p.node.own targets) sound made (λ q. refl) in (
        along,
        record {
          sound = along_end x w (MakeView p.object columns p.node.own targets ∷ []) along;
          version = as_view v;
          known = view_version w p.object v opened.known physical columns p.node.own targets;
          made = refl;
          rest = subst (HasTheRest clock b forgets (as_view v) p) (sym view) (sym (ap not is_due));
          only = view_object w p.object v opened.known physical columns p.node.own targets;
        },
      )

  -- a view that isn't due is made
  settled_view : p.node.own.kind ≡ View → opened.version.made ≡ false → is_any (due clock b forgets p) ≡ false → ⊥
  settled_view view unmade rested =
      let rest : is_some opened.version.marks ≡ not (is_any (due clock b forgets p)) = subst (HasTheRest clock b forgets opened.version p) view opened.rest in
      let marked : false ≡ true = sym (ap is_some (sound.book.marks p.object opened.version opened.known unmade)) ∙ rest ∙ ap not rested in
      cc

  by_kind : (kind : Kind) → p.node.own.kind ≡ kind → (m d : Bool) → opened.version.made ≡ m → is_any (due clock b forgets p) ≡ d → Made (makes m all p kind d)
  by_kind View is true true made is_due = view_begun is is_due
  by_kind View is true false made is_due = made_before made
  by_kind View is false true made is_due = view_begun is is_due
  by_kind View is false false made is_due = absurd (settled_view is made is_due)
  by_kind (Incremental time lookback) is true d made is_due = made_before made
  by_kind (Incremental time lookback) is false d made is_due = table_begun (λ view. let f : Incremental time lookback ≡ View = sym is ∙ view in cc) made
  by_kind Full is true d made is_due = made_before made
  by_kind Full is false d made is_due = table_begun (λ view. let f : Full ≡ View = sym is ∙ view in cc) made
  by_kind Seed is true d made is_due = made_before made
  by_kind Seed is false d made is_due = table_begun (λ view. let f : Seed ≡ View = sym is ∙ view in cc) made

  -- what makes a planned model's object
  pub model_made : Made (making_of clock b forgets all p)
  model_made = by_kind p.node.own.kind refl (is_made (version_of b p.object)) (is_any (due clock b forgets p)) opened.made refl
