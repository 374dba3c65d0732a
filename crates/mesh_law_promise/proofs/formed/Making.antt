-- A planned model's table or view is made, where it has to be and the objects of its parents are made.
use Rattle.std.proofs.Common.{◌≡◌, Bool, true, false, not, List, [], ◌∷◌, ◌++◌, map, Some, refl, sym, ◌∙◌, ap, subst, IsSome}
use Rattle.std.specs.List.{All, AllByRecursion}
use Rattle.std.specs.Option.{is_some, option_to_list}
use Rattle.std.specs.declared.option.Option.{Option}
use Rattle.std.proofs.lemmas.List.Elements.{All-nil, All-cons}
use Rattle.mesh_base_values.specs.declared.kinds.Kind.{Kind}
use Rattle.mesh_base_values.specs.declared.kinds.Kind.TheVariants.{Full, View, Seed, Incremental}
use Rattle.mesh_base_values.specs.declared.times.Bounds.{Bounds}
use Rattle.mesh_base_values.specs.declared.values.Pair.{Pair}
use Rattle.mesh_base.specs.Keys.{snapshot_ref}
use Rattle.mesh_base.specs.Outputs.{columns_of}
use Rattle.mesh_base.specs.declared.definitions.Own.{Own}
use Rattle.mesh_base.specs.declared.forgets.Forget.{Forget}
use Rattle.mesh_base.specs.declared.snapshots.Snapshot.{Snapshot}
use Rattle.mesh_time.specs.Ranges.{is_held}
use Rattle.mesh_house_book.specs.Changes.{as_table, as_view}
use Rattle.mesh_house_book.specs.declared.book.Book.{Book}
use Rattle.mesh_house_book.specs.declared.versions.Version.{Version}
use Rattle.mesh_house_book.specs.WellFormed.{snapshot_at}
use Rattle.mesh_spec_model.specs.Horizons.{Clock}
use Rattle.mesh_house.specs.declared.objects.Object.{Object}
use Rattle.mesh_house.specs.declared.world.Change.{Change}
use Rattle.mesh_house.specs.declared.world.Change.TheVariants.{MakeTable, MakeView}
use Rattle.mesh_house.specs.declared.world.World.{World}
use Rattle.mesh_house.specs.Objects.{is_physical}
use Rattle.mesh_house.specs.Step.{run, step}
use Rattle.mesh_house.specs.World.{object_at, version_of}
use Rattle.mesh_spec_changes.proofs.listed.Books.{is_its_own}
use Rattle.mesh_spec_changes.specs.due.Dues.{due}
use Rattle.mesh_spec_changes.specs.due.Parts.{Parts}
use Rattle.mesh_spec_changes.specs.due.Plans.{Planned, is_made}
use Rattle.mesh_spec_changes.specs.Changes.{is_any, makes, parents_in, planned_ref, target_of}
use Rattle.mesh_spec_promise.specs.Sound.{Sound, parent_objects}
use Rattle.mesh_law_changes.proofs.Making.{table_made_sound, used_physical, view_made_sound}
use Rattle.mesh_law_changes.specs.along.Filled.{making_of}
use Rattle.mesh_law_changes.specs.along.Ready.{HasTheRest, IsOpened, IsPlaced}
use Rattle.mesh_law_steps.proofs.fills.Kept.{of_object, table_object, table_version, view_object, view_version}
use Rattle.mesh_law_steps.proofs.fills.Making.{IsBegun}
use Rattle.mesh_law_steps.proofs.fills.Twins.{planned_known, twin_kind, twin_own}
use Rattle.mesh_law_promise.proofs.Promoting.{IsModelMade}
use Rattle.mesh_law_promise.proofs.formed.Formed.{FormedAlong, formed_taken}

-- a planned model is a snapshot of the book, and its object is made
abbrev pub IsThere : List Planned → Book → Planned → Type 0
IsThere all b q = IsPlaced all b.snapshots q × IsModelMade b q

-- what a version has of a model hangs on its ranges and marks alone
rest_as : (clock : Clock) (b : Book) (forgets : List Forget) (p : Planned) (u v : Version) → v.ranges ≡ u.ranges → v.marks ≡ u.marks → (kind : Kind) → HasTheRest clock b forgets u p kind → HasTheRest clock b forgets v p kind
rest_as clock b forgets p u v ranges marks (Incremental time lookback) h = λ d k. ap (λ (r : List Bounds). is_held r d.start d.end) ranges ∙ h d k
rest_as clock b forgets p u v ranges marks Full h = (λ e. marks ∙ h.0 e, λ e same. h.1 e (sym marks ∙ same))
rest_as clock b forgets p u v ranges marks View h = ap is_some marks ∙ h
rest_as clock b forgets p u v ranges marks Seed h = ap is_some marks ∙ h

-- the targets of a view are its parents' objects
targets_are : (all : List Planned) (b : Book) (qs : List Planned) → AllByRecursion (IsThere all b) qs → map target_of qs ≡ parent_objects b.snapshots (map planned_ref qs)
targets_are all b [] h = refl
targets_are all b (q ∷ qs) h =
    let its = h.0.0 in
    (λ i. record { first = q.node.own.name; second = sym its.object i } ∷ targets_are all b qs h.1 i)
    ∙ sym (ap (λ (o : Option Snapshot). map (λ (s : Snapshot). record { first = q.node.own.name; second = s.object }) (option_to_list o) ++ parent_objects b.snapshots (map planned_ref qs)) its.known)

-- and these stand
targets_stand : (all : List Planned) (z : Parts) (w : World) → Sound z w → (qs : List Planned) → AllByRecursion (IsThere all w.book) qs → All (λ (t : Pair). IsSome (object_at w t.second)) (map target_of qs)
targets_stand all z w sound [] h = All-nil (λ (t : Pair). IsSome (object_at w t.second))
targets_stand all z w sound (q ∷ qs) h =
    let its = h.0.0 in
    let m = h.0.1 in
    let stands = sound.objects.made its.snapshot (is_its_own w.book.snapshots (planned_ref q) its.snapshot its.known) m.0 (ap (version_of w.book) its.object ∙ m.1) m.2 in
    let there : object_at w q.object ≡ Some stands.object = ap (object_at w) (sym its.object) ∙ stands.stands in
    All-cons (λ (t : Pair). IsSome (object_at w t.second)) (target_of q) (map target_of qs) (subst (λ (o : Option Object). IsSome o) (sym there) refl) (targets_stand all z w sound qs h.1)

module _ (clock : Clock) (b : Book) (forgets : List Forget) (all : List Planned) (p : Planned) (z : Parts) (w : World) (sound : Sound z w) (placed : IsPlaced all w.book.snapshots p) (opened : IsOpened clock b forgets w.book p)
    (parents : AllByRecursion (IsThere all w.book) (parents_in all p)) where
  abbrev Made : List Change → Type 0
  Made list = FormedAlong z w list × IsBegun clock b forgets p w z (run w list)

  physical : is_physical p.object ≡ true
  physical = used_physical z w sound p.object (sound.book.versions p.object opened.version opened.known)

  -- it is made already
  made_before : opened.version.made ≡ true → Made []
  made_before made = (
    sound,
    record {
      sound = sound;
      version = opened.version;
      known = opened.known;
      made = made;
      rest = opened.rest;
      only = of_object p.object w w refl refl;
    },
  )

  -- a table is made
  table_begun : (p.node.own.kind ≡ View → ⊥) → opened.version.made ≡ false → Made (MakeTable p.object (columns_of p.node.own) ∷ [])
  table_begun other unmade =
      let v = opened.version in
      let columns = columns_of p.node.own in
      let made : Sound z (step w (MakeTable p.object columns)) =
      formed_taken z w (MakeTable p.object columns)
      (table_made_sound z w sound p.object columns v opened.known unmade
      (λ s known same. (λ view. other (sym (ap (λ (o : Own). o.kind) (twin_own z w sound all p placed s known same)) ∙ view), ap columns_of (sym (twin_own z w sound all p placed s known same))))) in (
        (sound, made),
        record {
          sound = made;
          version = as_table v;
          known = table_version w p.object v opened.known physical columns;
          made = refl;
          rest = rest_as clock b forgets p v (as_table v) (sym (sound.book.ranges p.object v opened.known unmade)) (sym (sound.book.marks p.object v opened.known unmade)) p.node.own.kind opened.rest;
          only = table_object w p.object v opened.known physical columns;
        },
      )

  -- a view is made, perhaps again
  view_begun : p.node.own.kind ≡ View → is_any (due clock b forgets p) ≡ true → Made (MakeView p.object (columns_of p.node.own) p.node.own (map target_of (parents_in all p)) ∷ [])
  view_begun view is_due =
      let v = opened.version in
      let columns = columns_of p.node.own in
      let targets = map target_of (parents_in all p) in
      let made : Sound z (step w (MakeView p.object columns p.node.own targets)) =
      view_made_sound z w sound p.object columns v opened.known p.node.own targets
      (λ s known same.
      let own = twin_own z w sound all p placed s known same in
      let one : snapshot_ref s ≡ snapshot_ref placed.snapshot = sound.book.alone s placed.snapshot known (planned_known z w sound all p placed) (same ∙ sym placed.object) (twin_kind z w sound all p placed s known same View view) in
      let is : s ≡ placed.snapshot =
      let both : Some s ≡ Some placed.snapshot = sym known ∙ ap (snapshot_at w.book.snapshots) one ∙ planned_known z w sound all p placed in cc in
      let refs : s.parents ≡ map planned_ref (parents_in all p) = ap (λ (t : Snapshot). t.parents) is ∙ placed.parents in
      (twin_kind z w sound all p placed s known same View view, sym own, ap columns_of (sym own), targets_are all w.book (parents_in all p) parents ∙ ap (parent_objects w.book.snapshots) (sym refs)))
      (targets_stand all z w sound (parents_in all p) parents) in (
        (sound, made),
        record {
          sound = made;
          version = as_view v;
          known = view_version w p.object v opened.known physical columns p.node.own targets;
          made = refl;
          rest = subst (HasTheRest clock b forgets (as_view v) p) (sym view) (sym (ap not is_due));
          only = view_object w p.object v opened.known physical columns p.node.own targets;
        },
      )

  -- a view that isn't due is made
  settled_view : p.node.own.kind ≡ View → opened.version.made ≡ false → is_any (due clock b forgets p) ≡ false → ⊥
  settled_view view unmade rested =
      let rest : is_some opened.version.marks ≡ not (is_any (due clock b forgets p)) = subst (HasTheRest clock b forgets opened.version p) view opened.rest in
      let marked : false ≡ true = sym (ap is_some (sound.book.marks p.object opened.version opened.known unmade)) ∙ rest ∙ ap not rested in
      cc

  by_kind : (kind : Kind) → p.node.own.kind ≡ kind → (m d : Bool) → opened.version.made ≡ m → is_any (due clock b forgets p) ≡ d → Made (makes m all p kind d)
  by_kind View is true true made is_due = view_begun is is_due
  by_kind View is true false made is_due = made_before made
  by_kind View is false true made is_due = view_begun is is_due
  by_kind View is false false made is_due = absurd (settled_view is made is_due)
  by_kind (Incremental time lookback) is true d made is_due = made_before made
  by_kind (Incremental time lookback) is false d made is_due = table_begun (λ view. let f : Incremental time lookback ≡ View = sym is ∙ view in cc) made
  by_kind Full is true d made is_due = made_before made
  by_kind Full is false d made is_due = table_begun (λ view. let f : Full ≡ View = sym is ∙ view in cc) made
  by_kind Seed is true d made is_due = made_before made
  by_kind Seed is false d made is_due = table_begun (λ view. let f : Seed ≡ View = sym is ∙ view in cc) made

  -- what makes a planned model's object
  pub object_formed : Made (making_of clock b forgets all p)
  object_formed = by_kind p.node.own.kind refl (is_made (version_of b p.object)) (is_any (due clock b forgets p)) opened.made refl
