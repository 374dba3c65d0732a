-- An incremental model that is made is filled, whatever the rows of its parents are: its due units are written and
-- recorded one after another.
use Rattle.std.proofs.Common.{◌≡◌, inl, inr, ◌⊎◌, ℕ, suc, ℤ, ◌<ℤ◌, ◌≤ℤ◌, true, false, not, List, [], ◌∷◌, ◌++◌, map, Some, refl, sym, ◌∙◌, ap, subst, arith}
use Rattle.std.proofs.lemmas.Int.{ints}
use Rattle.std.specs.List.{AllPairs, Contains, flat_map}
use Rattle.std.specs.Option.{option_map}
use Rattle.mesh_base_values.specs.declared.kinds.Kind.{Kind}
use Rattle.mesh_base_values.specs.declared.kinds.Kind.TheVariants.{Incremental}
use Rattle.mesh_base_values.specs.declared.times.Bounds.{Bounds}
use Rattle.mesh_base_values.specs.declared.values.Cell.{Cell}
use Rattle.mesh_base.specs.declared.definitions.Own.{Own}
use Rattle.mesh_base.specs.declared.forgets.Forget.{Forget}
use Rattle.mesh_base.specs.declared.forgets.Forget.TheVariants.{Range}
use Rattle.mesh_base.specs.declared.jobs.Input.{Input}
use Rattle.mesh_base.specs.declared.snapshots.Snapshot.{Snapshot}
use Rattle.mesh_time.specs.Ranges.{Has as HasSecond, IsWithin, is_held}
use Rattle.mesh_time.proofs.Added.{has_added}
use Rattle.mesh_house_book.specs.Changes.{with_range}
use Rattle.mesh_house_book.specs.declared.book.Book.{Book}
use Rattle.mesh_house_book.specs.declared.versions.Version.{Version}
use Rattle.mesh_spec_model.specs.Closures.{Closure}
use Rattle.mesh_spec_model.specs.Horizons.{Clock, Shows, schedule}
use Rattle.mesh_spec_model.specs.Scratch.{defn_rows, is_of_unit, piece_over}
use Rattle.mesh_law_query.proofs.Has.{Has, Has_filter_from, Has_from, Has_to}
use Rattle.mesh_law_query.proofs.Perm.{Perm, nil, skip, swap, trans}
use Rattle.mesh_house.specs.declared.world.Change.{Change}
use Rattle.mesh_house.specs.declared.world.Change.TheVariants.{RecordRange, WriteRange}
use Rattle.mesh_house.specs.declared.world.World.{World}
use Rattle.mesh_house.specs.Step.{run, step}
use Rattle.mesh_house.specs.World.{version_of}
use Rattle.mesh_spec_changes.specs.due.Dues.{due, due_of, due_units, is_due_unit}
use Rattle.mesh_spec_changes.specs.due.Parts.{Parts, object_of, unit_of}
use Rattle.mesh_spec_changes.specs.due.Plans.{Planned}
use Rattle.mesh_spec_changes.proofs.due.Ordered.{due_iff, due_in_order}
use Rattle.mesh_spec_changes.specs.Changes.{ascending, fill, fills, tables_for}
use Rattle.mesh_spec_promise.specs.Sound.{AreUnits, IsTableSound, Sound}
use Rattle.mesh_spec_promise.proofs.Filled.{ascending_perm}
use Rattle.mesh_spec_promise.proofs.Seconds.{scheduled_once, scheduled_proper}
use Rattle.mesh_law_changes.proofs.Recording.{unit_recorded}
use Rattle.mesh_law_changes.proofs.Writing.{unit_written}
use Rattle.mesh_law_changes.specs.along.Filled.{IsOfObject}
use Rattle.mesh_law_changes.specs.along.Ready.{HasTheRest, IsPlaced}
use Rattle.mesh_law_steps.proofs.fills.Kept.{of_object, of_object_then, ranged_object, ranged_version, written_keeps}
use Rattle.mesh_law_steps.proofs.fills.Making.{IsBegun}
use Rattle.mesh_law_steps.proofs.fills.Twins.{planned_known, schedule_is, twin_kind, twin_own}
use Rattle.mesh_law_steps.proofs.fills.Unit.{unit_changes}
use Rattle.mesh_law_promise.proofs.formed.Filling.{IsFormed, mapped_from}
use Rattle.mesh_law_promise.proofs.formed.Formed.{FormedAlong, formed_append}

-- rows in another order are the same rows
has_before : {X : Type 0} {xs ys : List X} → Perm xs ys → (x : X) → Has x ys → Has x xs
has_before nil x h = h
has_before (skip p) x (inl e) = inl e
has_before (skip p) x (inr h) = inr (has_before p x h)
has_before swap x (inl e) = inr (inl e)
has_before swap x (inr (inl e)) = inl e
has_before swap x (inr (inr h)) = inr (inr h)
has_before (trans p q) x h = has_before p x (has_before q x h)

-- units in order: the first ends before each later one begins
abbrev Before : Bounds → Bounds → Type 0
Before u v = u.end ≤ℤ v.start

first_ahead : (d : Bounds) (ds : List Bounds) → AllPairs Before (d ∷ ds) → (e : Bounds) → Has e ds → d.end ≤ℤ e.start
first_ahead d ds order e h = let (i, l, is) = Has_to ds e h in subst (λ (u : Bounds). d.end ≤ℤ u.start) is (order 0 (suc i) e (omega arith) (omega (arith, l)))

others_ahead : (d : Bounds) (ds : List Bounds) → AllPairs Before (d ∷ ds) → AllPairs Before ds
others_ahead d ds order i j e less within = order (suc i) (suc j) e (omega (arith, less)) (omega (arith, within))

-- An incremental model on its way: no second of the units that are still to be written is recorded.
record IsUnderWay (p : Planned) (before : World) (rest : List Bounds) (z : Parts) (w : World) : Type 0 where
  sound : Sound z w
  only : IsOfObject p.object before w
  version : Version
  known : version_of w.book p.object ≡ Some version
  made : version.made ≡ true
  free : (d : Bounds) → Has d rest → (t : ℤ) → IsWithin d.start d.end t → HasSecond version.ranges t → ⊥

module _ (clock : Clock) (all : List Planned) (p : Planned) (before : World) (now : Shows clock before.book.moment) (placed : IsPlaced all before.book.snapshots p) (z : Parts) (doubtful : (q : Forget) → object_of q ≡ p.object → z q ≡ true)
    (time : List ℕ) (lookback : ℕ) (is : p.node.own.kind ≡ Incremental time lookback) (tables : List Input) where
  module _ (d : Bounds) (listed : Contains (schedule clock p.closure) d) (rest : List Bounds) (ahead : (e : Bounds) → Has e rest → d.end ≤ℤ e.start) (w : World) (way : IsUnderWay p before (d ∷ rest) z w) where
    abbrev rows : List (List Cell)
    rows = ascending (piece_over p.node.own tables d)

    -- the rows of a unit lie in it
    rows_lie : (row : List Cell) → Has row rows → is_of_unit p.node.own d row ≡ true
    rows_lie row h = (Has_filter_from (is_of_unit p.node.own d) (defn_rows p.node.own.defn tables d) row (has_before (ascending_perm (piece_over p.node.own tables d)) row h)).1

    proper : d.start <ℤ d.end
    proper = scheduled_proper clock p.closure d listed

    abbrev writing : Change
    writing = WriteRange p.object time d.start d.end rows

    abbrev recording : Change
    recording = RecordRange p.object d.start d.end

    abbrev old : Version
    old = way.version

    there : IsPlaced all w.book.snapshots p
    there = subst (λ (ss : List Snapshot). IsPlaced all ss p) (sym way.only.snapshots) placed

    moment : Shows clock w.book.moment
    moment = subst (Shows clock) (sym way.only.moment) now

    written : Sound z (step w writing)
    written =
        unit_written z w way.sound p.object time d.start d.end rows
        (λ s known same. (lookback, twin_kind z w way.sound all p there s known same (Incremental time lookback) is))
        (λ s known same other shows. subst (λ (us : List Bounds). Contains us d) (sym (schedule_is z w way.sound all p there s known same clock moment other shows)) listed)
        (λ s known same row k. ap (λ (o : Own). is_of_unit o d row) (twin_own z w way.sound all p there s known same) ∙ rows_lie row (Has_from rows row k))
        (λ u at t within has.
        let one : u ≡ old = let both : Some u ≡ Some old = sym at ∙ way.known in cc in
        way.free d (inl refl) t within (subst (λ (r : Version). HasSecond r.ranges t) one has))

    abbrev middle : World
    middle = step w writing

    book_kept : middle.book ≡ w.book
    book_kept = (written_keeps w p.object time d.start d.end rows).1

    known_then : version_of middle.book p.object ≡ Some old
    known_then = ap (λ (c : Book). version_of c p.object) book_kept ∙ way.known

    there_then : IsPlaced all middle.book.snapshots p
    there_then = subst (λ (c : Book). IsPlaced all c.snapshots p) (sym book_kept) there

    moment_then : Shows clock middle.book.moment
    moment_then = subst (λ (c : Book). Shows clock c.moment) (sym book_kept) moment

    recorded : Sound z (step middle recording)
    recorded =
        unit_recorded z z middle written p.object old known_then way.made d.start d.end proper (λ q other free. free)
        (λ s known same time' lookback' its_kind other shows. (
          subst (λ (us : List Bounds). Contains us d) (sym (schedule_is z middle written all p there_then s known same clock moment_then other shows)) listed,
          λ clear. absurd (let clash : true ≡ false = sym (doubtful (Range p.object d.start d.end) refl) ∙ clear in cc),
        ))

    abbrev new : Version
    new = with_range d.start d.end old

    free_then : (e : Bounds) → Has e rest → (t : ℤ) → IsWithin e.start e.end t → HasSecond old.ranges t ⊎ IsWithin d.start d.end t → ⊥
    free_then e h t within (inl has) = way.free e (inr h) t within has
    free_then e h t within (inr inside) = let later = ahead e h in omega (arith, ints, later, within.0, inside.1)

    unit_along : FormedAlong z w (unit_changes p time tables d)
    unit_along = (way.sound, (written, recorded))

    unit_done : IsUnderWay p before rest z (step middle recording)
    unit_done = record {
      sound = recorded;
      only = of_object_then p.object before middle (step middle recording)
          (of_object_then p.object before w middle way.only (of_object p.object w middle (written_keeps w p.object time d.start d.end rows).0 book_kept))
          (ranged_object middle p.object old known_then d.start d.end proper);
      version = new;
      known = ranged_version middle p.object old known_then d.start d.end proper;
      made = way.made;
      free = λ e h t within has. free_then e h t within ((has_added d old.ranges t proper).0 has);
    }

  abbrev changes : List Bounds → List Change
  changes us = flat_map (unit_changes p time tables) us

  -- some units in order, one after another
  units_formed : (us : List Bounds) → ((d : Bounds) → Has d us → Contains (schedule clock p.closure) d) → AllPairs Before us → (w : World) → IsUnderWay p before us z w → FormedAlong z w (changes us) × IsUnderWay p before [] z (run w (changes us))
  units_formed [] listed order w way = (way.sound, way)
  units_formed (d ∷ ds) listed order w way =
      let along = unit_along d (listed d (inl refl)) ds (first_ahead d ds order) w way in
      let more = units_formed ds (λ e h. listed e (inr h)) (others_ahead d ds order) (run w (unit_changes p time tables d)) (unit_done d (listed d (inl refl)) ds (first_ahead d ds order) w way) in
      (formed_append z w (unit_changes p time tables d) (changes ds) along more.0, more.1)

module _ (clock : Clock) (b : Book) (forgets : List Forget) (all : List Planned) (p : Planned) (before : World) (z : Parts) (w : World) (begun : IsBegun clock b forgets p before z w) (now : Shows clock w.book.moment)
    (placed : IsPlaced all w.book.snapshots p) (doubtful : (q : Forget) → object_of q ≡ p.object → z q ≡ true) (time : List ℕ) (lookback : ℕ) (is : p.node.own.kind ≡ Incremental time lookback) where
  abbrev v : Version
  v = begun.version

  abbrev units : List Bounds
  units = due_units clock b forgets p

  rest : (d : Bounds) → Contains (schedule clock p.closure) d → is_held v.ranges d.start d.end ≡ not (is_due_unit b forgets p d)
  rest = subst (HasTheRest clock b forgets v p) is begun.rest

  due_is : due clock b forgets p ≡ map (unit_of p.object) units
  due_is = ap (due_of clock b forgets p) is

  due_listed : (d : Bounds) → Has d units → Contains (schedule clock p.closure) d × (is_due_unit b forgets p d ≡ true)
  due_listed d h = (due_iff clock b forgets p d).0 (Has_to units d h)

  -- what is recorded are units of the schedule
  are_units : AreUnits (schedule clock p.closure) v.ranges
  are_units =
      let s = placed.snapshot in
      let kind : s.own.kind ≡ Incremental time lookback = ap (λ (o : Own). o.kind) placed.own ∙ is in
      let at : version_of w.book s.object ≡ Some v = ap (version_of w.book) placed.object ∙ begun.known in
      let table : IsTableSound clock z w s v (Incremental time lookback) = subst (IsTableSound clock z w s v) kind (begun.sound.tables clock now s (planned_known z w begun.sound all p placed) v at) in
      subst (λ (c : Closure). AreUnits (schedule clock c) v.ranges) placed.closure table.units

  -- no second of a due unit is recorded
  due_free : (d : Bounds) → Has d units → (t : ℤ) → IsWithin d.start d.end t → HasSecond v.ranges t → ⊥
  due_free d h t within has =
      let here = due_listed d h in
      let (e, listed, held, inside) = are_units t has in
      let same : d ≡ e = scheduled_once clock p.closure d e here.0 listed t within inside in
      let clash : true ≡ false = sym held ∙ ap (λ (u : Bounds). is_held v.ranges u.start u.end) (sym same) ∙ rest d here.0 ∙ ap not here.1 in cc

  first : IsUnderWay p w units z w
  first = record {
    sound = begun.sound;
    only = of_object p.object w w refl refl;
    version = v;
    known = begun.known;
    made = begun.made;
    free = due_free;
  }

  module _ (tables : List Input) where
    flat_same : (us : List Bounds) → flat_map (fill clock p (Incremental time lookback) tables) (map (unit_of p.object) us) ≡ flat_map (unit_changes p time tables) us
    flat_same [] = refl
    flat_same (u ∷ us) = ap (λ (l : List Change). unit_changes p time tables u ++ l) (flat_same us)

    all_formed : IsFormed p z w (flat_map (unit_changes p time tables) units)
    all_formed =
        let end = units_formed clock all p w now placed z doubtful time lookback is tables units (λ d h. (due_listed d h).0) (due_in_order clock b forgets p) w first in
        record { along = end.0; made = (end.1.version, end.1.known, end.1.made); only = end.1.only }

  -- the changes that fill it are those of its due units
  fills_from : (us : List Bounds) (list : List Change) → fills clock w all p (map (unit_of p.object) us) ≡ Some list → (tables : List Input) × (flat_map (unit_changes p time tables) us ≡ list)
  fills_from [] list filled = ([], (let same : [] ≡ list = cc in same))
  fills_from (u ∷ us) list filled =
      let from : Kind → List Input → List Change = λ k tables. flat_map (fill clock p k tables) (map (unit_of p.object) (u ∷ us)) in
      let filled_from : option_map (from (Incremental time lookback)) (tables_for w all p (Incremental time lookback)) ≡ Some list =
      sym (ap (λ (k : Kind). option_map (from k) (tables_for w all p k)) is) ∙ filled in
      let read = mapped_from (from (Incremental time lookback)) (tables_for w all p (Incremental time lookback)) list filled_from in
      (read.0, sym (flat_same read.0 (u ∷ us)) ∙ read.2)

  -- an incremental model
  pub incremental_formed : (list : List Change) → fills clock w all p (due clock b forgets p) ≡ Some list → IsFormed p z w list
  incremental_formed list filled =
      let read = fills_from units list (sym (ap (fills clock w all p) due_is) ∙ filled) in
      subst (IsFormed p z w) read.1 (all_formed read.0)
