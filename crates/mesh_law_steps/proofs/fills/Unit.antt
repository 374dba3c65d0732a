-- One due unit of an incremental model is written and recorded.
use Rattle.std.proofs.Common.{◌≡◌, ◌↔◌, ◌⊎◌, inl, inr, ℕ, ℤ, ◌<ℤ◌, ◌≤ℤ◌, Bool, true, false, cond, not, List, [], ◌∷◌, ◌++◌, Some, refl, sym, ◌∙◌, ap, subst, arith}
use Rattle.std.proofs.lemmas.Int.{ints}
use Rattle.std.proofs.lemmas.Cmp.{tied_itself, int_cmp_total}
use Rattle.std.proofs.lemmas.List.Elements.{filter-append}
use Rattle.std.specs.Cmp.{Equal-is}
use Rattle.std.specs.List.{Contains, filter}
use Rattle.std.specs.Ordering.{int_cmp, is_eq}
use Rattle.std.proofs.lemmas.Bool.{and_from as and_both}
use Rattle.mesh_base_values.specs.Bag.{IsSameBag}
use Rattle.mesh_base_values.specs.Kinds.{time_column}
use Rattle.mesh_base_values.specs.declared.kinds.Kind.{Kind}
use Rattle.mesh_base_values.specs.declared.kinds.Kind.TheVariants.{Incremental}
use Rattle.mesh_base_values.specs.declared.times.Bounds.{Bounds}
use Rattle.mesh_base_values.specs.declared.values.Cell.{Cell}
use Rattle.mesh_base_values.specs.declared.values.Column.{Column}
use Rattle.mesh_base.specs.Outputs.{columns_of}
use Rattle.mesh_base.specs.declared.definitions.Own.{Own}
use Rattle.mesh_base.specs.declared.jobs.Input.{Input}
use Rattle.mesh_base.specs.declared.snapshots.Snapshot.{Snapshot}
use Rattle.mesh_time.specs.Ranges.{Has as HasSecond, IsWithin, is_apart, is_held}
use Rattle.mesh_time.proofs.Added.{has_added, is_apart-added}
use Rattle.mesh_time.proofs.Held.{has_if_held, held_if_has}
use Rattle.mesh_time_days.specs.seconds.Rows.{rewritten}
use Rattle.mesh_house_book.specs.Changes.{with_range}
use Rattle.mesh_house_book.specs.declared.book.Book.{Book}
use Rattle.mesh_house_book.specs.declared.versions.Version.{Version}
use Rattle.mesh_spec_model.specs.Horizons.{Clock, Shows, schedule}
use Rattle.mesh_spec_model.specs.Scratch.{defn_rows, is_of_unit, lies_by, piece, piece_over}
use Rattle.mesh_law_query.proofs.Has.{Has, Has_filter_from, Has_from}
use Rattle.mesh_house.specs.declared.objects.Object.{Object}
use Rattle.mesh_house.specs.declared.world.Change.{Change}
use Rattle.mesh_house.specs.declared.world.Change.TheVariants.{RecordRange, WriteRange}
use Rattle.mesh_house.specs.declared.world.World.{World}
use Rattle.mesh_house.specs.Step.{step}
use Rattle.mesh_house.specs.World.{object_at, version_of}
use Rattle.mesh_spec_changes.specs.listed.Closing.{closing, IsSnapshot}
use Rattle.mesh_spec_changes.specs.due.Parts.{Parts, unit_of}
use Rattle.mesh_spec_changes.specs.due.Plans.{Planned}
use Rattle.mesh_spec_changes.specs.Changes.{ascending, inserted}
use Rattle.mesh_spec_promise.specs.Histories.{left}
use Rattle.mesh_spec_promise.specs.Sound.{Sound}
use Rattle.mesh_spec_promise.proofs.Doubts.{taken_left}
use Rattle.mesh_spec_promise.proofs.Seconds.{scheduled_proper}
use Rattle.mesh_law_changes.proofs.Recorded.{same_object}
use Rattle.mesh_law_changes.proofs.Recording.{unit_recorded}
use Rattle.mesh_law_changes.proofs.Writing.{unit_written}
use Rattle.mesh_law_changes.specs.along.Along.{StaysAlong}
use Rattle.mesh_law_changes.specs.along.Filled.{IsOfObject}
use Rattle.mesh_law_changes.specs.along.Ready.{IsPlaced}
use Rattle.mesh_law_changes.proofs.along.Along.{along_append, along_end, along_kept, left_fewer}
use Rattle.mesh_law_steps.proofs.fills.Done.{left_untaken}
use Rattle.mesh_law_steps.proofs.fills.Kept.{AreWritten, of_object, of_object_then, ranged_object, ranged_version, written_keeps, written_rows}
use Rattle.mesh_law_steps.proofs.fills.Twins.{piece_is, schedule_is, twin_kind, twin_own}

-- rows that all pass a test, behind rows of which none does
front_gone : (test : List Cell → Bool) (rows : List (List Cell)) → filter test (filter (λ row. not (test row)) rows) ≡ []
front_gone test [] = refl
front_gone test (row ∷ rows) = go (test row) refl (front_gone test rows)
  where
    go : (c : Bool) → test row ≡ c → filter test (filter (λ r. not (test r)) rows) ≡ [] → filter test (cond (not c) (row ∷ filter (λ r. not (test r)) rows) (filter (λ r. not (test r)) rows)) ≡ []
    go true e more = more
    go false e more = ap (λ (c : Bool). cond c (row ∷ filter test (filter (λ r. not (test r)) rows)) (filter test (filter (λ r. not (test r)) rows))) e ∙ more

all_stay : (test : List Cell → Bool) (rows : List (List Cell)) → ((row : List Cell) → Has row rows → test row ≡ true) → filter test rows ≡ rows
all_stay test [] h = refl
all_stay test (row ∷ rows) h =
    ap (λ (c : Bool). cond c (row ∷ filter test rows) (filter test rows)) (h row (inl refl)) ∙ ap (λ (rs : List (List Cell)). row ∷ rs) (all_stay test rows (λ r k. h r (inr k)))

-- a row in ascending order is one of the rows
inserted_from : (row : List Cell) (rows : List (List Cell)) (r : List Cell) → Has r (inserted row rows) → (row ≡ r) ⊎ Has r rows
inserted_from row [] r (inl e) = inl e
inserted_from row [] r (inr h) = absurd h
inserted_from row (t ∷ ts) r h = go _ h (inserted_from row ts r)
  where
    go : (c : Bool) → Has r (cond c (t ∷ inserted row ts) (row ∷ t ∷ ts)) → (Has r (inserted row ts) → (row ≡ r) ⊎ Has r ts) → (row ≡ r) ⊎ Has r (t ∷ ts)
    go true (inl e) more = inr (inl e)
    go true (inr k) more = behind (more k)
      where
        behind : (row ≡ r) ⊎ Has r ts → (row ≡ r) ⊎ Has r (t ∷ ts)
        behind (inl e) = inl e
        behind (inr j) = inr (inr j)
    go false (inl e) more = inl e
    go false (inr k) more = inr k

ascending_from : (rows : List (List Cell)) (r : List Cell) → Has r (ascending rows) → Has r rows
ascending_from [] r h = h
ascending_from (row ∷ rows) r h = go (inserted_from row (ascending rows) r h) (ascending_from rows r)
  where
    go : (row ≡ r) ⊎ Has r (ascending rows) → (Has r (ascending rows) → Has r rows) → Has r (row ∷ rows)
    go (inl e) more = inl e
    go (inr k) more = inr (more k)

-- A unit of a schedule is recorded of an incremental model and out of doubt, or is still to be written.
abbrev pub IsSettled : Parts → Planned → Version → List Bounds → Bounds → Type 0
IsSettled x p v rest d = ((is_held v.ranges d.start d.end ≡ true) × (x (unit_of p.object d) ≡ false)) ⊎ Has d rest

-- An incremental model on its way: no second of the units that are still to be written is recorded, and all others are.
pub record IsUnderWay (clock : Clock) (p : Planned) (before : World) (rest : List Bounds) (x : Parts) (w : World) : Type 0 where
  pub sound : Sound x w
  pub only : IsOfObject p.object before w
  pub version : Version
  pub known : version_of w.book p.object ≡ Some version
  pub made : version.made ≡ true
  pub free : (d : Bounds) → Has d rest → (t : ℤ) → IsWithin d.start d.end t → HasSecond version.ranges t → ⊥
  pub settled : (d : Bounds) → Contains (schedule clock p.closure) d → IsSettled x p version rest d

-- what writes and records one unit
abbrev pub unit_changes : Planned → List ℕ → List Input → Bounds → List Change
unit_changes p time tables d =
    WriteRange p.object time d.start d.end (ascending (piece_over p.node.own tables d)) ∷ RecordRange p.object d.start d.end ∷ []

module _ (clock : Clock) (all : List Planned) (p : Planned) (before : World) (now : Shows clock before.book.moment) (placed : IsPlaced all before.book.snapshots p) (time : List ℕ) (lookback : ℕ) (is : p.node.own.kind ≡ Incremental time lookback)
    (tables : List Input) (pieces : (u : Bounds) → IsSameBag (ascending (piece_over p.node.own tables u)) (piece before.sources clock p.closure u)) where
  module _ (d : Bounds) (listed : Contains (schedule clock p.closure) d) where
    abbrev rows : List (List Cell)
    rows = ascending (piece_over p.node.own tables d)

    -- the rows of a unit lie in it
    rows_lie : (row : List Cell) → Has row rows → is_of_unit p.node.own d row ≡ true
    rows_lie row h = (Has_filter_from (is_of_unit p.node.own d) (defn_rows p.node.own.defn tables d) row (ascending_from (piece_over p.node.own tables d) row h)).1

    proper : d.start <ℤ d.end
    proper = scheduled_proper clock p.closure d listed

    abbrev writing : Change
    writing = WriteRange p.object time d.start d.end rows

    abbrev recording : Change
    recording = RecordRange p.object d.start d.end

    module _ (rest : List Bounds) (ahead : (e : Bounds) → Has e rest → d.end ≤ℤ e.start) (x : Parts) (w : World) (way : IsUnderWay clock p before (d ∷ rest) x w) where
      abbrev v : Version
      v = way.version

      there : IsPlaced all w.book.snapshots p
      there = subst (λ (ss : List Snapshot). IsPlaced all ss p) (sym way.only.snapshots) placed

      moment : Shows clock w.book.moment
      moment = subst (Shows clock) (sym way.only.moment) now

      written : Sound x (step w writing)
      written =
          unit_written x w way.sound p.object time d.start d.end rows
          (λ s known same. (lookback, twin_kind x w way.sound all p there s known same (Incremental time lookback) is))
          (λ s known same other shows. subst (λ (us : List Bounds). Contains us d) (sym (schedule_is x w way.sound all p there s known same clock moment other shows)) listed)
          (λ s known same row k. ap (λ (o : Own). is_of_unit o d row) (twin_own x w way.sound all p there s known same) ∙ rows_lie row (Has_from rows row k))
          (λ u at t within has.
          let one : u ≡ v = let both : Some u ≡ Some v = sym at ∙ way.known in cc in
          way.free d (inl refl) t within (subst (λ (r : Version). HasSecond r.ranges t) one has))

      abbrev middle : World
      middle = step w writing

      book_kept : middle.book ≡ w.book
      book_kept = (written_keeps w p.object time d.start d.end rows).1

      sources_kept : middle.sources ≡ before.sources
      sources_kept = (written_keeps w p.object time d.start d.end rows).0 ∙ way.only.sources

      along_first : StaysAlong x w (writing ∷ [])
      along_first = along_kept x w writing way.sound written (λ q. refl)

      sound_then : Sound (left (writing ∷ []) x) middle
      sound_then = along_end x w (writing ∷ []) along_first

      known_then : version_of middle.book p.object ≡ Some v
      known_then = ap (λ (c : Book). version_of c p.object) book_kept ∙ way.known

      there_then : IsPlaced all middle.book.snapshots p
      there_then = subst (λ (c : Book). IsPlaced all c.snapshots p) (sym book_kept) there

      moment_then : Shows clock middle.book.moment
      moment_then = subst (λ (c : Book). Shows clock c.moment) (sym book_kept) moment

      -- the table has its model's columns
      columns_are : (s : Snapshot) → IsSnapshot w.book.snapshots s → s.object ≡ p.object → (o : Object) → object_at w p.object ≡ Some o → o.columns ≡ columns_of p.node.own
      columns_are s known same o at =
          let made = way.sound.objects.made s known v (ap (version_of w.book) same ∙ way.known) way.made in
          let one : o ≡ made.object = let both : Some o ≡ Some made.object = sym at ∙ ap (object_at w) (sym same) ∙ made.stands in cc in
          ap (λ (t : Object). t.columns) one ∙ made.columns ∙ ap columns_of (twin_own x w way.sound all p there s known same)

      -- and in the unit just these rows
      rows_there : (s : Snapshot) → IsSnapshot w.book.snapshots s → s.object ≡ p.object → (after : List (List Cell)) → AreWritten w p.object time d.start d.end rows after → filter (is_of_unit p.node.own d) after ≡ rows
      rows_there s known same after h =
          let cols : h.table.columns ≡ columns_of p.node.own = columns_are s known same h.table h.stood in
          let test : List Cell → Bool = is_of_unit p.node.own d in
          let split : after ≡ filter (λ row. not (test row)) h.before ++ rows =
          sym h.are ∙ ap (λ (cs : List Column). rewritten cs time d.start d.end rows h.before) cols
          ∙ ap (λ (k : Kind). filter (λ row. not (lies_by (time_column k) (columns_of p.node.own) d row)) h.before ++ rows) (sym is) in
          ap (filter test) split
          ∙ filter-append test (filter (λ row. not (test row)) h.before) rows
          ∙ (λ i. front_gone test h.before i ++ all_stay test rows rows_lie i)

      recorded : Sound (left (recording ∷ []) (left (writing ∷ []) x)) (step middle recording)
      recorded =
          unit_recorded (left (writing ∷ []) x) (left (recording ∷ []) (left (writing ∷ []) x)) middle sound_then p.object v known_then way.made d.start d.end proper
          (left_untaken recording (left (writing ∷ []) x))
          (λ s known same time' lookback' its_kind other shows. (
            subst (λ (us : List Bounds). Contains us d) (sym (schedule_is (left (writing ∷ []) x) middle sound_then all p there_then s known same clock moment_then other shows)) listed,
            λ clear after at.
                let s_known : IsSnapshot w.book.snapshots s = subst (λ (c : Book). IsSnapshot c.snapshots s) book_kept known in
                let own = twin_own (left (writing ∷ []) x) middle sound_then all p there_then s known same in
                let filtered_is : filter (is_of_unit s.own d) after ≡ rows = ap (λ (o : Own). filter (is_of_unit o d) after) own ∙ rows_there s s_known same after (written_rows w p.object time d.start d.end rows after at) in
                let piece_same : piece before.sources clock p.closure d ≡ piece middle.sources other (closing middle.book.snapshots s) d =
                ap (λ (ss : List Input). piece ss clock p.closure d) (sym sources_kept)
                ∙ sym (piece_is (left (writing ∷ []) x) middle sound_then all p there_then s known same clock moment_then other shows middle.sources d) in
                subst (λ (l : List (List Cell)). IsSameBag l (piece middle.sources other (closing middle.book.snapshots s) d)) (sym filtered_is) (subst (IsSameBag rows) piece_same (pieces d)),
          ))

      unit_along : StaysAlong x w (unit_changes p time tables d)
      unit_along = along_append x w (writing ∷ []) (recording ∷ []) along_first (sound_then, recorded)

      abbrev new : Version
      new = with_range d.start d.end v

      apart : is_apart v.ranges ≡ true
      apart = way.sound.typed.ranges p.object v way.known

      apart_new : is_apart new.ranges ≡ true
      apart_new = is_apart-added new.ranges d v.ranges refl proper apart

      has_new : (t : ℤ) → HasSecond new.ranges t ↔ (HasSecond v.ranges t ⊎ IsWithin d.start d.end t)
      has_new t = has_added d v.ranges t proper

      still_held : (e : Bounds) → is_held v.ranges e.start e.end ≡ true → is_held new.ranges e.start e.end ≡ true
      still_held e held = held_if_has new.ranges e.start e.end apart_new (λ t a c. (has_new t).1 (inl (has_if_held v.ranges e.start e.end held t a c)))

      held_now : is_held new.ranges d.start d.end ≡ true
      held_now = held_if_has new.ranges d.start d.end apart_new (λ t a c. (has_new t).1 (inr (a, c)))

      one_second : (a : ℤ) → is_eq (int_cmp a a) ≡ true
      one_second a = (Equal-is (int_cmp a a)).1 (tied_itself int_cmp_total a)

      clear_now : left (unit_changes p time tables d) x (unit_of p.object d) ≡ false
      clear_now =
          taken_left (unit_changes p time tables d) x (unit_of p.object d) recording (1, omega arith, refl)
          (and_both _ _ (same_object p.object) (and_both _ _ (one_second d.start) (one_second d.end)))

      free_then : (e : Bounds) → Has e rest → (t : ℤ) → IsWithin e.start e.end t → HasSecond v.ranges t ⊎ IsWithin d.start d.end t → ⊥
      free_then e h t within (inl has) = way.free e (inr h) t within has
      free_then e h t within (inr inside) = let later = ahead e h in omega (arith, ints, later, within.0, inside.1)

      settled_then : (e : Bounds) → IsSettled x p v (d ∷ rest) e → IsSettled (left (unit_changes p time tables d) x) p new rest e
      settled_then e (inl h) = inl (still_held e h.0, left_fewer (unit_changes p time tables d) x (unit_of p.object e) h.1)
      settled_then e (inr (inl same)) =
          inl (subst (λ (u : Bounds). (is_held new.ranges u.start u.end ≡ true) × (left (unit_changes p time tables d) x (unit_of p.object u) ≡ false)) same (held_now, clear_now))
      settled_then e (inr (inr h)) = inr h

      unit_done : IsUnderWay clock p before rest (left (unit_changes p time tables d) x) (step middle recording)
      unit_done = record {
        sound = along_end x w (unit_changes p time tables d) unit_along;
        only = of_object_then p.object before middle (step middle recording)
            (of_object_then p.object before w middle way.only (of_object p.object w middle (written_keeps w p.object time d.start d.end rows).0 book_kept))
            (ranged_object middle p.object v known_then d.start d.end proper);
        version = new;
        known = ranged_version middle p.object v known_then d.start d.end proper;
        made = way.made;
        free = λ e h t within has. free_then e h t within ((has_new t).0 has);
        settled = λ e k. settled_then e (way.settled e k);
      }

      -- the world stays sound along the changes of a due unit, and after them the others are still to be written
      pub unit_filled : StaysAlong x w (unit_changes p time tables d) × IsUnderWay clock p before rest (left (unit_changes p time tables d) x) (step middle recording)
      unit_filled = (unit_along, unit_done)
