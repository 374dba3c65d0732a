-- A world stays well kept where its moment is raised or a source is loaded, but for the parts whose rows from scratch
-- move.
use Rattle.std.proofs.Common.{◌≡◌, ◌++◌, IsTrue, ℕ, suc, ℤ, ◌≤ℤ◌, Bool, true, false, cond, not, ◌&&◌, ◌||◌, List, [], ◌∷◌, Some, refl, sym, ◌∙◌, ap, subst, arith}
use Rattle.std.proofs.lemmas.Int.{ints}
use Rattle.std.proofs.lemmas.Cmp.{tied_itself, int_cmp_total}
use Rattle.std.specs.Cmp.{Equal-is}
use Rattle.std.specs.List.{AllZip, Contains, filter, list_all, list_any, slice_index_or}
use Rattle.std.specs.Ordering.{int_cmp}
use Rattle.std.specs.declared.option.Option.{Option}
use Rattle.std.specs.declared.cmp.Ordering.{Ordering}
use Rattle.std.specs.declared.cmp.Ordering.TheVariants.{Less, Equal, Greater}
use Rattle.std.proofs.lemmas.Bool.{and_from as and_both}
use Rattle.mesh_list.specs.Keyed.{ascends, placed, put_by}
use Rattle.mesh_list.proofs.Ascends.{and_left, and_right, ascends-placed}
use Rattle.mesh_base_values.specs.Bag.{IsSameBag}
use Rattle.mesh_base.specs.Keys.{input_name, ref_cmp, snapshot_ref}
use Rattle.mesh_base.specs.declared.jobs.Input.{Input}
use Rattle.mesh_base_values.specs.declared.values.Column.{Column}
use Rattle.mesh_base_values.specs.Names.{name_cmp}
use Rattle.mesh_base_values.specs.NameOrder.{names_total}
use Rattle.mesh_base_values.specs.declared.times.Bounds.{Bounds}
use Rattle.mesh_base_values.specs.declared.kinds.Kind.{Kind}
use Rattle.mesh_base_values.specs.declared.kinds.Kind.TheVariants.{Full, View, Seed, Incremental}
use Rattle.mesh_base.specs.declared.snapshots.Snapshot.{Snapshot}
use Rattle.mesh_base_values.specs.declared.values.Cell.{Cell}
use Rattle.mesh_base_values.specs.declared.values.Name.{Name}
use Rattle.mesh_time.specs.Ranges.{Has, IsWithin, is_held}
use Rattle.mesh_time.proofs.Apart.{lt_false}
use Rattle.mesh_time.proofs.Held.{has_if_held}
use Rattle.mesh_house_book.specs.declared.versions.Version.{Version}
use Rattle.mesh_house_book.specs.WellFormed.{is_moment, is_version}
use Rattle.mesh_spec_model.specs.Closures.{Closure, standing}
use Rattle.mesh_spec_model.specs.Horizons.{Clock, Shows, schedule}
use Rattle.mesh_spec_model.specs.Scratch.{from_scratch, is_of_unit, piece}
use Rattle.mesh_law_query.proofs.Lists.{Each}
use Rattle.mesh_house.specs.declared.world.World.{World}
use Rattle.mesh_house.specs.declared.world.Change.TheVariants.{Moment, Load}
use Rattle.mesh_house.specs.Step.{kept_rows, step, with_book}
use Rattle.mesh_house.specs.Objects.{is_physical}
use Rattle.mesh_house.specs.Sources.{are_plain}
use Rattle.mesh_house.specs.World.{source_at, version_of}
use Rattle.mesh_spec_changes.specs.listed.Closing.{closing, IsSnapshot}
use Rattle.mesh_spec_changes.specs.due.Marks.{marks, same_marks}
use Rattle.mesh_spec_promise.specs.Moved.{is_unit_of, unit_moves, whole_moves, moved}
use Rattle.mesh_spec_changes.specs.due.Parts.{Parts, either, same_name, same_second, unit_of}
use Rattle.mesh_base.specs.declared.forgets.Forget.TheVariants.{Marks}
use Rattle.mesh_spec_changes.specs.due.Plans.{holds, ranges_of, marks_of, are_marks}
use Rattle.mesh_spec_promise.specs.Sound.{Sound, Uses, IsTyped, IsBookSound, IsTableSound, AreObjectsSound, AreViewsSound}
use Rattle.mesh_spec_promise.proofs.Bags.{bag_is_same}
use Rattle.mesh_spec_promise.proofs.Crons.{HasCron, closed_crons, one_piece, one_list}
use Rattle.mesh_spec_promise.proofs.Ends.{found_contained}
use Rattle.mesh_spec_changes.proofs.due.Later.{Earlier, earlier, schedule_grows, marks_grow}
use Rattle.mesh_spec_promise.proofs.Seconds.{any_of, scheduled_once, scheduled_proper}

-- no later than what is no later is no later
through : (xs ys zs : List ℤ) → AllZip (λ m n. m ≤ℤ n) xs ys → AllZip (λ m n. m ≤ℤ n) ys zs → AllZip (λ m n. m ≤ℤ n) xs zs
through [] [] zs p q = q
through [] (y ∷ ys) zs p q = absurd p
through (x ∷ xs) [] zs p q = absurd p
through (x ∷ xs) (y ∷ ys) [] p q = absurd q
through (x ∷ xs) (y ∷ ys) (z ∷ zs) p q = (omega (arith, ints, p.0, q.0), through xs ys zs p.1 q.1)

between : (xs ys : List ℤ) → AllZip (λ m n. m ≤ℤ n) xs ys → AllZip (λ m n. m ≤ℤ n) ys xs → xs ≡ ys
between [] [] p q = refl
between [] (y ∷ ys) p q = absurd p
between (x ∷ xs) [] p q = absurd p
between (x ∷ xs) (y ∷ ys) p q = let first : x ≡ y = omega (arith, ints, p.0, q.0) in λ i. first i ∷ between xs ys p.1 q.1 i

placed_all : {A K : Type 0} (R : K → K → Ordering) (key : A → K) (p : A → Bool) (y : A) (xs : List A) → p y ≡ true → list_all p xs ≡ true → list_all p (placed R key y xs) ≡ true
placed_all R key p y [] h more = and_both _ _ h refl
placed_all R key p y (x ∷ xs) h more = go (R (key x) (key y)) (placed_all R key p y xs h (and_right (p x) (list_all p xs) more))
  where
    go : (o : Ordering) → list_all p (placed R key y xs) ≡ true → list_all p (put_by o x y xs (placed R key y xs)) ≡ true
    go Less ih = and_both _ _ (and_left (p x) (list_all p xs) more) ih
    go Equal ih = and_both _ _ h (and_right (p x) (list_all p xs) more)
    go Greater ih = and_both _ _ h more

or_left : (a b : Bool) → (a || b) ≡ false → a ≡ false
or_left true b h = h
or_left false b h = refl

or_right : (a b : Bool) → (a || b) ≡ false → b ≡ false
or_right true b h = absurd (let f : true ≡ false = h in cc)
or_right false b h = h

-- where no item passes, none does
none_of : {X : Type 0} (p : X → Bool) (xs : List X) → list_any p xs ≡ false → (x : X) → Contains xs x → p x ≡ false
none_of p xs h x k = go (p x) refl
  where
    go : (b : Bool) → p x ≡ b → b ≡ false
    go false e = refl
    go true e = let f : list_any p xs ≡ true = any_of p xs x k e in absurd (let g : true ≡ false = sym f ∙ h in cc)

name_itself : (n : Name) → same_name n n ≡ true
name_itself n = (Equal-is (name_cmp n n)).1 (tied_itself names_total n)

second_itself : (a : ℤ) → same_second a a ≡ true
second_itself a = (Equal-is (int_cmp a a)).1 (tied_itself int_cmp_total a)

unit_itself : (u : Bounds) → (same_second u.start u.start && same_second u.end u.end) ≡ true
unit_itself u = and_both _ _ (second_itself u.start) (second_itself u.end)

marks_itself : (ms : List ℤ) → same_marks ms ms ≡ true
marks_itself [] = refl
marks_itself (m ∷ ms) = and_both _ _ (second_itself m) (marks_itself ms)

-- the last of three tests, where the others pass and all three together don't
last_fails : (a b c : Bool) → a ≡ true → b ≡ true → (a && (b && not c)) ≡ false → c ≡ true
last_fails true true true p q h = refl
last_fails true true false p q h = absurd (let f : true ≡ false = h in cc)
last_fails true false c p q h = absurd (let f : false ≡ true = q in cc)
last_fails false b c p q h = absurd (let f : false ≡ true = p in cc)

any_grows : {X : Type 0} (p : X → Bool) (xs ys : List X) → ((x : X) → Contains xs x → Contains ys x) → list_any p xs ≡ true → list_any p ys ≡ true
any_grows p [] ys h e = absurd (let f : false ≡ true = e in cc)
any_grows p (x ∷ xs) ys h e = go (p x) refl e (any_grows p xs ys (λ z k. h z (suc k.0, omega (arith, k.1), k.2)))
  where
    go : (b : Bool) → p x ≡ b → (b || list_any p xs) ≡ true → (list_any p xs ≡ true → list_any p ys ≡ true) → list_any p ys ≡ true
    go true f g more = any_of p ys x (h x (0, omega arith, refl)) f
    go false f g more = more g

module _ (x : Parts) (w : World) (sound : Sound x w) (t : ℤ) (later : w.book.moment ≤ℤ t) (real : is_moment t ≡ true) (before then_ : Clock) (shows_before : Shows before w.book.moment) (shows_then : Shows then_ t)
    (ss : List Input) (sorted : IsTrue (ascends name_cmp input_name ss)) (plain : IsTrue (are_plain ss)) where
  abbrev pub y : Parts
  y = either x (moved w before then_ ss)

  abbrev pub after : World
  after = record w { sources = ss; book = record w.book { moment = t } }

  crons : (s : Snapshot) → IsSnapshot w.book.snapshots s → Each HasCron (standing (closing w.book.snapshots s))
  crons s known = closed_crons w.book.snapshots sound.typed.crons s.rank s known

  and_fails : (a b : Bool) → a ≡ true → (a && b) ≡ false → b ≡ false
  and_fails true b p h = h
  and_fails false b p h = absurd (let f : false ≡ true = p in cc)

  -- a recorded unit that doesn't move has one bag of rows before and after
  unit_stays : (s : Snapshot) → IsSnapshot w.book.snapshots s → (time : List ℕ) (lookback : ℕ) → s.own.kind ≡ Incremental time lookback → (v : Version) → version_of w.book s.object ≡ Some v → (u : Bounds) → Contains (schedule before (closing w.book.snapshots s)) u
      → is_held v.ranges u.start u.end ≡ true → y (unit_of s.object u) ≡ false → IsSameBag (piece w.sources before (closing w.book.snapshots s) u) (piece ss then_ (closing w.book.snapshots s) u)
  unit_stays s known time lookback timed v at u listed held free =
      let c = closing w.book.snapshots s in
      let none : moved w before then_ ss (unit_of s.object u) ≡ false = or_right (x (unit_of s.object u)) _ free in
      let of_s : (same_name s.object s.object && unit_moves w before then_ ss s u s.own.kind) ≡ false =
      none_of (λ (q : Snapshot). same_name q.object s.object && unit_moves w before then_ ss q u q.own.kind) w.book.snapshots none s (found_contained ref_cmp snapshot_ref (snapshot_ref s) s w.book.snapshots known) in
      let moves : unit_moves w before then_ ss s u (Incremental time lookback) ≡ false =
      subst (λ (k : Kind). unit_moves w before then_ ss s u k ≡ false) timed (and_fails (same_name s.object s.object) _ (name_itself s.object) of_s) in
      let held_there : holds w.book s.object u ≡ true = ap (λ (o : Option Version). is_held (ranges_of o) u.start u.end) at ∙ held in
      bag_is_same (piece w.sources before c u) (piece ss then_ c u)
      (last_fails (is_unit_of (schedule before c) u) (holds w.book s.object u) _ (any_of (λ (b : Bounds). same_second b.start u.start && same_second b.end u.end) (schedule before c) u listed (unit_itself u)) held_there moves)

  whole_stays : (s : Snapshot) → IsSnapshot w.book.snapshots s → s.own.kind ≡ Full → (v : Version) → version_of w.book s.object ≡ Some v → v.marks ≡ Some (marks before (closing w.book.snapshots s))
      → marks before (closing w.book.snapshots s) ≡ marks then_ (closing w.book.snapshots s) → y (Marks s.object) ≡ false
      → IsSameBag (from_scratch w.sources before (closing w.book.snapshots s)) (from_scratch ss then_ (closing w.book.snapshots s))
  whole_stays s known full v at equal same free =
      let c = closing w.book.snapshots s in
      let none : moved w before then_ ss (Marks s.object) ≡ false = or_right (x (Marks s.object)) _ free in
      let of_s : (same_name s.object s.object && whole_moves w before then_ ss s s.own.kind) ≡ false =
      none_of (λ (q : Snapshot). same_name q.object s.object && whole_moves w before then_ ss q q.own.kind) w.book.snapshots none s (found_contained ref_cmp snapshot_ref (snapshot_ref s) s w.book.snapshots known) in
      let moves : whole_moves w before then_ ss s Full ≡ false =
      subst (λ (k : Kind). whole_moves w before then_ ss s k ≡ false) full (and_fails (same_name s.object s.object) _ (name_itself s.object) of_s) in
      let first : are_marks (marks_of (version_of w.book s.object)) (marks before c) ≡ true =
      ap (λ (o : Option Version). are_marks (marks_of o) (marks before c)) at ∙ ap (λ o. are_marks o (marks before c)) equal ∙ marks_itself (marks before c) in
      let second : same_marks (marks before c) (marks then_ c) ≡ true = ap (λ (ms : List ℤ). same_marks (marks before c) ms) (sym same) ∙ marks_itself (marks before c) in
      bag_is_same (from_scratch w.sources before c) (from_scratch ss then_ c) (last_fails _ _ _ first second moves)

  module _ (clock : Clock) (shows : Shows clock t) (s : Snapshot) (known : IsSnapshot w.book.snapshots s) (v : Version) (at : version_of w.book s.object ≡ Some v) where
    abbrev c : Closure
    c = closing w.book.snapshots s

    grown : Each (Earlier before clock) (standing c)
    grown = earlier w.book.moment t before clock later shows_before shows (standing c) (crons s known)

    more : (u : Bounds) → Contains (schedule before c) u → Contains (schedule clock c) u
    more = schedule_grows before clock c grown

    table_then : (kind : Kind) → s.own.kind ≡ kind → IsTableSound before x w s v kind → IsTableSound clock y after s v kind
    table_then (Incremental time lookback) is h = record {
      units = λ τ has. let (d, kd, held, within) = h.units τ has in (d, more d kd, held, within);
      within = λ m rows at_rows. λ k d l. any_grows (λ u. is_of_unit s.own u (slice_index_or rows k d)) (schedule before c) (schedule clock c) more (h.within m rows at_rows k d l);
      pieces = λ m u k held free rows at_rows.
          let proper = scheduled_proper clock c u k in
          let begins : IsWithin u.start u.end u.start = (omega (arith, ints), proper) in
          let has : Has v.ranges u.start = has_if_held v.ranges u.start u.end held u.start begins.0 begins.1 in
          let (d, kd, held_d, within_d) = h.units u.start has in
          let same : d ≡ u = scheduled_once clock c d u (more d kd) k u.start within_d begins in
          let listed : Contains (schedule before c) u = subst (Contains (schedule before c)) same kd in
          let stays = unit_stays s known time lookback is v at u listed held free in
          let one : piece ss then_ c u ≡ piece ss clock c u = one_piece t then_ clock shows_then shows ss c (crons s known) u in
          subst (λ (l : List (List Cell)). IsSameBag (filter (is_of_unit s.own u) rows) l) one
          (λ row. h.pieces m u listed held (or_left (x (unit_of s.object u)) _ free) rows at_rows row ∙ stays row);
    }
    table_then Full is h = record {
      no_later = λ old at_old. through old (marks before c) (marks clock c) (h.no_later old at_old) (marks_grow before clock c grown);
      rows = λ equal free rows at_rows.
          let same : marks before c ≡ marks clock c = between (marks before c) (marks clock c) (marks_grow before clock c grown) (h.no_later (marks clock c) equal) in
          let back : Each (Earlier clock then_) (standing c) = earlier t t clock then_ (omega (arith, ints)) shows shows_then (standing c) (crons s known) in
          let forth : Each (Earlier then_ clock) (standing c) = earlier t t then_ clock (omega (arith, ints)) shows_then shows (standing c) (crons s known) in
          let alike : marks clock c ≡ marks then_ c = between (marks clock c) (marks then_ c) (marks_grow clock then_ c back) (marks_grow then_ clock c forth) in
          let equal_before : v.marks ≡ Some (marks before c) = equal ∙ ap (λ ms. Some ms) (sym same) in
          let stays = whole_stays s known is v at equal_before (same ∙ alike) free in
          let one : from_scratch ss then_ c ≡ from_scratch ss clock c = one_list t then_ clock shows_then shows ss c (crons s known) in
          subst (λ (l : List (List Cell)). IsSameBag rows l) one (λ row. h.rows equal_before (or_left (x (Marks s.object)) _ free) rows at_rows row ∙ stays row);
    }
    table_then Seed is h = h
    table_then View is h = tt

  uses_after : (name : Name) → Uses w.book name → Uses after.book name
  uses_after name u = record { snapshot = u.snapshot; kept = u.kept; uses = u.uses }

  typed_after : IsTyped after
  typed_after = let t' = sound.typed in record { sources = sorted; plain = plain; objects = t'.objects; physical = t'.physical; views = t'.views; ranges = t'.ranges; crons = t'.crons }

  book_after : IsBookSound after.book
  book_after =
      let b = sound.book in
      record {
        well_formed = and_both _ _
            (and_both _ _ real (and_right (is_moment w.book.moment) (is_version w.book.version) (and_left (is_moment w.book.moment && is_version w.book.version) _ b.well_formed)))
            (and_right (is_moment w.book.moment && is_version w.book.version) _ b.well_formed);
        names = b.names;
        versions = λ name v at. uses_after name (b.versions name v at);
        ranges = b.ranges;
        marks = b.marks;
        shared = b.shared;
        alone = b.alone;
      }

  objects_after : AreObjectsSound after
  objects_after =
      let o = sound.objects in
      record {
        named = λ name object at. uses_after name (o.named name object at);
        bodies = o.bodies;
        made = λ s known v at m. let i = o.made s known v at m in record { object = i.object; stands = i.stands; columns = i.columns; targets = i.targets };
      }

  views_after : AreViewsSound after
  views_after =
      let v = sound.views in
      record {
        views = λ name target at. let i = v.views name target at in record { env = i.env; known = i.known; entry = i.entry; of = i.of; snapshot = i.snapshot; is = i.is; view = i.view; object = i.object };
        entries = v.entries;
        parents = v.parents;
        previous = v.previous;
        final = v.final;
      }

  pub sound_after : Sound y after
  sound_after = record {
    typed = typed_after;
    book = book_after;
    tables = λ clock shows s known v at. table_then clock shows s known v at s.own.kind refl (sound.tables before shows_before s known v at);
    objects = objects_after;
    views = views_after;
  }

-- a later moment, over the same sources
pub moment_raised : (x : Parts) (w : World) → Sound x w → (t : ℤ) → w.book.moment ≤ℤ t → is_moment t ≡ true → (before then_ : Clock) → Shows before w.book.moment → Shows then_ t → Sound (either x (moved w before then_ w.sources)) (step w (Moment t))
moment_raised x w sound t later real before then_ shows_before shows_then =
    subst (Sound (either x (moved w before then_ w.sources)))
    (sym (ap (λ (b : Bool). with_book w (record w.book { moment = cond b w.book.moment t })) (lt_false t w.book.moment later)))
    (sound_after x w sound t later real before then_ shows_before shows_then w.sources sound.typed.sources sound.typed.plain)

-- other rows of a source, at the same moment
pub source_loaded : (x : Parts) (w : World) → Sound x w → (clock : Clock) → Shows clock w.book.moment → (name : Name) → is_physical name ≡ false → (columns : List Column) (rows : List (List Cell)) (keep : Bool)
    → Sound (either x (moved w clock clock (step w (Load name columns rows keep)).sources)) (step w (Load name columns rows keep))
source_loaded x w sound clock shows name named columns rows keep =
    let new : Input = record { name = name; columns = columns; rows = kept_rows keep (source_at w name) ++ rows } in
    let ss : List Input = placed name_cmp input_name new w.sources in
    let step_is : step w (Load name columns rows keep) ≡ record w { sources = ss } = ap (λ (b : Bool). cond b w (record w { sources = ss })) named in
    subst (λ (z : World). Sound (either x (moved w clock clock z.sources)) z) (sym step_is)
    (sound_after x w sound w.book.moment (omega (arith, ints)) (and_left (is_moment w.book.moment) (is_version w.book.version) (and_left (is_moment w.book.moment && is_version w.book.version) _ sound.book.well_formed)) clock clock shows shows ss
    (ascends-placed name_cmp names_total input_name new w.sources sound.typed.sources)
    (placed_all name_cmp input_name (λ (q : Input). not (is_physical q.name)) new w.sources (ap not named) sound.typed.plain))
