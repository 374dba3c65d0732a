-- A world stays well kept where units and marks are forgotten; they are then no longer in doubt.
use Rattle.std.proofs.Common.{◌≡◌, ◌↔◌, ℕ, suc, ◌⊎◌, inl, inr, ℤ, ◌≤ℤ◌, ◌<ℤ◌, Bool, true, false, cond, not, ◌&&◌, ◌||◌, List, [], ◌∷◌, Some, None, refl, sym, ◌∙◌, ap, subst, arith}
use Rattle.std.specs.declared.option.Option.{Option}
use Rattle.std.proofs.lemmas.Int.{ints, by_lt_z}
use Rattle.std.proofs.lemmas.Map.Lookups.{exact_signed}
use Rattle.std.specs.Cmp.{Equal-is}
use Rattle.std.specs.Int.Signed.{lt_z}
use Rattle.std.specs.List.{Contains}
use Rattle.std.specs.Ordering.{int_cmp, is_eq}
use Rattle.mesh_list.specs.Keyed.{exchanged}
use Rattle.mesh_list.proofs.Ascends.{and_left, and_right}
use Rattle.mesh_base_values.specs.NameOrder.{names_exact}
use Rattle.mesh_base_values.specs.Names.{name_cmp}
use Rattle.mesh_base_values.specs.declared.kinds.Kind.{Kind}
use Rattle.mesh_base_values.specs.declared.kinds.Kind.TheVariants.{Full, View, Seed, Incremental}
use Rattle.mesh_base_values.specs.declared.times.Bounds.{Bounds}
use Rattle.mesh_base_values.specs.declared.values.Name.{Name}
use Rattle.mesh_base_values.proofs.Equals.{name_is as object_is}
use Rattle.mesh_base_values.proofs.Tests.{lt_says}
use Rattle.mesh_base.specs.declared.forgets.Forget.{Forget}
use Rattle.mesh_base.specs.declared.forgets.Forget.TheVariants.{Marks, Range}
use Rattle.mesh_base.specs.declared.snapshots.Snapshot.{Snapshot}
use Rattle.mesh_time.specs.Ranges.{Has, IsWithin, is_apart, is_held}
use Rattle.mesh_time.proofs.Apart.{lt_not}
use Rattle.mesh_time.proofs.Forgotten.{has_forgotten, is_apart-forgotten}
use Rattle.mesh_time.proofs.Held.{has_if_held, held_if_has}
use Rattle.mesh_house_book.specs.declared.book.Book.{Book}
use Rattle.mesh_house_book.specs.declared.versions.Version.{Version}
use Rattle.mesh_house_book.specs.Changes.{version_object, at_version}
use Rattle.mesh_house_book.proofs.Exchanged.{found_key}
use Rattle.mesh_house_book.specs.moves.Forgets.{forget, forget_units, without_marks, without_range}
use Rattle.mesh_spec_model.specs.Horizons.{Clock, Shows, schedule}
use Rattle.mesh_house.specs.declared.world.World.{World}
use Rattle.mesh_house.specs.declared.world.Change.TheVariants.{ForgetUnits}
use Rattle.mesh_house.specs.Step.{step, with_book}
use Rattle.mesh_house.specs.World.{version_of}
use Rattle.mesh_spec_changes.specs.listed.Closing.{closing, IsSnapshot}
use Rattle.mesh_spec_changes.specs.due.Parts.{Parts, is_among, object_of, same_part, same_second, unit_of}
use Rattle.mesh_spec_promise.specs.Histories.{left}
use Rattle.mesh_spec_promise.specs.Sound.{Sound, IsTableSound}
use Rattle.mesh_spec_promise.proofs.Doubts.{doubted}
use Rattle.mesh_spec_promise.proofs.Seconds.{scheduled_once, scheduled_proper}
use Rattle.mesh_law_changes.proofs.Recorded.{recorded_sound, retold, stands_made, table_retold}

outside : (u : Bounds) (t : ℤ) → (t <ℤ u.start) ⊎ (u.end ≤ℤ t) → IsWithin u.start u.end t → ⊥
outside u t (inl l) h = omega (arith, ints, h.0, l)
outside u t (inr l) h = omega (arith, ints, h.1, l)

decide : (u : Bounds) (t : ℤ) → (IsWithin u.start u.end t → ⊥) → (t <ℤ u.start) ⊎ (u.end ≤ℤ t)
decide u t never = by_lt_z t u.start (λ l. inl l) (λ ge. by_lt_z t u.end (λ l. absurd (never (ge, l))) (λ le. inr le))

second_is : (a b : ℤ) → same_second a b ≡ true → a ≡ b
second_is a b h = exact_signed a b ((Equal-is (int_cmp a b)).0 h)

-- parts that are one
pub part_object : (p q : Forget) → same_part p q ≡ true → object_of p ≡ object_of q
part_object (Range a start end) (Range b start' end') h = object_is a b (and_left (is_eq (name_cmp a b)) _ h)
part_object (Range a start end) (Marks b) h = absurd (let f : false ≡ true = h in cc)
part_object (Marks a) (Range b start end) h = absurd (let f : false ≡ true = h in cc)
part_object (Marks a) (Marks b) h = object_is a b h

pub part_unit : (a b : Name) (u d : Bounds) → same_part (unit_of a u) (unit_of b d) ≡ true → u ≡ d
part_unit a b u d h =
    let both = and_right (is_eq (name_cmp a b)) (same_second u.start d.start && same_second u.end d.end) h in
    let starts : u.start ≡ d.start = second_is u.start d.start (and_left (same_second u.start d.start) (same_second u.end d.end) both) in
    let ends : u.end ≡ d.end = second_is u.end d.end (and_right (same_second u.start d.start) (same_second u.end d.end) both) in
    λ i. record { start = starts i; end = ends i }

-- parts of two objects are two
pub part_differs : (p q : Forget) → (object_of p ≡ object_of q → ⊥) → same_part p q ≡ false
part_differs p q other = go (same_part p q) refl
  where
    go : (b : Bool) → same_part p q ≡ b → b ≡ false
    go true h = absurd (other (part_object p q h))
    go false h = refl

-- a unit of an incremental model stands in its schedule
abbrev pub IsWhole : List Snapshot → ℤ → Forget → Type 0
IsWhole all t (Range object start end) = (s : Snapshot) → IsSnapshot all s → s.object ≡ object → (time : List ℕ) (lookback : ℕ) → s.own.kind ≡ Incremental time lookback → (clock : Clock) → Shows clock t → Contains (schedule clock (closing all s)) (record { start = start; end = end })
IsWhole all t (Marks object) = Unit {0}

abbrev pub Takes : Forget → Parts → Parts → Type 0
Takes q x y = (p : Forget) → same_part p q ≡ false → y p ≡ false → x p ≡ false

module _ (x y : Parts) (w : World) (sound : Sound x w) where
  -- without a version nothing is recorded
  nothing_there : (q : Forget) → Takes q x y → version_of w.book (object_of q) ≡ None → Sound y w
  nothing_there q takes none = retold x y w sound (λ clock shows s known v at.
      table_retold x y w clock s v
      (λ p of free. takes p (part_differs p q (λ same. let clash : None ≡ Some v = sym none ∙ ap (version_of w.book) (sym same ∙ of) ∙ at in cc)) free)
      s.own.kind (sound.tables clock shows s known v at))

  module _ (object : Name) (takes : Takes (Marks object) x y) where
    marks_at : (o : Option Version) → version_of w.book object ≡ o → Sound y (with_book w (at_version o without_marks w.book))
    marks_at None e = nothing_there (Marks object) takes e
    marks_at (Some v) e =
        recorded_sound x y w sound v (without_marks v) here (λ m. m) (sound.typed.ranges object v e) (sound.book.ranges object v e) (λ m. refl)
        (λ p other free. takes p (part_differs p (Marks object) (λ same. other (same ∙ sym named))) free)
        (λ m s known same. stands_made x w sound v v.object here m s known same)
        (λ clock shows s known same. table clock s s.own.kind (sound.tables clock shows s known v (ap (version_of w.book) same ∙ here)))
      where
        named : v.object ≡ object
        named = found_key name_cmp version_object names_exact object v w.book.versions e

        here : version_of w.book v.object ≡ Some v
        here = ap (version_of w.book) named ∙ e

        table : (clock : Clock) (s : Snapshot) (kind : Kind) → IsTableSound clock x w s v kind → IsTableSound clock y w s (without_marks v) kind
        table clock s (Incremental time lookback) h = record { units = h.units; within = h.within; pieces = λ m u k held free. h.pieces m u k held (takes (unit_of s.object u) refl free) }
        table clock s Full h = record {
          no_later = λ marks at. absurd (let clash : None ≡ Some marks = at in cc);
          rows = λ at free. absurd (let clash : None ≡ Some _ = at in cc);
        }
        table clock s Seed h = λ some. absurd (let clash : false ≡ true = some in cc)
        table clock s View h = tt

  module _ (object : Name) (start end : ℤ) (takes : Takes (Range object start end) x y) (whole : IsWhole w.book.snapshots w.book.moment (Range object start end)) where
    abbrev u : Bounds
    u = record { start = start; end = end }

    module _ (proper : start <ℤ end) (v : Version) (at_object : version_of w.book object ≡ Some v) where
      abbrev new : Version
      new = without_range start end v

      named : v.object ≡ object
      named = found_key name_cmp version_object names_exact object v w.book.versions at_object

      here : version_of w.book v.object ≡ Some v
      here = ap (version_of w.book) named ∙ at_object

      apart : is_apart v.ranges ≡ true
      apart = sound.typed.ranges object v at_object

      apart_new : is_apart new.ranges ≡ true
      apart_new = is_apart-forgotten new.ranges u v.ranges refl proper apart

      has_new : (t : ℤ) → Has new.ranges t ↔ (Has v.ranges t × ((t <ℤ start) ⊎ (end ≤ℤ t)))
      has_new t = has_forgotten u v.ranges t proper

      apart_from : (d : Bounds) → is_held new.ranges d.start d.end ≡ true → u ≡ d → ⊥
      apart_from d held same =
          let held_u : is_held new.ranges start end ≡ true = ap (λ (f : Bounds). is_held new.ranges f.start f.end) same ∙ held in
          let has = has_if_held new.ranges start end held_u start (omega (arith, ints)) proper in
          outside u start ((has_new start).0 has).1 (omega (arith, ints), proper)

      table : (clock : Clock) → Shows clock w.book.moment → (s : Snapshot) → IsSnapshot w.book.snapshots s → s.object ≡ object → (kind : Kind) → s.own.kind ≡ kind → IsTableSound clock x w s v kind → IsTableSound clock y w s new kind
      table clock shows s known same (Incremental time lookback) is was =
          let c = closing w.book.snapshots s in
          let listed : Contains (schedule clock c) u = whole s known same time lookback is clock shows in
          let still : (d : Bounds) → Contains (schedule clock c) d → is_held v.ranges d.start d.end ≡ true → (t : ℤ) → IsWithin d.start d.end t → ((t <ℤ start) ⊎ (end ≤ℤ t)) → is_held new.ranges d.start d.end ≡ true
          = λ d kd held t within off. held_if_has new.ranges d.start d.end apart_new
          (λ r a b. (has_new r).1 (
            has_if_held v.ranges d.start d.end held r a b,
            decide u r (λ inside. let equal : d ≡ u = scheduled_once clock c d u kd listed r (a, b) inside in
                outside u t off (subst (λ (e : Bounds). IsWithin e.start e.end t) equal within)),
          )) in
          let before : (d : Bounds) → is_held new.ranges d.start d.end ≡ true → is_held v.ranges d.start d.end ≡ true
          = λ d held. held_if_has v.ranges d.start d.end apart (λ r a b. ((has_new r).0 (has_if_held new.ranges d.start d.end held r a b)).0) in
          record {
            units = λ t has. let after = (has_new t).0 has in let (d, kd, held, within) = was.units t after.0 in (d, kd, still d kd held t within after.1, within);
            within = was.within;
            pieces = λ m d kd held free. was.pieces m d kd (before d held) (takes (unit_of s.object d) (differs d held) free);
          }
        where
          differs : (d : Bounds) → is_held new.ranges d.start d.end ≡ true → same_part (unit_of s.object d) (Range object start end) ≡ false
          differs d held = go (same_part (unit_of s.object d) (Range object start end)) refl
            where
              go : (b : Bool) → same_part (unit_of s.object d) (Range object start end) ≡ b → b ≡ false
              go true h = absurd (apart_from d held (sym (part_unit s.object object d u h)))
              go false h = refl
      table clock shows s known same Full is was = record { no_later = was.no_later; rows = λ at free. was.rows at (takes (Marks s.object) refl free) }
      table clock shows s known same Seed is was = was
      table clock shows s known same View is was = tt

      no_ranges : new.made ≡ false → new.ranges ≡ []
      no_ranges m = ap (λ (rs : List Bounds). (without_range start end (record v { ranges = rs })).ranges) (sound.book.ranges object v at_object m)

      unit_gone : Sound y (record w { book = record w.book { versions = exchanged name_cmp version_object new w.book.versions } })
      unit_gone =
          recorded_sound x y w sound v new here (λ m. m) apart_new no_ranges (sound.book.marks object v at_object)
          (λ p other free. takes p (part_differs p (Range object start end) (λ same. other (same ∙ sym named))) free)
          (λ m s known same. stands_made x w sound v v.object here m s known same)
          (λ clock shows s known same. table clock shows s known (same ∙ named) s.own.kind refl (sound.tables clock shows s known v (ap (version_of w.book) same ∙ here)))

    -- of a unit of a schedule the start is below the end
    empty : lt_z start end ≡ false → Sound y w
    empty never = retold x y w sound (λ clock shows s known v at. table clock shows s known v s.own.kind refl (sound.tables clock shows s known v at))
      where
        table : (clock : Clock) → Shows clock w.book.moment → (s : Snapshot) → IsSnapshot w.book.snapshots s → (v : Version) (kind : Kind) → s.own.kind ≡ kind → IsTableSound clock x w s v kind → IsTableSound clock y w s v kind
        table clock shows s known v (Incremental time lookback) is h = record {
          units = h.units;
          within = h.within;
          pieces = λ m d k held free. h.pieces m d k held (takes (unit_of s.object d) (differs d k) free);
        }
          where
            differs : (d : Bounds) → Contains (schedule clock (closing w.book.snapshots s)) d → same_part (unit_of s.object d) (Range object start end) ≡ false
            differs d k = go (same_part (unit_of s.object d) (Range object start end)) refl
              where
                go : (b : Bool) → same_part (unit_of s.object d) (Range object start end) ≡ b → b ≡ false
                go true h =
                    let same : u ≡ d = sym (part_unit s.object object d u h) in
                    let proper : start <ℤ end = subst (λ (e : Bounds). e.start <ℤ e.end) (sym same) (scheduled_proper clock (closing w.book.snapshots s) d k) in
                    absurd (omega (arith, ints, proper, lt_not start end never))
                go false h = refl
        table clock shows s known v Full is h = record { no_later = h.no_later; rows = λ at free. h.rows at (takes (Marks s.object) refl free) }
        table clock shows s known v Seed is h = h
        table clock shows s known v View is h = tt

    range_at : (b : Bool) → lt_z start end ≡ b → (o : Option Version) → version_of w.book object ≡ o → Sound y (with_book w (cond b (at_version o (without_range start end) w.book) w.book))
    range_at false never o e = empty never
    range_at true below None e = nothing_there (Range object start end) takes e
    range_at true below (Some v) e = unit_gone (lt_says start end below) v e

  part_forgotten : (q : Forget) → Takes q x y → IsWhole w.book.snapshots w.book.moment q → Sound y (with_book w (forget w.book q))
  part_forgotten (Range object start end) takes whole = range_at object start end takes whole (lt_z start end) refl (version_of w.book object) refl
  part_forgotten (Marks object) takes whole = marks_at object takes (version_of w.book object) refl

-- forgetting leaves snapshots and moment
at_snapshots : (o : Option Version) (f : Version → Version) (b : Book) → (at_version o f b).snapshots ≡ b.snapshots
at_snapshots None f b = refl
at_snapshots (Some v) f b = refl

at_moment : (o : Option Version) (f : Version → Version) (b : Book) → (at_version o f b).moment ≡ b.moment
at_moment None f b = refl
at_moment (Some v) f b = refl

if_snapshots : (t : Bool) (a b : Book) → a.snapshots ≡ b.snapshots → (cond t a b).snapshots ≡ b.snapshots
if_snapshots true a b h = h
if_snapshots false a b h = refl

if_moment : (t : Bool) (a b : Book) → a.moment ≡ b.moment → (cond t a b).moment ≡ b.moment
if_moment true a b h = h
if_moment false a b h = refl

forget_snapshots : (b : Book) (q : Forget) → (forget b q).snapshots ≡ b.snapshots
forget_snapshots b (Range object start end) = if_snapshots (lt_z start end) (at_version (version_of b object) (without_range start end) b) b (at_snapshots (version_of b object) (without_range start end) b)
forget_snapshots b (Marks object) = at_snapshots (version_of b object) without_marks b

forget_moment : (b : Book) (q : Forget) → (forget b q).moment ≡ b.moment
forget_moment b (Range object start end) = if_moment (lt_z start end) (at_version (version_of b object) (without_range start end) b) b (at_moment (version_of b object) (without_range start end) b)
forget_moment b (Marks object) = at_moment (version_of b object) without_marks b

-- what is in doubt, but for one part
abbrev but : Forget → Parts → Parts
but q x p = x p && not (same_part p q)

parts_forgotten : (list : List Forget) (x y : Parts) (w : World) → Sound x w → ((p : Forget) → is_among list p ≡ false → y p ≡ false → x p ≡ false) → ((q : Forget) → Contains list q → IsWhole w.book.snapshots w.book.moment q) → Sound y (with_book w (forget_units w.book list))
parts_forgotten [] x y w sound takes whole = doubted x y w (λ p free. takes p refl free) sound
parts_forgotten (q ∷ qs) x y w sound takes whole =
    parts_forgotten qs (but q x) y (with_book w (forget w.book q)) (part_forgotten x (but q x) w sound q keeps (whole q (0, omega arith, refl)))
    (λ p others free. go p (same_part p q) refl others free)
    (λ r k. subst (λ (t : ℤ). IsWhole (forget w.book q).snapshots t r) (sym (forget_moment w.book q)) (subst (λ (all : List Snapshot). IsWhole all w.book.moment r) (sym (forget_snapshots w.book q)) (whole r (suc k.0, omega (arith, k.1), k.2))))
  where
    keeps : Takes q x (but q x)
    keeps p differs free = other (x p) (same_part p q) differs free
      where
        other : (a b : Bool) → b ≡ false → (a && not b) ≡ false → a ≡ false
        other true b e f = absurd (let t : true ≡ false = sym (ap not e) ∙ f in cc)
        other false b e f = refl

    none : (a : Bool) → (a && false) ≡ false
    none true = refl
    none false = refl

    go : (p : Forget) (b : Bool) → same_part p q ≡ b → is_among qs p ≡ false → y p ≡ false → (x p && not (same_part p q)) ≡ false
    go p true e others free = ap (λ (b : Bool). x p && not b) e ∙ none (x p)
    go p false e others free =
        let clear : x p ≡ false = takes p (ap (λ (b : Bool). b || is_among qs p) e ∙ others) free in
        ap (λ (a : Bool). a && not (same_part p q)) clear

-- the parts are in doubt no longer
pub units_forgotten : (x : Parts) (w : World) → Sound x w → (list : List Forget)
    → ((object : Name) (start end : ℤ) → Contains list (Range object start end) → (s : Snapshot) → IsSnapshot w.book.snapshots s → s.object ≡ object → (time : List ℕ) (lookback : ℕ) → s.own.kind ≡ Incremental time lookback
    → (clock : Clock) → Shows clock w.book.moment → Contains (schedule clock (closing w.book.snapshots s)) (record { start = start; end = end }))
    → Sound (left (ForgetUnits list ∷ []) x) (step w (ForgetUnits list))
units_forgotten x w sound list whole = parts_forgotten list x (left (ForgetUnits list ∷ []) x) w sound takes its
  where
    takes : (p : Forget) → is_among list p ≡ false → (x p && not (is_among list p || false)) ≡ false → x p ≡ false
    takes p e f = other (x p) (is_among list p) e f
      where
        other : (a b : Bool) → b ≡ false → (a && not (b || false)) ≡ false → a ≡ false
        other true b e f = absurd (let t : true ≡ false = sym (ap (λ (c : Bool). not (c || false)) e) ∙ f in cc)
        other false b e f = refl

    its : (q : Forget) → Contains list q → IsWhole w.book.snapshots w.book.moment q
    its (Range object start end) k = whole object start end k
    its (Marks object) k = tt
