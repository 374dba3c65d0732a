-- A world stays well kept where marks or a unit are recorded of a table that has these rows.
use Rattle.std.proofs.Common.{◌≡◌, ◌↔◌, ℕ, ◌⊎◌, inl, inr, ℤ, ◌<ℤ◌, ◌≤ℤ◌, Bool, true, false, cond, List, [], ◌∷◌, Some, refl, sym, ◌∙◌, ap, subst, arith, IsTrue}
use Rattle.std.specs.declared.option.Option.{Option}
use Rattle.std.specs.Option.{ForSome}
use Rattle.std.proofs.lemmas.Int.{ints}
use Rattle.std.proofs.lemmas.Cmp.{tied_itself, int_cmp_total}
use Rattle.std.specs.Cmp.{Equal-is}
use Rattle.std.specs.List.{AllZip, Contains, filter}
use Rattle.std.specs.Ordering.{int_cmp, is_eq}
use Rattle.std.proofs.lemmas.Bool.{and_from as and_both}
use Rattle.mesh_list.specs.Keyed.{found}
use Rattle.mesh_base_values.specs.Bag.{IsSameBag}
use Rattle.mesh_base_values.specs.NameOrder.{names_exact}
use Rattle.mesh_base_values.specs.Names.{name_cmp}
use Rattle.mesh_base_values.specs.declared.kinds.Kind.{Kind}
use Rattle.mesh_base_values.specs.declared.kinds.Kind.TheVariants.{Full, View, Seed, Incremental}
use Rattle.mesh_base_values.specs.declared.times.Bounds.{Bounds}
use Rattle.mesh_base_values.specs.declared.values.Name.{Name}
use Rattle.mesh_base_values.proofs.Tests.{lt_true}
use Rattle.mesh_base.specs.declared.forgets.Forget.{Forget}
use Rattle.mesh_base.specs.declared.forgets.Forget.TheVariants.{Marks, Range}
use Rattle.mesh_base.specs.declared.snapshots.Snapshot.{Snapshot}
use Rattle.mesh_time.specs.Ranges.{Has, IsWithin, is_apart, is_held}
use Rattle.mesh_time.proofs.Added.{has_added, is_apart-added}
use Rattle.mesh_time.proofs.Held.{has_if_held, held_if_has}
use Rattle.mesh_house_book.specs.declared.versions.Version.{Version}
use Rattle.mesh_house_book.specs.Changes.{version_object, at_version, with_marks, with_range}
use Rattle.mesh_house_book.proofs.Exchanged.{found_key}
use Rattle.mesh_spec_model.specs.Closures.{Closure}
use Rattle.mesh_spec_model.specs.Horizons.{Clock, Shows, schedule}
use Rattle.mesh_spec_model.specs.Scratch.{defn_rows, from_scratch, is_of_unit, no_bounds, piece}
use Rattle.mesh_house.specs.declared.world.World.{World}
use Rattle.mesh_house.specs.declared.world.Change.TheVariants.{RecordMarks, RecordRange}
use Rattle.mesh_house.specs.Step.{step, with_book}
use Rattle.mesh_house.specs.World.{version_of}
use Rattle.mesh_spec_changes.specs.listed.Closing.{closing, IsSnapshot}
use Rattle.mesh_spec_changes.specs.due.Marks.{marks}
use Rattle.mesh_spec_changes.specs.due.Parts.{Parts, same_part, unit_of}
use Rattle.mesh_spec_promise.specs.Histories.{taken_by}
use Rattle.mesh_spec_promise.specs.Sound.{Sound, IsTableSound, table_rows}
use Rattle.mesh_spec_promise.proofs.Seconds.{scheduled_once}
use Rattle.mesh_law_changes.proofs.Forgetting.{part_differs, part_unit}
use Rattle.mesh_law_changes.proofs.Recorded.{recorded_sound, same_object, stands_made}

module _ (x y : Parts) (w : World) (sound : Sound x w) (object : Name) (v : Version) (at_object : version_of w.book object ≡ Some v) (made : v.made ≡ true) where
  named : v.object ≡ object
  named = found_key name_cmp version_object names_exact object v w.book.versions at_object

  here : version_of w.book v.object ≡ Some v
  here = ap (version_of w.book) named ∙ at_object

  its : (s : Snapshot) → s.object ≡ v.object → version_of w.book s.object ≡ Some v
  its s same = ap (version_of w.book) same ∙ here

  module _ (ms : List ℤ) (takes : (q : Forget) → taken_by (RecordMarks object ms) q ≡ false → y q ≡ false → x q ≡ false)
      (full : (s : Snapshot) → IsSnapshot w.book.snapshots s → s.object ≡ object → s.own.kind ≡ Full → (clock : Clock) → Shows clock w.book.moment
      → (ms ≡ marks clock (closing w.book.snapshots s)) × (y (Marks object) ≡ false → ForSome (table_rows w object) (λ rows. IsSameBag rows (from_scratch w.sources clock (closing w.book.snapshots s)))))
      (seed : (s : Snapshot) → IsSnapshot w.book.snapshots s → s.object ≡ object → s.own.kind ≡ Seed → ForSome (table_rows w object) (λ rows. IsSameBag rows (defn_rows s.own.defn [] no_bounds))) where
    no_later_itself : (xs : List ℤ) → AllZip (λ m n. m ≤ℤ n) xs xs
    no_later_itself [] = tt
    no_later_itself (m ∷ more) = (omega (arith, ints), no_later_itself more)

    marked : (clock : Clock) → Shows clock w.book.moment → (s : Snapshot) → IsSnapshot w.book.snapshots s → s.object ≡ object → (kind : Kind) → s.own.kind ≡ kind → IsTableSound clock x w s v kind → IsTableSound clock y w s (with_marks ms v) kind
    marked clock shows s known same (Incremental time lookback) is h = record { units = h.units; within = h.within; pieces = λ m u k held free. h.pieces m u k held (takes (unit_of s.object u) refl free) }
    marked clock shows s known same Full is h =
        let f = full s known same is clock shows in
        record {
          no_later = λ old at. let e : ms ≡ old = cc in subst (λ (l : List ℤ). AllZip (λ m n. m ≤ℤ n) l (marks clock (closing w.book.snapshots s))) (sym f.0 ∙ e) (no_later_itself (marks clock (closing w.book.snapshots s)));
          rows = λ at free rows at_rows. f.1 (ap (λ (n : Name). y (Marks n)) (sym same) ∙ free) rows (ap (table_rows w) (sym same) ∙ at_rows);
        }
    marked clock shows s known same Seed is h = λ some rows at_rows. seed s known same is rows (ap (table_rows w) (sym same) ∙ at_rows)
    marked clock shows s known same View is h = tt

    pub marks_recorded : Sound y (step w (RecordMarks object ms))
    marks_recorded =
        subst (Sound y) (sym (ap (λ (o : Option Version). with_book w (at_version o (with_marks ms) w.book)) at_object))
        (recorded_sound x y w sound v (with_marks ms v) here (λ m. m) (sound.typed.ranges object v at_object)
        (λ no_. absurd (let f : true ≡ false = sym made ∙ no_ in cc)) (λ no_. absurd (let f : true ≡ false = sym made ∙ no_ in cc))
        (λ q other free. takes q (part_differs (Marks object) q (λ same. other (sym same ∙ sym named))) free)
        (λ m s known same. stands_made x w sound v v.object here made s known same)
        (λ clock shows s known same. marked clock shows s known (same ∙ named) s.own.kind refl (sound.tables clock shows s known v (its s same))))

  module _ (start end : ℤ) (proper : start <ℤ end) (takes : (q : Forget) → taken_by (RecordRange object start end) q ≡ false → y q ≡ false → x q ≡ false)
      (unit : (s : Snapshot) → IsSnapshot w.book.snapshots s → s.object ≡ object → (time : List ℕ) (lookback : ℕ) → s.own.kind ≡ Incremental time lookback → (clock : Clock) → Shows clock w.book.moment
      → Contains (schedule clock (closing w.book.snapshots s)) (record { start = start; end = end })
      × (y (Range object start end) ≡ false → ForSome (table_rows w object) (λ rows. IsSameBag (filter (is_of_unit s.own (record { start = start; end = end })) rows) (piece w.sources clock (closing w.book.snapshots s) (record { start = start; end = end }))))) where
    abbrev u : Bounds
    u = record { start = start; end = end }

    abbrev new : Version
    new = with_range start end v

    apart : is_apart v.ranges ≡ true
    apart = sound.typed.ranges object v at_object

    apart_new : is_apart new.ranges ≡ true
    apart_new = is_apart-added new.ranges u v.ranges refl proper apart

    has_new : (t : ℤ) → Has new.ranges t ↔ (Has v.ranges t ⊎ IsWithin start end t)
    has_new t = has_added u v.ranges t proper

    still_held : (d : Bounds) → is_held v.ranges d.start d.end ≡ true → is_held new.ranges d.start d.end ≡ true
    still_held d held = held_if_has new.ranges d.start d.end apart_new (λ t a b. (has_new t).1 (inl (has_if_held v.ranges d.start d.end held t a b)))

    held_now : is_held new.ranges start end ≡ true
    held_now = held_if_has new.ranges start end apart_new (λ t a b. (has_new t).1 (inr (a, b)))

    one_second : (a : ℤ) → is_eq (int_cmp a a) ≡ true
    one_second a = (Equal-is (int_cmp a a)).1 (tied_itself int_cmp_total a)

    unit_itself : (s : Snapshot) (d : Bounds) → s.object ≡ object → d ≡ u → same_part (Range object start end) (unit_of s.object d) ≡ true
    unit_itself s d same equal =
        and_both _ _ (ap (λ (n : Name). is_eq (name_cmp object n)) same ∙ same_object object)
        (and_both _ _ (ap (λ (e : Bounds). is_eq (int_cmp start e.start)) equal ∙ one_second start) (ap (λ (e : Bounds). is_eq (int_cmp end e.end)) equal ∙ one_second end))

    ranged : (clock : Clock) → Shows clock w.book.moment → (s : Snapshot) → IsSnapshot w.book.snapshots s → s.object ≡ object → (kind : Kind) → s.own.kind ≡ kind → IsTableSound clock x w s v kind → IsTableSound clock y w s new kind
    ranged clock shows s known same (Incremental time lookback) is was =
        let f = unit s known same time lookback is clock shows in
        record {
          units = λ t has. by_half t ((has_new t).0 has) f.0;
          within = was.within;
          pieces = λ m d k held free. by_unit m d k held free (same_part (Range object start end) (unit_of s.object d)) refl f.0 f.1;
        }
      where
        c : Closure
        c = closing w.book.snapshots s

        by_half : (t : ℤ) → Has v.ranges t ⊎ IsWithin start end t → Contains (schedule clock c) u → (d : Bounds) × Contains (schedule clock c) d × IsTrue (is_held new.ranges d.start d.end) × IsWithin d.start d.end t
        by_half t (inl before) listed = let (d, kd, held, within) = was.units t before in (d, kd, still_held d held, within)
        by_half t (inr within) listed = (u, listed, held_now, within)

        by_unit : v.made ≡ true → (d : Bounds) → Contains (schedule clock c) d → is_held new.ranges d.start d.end ≡ true → y (unit_of s.object d) ≡ false → (b : Bool) → same_part (Range object start end) (unit_of s.object d) ≡ b → Contains (schedule clock c) u
            → (y (Range object start end) ≡ false → ForSome (table_rows w object) (λ rows. IsSameBag (filter (is_of_unit s.own u) rows) (piece w.sources clock c u)))
            → ForSome (table_rows w s.object) (λ rows. IsSameBag (filter (is_of_unit s.own d) rows) (piece w.sources clock c d))
        by_unit m d k held free true e listed right = λ rows at_rows.
            let equal : u ≡ d = part_unit object s.object u d e in
            let free_u : y (Range object start end) ≡ false = (λ i. y (unit_of (sym same i) (equal i))) ∙ free in
            subst (λ (f : Bounds). IsSameBag (filter (is_of_unit s.own f) rows) (piece w.sources clock c f)) equal (right free_u rows (ap (table_rows w) (sym same) ∙ at_rows))
        by_unit m d k held free false e listed right =
            was.pieces m d k
            (held_if_has v.ranges d.start d.end apart (λ t a b. apart_before t (a, b) ((has_new t).0 (has_if_held new.ranges d.start d.end held t a b))))
            (takes (unit_of s.object d) e free)
          where
            apart_before : (t : ℤ) → IsWithin d.start d.end t → Has v.ranges t ⊎ IsWithin start end t → Has v.ranges t
            apart_before t within (inl before) = before
            apart_before t within (inr inside) =
                let equal : d ≡ u = scheduled_once clock c d u k listed t within inside in
                absurd (let f : true ≡ false = sym (unit_itself s d same equal) ∙ e in cc)
    ranged clock shows s known same Full is was = record { no_later = was.no_later; rows = λ at free. was.rows at (takes (Marks s.object) refl free) }
    ranged clock shows s known same Seed is was = was
    ranged clock shows s known same View is was = tt

    pub unit_recorded : Sound y (step w (RecordRange object start end))
    unit_recorded =
        subst (Sound y)
        (sym (ap (λ (b : Bool). with_book w (cond b (at_version (found name_cmp version_object object w.book.versions) (with_range start end) w.book) w.book)) (lt_true start end proper)
        ∙ ap (λ (o : Option Version). with_book w (at_version o (with_range start end) w.book)) at_object))
        (recorded_sound x y w sound v new here (λ m. m) apart_new
        (λ no_. absurd (let f : true ≡ false = sym made ∙ no_ in cc)) (λ no_. absurd (let f : true ≡ false = sym made ∙ no_ in cc))
        (λ q other free. takes q (part_differs (Range object start end) q (λ same. other (sym same ∙ sym named))) free)
        (λ m s known same. stands_made x w sound v v.object here made s known same)
        (λ clock shows s known same. ranged clock shows s known (same ∙ named) s.own.kind refl (sound.tables clock shows s known v (its s same))))
