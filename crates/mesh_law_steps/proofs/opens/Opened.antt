-- What is recorded of a plan's models once it is opened is all but what is due of them.
use Rattle.std.proofs.Common.{◌≡◌, ◌||◌, ◌&&◌, not, ℤ, ◌≤ℤ◌, ◌<ℤ◌, Bool, true, false, cond, List, [], ◌∷◌, Some, None, refl, sym, ◌∙◌, ap, subst, arith}
use Rattle.std.specs.Option.{is_some}
use Rattle.std.specs.declared.option.Option.{Option}
use Rattle.std.proofs.lemmas.Int.{ints}
use Rattle.mesh_base_values.specs.declared.kinds.Kind.{Kind}
use Rattle.mesh_base_values.specs.declared.kinds.Kind.TheVariants.{Full, View, Seed, Incremental}
use Rattle.mesh_base_values.specs.declared.times.Bounds.{Bounds}
use Rattle.mesh_base_values.specs.declared.values.Name.{Name}
use Rattle.mesh_base.specs.declared.forgets.Forget.{Forget}
use Rattle.mesh_base.specs.declared.forgets.Forget.TheVariants.{Marks, Range}
use Rattle.mesh_base.specs.declared.forgets.Restate.{Restate}
use Rattle.mesh_time.specs.Ranges.{is_apart, is_held}
use Rattle.mesh_time.specs.Ranges as ranges
use Rattle.mesh_time.proofs.Held.{has_if_held, held_if_has}
use Rattle.mesh_house_book.specs.declared.book.Book.{Book}
use Rattle.mesh_house_book.specs.declared.versions.Version.{Version}
use Rattle.mesh_spec_model.specs.Horizons.{Clock, schedule}
use Rattle.mesh_house.specs.World.{version_of}
use Rattle.mesh_law_query.proofs.Has.{Has, Has_from, Has_to}
use Rattle.mesh_spec_changes.specs.due.Dues.{again, due, due_of, is_due_unit}
use Rattle.mesh_spec_changes.specs.due.Marks.{marks, same_marks}
use Rattle.mesh_spec_changes.specs.due.Parts.{is_among, same_second, unit_of}
use Rattle.mesh_spec_changes.specs.due.Plans.{Planned, are_marks, holds, is_made, is_marked, marks_of, ranges_of}
use Rattle.mesh_spec_changes.specs.Changes.{is_any}
use Rattle.mesh_spec_promise.proofs.Seconds.{scheduled_once, scheduled_proper}
use Rattle.mesh_law_changes.specs.along.Ready.{AreApart, HasTheRest, IsOpened, put_version}
use Rattle.mesh_house_book.specs.moves.Forgets.{forget_units}
use Rattle.mesh_law_steps.proofs.opens.Again.{again_from, again_marks, again_range}
use Rattle.mesh_law_steps.proofs.opens.Forgotten.{IsLess, IsSpared, list_left}
use Rattle.mesh_law_steps.proofs.opens.Parts.{among_has, not_among, one_of_object, second_is, second_itself}

-- the version of an object once its model is put
put_made : (o : Option Version) (object : Name) → (put_version o object).made ≡ is_made o
put_made None object = refl
put_made (Some v) object = refl

put_ranges : (o : Option Version) (object : Name) → (put_version o object).ranges ≡ ranges_of o
put_ranges None object = refl
put_ranges (Some v) object = refl

put_marks : (o : Option Version) (object : Name) → (put_version o object).marks ≡ marks_of o
put_marks None object = refl
put_marks (Some v) object = refl

-- marks by their test
marks_are : (old ms : List ℤ) → same_marks old ms ≡ true → old ≡ ms
marks_are [] [] h = refl
marks_are [] (m ∷ ms) h = absurd (let clash : false ≡ true = h in cc)
marks_are (a ∷ old) [] h = absurd (let clash : false ≡ true = h in cc)
marks_are (a ∷ old) (m ∷ ms) h =
    let (first, rest) = both (same_second a m) (same_marks old ms) h in
    λ i. second_is a m first i ∷ marks_are old ms rest i
  where
    both : (c d : Bool) → (c && d) ≡ true → (c ≡ true) × (d ≡ true)
    both true d k = (refl, k)
    both false d k = absurd (let clash : false ≡ true = k in cc)

marks_itself : (ms : List ℤ) → same_marks ms ms ≡ true
marks_itself [] = refl
marks_itself (m ∷ ms) = λ i. second_itself m i && marks_itself ms i

recorded_are : (o : Option (List ℤ)) (ms : List ℤ) → are_marks o ms ≡ true → o ≡ Some ms
recorded_are None ms h = absurd (let clash : false ≡ true = h in cc)
recorded_are (Some old) ms h = ap Some (marks_are old ms h)

module _ (clock : Clock) (b : Book) (forgets : List Forget) (all : List Planned) (restate : Option Restate) (again_is : forgets ≡ again clock b restate all) (apart : AreApart all) (p : Planned) (there : Has p all) where
  -- what is forgotten of a model's object is computed again of the model
  range_of : (start end : ℤ) → Has (Range p.object start end) forgets → Has (record { start = start; end = end }) (schedule clock p.closure)
  range_of start end h =
      let (q, its, part) = again_from clock b restate all (Range p.object start end) (subst (Has (Range p.object start end)) again_is h) in
      let unit = again_range clock b restate q q.node.own.kind p.object start end part in
      let same : q ≡ p = one_of_object all apart q p its there (sym unit.named) in
      subst (λ (r : Planned). Has (record { start = start; end = end }) (schedule clock r.closure)) same unit.unit

  full_of : Has (Marks p.object) forgets → p.node.own.kind ≡ Full
  full_of h =
      let (q, its, part) = again_from clock b restate all (Marks p.object) (subst (Has (Marks p.object)) again_is h) in
      let (named, kind) = again_marks clock b restate q q.node.own.kind p.object part in
      let same : q ≡ p = one_of_object all apart q p its there (sym named) in
      ap (λ (r : Planned). r.node.own.kind) (sym same) ∙ kind

  abbrev before : Option Version
  before = version_of b p.object

  module _ (new : Version) (less : IsLess p.object forgets (put_version before p.object) new) (old_apart : is_apart (put_version before p.object).ranges ≡ true) where
    abbrev old : Version
    old = put_version before p.object

    -- a unit that is forgotten isn't held
    taken : (u : Bounds) → Has u (schedule clock p.closure) → Has (unit_of p.object u) forgets → is_held new.ranges u.start u.end ≡ false
    taken u k gone = go (is_held new.ranges u.start u.end) refl
      where
        go : (c : Bool) → is_held new.ranges u.start u.end ≡ c → c ≡ false
        go false e = refl
        go true e =
            let proper : u.start <ℤ u.end = scheduled_proper clock p.closure u (Has_to (schedule clock p.closure) u k) in
            let first : u.start ≤ℤ u.start = omega (arith, ints) in
            let has : ranges.Has new.ranges u.start = has_if_held new.ranges u.start u.end e u.start first proper in
            absurd (((less.seconds u.start).0 has).1 u.start u.end gone (first, proper))

    -- another unit is held as before
    left : (u : Bounds) → Has u (schedule clock p.closure) → (Has (unit_of p.object u) forgets → ⊥) → is_held new.ranges u.start u.end ≡ is_held old.ranges u.start u.end
    left u k stays = go (is_held new.ranges u.start u.end) (is_held old.ranges u.start u.end) refl refl
      where
        spared : (t : ℤ) → u.start ≤ℤ t → t <ℤ u.end → IsSpared p.object forgets t
        spared t low high start end gone within =
            let v : Bounds = record { start = start; end = end } in
            let same : v ≡ u = scheduled_once clock p.closure v u (Has_to (schedule clock p.closure) v (range_of start end gone)) (Has_to (schedule clock p.closure) u k) t within (low, high) in
            stays (subst (λ (d : Bounds). Has (unit_of p.object d) forgets) same gone)

        go : (c d : Bool) → is_held new.ranges u.start u.end ≡ c → is_held old.ranges u.start u.end ≡ d → c ≡ d
        go true true e f = refl
        go false false e f = refl
        go true false e f =
            let held : is_held old.ranges u.start u.end ≡ true = held_if_has old.ranges u.start u.end old_apart (λ t low high. ((less.seconds t).0 (has_if_held new.ranges u.start u.end e t low high)).0) in
            let clash : true ≡ false = sym held ∙ f in
            absurd (cc)
        go false true e f =
            let held : is_held new.ranges u.start u.end ≡ true = held_if_has new.ranges u.start u.end less.apart (λ t low high. (less.seconds t).1 (has_if_held old.ranges u.start u.end f t low high, spared t low high)) in
            let clash : true ≡ false = sym held ∙ e in
            absurd (cc)

    units : (u : Bounds) → Has u (schedule clock p.closure) → is_held new.ranges u.start u.end ≡ not (is_due_unit b forgets p u)
    units u k = go (is_among forgets (unit_of p.object u)) refl
      where
        never : (c : Bool) → false ≡ not (not c || true)
        never true = refl
        never false = refl

        twice : (c : Bool) → c ≡ not (not c || false)
        twice true = refl
        twice false = refl

        go : (c : Bool) → is_among forgets (unit_of p.object u) ≡ c → is_held new.ranges u.start u.end ≡ not (not (holds b p.object u) || c)
        go true e = taken u k (among_has forgets (unit_of p.object u) e) ∙ never (holds b p.object u)
        go false e =
            left u k (not_among forgets (unit_of p.object u) e)
            ∙ ap (λ (rs : List Bounds). is_held rs u.start u.end) (put_ranges before p.object)
            ∙ twice (holds b p.object u)

    abbrev as_they_are : Bool
    as_they_are = are_marks (marks_of before) (marks clock p.closure)

    abbrev gone : Bool
    gone = is_among forgets (Marks p.object)

    abbrev full_due : Bool → Bool → List Forget
    full_due c d = cond (c && not d) [] (Marks p.object ∷ [])

    marks_left : gone ≡ false → new.marks ≡ marks_of before
    marks_left e = less.marks (not_among forgets (Marks p.object) e) ∙ put_marks before p.object

    -- a table that isn't due has its marks
    full_recorded : (c d : Bool) → as_they_are ≡ c → gone ≡ d → is_any (full_due c d) ≡ false → new.marks ≡ Some (marks clock p.closure)
    full_recorded true false e f h = marks_left f ∙ recorded_are (marks_of before) (marks clock p.closure) e
    full_recorded true true e f h = absurd (let clash : true ≡ false = h in cc)
    full_recorded false d e f h = absurd (let clash : true ≡ false = h in cc)

    -- one that is due hasn't
    full_open : (c d : Bool) → as_they_are ≡ c → gone ≡ d → is_any (full_due c d) ≡ true → new.marks ≡ Some (marks clock p.closure) → ⊥
    full_open true false e f h at = let clash : false ≡ true = h in cc
    full_open c true e f h at = let clash : None ≡ Some (marks clock p.closure) = sym (less.no_marks (among_has forgets (Marks p.object) f)) ∙ at in cc
    full_open false false e f h at =
        let recorded : marks_of before ≡ Some (marks clock p.closure) = sym (marks_left f) ∙ at in
        let clash : true ≡ false = sym (marks_itself (marks clock p.closure)) ∙ ap (λ (o : Option (List ℤ)). are_marks o (marks clock p.closure)) (sym recorded) ∙ e in
        cc

    -- of a view or a seed nothing is forgotten
    stays : (kind : Kind) → p.node.own.kind ≡ kind → (kind ≡ Full → ⊥) → gone ≡ false
    stays kind is other = go gone refl
      where
        go : (c : Bool) → gone ≡ c → c ≡ false
        go false e = refl
        go true e = absurd (other (sym is ∙ full_of (among_has forgets (Marks p.object) e)))

    marked : gone ≡ false → is_some new.marks ≡ not (is_any (cond (is_marked b p.object) [] (Marks p.object ∷ [])))
    marked e = ap is_some (marks_left e) ∙ go (is_marked b p.object)
      where
        go : (c : Bool) → c ≡ not (is_any (cond c [] (Marks p.object ∷ [])))
        go true = refl
        go false = refl

    the_rest : (kind : Kind) → p.node.own.kind ≡ kind → HasTheRest clock b forgets new p kind
    the_rest (Incremental time lookback) is = λ u k. units u (Has_from (schedule clock p.closure) u k)
    the_rest Full is =
        let dues : due clock b forgets p ≡ full_due as_they_are gone = ap (due_of clock b forgets p) is in (
          λ h. full_recorded as_they_are gone refl refl (ap is_any (sym dues) ∙ h),
          λ h. full_open as_they_are gone refl refl (ap is_any (sym dues) ∙ h),
        )
    the_rest View is =
        let dues : due clock b forgets p ≡ cond (is_marked b p.object) [] (Marks p.object ∷ []) = ap (due_of clock b forgets p) is in
        marked (stays View is (λ e. cc)) ∙ ap (λ (ps : List Forget). not (is_any ps)) (sym dues)
    the_rest Seed is =
        let dues : due clock b forgets p ≡ cond (is_marked b p.object) [] (Marks p.object ∷ []) = ap (due_of clock b forgets p) is in
        marked (stays Seed is (λ e. cc)) ∙ ap (λ (ps : List Forget). not (is_any ps)) (sym dues)

  -- so is it of a book where the model is put, and the parts are forgotten
  pub opened : (after : Book) → version_of after p.object ≡ Some (put_version before p.object) → is_apart (put_version before p.object).ranges ≡ true → IsOpened clock b forgets (forget_units after forgets) p
  opened after known old_apart =
      let (new, at, less) = list_left p.object forgets after (put_version before p.object) known old_apart in
      record { version = new; known = at; made = less.made ∙ put_made before p.object; rest = the_rest new less old_apart p.node.own.kind refl }
