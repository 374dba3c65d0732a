-- An incremental model is filled: its due units are written and recorded one after another.
use Rattle.std.proofs.Common.{◌≡◌, inl, inr, ℕ, suc, ℤ, ◌≤ℤ◌, Bool, true, false, not, ◌||◌, List, [], ◌∷◌, ◌++◌, map, Some, refl, sym, ◌∙◌, ap, subst, arith}
use Rattle.std.specs.List.{AllByRecursion, AllPairs, Contains, flat_map}
use Rattle.std.specs.Option.{option_map}
use Rattle.mesh_base_values.specs.Bag.{IsSameBag}
use Rattle.mesh_base_values.specs.declared.kinds.Kind.{Kind}
use Rattle.mesh_base_values.specs.declared.kinds.Kind.TheVariants.{Incremental}
use Rattle.mesh_base_values.specs.declared.times.Bounds.{Bounds}
use Rattle.mesh_base_values.specs.declared.values.Name.{Name}
use Rattle.mesh_base.specs.declared.definitions.Own.{Own}
use Rattle.mesh_base.specs.declared.forgets.Forget.{Forget}
use Rattle.mesh_base.specs.declared.jobs.Input.{Input}
use Rattle.mesh_time.specs.Ranges.{Has as HasSecond, IsWithin, is_held}
use Rattle.mesh_house_book.specs.declared.book.Book.{Book}
use Rattle.mesh_house_book.specs.declared.versions.Version.{Version}
use Rattle.mesh_spec_model.specs.Closures.{Closure}
use Rattle.mesh_spec_model.specs.Horizons.{Clock, Shows, schedule}
use Rattle.mesh_spec_model.specs.Scratch.{piece, piece_over}
use Rattle.mesh_law_query.proofs.Has.{Has, Has_from, Has_to}
use Rattle.mesh_house.specs.declared.world.Change.{Change}
use Rattle.mesh_house.specs.declared.world.World.{World}
use Rattle.mesh_house.specs.Step.{run}
use Rattle.mesh_house.specs.World.{version_of}
use Rattle.mesh_spec_changes.specs.due.Dues.{due, due_of, due_units, is_due_unit}
use Rattle.mesh_spec_changes.specs.due.Parts.{Parts, is_among, object_of, same_part, unit_of}
use Rattle.mesh_spec_changes.specs.due.Plans.{Planned}
use Rattle.mesh_spec_changes.proofs.due.Ordered.{due_iff, due_in_order}
use Rattle.mesh_spec_changes.specs.Changes.{ascending, fill, fills, parents_in, tables_for, tables_read}
use Rattle.mesh_spec_promise.specs.Current.{IsReadable}
use Rattle.mesh_spec_promise.specs.Histories.{left}
use Rattle.mesh_spec_promise.specs.Sound.{AreUnits, IsTableSound}
use Rattle.mesh_spec_promise.proofs.Filled.{model_filled}
use Rattle.mesh_spec_promise.proofs.Seconds.{scheduled_once}
use Rattle.mesh_law_changes.proofs.Forgetting.{part_unit}
use Rattle.mesh_law_changes.specs.along.Along.{StaysAlong}
use Rattle.mesh_law_changes.specs.along.Ready.{HasTheRest, IsPlaced}
use Rattle.mesh_law_changes.proofs.along.Along.{along_append, left_both}
use Rattle.mesh_law_steps.proofs.fills.Done.{IsAllRecorded, IsThenFilled, left_nothing, then_done}
use Rattle.mesh_law_steps.proofs.fills.Kept.{of_object}
use Rattle.mesh_law_steps.proofs.fills.Making.{IsBegun}
use Rattle.mesh_law_steps.proofs.fills.Twins.{planned_known}
use Rattle.mesh_law_steps.proofs.fills.Unit.{IsSettled, IsUnderWay, unit_changes, unit_filled}

-- units in order: the first ends before each later one begins
abbrev Before : Bounds → Bounds → Type 0
Before u v = u.end ≤ℤ v.start

first_ahead : (d : Bounds) (ds : List Bounds) → AllPairs Before (d ∷ ds) → (e : Bounds) → Has e ds → d.end ≤ℤ e.start
first_ahead d ds order e h = let (i, l, is) = Has_to ds e h in subst (λ (u : Bounds). d.end ≤ℤ u.start) is (order 0 (suc i) e (omega arith) (omega (arith, l)))

others_ahead : (d : Bounds) (ds : List Bounds) → AllPairs Before (d ∷ ds) → AllPairs Before ds
others_ahead d ds order i j e less within = order (suc i) (suc j) e (omega (arith, less)) (omega (arith, within))

-- a unit that stands among the parts of an object is one of the units
among_from : (object : Name) (us : List Bounds) (d : Bounds) → is_among (map (unit_of object) us) (unit_of object d) ≡ true → Has d us
among_from object [] d h = absurd (let clash : false ≡ true = h in cc)
among_from object (u ∷ us) d h = go (same_part (unit_of object d) (unit_of object u)) refl h (among_from object us d)
  where
    go : (c : Bool) → same_part (unit_of object d) (unit_of object u) ≡ c → (c || is_among (map (unit_of object) us) (unit_of object d)) ≡ true → (is_among (map (unit_of object) us) (unit_of object d) ≡ true → Has d us) → Has d (u ∷ us)
    go true is h more = inl (sym (part_unit object object d u is))
    go false is h more = inr (more h)

module _ (clock : Clock) (b : Book) (forgets : List Forget) (all : List Planned) (p : Planned) (before : World) (x : Parts) (w : World) (begun : IsBegun clock b forgets p before x w) (now : Shows clock w.book.moment)
    (placed : IsPlaced all w.book.snapshots p) (covered : (q : Forget) → object_of q ≡ p.object → is_among (due clock b forgets p) q ≡ false → x q ≡ false)
    (readable : AllByRecursion (IsReadable clock x w.book) (parents_in all p)) (time : List ℕ) (lookback : ℕ) (is : p.node.own.kind ≡ Incremental time lookback) where
  abbrev v : Version
  v = begun.version

  abbrev units : List Bounds
  units = due_units clock b forgets p

  rest : (d : Bounds) → Contains (schedule clock p.closure) d → is_held v.ranges d.start d.end ≡ not (is_due_unit b forgets p d)
  rest = subst (HasTheRest clock b forgets v p) is begun.rest

  due_is : due clock b forgets p ≡ map (unit_of p.object) units
  due_is = ap (due_of clock b forgets p) is

  due_listed : (d : Bounds) → Has d units → Contains (schedule clock p.closure) d × (is_due_unit b forgets p d ≡ true)
  due_listed d h = (due_iff clock b forgets p d).0 (Has_to units d h)

  -- what is recorded are units of the schedule
  are_units : AreUnits (schedule clock p.closure) v.ranges
  are_units =
      let s = placed.snapshot in
      let kind : s.own.kind ≡ Incremental time lookback = ap (λ (o : Own). o.kind) placed.own ∙ is in
      let at : version_of w.book s.object ≡ Some v = ap (version_of w.book) placed.object ∙ begun.known in
      let table : IsTableSound clock x w s v (Incremental time lookback) = subst (IsTableSound clock x w s v) kind (begun.sound.tables clock now s (planned_known x w begun.sound all p placed) v at) in
      subst (λ (c : Closure). AreUnits (schedule clock c) v.ranges) placed.closure table.units

  -- no second of a due unit is recorded
  due_free : (d : Bounds) → Has d units → (t : ℤ) → IsWithin d.start d.end t → HasSecond v.ranges t → ⊥
  due_free d h t within has =
      let here = due_listed d h in
      let (e, listed, held, inside) = are_units t has in
      let same : d ≡ e = scheduled_once clock p.closure d e here.0 listed t within inside in
      let clash : true ≡ false = sym held ∙ ap (λ (u : Bounds). is_held v.ranges u.start u.end) (sym same) ∙ rest d here.0 ∙ ap not here.1 in cc

  not_due : (d : Bounds) → is_due_unit b forgets p d ≡ false → is_among (due clock b forgets p) (unit_of p.object d) ≡ false
  not_due d rested = go (is_among (due clock b forgets p) (unit_of p.object d)) refl
    where
      go : (c : Bool) → is_among (due clock b forgets p) (unit_of p.object d) ≡ c → c ≡ false
      go false e = refl
      go true e =
          let one = due_listed d (among_from p.object units d (ap (λ (l : List Forget). is_among l (unit_of p.object d)) (sym due_is) ∙ e)) in
          let clash : true ≡ false = sym one.1 ∙ rested in absurd (cc)

  first_settled : (d : Bounds) → Contains (schedule clock p.closure) d → IsSettled x p v units d
  first_settled d k = go (is_due_unit b forgets p d) refl
    where
      go : (c : Bool) → is_due_unit b forgets p d ≡ c → IsSettled x p v units d
      go true e = inr (Has_from units d ((due_iff clock b forgets p d).1 (k, e)))
      go false e = inl (rest d k ∙ ap not e, covered (unit_of p.object d) refl (not_due d e))

  first : IsUnderWay clock p w units x w
  first = record {
    sound = begun.sound;
    only = of_object p.object w w refl refl;
    version = v;
    known = begun.known;
    made = begun.made;
    free = due_free;
    settled = first_settled;
  }

  module _ (tables : List Input) (there : tables_read w all p ≡ Some tables) (pieces : (u : Bounds) → IsSameBag (ascending (piece_over p.node.own tables u)) (piece w.sources clock p.closure u)) where
    abbrev changes : List Bounds → List Change
    changes us = flat_map (unit_changes p time tables) us

    loop : (us : List Bounds) → ((d : Bounds) → Has d us → Contains (schedule clock p.closure) d) → AllPairs Before us → (z : Parts) (u : World) → IsUnderWay clock p w us z u
        → StaysAlong z u (changes us) × IsUnderWay clock p w [] (left (changes us) z) (run u (changes us))
    loop [] listed order z u way = (way.sound, subst (λ (y : Parts). IsUnderWay clock p w [] y u) (sym (left_nothing z)) way)
    loop (d ∷ ds) listed order z u way =
        let one = unit_filled clock all p w now placed time lookback is tables pieces d (listed d (inl refl)) ds (first_ahead d ds order) z u way in
        let more = loop ds (λ e h. listed e (inr h)) (others_ahead d ds order) (left (unit_changes p time tables d) z) (run u (unit_changes p time tables d)) one.1 in (
          along_append z u (unit_changes p time tables d) (changes ds) one.0 more.0,
          subst (λ (y : Parts). IsUnderWay clock p w [] y (run u (changes (d ∷ ds)))) (sym (left_both (unit_changes p time tables d) (changes ds) z)) more.1,
        )

    flat_same : (us : List Bounds) → flat_map (fill clock p (Incremental time lookback) tables) (map (unit_of p.object) us) ≡ changes us
    flat_same [] = refl
    flat_same (u ∷ us) = ap (λ (l : List Change). unit_changes p time tables u ++ l) (flat_same us)

    fills_are : (us : List Bounds) → fills clock w all p (map (unit_of p.object) us) ≡ Some (changes us)
    fills_are [] = refl
    fills_are (u ∷ us) =
        ap (λ (k : Kind). option_map (λ ts. flat_map (fill clock p k ts) (map (unit_of p.object) (u ∷ us))) (tables_for w all p k)) is
        ∙ ap (option_map (λ (ts : List Input). flat_map (fill clock p (Incremental time lookback) ts) (map (unit_of p.object) (u ∷ us)))) there
        ∙ ap Some (flat_same (u ∷ us))

    units_settled : (z : Parts) (u : World) (way : IsUnderWay clock p w [] z u) → IsAllRecorded clock z p way.version (Incremental time lookback)
    units_settled z u way d k = go (way.settled d k)
      where
        go : IsSettled z p way.version [] d → (is_held way.version.ranges d.start d.end ≡ true) × (z (unit_of p.object d) ≡ false)
        go (inl h) = h
        go (inr h) = absurd h

    all_filled : IsThenFilled clock b forgets all p x w
    all_filled =
        let end = loop units (λ d h. (due_listed d h).0) (due_in_order clock b forgets p) x w first in
        let z : Parts = left (changes units) x in
        let u : World = run w (changes units) in
        record {
          filled = changes units;
          fills_it = ap (fills clock w all p) due_is ∙ fills_are units;
          along = end.0;
          done = then_done clock all p z w u placed end.1.only end.1.version end.1.known end.1.made (subst (IsAllRecorded clock z p end.1.version) (sym is) (units_settled z u end.1));
          only = end.1.only;
        }

  -- an incremental model
  pub incremental_filled : IsThenFilled clock b forgets all p x w
  incremental_filled =
      let read = model_filled x w clock begun.sound now all p placed.snapshot (planned_known x w begun.sound all p placed) placed.own placed.parents readable in
      all_filled read.0 read.1 (λ u. subst (λ (c : Closure). IsSameBag (ascending (piece_over p.node.own read.0 u)) (piece w.sources clock c u)) placed.closure (read.2 u))
