-- The rows of a run, cut to its due parts, are the rows of these.
use Rattle.std.proofs.Common.{◌≡◌, ℕ, ℤ, pos, negsuc, ◌<ℤ◌, ◌≤ℤ◌, Bool, true, false, cond, not, ◌&&◌, List, [], ◌∷◌, ◌++◌, map, Some, refl, sym, ap, ◌∙◌, arith, rules}
use Rattle.std.specs.Int.Signed.{le_z, lt_z}
use Rattle.std.specs.List.{filter, list_all}
use Rattle.std.specs.Ordering.{int_eq}
use Rattle.std.specs.declared.option.Option.{Option}
use Rattle.jiff_core.proofs.SignedLemmas.{signed_arith}
use Rattle.mesh_base_values.specs.Kinds.{is_incremental, time_column}
use Rattle.mesh_base_values.specs.declared.kinds.Kind.{Kind}
use Rattle.mesh_base_values.specs.declared.kinds.Kind.TheVariants.{Full, View, Seed as SeedKind, Incremental}
use Rattle.mesh_base_values.specs.declared.times.Bounds.{Bounds}
use Rattle.mesh_base_values.specs.declared.values.Cell.{Cell}
use Rattle.mesh_base_values.proofs.Tests.{lt_says as below, le_says as upto, both_parts as is_both}
use Rattle.mesh_base.specs.Outputs.{columns_of}
use Rattle.mesh_base.specs.declared.definitions.Own.{Own}
use Rattle.mesh_base.specs.declared.jobs.Input.{Input}
use Rattle.mesh_base.specs.declared.plans.Due.{Due}
use Rattle.mesh_base.specs.declared.plans.Due.TheVariants.{Whole, Unit as OfUnit}
use Rattle.mesh_base.specs.declared.plans.Entry.{Entry}
use Rattle.mesh_base.specs.declared.snapshots.Node.{Node}
use Rattle.mesh_time_days.specs.seconds.Times.{is_within}
use Rattle.mesh_spec_model.specs.Scratch.{defn_rows, is_of_unit, lies_by, piece_over}
use Rattle.mesh_spec_changes.specs.due.Plans.{Planned}
use Rattle.mesh_spec_changes.specs.Changes.{ascending}
use Rattle.mesh_lineage.specs.Joinable.{is_joinable, is_joinable_as}
use Rattle.mesh_exec_wave.proofs.wave.Ascending.{cut_ascending}
use Rattle.mesh_exec.specs.units.Units.{IsInDays, IsUnit}
use Rattle.mesh_exec.proofs.units.Cuts.{sorted_rows}
use Rattle.mesh_exec_works.specs.Cuts.{cut_fills, rows_in, run_fills, second_in, seconds_by, seconds_of}
use Rattle.mesh_exec_works.specs.Executable.{is_due_of, is_in_days}
use Rattle.mesh_exec_works.specs.Written.{written}
use Rattle.mesh_exec_works.specs.Plain.{model_of}
use Rattle.mesh_exec.specs.Fills.{fillings, span_rows}
use Rattle.mesh_exec.specs.Runs.{begins_at, end_of, goes_all_on, goes_on, is_run, last_end}

abbrev Rows : Type 0
Rows = List (List Cell)

-- rows that are picked by their seconds
pub rows_by_seconds : (u : Bounds) (second : List Cell → Option ℤ) (rows : Rows) → rows_in u rows (map second rows) ≡ filter (λ row. is_within u (second row)) rows
rows_by_seconds u second [] = refl
rows_by_seconds u second (row ∷ rows) = ap (λ (l : Rows). cond (is_within u (second row)) (row ∷ l) l) (rows_by_seconds u second rows)

of_unit : (own : Own) (u : Bounds) (rows : Rows) → is_incremental own.kind ≡ true → rows_in u rows (seconds_of own rows) ≡ filter (is_of_unit own u) rows
of_unit own u rows is = go own.kind is
  where
    go : (k : Kind) → is_incremental k ≡ true → rows_in u rows (seconds_by (time_column k) (columns_of own) rows) ≡ filter (λ row. lies_by (time_column k) (columns_of own) u row) rows
    go (Incremental time lookback) h = rows_by_seconds u (second_in (columns_of own) time) rows
    go Full h = absurd (cc)
    go View h = absurd (cc)
    go SeedKind h = absurd (cc)

-- rows that were picked once are all picked again
picked_twice : (p : List Cell → Bool) (rows : Rows) → filter p (filter p rows) ≡ filter p rows
picked_twice p [] = refl
picked_twice p (row ∷ rows) = go (p row) refl (picked_twice p rows)
  where
    go : (b : Bool) → p row ≡ b → filter p (filter p rows) ≡ filter p rows → filter p (cond b (row ∷ filter p rows) (filter p rows)) ≡ cond b (row ∷ filter p rows) (filter p rows)
    go true is rest = ap (λ (c : Bool). cond c (row ∷ filter p (filter p rows)) (filter p (filter p rows))) is ∙ ap (λ (l : Rows). row ∷ l) rest
    go false is rest = rest

same_end : (a b : ℤ) → int_eq a b ≡ true → a ≡ b
same_end a b h = search rules

in_days : (t : ℤ) → is_in_days t ≡ true → IsInDays t
in_days t h = let b = is_both (le_z (negsuc 62_135_596_799) t) (le_z t (pos 253_402_300_799)) h in (upto (negsuc 62_135_596_799) t b.0, upto t (pos 253_402_300_799) b.1)

abbrev bounds : ℤ → ℤ → Bounds
bounds start end = record { start = start; end = end }

-- what follows from the order of numbers
at_least : (x : ℤ) → x ≤ℤ x
at_least x = omega (arith, signed_arith)

over : (x y z : ℤ) → x ≤ℤ y → y ≤ℤ z → x ≤ℤ z
over x y z a b = omega (arith, signed_arith, a, b)

over_less : (x y z : ℤ) → x ≤ℤ y → y <ℤ z → x ≤ℤ z
over_less x y z a b = omega (arith, signed_arith, a, b)

less_over : (x y z : ℤ) → x <ℤ y → y ≤ℤ z → x <ℤ z
less_over x y z a b = omega (arith, signed_arith, a, b)

same_le : (x y z : ℤ) → y ≡ z → x ≤ℤ z → x ≤ℤ y
same_le x y z e a = omega (arith, signed_arith, e, a)

-- a unit that fits a model
record IsUnitOf (n : Node) (start end : ℤ) : Type 0 where
  incremental : is_incremental n.own.kind ≡ true
  unit : IsUnit (bounds start end)

-- the end of a run isn't before an end, and lies in the days of the calendar
record Ends (end : ℤ) (ds : List Due) : Type 0 where
  later : end ≤ℤ last_end end ds
  here : IsInDays end → IsInDays (last_end end ds)

gap : (joins : Bool) → (joins && false) ≡ true → ⊥
gap joins h = let f : false ≡ true = (is_both joins false h).1 in cc

module _ (n : Node) (e : Entry) (ts : List Input) where
  abbrev p : Planned
  p = model_of n e

  abbrev Fits : List Due → Type 0
  Fits ds = list_all (is_due_of (Some n)) ds ≡ true

  the_unit : (place : ℕ) (start end : ℤ) → is_due_of (Some n) (OfUnit place start end) ≡ true → IsUnitOf n start end
  the_unit place start end h =
      let a = is_both (is_incremental n.own.kind) (lt_z start end && (is_in_days start && is_in_days end)) h in
      let b = is_both (lt_z start end) (is_in_days start && is_in_days end) a.1 in
      let c = is_both (is_in_days start) (is_in_days end) b.1 in
      record { incremental = a.0; unit = (below start end b.0, in_days start c.0, in_days end c.1) }

  no_whole : (place : ℕ) (marks : List ℤ) → is_due_of (Some n) (Whole place marks) ≡ true → is_incremental n.own.kind ≡ true → ⊥
  no_whole place marks h is = let f : not (is_incremental n.own.kind) ≡ true = h in let g : not true ≡ true = ap not (sym is) ∙ f in cc

  ends : (joins : Bool) (end : ℤ) (ds : List Due) → goes_all_on joins (Some end) ds ≡ true → Fits ds → Ends end ds
  ends joins end [] on fit = record { later = at_least end; here = λ h. h }
  ends joins end (Whole place marks ∷ ds) on fit = absurd (gap joins (is_both (goes_on joins (Some end) (Whole place marks)) (goes_all_on joins (Some (pos 0)) ds) on).0)
  ends joins end (OfUnit place start stop ∷ ds) on fit =
      let a = is_both (goes_on joins (Some end) (OfUnit place start stop)) (goes_all_on joins (Some stop) ds) on in
      let b = is_both joins (int_eq start end) a.0 in
      let f = is_both (is_due_of (Some n) (OfUnit place start stop)) (list_all (is_due_of (Some n)) ds) fit in
      let u = the_unit place start stop f.0 in
      let rest = ends joins stop ds a.1 f.1 in
      let from : end ≤ℤ start = same_le end start end (same_end start end b.1) (at_least end) in
      record { later = over end stop (last_end stop ds) (over_less end start stop from u.unit.0) rest.later; here = λ h. rest.here u.unit.2 }

  -- the rows of a run, cut to one of its units
  module _ (joinable : is_joinable n.own ≡ true) (w : Bounds) (whole : IsUnit w) where
    abbrev rows : Rows
    rows = ascending (piece_over n.own ts w)

    cut_unit : (start end : ℤ) → IsUnitOf n start end → w.start ≤ℤ start → end ≤ℤ w.end → rows_in (bounds start end) rows (seconds_of n.own rows) ≡ ascending (piece_over n.own ts (bounds start end))
    cut_unit start end u low high =
        of_unit n.own (bounds start end) rows u.incremental ∙ sorted_rows n.own ts (bounds start end) w joinable u.unit whole (low, high)

    cut_rest : (joins : Bool) (end : ℤ) (ds : List Due) → goes_all_on joins (Some end) ds ≡ true → Fits ds → w.start ≤ℤ end → last_end end ds ≤ℤ w.end → cut_fills p ds rows (seconds_of n.own rows) ≡ fillings p ts ds
    cut_rest joins end [] on fit low high = refl
    cut_rest joins end (Whole place marks ∷ ds) on fit low high = absurd (gap joins (is_both (goes_on joins (Some end) (Whole place marks)) (goes_all_on joins (Some (pos 0)) ds) on).0)
    cut_rest joins end (OfUnit place start stop ∷ ds) on fit low high =
        let a = is_both (goes_on joins (Some end) (OfUnit place start stop)) (goes_all_on joins (Some stop) ds) on in
        let b = is_both joins (int_eq start end) a.0 in
        let f = is_both (is_due_of (Some n) (OfUnit place start stop)) (list_all (is_due_of (Some n)) ds) fit in
        let u = the_unit place start stop f.0 in
        let from = same_le w.start start end (same_end start end b.1) low in
        let to = over stop (last_end stop ds) w.end (ends joins stop ds a.1 f.1).later high in
        let next = over_less w.start start stop from u.unit.0 in
        λ i. written p n.own.kind (OfUnit place start stop) (cut_unit start stop u from to i) ++ cut_rest joins stop ds a.1 f.1 next high i

  -- a unit by itself
  cut_single : (start end : ℤ) → IsUnitOf n start end → rows_in (bounds start end) (ascending (piece_over n.own ts (bounds start end))) (seconds_of n.own (ascending (piece_over n.own ts (bounds start end)))) ≡ ascending (piece_over n.own ts (bounds start end))
  cut_single start end u =
      of_unit n.own (bounds start end) (ascending (piece_over n.own ts (bounds start end))) u.incremental
      ∙ cut_ascending (is_of_unit n.own (bounds start end)) (piece_over n.own ts (bounds start end))
      ∙ ap ascending (picked_twice (is_of_unit n.own (bounds start end)) (defn_rows n.own.defn ts (bounds start end)))

  joinable_is_incremental : (k : Kind) → is_joinable_as n.own.defn k ≡ true → is_incremental k ≡ true
  joinable_is_incremental (Incremental time lookback) h = refl
  joinable_is_incremental Full h = absurd (let f : false ≡ true = h in cc)
  joinable_is_incremental View h = absurd (let f : false ≡ true = h in cc)
  joinable_is_incremental SeedKind h = absurd (let f : false ≡ true = h in cc)

  cut_first : (d : Due) (ds : List Due) → goes_all_on (is_joinable n.own) (Some (end_of d)) ds ≡ true → Fits (d ∷ ds) → run_fills p (d ∷ ds) (span_rows p ts (d ∷ ds)) ≡ fillings p ts (d ∷ ds)
  cut_first (Whole place marks) [] on fit = refl
  cut_first (Whole place marks) (x ∷ xs) on fit =
      let a = is_both (goes_on (is_joinable n.own) (Some (pos 0)) x) (goes_all_on (is_joinable n.own) (Some (end_of x)) xs) on in
      let b = is_both (is_joinable n.own) (begins_at (pos 0) x) a.0 in
      absurd (no_whole place marks (is_both (is_due_of (Some n) (Whole place marks)) (list_all (is_due_of (Some n)) (x ∷ xs)) fit).0 (joinable_is_incremental n.own.kind b.0))
  cut_first (OfUnit place start end) [] on fit =
      let f = is_both (is_due_of (Some n) (OfUnit place start end)) true fit in
      λ i. written p n.own.kind (OfUnit place start end) (cut_single start end (the_unit place start end f.0) i) ++ []
  cut_first (OfUnit place start end) (x ∷ xs) on fit =
      let a = is_both (goes_on (is_joinable n.own) (Some end) x) (goes_all_on (is_joinable n.own) (Some (end_of x)) xs) on in
      let b = is_both (is_joinable n.own) (begins_at end x) a.0 in
      let f = is_both (is_due_of (Some n) (OfUnit place start end)) (list_all (is_due_of (Some n)) (x ∷ xs)) fit in
      let u = the_unit place start end f.0 in
      let stop : ℤ = last_end end (x ∷ xs) in
      let its = ends (is_joinable n.own) end (x ∷ xs) on f.1 in
      let whole : IsUnit (bounds start stop) = (less_over start end stop u.unit.0 its.later, u.unit.1, its.here u.unit.2) in
      let after = over_less start start end (at_least start) u.unit.0 in
      λ i. written p n.own.kind (OfUnit place start end) (cut_unit b.0 (bounds start stop) whole start end u (at_least start) its.later i) ++ cut_rest b.0 (bounds start stop) whole (is_joinable n.own) end (x ∷ xs) on f.1 after (at_least stop) i

  pub cut_run : (ds : List Due) → is_run (is_joinable n.own) ds ≡ true → Fits ds → run_fills p ds (span_rows p ts ds) ≡ fillings p ts ds
  cut_run [] run fit = absurd (let f : false ≡ true = run in cc)
  cut_run (d ∷ ds) run fit = cut_first d ds run fit
