-- What is due of a plan stands in its order, each part once, and fits its models.
use Rattle.std.proofs.Common.{◌≡◌, ℕ, zero, suc, ◌+◌, ◌<◌, ◌≤◌, ℤ, pos, negsuc, ◌*◌, ◌+ℤ◌, ◌*ℤ◌, ◌<ℤ◌, ◌≤ℤ◌, Bool, true, false, cond, not, List, [], ◌∷◌, ◌++◌, map, Some, None, refl, sym, ◌∙◌, ap, arith, subst}
use Rattle.std.specs.Prelude.{◌&&◌}
use Rattle.std.specs.List.{All, AllByRecursion, filter, list_all, range_with_len, slice_get}
use Rattle.std.specs.Int.Signed.{le_z, lt_z}
use Rattle.std.specs.Option.{option_map}
use Rattle.std.specs.Ordering.{MatchOrdering, int_cmp, is_lt, nat_cmp, ordering_then}
use Rattle.std.specs.declared.cmp.Ordering.{Ordering}
use Rattle.std.specs.declared.cmp.Ordering.TheVariants.{Less, Equal, Greater}
use Rattle.std.specs.declared.option.Option.{Option}
use Rattle.std.proofs.lemmas.Cmp.{int_ranked, ranked}
use Rattle.std.proofs.lemmas.Int.{ints}
use Rattle.std.proofs.lemmas.List.Elements.{All-head, All-tail}
use Rattle.std.proofs.lemmas.Bool.{and_from as both_true}
use Rattle.mesh_list.specs.Keyed.{ascends, below_first}
use Rattle.mesh_base_values.specs.Kinds.{is_incremental}
use Rattle.mesh_base_values.specs.declared.kinds.Kind.{Kind}
use Rattle.mesh_base_values.specs.declared.kinds.Kind.TheVariants.{Full, View, Seed, Incremental}
use Rattle.mesh_base_values.specs.declared.times.Bounds.{Bounds}
use Rattle.mesh_base_values.specs.declared.times.Schedule.{Schedule}
use Rattle.mesh_base_values.specs.declared.times.Unit.{Unit as TimeUnit}
use Rattle.mesh_base_values.specs.declared.times.Unit.TheVariants.{Hour, Day}
use Rattle.mesh_base_values.proofs.Tests.{lt_true, le_true}
use Rattle.mesh_time_days.specs.Moments.{IsMoment}
use Rattle.mesh_time.specs.Ranges.{unit_size, unit_at, unit_count}
use Rattle.mesh_base.specs.declared.forgets.Forget.{Forget}
use Rattle.mesh_base.specs.declared.forgets.Forget.TheVariants.{Marks}
use Rattle.mesh_base.specs.declared.plans.Due.{Due}
use Rattle.mesh_base.specs.declared.plans.Due.TheVariants.{Unit as OfUnit}
use Rattle.mesh_base.specs.declared.plans.Entry.{Entry}
use Rattle.mesh_base.specs.declared.snapshots.Node.{Node}
use Rattle.mesh_house_book.specs.declared.book.Book.{Book}
use Rattle.mesh_spec_model.specs.Closures.{Closure, closures, own_of}
use Rattle.mesh_spec_model.specs.Horizons.{Clock, HasCrons, Shows, horizon, schedule, units_from}
use Rattle.mesh_spec_model.proofs.Listed.{one_each}
use Rattle.mesh_house.specs.World.{version_of}
use Rattle.mesh_spec_changes.specs.due.Dues.{due_at, due_of, dues, dues_from, is_due_unit}
use Rattle.mesh_spec_changes.specs.due.Marks.{marks}
use Rattle.mesh_spec_changes.specs.due.Parts.{is_among, unit_of}
use Rattle.mesh_spec_changes.specs.due.Plans.{Planned, are_marks, is_marked, marks_of, planned, planned_by}
use Rattle.mesh_plan_due.specs.Long.{first_too_long, is_too_long}
use Rattle.mesh_exec_works.specs.Executable.{due_cmp, due_itself, is_due_in, is_due_of, is_in_days, place_of, start_of}
use Rattle.mesh_exec.proofs.plans.InDays.{IsInDays, schedule_in_days}

first_lower : (x y : ℕ) (o : Ordering) → x < y → is_lt (ordering_then (nat_cmp x y) o) ≡ true
first_lower x y o h = at (nat_cmp x y) (ranked x y (nat_cmp x y) refl)
  where
    at : (r : Ordering) → MatchOrdering r (x < y) (x ≡ y) (y < x) → is_lt (ordering_then r o) ≡ true
    at Less m = refl
    at Equal m = absurd (omega (arith, m, h))
    at Greater m = absurd (omega (arith, m, h))

then_lower : (x : ℕ) (s e : ℤ) → s <ℤ e → is_lt (ordering_then (nat_cmp x x) (int_cmp s e)) ≡ true
then_lower x s e h = at (nat_cmp x x) (ranked x x (nat_cmp x x) refl)
  where
    of : (r : Ordering) → MatchOrdering r (s <ℤ e) (s ≡ e) (e <ℤ s) → is_lt r ≡ true
    of Less m = refl
    of Equal m = absurd (omega (arith, ints, m, h))
    of Greater m = absurd (omega (arith, ints, m, h))

    at : (r : Ordering) → MatchOrdering r (x < x) (x ≡ x) (x < x) → is_lt (ordering_then r (int_cmp s e)) ≡ true
    at Less m = refl
    at Equal m = of (int_cmp s e) (int_ranked s e (int_cmp s e) refl)
    at Greater m = absurd (omega (arith, m))

-- each unit ends before those behind it begin
abbrev Rising : List Bounds → Type 0
Rising [] = Unit {0}
Rising (u ∷ us) = AllByRecursion (λ (v : Bounds). u.end ≤ℤ v.start) us × Rising us

module _ (s : Schedule) where
  later : (i a n : ℕ) → i < a → AllByRecursion (λ (v : Bounds). (unit_at s i).end ≤ℤ v.start) (map (unit_at s) (range_with_len a n))
  later i a zero h = tt
  later i a (suc n) h = (on s.unit, later i (a + 1) n (omega (arith, h)))
    where
      on : (unit : TimeUnit) → (s.start +ℤ pos ((i + 1) * unit_size unit)) ≤ℤ (s.start +ℤ pos (a * unit_size unit))
      on Hour = omega (arith, ints, h)
      on Day = omega (arith, ints, h)

  rising_from : (a n : ℕ) → Rising (map (unit_at s) (range_with_len a n))
  rising_from a zero = tt
  rising_from a (suc n) = (later a (a + 1) n (omega arith), rising_from (a + 1) n)

units_rise : (start : Option ℤ) (unit : TimeUnit) (last : ℤ) → Rising (units_from start unit last)
units_rise None unit last = tt
units_rise (Some day) unit last =
    let s : Schedule = record { start = day *ℤ pos 86_400; end = last; unit = unit } in
    rising_from s 0 (unit_count s)

module _ (test : Bounds → Bool) where
  kept : (P : Bounds → Type 0) (us : List Bounds) → AllByRecursion P us → AllByRecursion P (filter test us)
  kept P [] h = tt
  kept P (u ∷ us) h = at (test u) (kept P us h.1)
    where
      at : (b : Bool) → AllByRecursion P (filter test us) → AllByRecursion P (cond b (u ∷ filter test us) (filter test us))
      at true k = (h.0, k)
      at false k = k

  kept_rising : (us : List Bounds) → Rising us → Rising (filter test us)
  kept_rising [] h = tt
  kept_rising (u ∷ us) h = at (test u) (kept_rising us h.1)
    where
      at : (b : Bool) → Rising (filter test us) → Rising (cond b (u ∷ filter test us) (filter test us))
      at true k = (kept (λ (v : Bounds). u.end ≤ℤ v.start) us h.0, k)
      at false k = k

-- the due parts of the model at a place, in order, fit this model
abbrev OfModel : ℕ → Node → List Due → Type 0
OfModel place n ds = AllByRecursion (λ d. (place_of d ≡ place) × (is_due_of (Some n) d ≡ true)) ds × (ascends due_cmp due_itself ds ≡ true)

module _ (place : ℕ) (n : Node) (timed : is_incremental n.own.kind ≡ true) where
  unit_due : Bounds → Due
  unit_due u = OfUnit place u.start u.end

  fits : (u : Bounds) → IsInDays u → is_due_of (Some n) (OfUnit place u.start u.end) ≡ true
  fits u h =
      let start_high : u.start ≤ℤ pos 253_402_300_799 = let s = h.some_ in let e = h.high in omega (arith, ints, s, e) in
      let end_low : negsuc 62_135_596_799 ≤ℤ u.end = let s = h.some_ in let e = h.low in omega (arith, ints, s, e) in
      let starts = both_true (le_z (negsuc 62_135_596_799) u.start) (le_z u.start (pos 253_402_300_799)) (le_true (negsuc 62_135_596_799) u.start h.low) (le_true u.start (pos 253_402_300_799) start_high) in
      let ends = both_true (le_z (negsuc 62_135_596_799) u.end) (le_z u.end (pos 253_402_300_799)) (le_true (negsuc 62_135_596_799) u.end end_low) (le_true u.end (pos 253_402_300_799) h.high) in
      both_true (is_incremental n.own.kind) (lt_z u.start u.end && (is_in_days u.start && is_in_days u.end)) timed
      (both_true (lt_z u.start u.end) (is_in_days u.start && is_in_days u.end) (lt_true u.start u.end h.some_)
      (both_true (is_in_days u.start) (is_in_days u.end) starts ends))

  module _ (u : Bounds) (h : IsInDays u) where
    below_next : (us : List Bounds) → AllByRecursion (λ (v : Bounds). u.end ≤ℤ v.start) us → below_first due_cmp due_itself (OfUnit place u.start u.end) (map (λ (v : Bounds). OfUnit place v.start v.end) us) ≡ true
    below_next [] k = refl
    below_next (v ∷ vs) k = then_lower place u.start v.start (let s = h.some_ in omega (arith, ints, s, k.0))

  of_units : (us : List Bounds) → AllByRecursion IsInDays us → Rising us → OfModel place n (map (λ (v : Bounds). OfUnit place v.start v.end) us)
  of_units [] h r = (tt, refl)
  of_units (u ∷ us) h r =
      let rest = of_units us h.1 r.1 in
      (((refl, fits u h.0), rest.0), both_true _ _ (below_next u h.0 us r.0) rest.1)

module _ (clock : Clock) (b : Book) (forgets : List Forget) (place : ℕ) (p : Planned) where
  as_units : (us : List Bounds) → map (due_at clock place p) (map (unit_of p.object) us) ≡ map (λ (v : Bounds). OfUnit place v.start v.end) us
  as_units [] = refl
  as_units (u ∷ us) = ap (λ l. OfUnit place u.start u.end ∷ l) (as_units us)

  of_whole : (n : Node) → is_incremental n.own.kind ≡ false → (c : Bool) → OfModel place n (map (due_at clock place p) (cond c [] (Marks p.object ∷ [])))
  of_whole n untimed true = (tt, refl)
  of_whole n untimed false = (((refl, ap not untimed), tt), refl)

  of_model : own_of p.closure ≡ p.node.own → AllByRecursion IsInDays (schedule clock p.closure) → OfModel place p.node (map (due_at clock place p) (due_of clock b forgets p p.node.own.kind))
  of_model own days = at p.node.own.kind refl
    where
      at : (k : Kind) → p.node.own.kind ≡ k → OfModel place p.node (map (due_at clock place p) (due_of clock b forgets p k))
      at (Incremental time lookback) e =
          let us = filter (is_due_unit b forgets p) (schedule clock p.closure) in
          subst (OfModel place p.node) (sym (as_units us))
          (of_units place p.node (ap is_incremental e) us (kept (is_due_unit b forgets p) IsInDays (schedule clock p.closure) days)
          (kept_rising (is_due_unit b forgets p) (schedule clock p.closure) (units_rise (own_of p.closure).start (own_of p.closure).unit (horizon clock p.closure))))
      at Full e = of_whole p.node (ap is_incremental e) (are_marks (marks_of (version_of b p.object)) (marks clock p.closure) && not (is_among forgets (Marks p.object)))
      at View e = of_whole p.node (ap is_incremental e) (is_marked b p.object)
      at Seed e = of_whole p.node (ap is_incremental e) (is_marked b p.object)

-- due parts of models from a place on, in order, fit the models of a project
abbrev Of : List Node → ℕ → List Due → Type 0
Of nodes place ds = AllByRecursion (λ d. (place ≤ place_of d) × (is_due_in nodes d ≡ true)) ds × (ascends due_cmp due_itself ds ≡ true)

module _ (nodes : List Node) (place : ℕ) (n : Node) (here : slice_get nodes place ≡ Some n) where
  below_rest : (d : Due) → place_of d ≡ place → (ys : List Due) → AllByRecursion (λ e. (place + 1 ≤ place_of e) × (is_due_in nodes e ≡ true)) ys → below_first due_cmp due_itself d ys ≡ true
  below_rest d e [] h = refl
  below_rest d e (y ∷ ys) h = first_lower (place_of d) (place_of y) (int_cmp (start_of d) (start_of y)) (omega (arith, e, h.0.0))

  lower : (ys : List Due) → AllByRecursion (λ e. (place + 1 ≤ place_of e) × (is_due_in nodes e ≡ true)) ys → AllByRecursion (λ e. (place ≤ place_of e) × (is_due_in nodes e ≡ true)) ys
  lower [] h = tt
  lower (y ∷ ys) h = ((omega (arith, h.0.0), h.0.1), lower ys h.1)

  first_of_both : (a c : Bool) → (a && c) ≡ true → (a ≡ true) × (c ≡ true)
  first_of_both true c h = (refl, h)
  first_of_both false c h = absurd (cc)

  below_both : (x : Due) (xs ys : List Due) → place_of x ≡ place → below_first due_cmp due_itself x xs ≡ true → AllByRecursion (λ e. (place + 1 ≤ place_of e) × (is_due_in nodes e ≡ true)) ys
      → below_first due_cmp due_itself x (xs ++ ys) ≡ true
  below_both x [] ys e h k = below_rest x e ys k
  below_both x (y ∷ xs) ys e h k = h

  and_rest : (xs ys : List Due) → OfModel place n xs → Of nodes (place + 1) ys → Of nodes place (xs ++ ys)
  and_rest [] ys h k = (lower ys k.0, k.1)
  and_rest (x ∷ xs) ys h k =
      let parts = first_of_both (below_first due_cmp due_itself x xs) (ascends due_cmp due_itself xs) h.1 in
      let rest = and_rest xs ys (h.0.1, parts.1) k in
      let at : place_of x ≡ place = h.0.0.0 in
      let fit : is_due_in nodes x ≡ true = ap (λ (o : Option Node). is_due_of o x) (ap (slice_get nodes) at ∙ here) ∙ h.0.0.1 in
      (((omega (arith, at), fit), rest.0), both_true _ _ (below_both x xs ys at parts.0 k.0) rest.1)

-- the closure of each model: it is the model's, and its units lie in the days
abbrev Each : Clock → List Node → List Closure → Type 0
Each clock [] cs = Unit {0}
Each clock (n ∷ ns) [] = Unit {0}
Each clock (n ∷ ns) (c ∷ cs) = (own_of c ≡ n.own) × (AllByRecursion IsInDays (schedule clock c) × Each clock ns cs)

module _ (t : ℤ) (is : IsMoment t) (clock : Clock) (shows : Shows clock t) where
  each : (ns : List Node) (cs : List Closure) → map own_of cs ≡ map (λ (n : Node). n.own) ns → All HasCrons cs → first_too_long clock cs ≡ None → Each clock ns cs
  each [] cs owns crons short = tt
  each (n ∷ ns) [] owns crons short = tt
  each (n ∷ ns) (c ∷ cs) owns crons short =
      let own : own_of c ≡ n.own = cc in
      let rest : map own_of cs ≡ map (λ (x : Node). x.own) ns = cc in
      let fits = one (is_too_long clock c) short in
      (own, (schedule_in_days t is clock shows c (All-head HasCrons c cs crons) fits.0, each ns cs rest (All-tail HasCrons c cs crons) fits.1))
    where
      unmapped : (o : Option ℕ) → option_map suc o ≡ None → o ≡ None
      unmapped None f = refl
      unmapped (Some k) f = absurd (cc)

      one : (b : Bool) → cond b (Some 0) (option_map suc (first_too_long clock cs)) ≡ None → (b ≡ false) × (first_too_long clock cs ≡ None)
      one true e = absurd (cc)
      one false e = (refl, unmapped (first_too_long clock cs) e)

module _ (clock : Clock) (b : Book) (forgets : List Forget) (nodes : List Node) where
  of_all : (place : ℕ) (ns : List Node) (cs : List Closure) (es : List Entry) → ((k : ℕ) → slice_get nodes (place + k) ≡ slice_get ns k) → Each clock ns cs → Of nodes place (dues_from place clock b forgets (planned_by ns cs es))
  of_all place [] cs es there h = (tt, refl)
  of_all place (n ∷ ns) [] es there h = (tt, refl)
  of_all place (n ∷ ns) (c ∷ cs) [] there h = (tt, refl)
  of_all place (n ∷ ns) (c ∷ cs) (e ∷ es) there h =
      let p : Planned = record { node = n; closure = c; object = e.object } in
      let here : slice_get nodes place ≡ Some n = let z : place ≡ place + 0 = omega arith in ap (slice_get nodes) z ∙ there 0 in
      and_rest nodes place n here (map (due_at clock place p) (due_of clock b forgets p n.own.kind)) (dues_from (place + 1) clock b forgets (planned_by ns cs es))
      (of_model clock b forgets place p h.0 h.1.0)
      (of_all (place + 1) ns cs es (λ k. let z : place + 1 + k ≡ place + suc k = omega arith in ap (slice_get nodes) z ∙ there (suc k)) h.1.1)

each_fits : (nodes : List Node) (place : ℕ) (ds : List Due) → AllByRecursion (λ d. (place ≤ place_of d) × (is_due_in nodes d ≡ true)) ds → list_all (is_due_in nodes) ds ≡ true
each_fits nodes place [] h = refl
each_fits nodes place (d ∷ ds) h = both_true (is_due_in nodes d) (list_all (is_due_in nodes) ds) h.0.1 (each_fits nodes place ds h.1)

-- the dues of a proper project none of whose schedules is too long
pub dues_fit : (t : ℤ) → IsMoment t → (clock : Clock) → Shows clock t → (nodes : List Node) → All HasCrons (closures nodes) → first_too_long clock (closures nodes) ≡ None
    → (b : Book) (forgets : List Forget) (es : List Entry) → (ascends due_cmp due_itself (dues clock b forgets (planned nodes es)) ≡ true) × (list_all (is_due_in nodes) (dues clock b forgets (planned nodes es)) ≡ true)
dues_fit t is clock shows nodes crons short b forgets es =
    let all = of_all clock b forgets nodes 0 nodes (closures nodes) es (λ k. let z : 0 + k ≡ k = omega arith in ap (slice_get nodes) z) (each t is clock shows nodes (closures nodes) (one_each nodes) crons short) in
    (all.1, each_fits nodes 0 (dues clock b forgets (planned nodes es)) all.0)
