-- Ticks, horizons, schedules and marks only grow with the moment.
use Rattle.std.proofs.Common.{◌≡◌, ℕ, zero, suc, ◌+◌, ◌<◌, ℤ, pos, negsuc, ◌*ℤ◌, ◌≤ℤ◌, Bool, true, false, cond, List, [], ◌∷◌, ◌++◌, map, Some, refl, sym, subst, arith, IsTrue}
use Rattle.std.proofs.lemmas.Int.{ints, by_lt_z}
use Rattle.std.specs.Int.{int_min}
use Rattle.std.specs.List.{AllZip, Contains, filter, range_with_len}
use Rattle.std.specs.declared.option.Option.{Option}
use Rattle.std.specs.declared.option.Option.TheVariants.{None}
use Rattle.std.specs.declared.cmp.Ordering.{Ordering}
use Rattle.std.specs.declared.cmp.Ordering.TheVariants.{Less, Equal, Greater}
use Rattle.mesh_list.specs.Keyed.{put_by, placed}
use Rattle.mesh_base_values.specs.Crons.{CronSets, is_cron}
use Rattle.mesh_base_values.specs.Names.{name_cmp}
use Rattle.mesh_base.specs.declared.definitions.Own.{Own}
use Rattle.mesh_base_values.specs.declared.times.Bounds.{Bounds}
use Rattle.mesh_base_values.specs.declared.times.Schedule.{Schedule}
use Rattle.mesh_base_values.specs.declared.times.Unit.{Unit as TimeUnit}
use Rattle.mesh_base_values.specs.declared.times.Unit.TheVariants.{Hour, Day}
use Rattle.mesh_time.specs.Ticks.{IsFloor}
use Rattle.mesh_base_values.specs.Kinds.{is_incremental}
use Rattle.mesh_time.specs.Ranges.{unit_at, unit_count}
use Rattle.mesh_time.proofs.Units.{unit_listed}
use Rattle.mesh_spec_model.specs.Closures.{Closure, Closures, Model, Alone, With, own_of, standing, ancestors}
use Rattle.mesh_spec_model.specs.Horizons.{Clock, Shows, HasCrons, floored, last_tick, least_of, horizon_under, with_horizon, horizons_from, horizons_of, horizon, schedule, units_from}
use Rattle.mesh_law_query.proofs.Lists.{Each, Each_left, Each_right, each}
use Rattle.mesh_spec_changes.specs.due.Marks.{Mark, mark_name, is_computed, mark_of, by_name, marked, marks}

floor_grows : (c : CronSets) (t u x y : ℤ) → t ≤ℤ u → IsFloor c t x → IsFloor c u y → x ≤ℤ y
unfolding IsFloor
floor_grows c t u x y le f g = by_lt_z y x (λ l. absurd (g.2 x l (omega (arith, ints, f.1, le)) f.0)) (λ ge. ge)

floored_grows : (unit : TimeUnit) (a b : ℤ) → a ≤ℤ b → floored unit a ≤ℤ floored unit b
floored_grows Hour (pos a) (pos b) le = omega (arith, ints)
floored_grows Hour (pos a) (negsuc b) le = omega (arith, ints)
floored_grows Hour (negsuc a) (pos b) le = omega (arith, ints)
floored_grows Hour (negsuc a) (negsuc b) le = omega (arith, ints)
floored_grows Day (pos a) (pos b) le = omega (arith, ints)
floored_grows Day (pos a) (negsuc b) le = omega (arith, ints)
floored_grows Day (negsuc a) (pos b) le = omega (arith, ints)
floored_grows Day (negsuc a) (negsuc b) le = omega (arith, ints)

-- a model's last tick is no later by the first clock
abbrev pub Earlier : Clock → Clock → Closure → Type 0
Earlier clock later c = last_tick clock (own_of c) ≤ℤ last_tick later (own_of c)

pub earlier : (t u : ℤ) (clock later : Clock) → t ≤ℤ u → Shows clock t → Shows later u → (cs : List Closure) → Each (λ c. IsTrue (is_cron (own_of c).cron)) cs → Each (Earlier clock later) cs
earlier t u clock later le s o [] h = tt
earlier t u clock later le s o (c ∷ cs) h =
    let own : Own = own_of c in
    (floored_grows own.unit (clock own.cron) (later own.cron) (floor_grows own.cron t u (clock own.cron) (later own.cron) le (s own.cron h.0) (o own.cron h.0)), earlier t u clock later le s o cs h.1)

abbrev NoLater : List ℤ → List ℤ → Type 0
NoLater xs ys = AllZip (λ m n. m ≤ℤ n) xs ys

least_grows : (a b : ℤ) (xs ys : List ℤ) → a ≤ℤ b → NoLater xs ys → least_of a xs ≤ℤ least_of b ys
least_grows a b [] [] le z = le
least_grows a b [] (y ∷ ys) le z = absurd z
least_grows a b (x ∷ xs) [] le z = absurd z
least_grows a b (x ∷ xs) (y ∷ ys) le z = least_grows (int_min a x) (int_min b y) xs ys (min_grows a b x y le z.0) z.1
  where
    min_grows : (a b x y : ℤ) → a ≤ℤ b → x ≤ℤ y → int_min a x ≤ℤ int_min b y
    min_grows a b x y p q = grind (arith, ints)

zip_append : (xs ys us vs : List ℤ) → NoLater xs ys → NoLater us vs → NoLater (xs ++ us) (ys ++ vs)
zip_append [] [] us vs p q = q
zip_append [] (y ∷ ys) us vs p q = absurd p
zip_append (x ∷ xs) [] us vs p q = absurd p
zip_append (x ∷ xs) (y ∷ ys) us vs p q = (p.0, zip_append xs ys us vs p.1 q)

module _ (clock later : Clock) where
  under_grows : (own : Own) (hs ks : List ℤ) → last_tick clock own ≤ℤ last_tick later own → NoLater hs ks → horizon_under clock own hs ≤ℤ horizon_under later own ks
  under_grows own hs ks le z = go (is_incremental own.kind)
    where
      go : (b : Bool) → cond b (least_of (last_tick clock own) hs) (last_tick clock own) ≤ℤ cond b (least_of (last_tick later own) ks) (last_tick later own)
      go true = least_grows (last_tick clock own) (last_tick later own) hs ks le z
      go false = le

  with_grows : (own : Own) (hs ks : List ℤ) → last_tick clock own ≤ℤ last_tick later own → NoLater hs ks → NoLater (with_horizon clock own hs) (with_horizon later own ks)
  with_grows own hs ks le z = go (is_incremental own.kind) (under_grows own hs ks le z)
    where
      go : (b : Bool) → horizon_under clock own hs ≤ℤ horizon_under later own ks → NoLater (cond b (horizon_under clock own hs ∷ hs) hs) (cond b (horizon_under later own ks ∷ ks) ks)
      go true first = (first, z)
      go false first = z

  mutual
    from_grows : (c : Closure) → Each (Earlier clock later) (standing c) → NoLater (horizons_from clock c) (horizons_from later c)
    from_grows (Model own parents) h = with_grows own (horizons_of clock parents) (horizons_of later parents) h.0 (of_grows parents h.1)

    of_grows : (cs : Closures) → Each (Earlier clock later) (ancestors cs) → NoLater (horizons_of clock cs) (horizons_of later cs)
    of_grows Alone h = tt
    of_grows (With c cs) h =
        zip_append (horizons_from clock c) (horizons_from later c) (horizons_of clock cs) (horizons_of later cs)
        (from_grows c (Each_left (Earlier clock later) (standing c) (ancestors cs) h)) (of_grows cs (Each_right (Earlier clock later) (standing c) (ancestors cs) h))

  pub horizon_grows : (c : Closure) → Each (Earlier clock later) (standing c) → horizon clock c ≤ℤ horizon later c
  horizon_grows (Model own parents) h = under_grows own (horizons_of clock parents) (horizons_of later parents) h.0 (of_grows parents h.1)

-- a schedule that ends later has the units of the other
listed_at : {X : Type 0} (f : ℕ → X) (a n m : ℕ) (x : X) → ((k : ℕ) → k < n → k < m) → Contains (map f (range_with_len a n)) x → Contains (map f (range_with_len a m)) x
listed_at f a zero m x more (k, l, e) = absurd (omega (arith, l))
listed_at f a (suc n) zero x more k = absurd (let l = more 0 (omega arith) in omega (arith, l))
listed_at f a (suc n) (suc m) x more (zero, l, e) = (0, omega arith, e)
listed_at f a (suc n) (suc m) x more (suc k, l, e) =
    let (i, li, ei) = listed_at f (a + 1) n m x (λ j lj. let g = more (suc j) (omega (arith, lj)) in omega (arith, g)) (k, omega (arith, l), e) in (suc i, omega (arith, li), ei)

from_grown : (start : Option ℤ) (unit : TimeUnit) (a b : ℤ) → a ≤ℤ b → (u : Bounds) → Contains (units_from start unit a) u → Contains (units_from start unit b) u
from_grown None unit a b le u k = absurd (omega (arith, k.1))
from_grown (Some day) unit a b le u k =
    let s : Schedule = record { start = day *ℤ pos 86_400; end = a; unit = unit } in
    let t : Schedule = record { start = day *ℤ pos 86_400; end = b; unit = unit } in
    listed_at (unit_at s) 0 (unit_count s) (unit_count t) u (λ i l. (unit_listed t i).1 (let end_is = (unit_listed s i).0 l in omega (arith, ints, end_is, le))) k

pub schedule_grows : (clock later : Clock) (c : Closure) → Each (Earlier clock later) (standing c) → (u : Bounds) → Contains (schedule clock c) u → Contains (schedule later c) u
schedule_grows clock later c h u k = from_grown (own_of c).start (own_of c).unit (horizon clock c) (horizon later c) (horizon_grows clock later c h) u k

-- marks of the same names, none of them later
abbrev MarkGrows : Mark → Mark → Type 0
MarkGrows m n = (m.name ≡ n.name) × (m.at ≤ℤ n.at)

abbrev MarksGrow : List Mark → List Mark → Type 0
MarksGrow ms ns = AllZip MarkGrows ms ns

placed_grow : (m n : Mark) → MarkGrows m n → (ms ns : List Mark) → MarksGrow ms ns → MarksGrow (placed name_cmp mark_name m ms) (placed name_cmp mark_name n ns)
placed_grow m n g [] [] z = (g, tt)
placed_grow m n g [] (b ∷ bs) z = absurd z
placed_grow m n g (a ∷ as_) [] z = absurd z
placed_grow m n g (a ∷ as_) (b ∷ bs) z =
    go (name_cmp a.name m.name) (name_cmp b.name n.name) (λ i. name_cmp (z.0.0 i) (g.0 i)) (placed_grow m n g as_ bs z.1)
  where
    go : (o p : Ordering) → o ≡ p → MarksGrow (placed name_cmp mark_name m as_) (placed name_cmp mark_name n bs) → MarksGrow (put_by o a m as_ (placed name_cmp mark_name m as_)) (put_by p b n bs (placed name_cmp mark_name n bs))
    go Less Less e more = (z.0, more)
    go Equal Equal e more = (g, z.1)
    go Greater Greater e more = (g, (z.0, z.1))
    go Less Equal e more = absurd (cc)
    go Less Greater e more = absurd (cc)
    go Equal Less e more = absurd (cc)
    go Equal Greater e more = absurd (cc)
    go Greater Less e more = absurd (cc)
    go Greater Equal e more = absurd (cc)

by_name_grow : (ms ns : List Mark) → MarksGrow ms ns → MarksGrow (by_name ms) (by_name ns)
by_name_grow [] [] z = tt
by_name_grow [] (n ∷ ns) z = absurd z
by_name_grow (m ∷ ms) [] z = absurd z
by_name_grow (m ∷ ms) (n ∷ ns) z = placed_grow m n z.0 (by_name ms) (by_name ns) (by_name_grow ms ns z.1)

pub Each_both : {X : Type 0} (P : X → Type 0) (xs ys : List X) → Each P xs → Each P ys → Each P (xs ++ ys)
Each_both P [] ys h k = k
Each_both P (x ∷ xs) ys h k = (h.0, Each_both P xs ys h.1 k)

-- what holds of all that a closure stands on holds of all that each of these stands on
module _ (P : Closure → Type 0) where
  mutual
    standing_each : (c : Closure) → Each P (standing c) → Each (λ d. Each P (standing d)) (standing c)
    standing_each (Model own parents) h = (h, ancestors_each parents h.1)

    ancestors_each : (cs : Closures) → Each P (ancestors cs) → Each (λ d. Each P (standing d)) (ancestors cs)
    ancestors_each Alone h = tt
    ancestors_each (With c cs) h =
        Each_both (λ d. Each P (standing d)) (standing c) (ancestors cs) (standing_each c (Each_left P (standing c) (ancestors cs) h)) (ancestors_each cs (Each_right P (standing c) (ancestors cs) h))

marks_of_grow : (clock later : Clock) (cs : List Closure) → Each (λ d. Each (Earlier clock later) (standing d)) cs
    → MarksGrow (map (mark_of clock) (filter (λ c. is_computed (own_of c).kind) cs)) (map (mark_of later) (filter (λ c. is_computed (own_of c).kind) cs))
marks_of_grow clock later [] h = tt
marks_of_grow clock later (c ∷ cs) h = go (is_computed (own_of c).kind) (marks_of_grow clock later cs h.1)
  where
    go : (b : Bool) → MarksGrow (map (mark_of clock) (filter (λ c. is_computed (own_of c).kind) cs)) (map (mark_of later) (filter (λ c. is_computed (own_of c).kind) cs))
        → MarksGrow (map (mark_of clock) (cond b (c ∷ filter (λ c. is_computed (own_of c).kind) cs) (filter (λ c. is_computed (own_of c).kind) cs)))
        (map (mark_of later) (cond b (c ∷ filter (λ c. is_computed (own_of c).kind) cs) (filter (λ c. is_computed (own_of c).kind) cs)))
    go true more = ((refl, horizon_grows clock later c h.0), more)
    go false more = more

seconds_grow : (ms ns : List Mark) → MarksGrow ms ns → AllZip (λ m n. m ≤ℤ n) (map (λ (m : Mark). m.at) ms) (map (λ (m : Mark). m.at) ns)
seconds_grow [] [] z = tt
seconds_grow [] (n ∷ ns) z = absurd z
seconds_grow (m ∷ ms) [] z = absurd z
seconds_grow (m ∷ ms) (n ∷ ns) z = (z.0.1, seconds_grow ms ns z.1)

pub marks_grow : (clock later : Clock) (c : Closure) → Each (Earlier clock later) (standing c) → AllZip (λ m n. m ≤ℤ n) (marks clock c) (marks later c)
marks_grow clock later (Model own parents) h =
    seconds_grow (by_name (marked clock (Model own parents))) (by_name (marked later (Model own parents)))
    (by_name_grow (marked clock (Model own parents)) (marked later (Model own parents))
    ((refl, horizon_grows clock later (Model own parents) h), marks_of_grow clock later (ancestors parents) (ancestors_each (Earlier clock later) parents h.1)))

through : (xs ys zs : List ℤ) → NoLater xs ys → NoLater ys zs → NoLater xs zs
through [] [] zs p q = q
through [] (y ∷ ys) zs p q = absurd p
through (x ∷ xs) [] zs p q = absurd p
through (x ∷ xs) (y ∷ ys) [] p q = absurd q
through (x ∷ xs) (y ∷ ys) (z ∷ zs) p q = (omega (arith, ints, p.0, q.0), through xs ys zs p.1 q.1)

between : (xs ys : List ℤ) → NoLater xs ys → NoLater ys xs → xs ≡ ys
between [] [] p q = refl
between [] (y ∷ ys) p q = absurd p
between (x ∷ xs) [] p q = absurd p
between (x ∷ xs) (y ∷ ys) p q = let first : x ≡ y = omega (arith, ints, p.0, q.0) in λ i. first i ∷ between xs ys p.1 q.1 i

module _ (t u : ℤ) (clock later : Clock) (le : t ≤ℤ u) (a : Shows clock t) (b : Shows later u) (c : Closure) (crons : HasCrons c) where
  all_earlier : Each (Earlier clock later) (standing c)
  all_earlier = earlier t u clock later le a b (standing c) (each (λ s. IsTrue (is_cron (own_of s).cron)) (standing c) crons)

  pub schedules_grow : (v : Bounds) → Contains (schedule clock c) v → Contains (schedule later c) v
  schedules_grow = schedule_grows clock later c all_earlier

  pub all_marks_grow : AllZip (λ m n. m ≤ℤ n) (marks clock c) (marks later c)
  all_marks_grow = marks_grow clock later c all_earlier

-- what is the same at the end was the same in between
pub marks_stay : (t u v : ℤ) (first second third : Clock) → t ≤ℤ u → u ≤ℤ v → Shows first t → Shows second u → Shows third v → (c : Closure) → HasCrons c →
    marks first c ≡ marks third c → marks first c ≡ marks second c
marks_stay t u v first second third le more a b d c crons same =
    between (marks first c) (marks second c) (all_marks_grow t u first second le a b c crons)
    (subst (NoLater (marks second c)) (sym same) (all_marks_grow u v second third more b d c crons))
