-- The units of a model, and of the models that it stands on.
use Rattle.std.proofs.Common.{◌≡◌, ℕ, zero, suc, ◌+◌, ◌*◌, ◌<◌, ◌≤◌, ℤ, pos, ◌+ℤ◌, ◌*ℤ◌, ◌<ℤ◌, ◌≤ℤ◌, Bool, true, false, not, ◌&&◌, ◌||◌, cond, inl, inr, List, [], ◌∷◌, ◌++◌, refl, sym, subst, arith}
use Rattle.std.specs.Prelude.{int_lt}
use Rattle.std.specs.Int.{int_div_euclid, int_min}
use Rattle.std.specs.List.{Contains, list_any, range_with_len}
use Rattle.std.specs.declared.option.Option.{Option}
use Rattle.std.specs.declared.option.Option.TheVariants.{None, Some}
use Rattle.std.proofs.lemmas.Int.{by_lt_z, ints}
use Rattle.std.proofs.lemmas.Bool.{or_parts as neither}
use Rattle.jiff_core.proofs.SignedLemmas.{signed_arith, int_div_euclid-parts}
use Rattle.mesh_base_values.specs.Kinds.{is_incremental}
use Rattle.mesh_base_values.specs.declared.times.Bounds.{Bounds}
use Rattle.mesh_base_values.specs.declared.times.Schedule.{Schedule}
use Rattle.mesh_base_values.specs.declared.times.Unit.{Unit as TimeUnit}
use Rattle.mesh_base_values.specs.declared.times.Unit.TheVariants.{Hour, Day}
use Rattle.mesh_base.specs.declared.definitions.Own.{Own}
use Rattle.mesh_time.specs.Ranges.{unit_at, unit_count, units}
use Rattle.mesh_time.proofs.Units.{unit_listed}
use Rattle.mesh_spec_model.specs.Closures.{Closure, Closures, Model, Alone, With, ancestors, each_of, own_of, parents_of, standing}
use Rattle.mesh_spec_model.specs.Horizons.{Clock, floored, horizon, horizon_under, horizons_from, horizons_of, last_tick, least_of, schedule, units_from, with_horizon}
use Rattle.mesh_law_query.proofs.Has.{Has, Has_from, Has_left, Has_right, Has_map_from}
use Rattle.mesh_law_query.proofs.Lists.{Each, Each_left, Each_right}
use Rattle.mesh_spec_changes.specs.steady.Even.{is_daily, is_day, is_even, is_hourly, is_uneven}
use Rattle.mesh_law_steady.specs.Days.{IsOfDay}
use Rattle.mesh_spec_changes.proofs.due.Later.{Each_both}

-- neither is true

-- a unit of a schedule: so many others stand before it
pub record IsUnitOf (start : Option ℤ) (unit : TimeUnit) (last : ℤ) (u : Bounds) : Type 0 where
  pub day : ℤ
  pub begins : start ≡ Some day
  pub place : ℕ
  pub is : u ≡ unit_at (record { start = day *ℤ pos 86_400; end = last; unit = unit }) place
  pub ends : u.end ≤ℤ last

range_at : (a n k : ℕ) → Has k (range_with_len a n) → (a ≤ k) × (k < a + n)
range_at a zero k h = absurd h
range_at a (suc n) k (inl e) = (omega (arith, e), omega (arith, e))
range_at a (suc n) k (inr h) = let p = range_at (a + 1) n k h in (omega (arith, p.0), omega (arith, p.1))

pub unit_of_schedule : (start : Option ℤ) (unit : TimeUnit) (last : ℤ) (u : Bounds) → Contains (units_from start unit last) u → IsUnitOf start unit last u
unit_of_schedule None unit last u h = absurd (Has_from [] u h)
unit_of_schedule (Some day) unit last u h =
    let s : Schedule = record { start = day *ℤ pos 86_400; end = last; unit = unit } in
    let (k, there, e) = Has_map_from (unit_at s) (range_with_len 0 (unit_count s)) u (Has_from (units s) u h) in
    let p = range_at 0 (unit_count s) k there in
    record { day = day; begins = refl; place = k; is = sym e; ends = subst (λ (v : Bounds). v.end ≤ℤ last) e ((unit_listed s k).0 (omega (arith, p.1))) }

-- a unit lies within one day
day_of_unit : (unit : TimeUnit) (day last : ℤ) (k : ℕ) → IsOfDay (unit_at (record { start = day *ℤ pos 86_400; end = last; unit = unit }) k)
day_of_unit Hour day last k =
    let p = int_div_euclid-parts (day *ℤ pos 86_400 +ℤ pos (k * 3600)) 86_400 (omega arith) in
    record { below = omega (arith, signed_arith); ends = omega (arith, signed_arith, p) }
day_of_unit Day day last k =
    let p = int_div_euclid-parts (day *ℤ pos 86_400 +ℤ pos (k * 86400)) 86_400 (omega arith) in
    record { below = omega (arith, signed_arith); ends = omega (arith, signed_arith, p) }

pub of_day : (start : Option ℤ) (unit : TimeUnit) (last : ℤ) (u : Bounds) → Contains (units_from start unit last) u → IsOfDay u
of_day start unit last u h = let i = unit_of_schedule start unit last u h in subst IsOfDay (sym i.is) (day_of_unit unit i.day last i.place)

-- a number of whole days
abbrev pub IsDays : ℤ → Type 0
IsDays t = (n : ℤ) × (t ≡ n *ℤ pos 86_400)

-- Where a unit's end isn't above the end of another schedule, none of that schedule's later units begins before it,
-- if both count alike, or the unit is a day, or the schedule's end is one's.
abbrev pub FitUnits : TimeUnit → TimeUnit → ℤ → Type 0
FitUnits Hour Hour last = Unit {0}
FitUnits Day Hour last = Unit {0}
FitUnits Day Day last = Unit {0}
FitUnits Hour Day last = IsDays last

later_begins : (one other : TimeUnit) (day start end last : ℤ) (j k : ℕ) → FitUnits one other last → (unit_at (record { start = day *ℤ pos 86_400; end = end; unit = one }) j).end ≤ℤ last
    → last <ℤ (unit_at (record { start = start *ℤ pos 86_400; end = last; unit = other }) k).end
    → (unit_at (record { start = day *ℤ pos 86_400; end = end; unit = one }) j).end ≤ℤ (unit_at (record { start = start *ℤ pos 86_400; end = last; unit = other }) k).start
later_begins Hour Hour day start end last j k fit le over =
    let ends : (day *ℤ pos 86_400 +ℤ pos ((j + 1) * 3600)) ≤ℤ last = le in
    let goes_on : last <ℤ (start *ℤ pos 86_400 +ℤ pos ((k + 1) * 3600)) = over in
    let begins : (day *ℤ pos 86_400 +ℤ pos ((j + 1) * 3600)) ≤ℤ (start *ℤ pos 86_400 +ℤ pos (k * 3600)) = omega (arith, signed_arith, ends, goes_on) in
    begins
later_begins Day Hour day start end last j k fit le over =
    let ends : (day *ℤ pos 86_400 +ℤ pos ((j + 1) * 86400)) ≤ℤ last = le in
    let goes_on : last <ℤ (start *ℤ pos 86_400 +ℤ pos ((k + 1) * 3600)) = over in
    let begins : (day *ℤ pos 86_400 +ℤ pos ((j + 1) * 86400)) ≤ℤ (start *ℤ pos 86_400 +ℤ pos (k * 3600)) = omega (arith, signed_arith, ends, goes_on) in
    begins
later_begins Day Day day start end last j k fit le over =
    let ends : (day *ℤ pos 86_400 +ℤ pos ((j + 1) * 86400)) ≤ℤ last = le in
    let goes_on : last <ℤ (start *ℤ pos 86_400 +ℤ pos ((k + 1) * 86400)) = over in
    let begins : (day *ℤ pos 86_400 +ℤ pos ((j + 1) * 86400)) ≤ℤ (start *ℤ pos 86_400 +ℤ pos (k * 86400)) = omega (arith, signed_arith, ends, goes_on) in
    begins
later_begins Hour Day day start end last j k (n, e) le over =
    let ends : (day *ℤ pos 86_400 +ℤ pos ((j + 1) * 3600)) ≤ℤ last = le in
    let goes_on : last <ℤ (start *ℤ pos 86_400 +ℤ pos ((k + 1) * 86400)) = over in
    let begins : (day *ℤ pos 86_400 +ℤ pos ((j + 1) * 3600)) ≤ℤ (start *ℤ pos 86_400 +ℤ pos (k * 86400)) = omega (arith, signed_arith, ends, goes_on, e) in
    begins

-- the units behind a schedule begin no earlier than a unit ends that ends by its end
pub behind : (start : Option ℤ) (one : TimeUnit) (end : ℤ) (u : Bounds) → IsUnitOf start one end u → (other : TimeUnit) (day last : ℤ) → FitUnits one other last → u.end ≤ℤ last → (k : ℕ)
    → unit_count (record { start = day *ℤ pos 86_400; end = last; unit = other }) ≤ k → u.end ≤ℤ (unit_at (record { start = day *ℤ pos 86_400; end = last; unit = other }) k).start
behind start one end u i other day last fit le k more =
    let s : Schedule = record { start = day *ℤ pos 86_400; end = last; unit = other } in
    let over : last <ℤ (unit_at s k).end = by_lt_z last (unit_at s k).end (λ l. l) (λ l. let less : k < unit_count s = (unit_listed s k).1 l in absurd (omega (arith, less, more))) in
    subst (λ (v : Bounds). v.end ≤ℤ (unit_at s k).start) (sym i.is) (later_begins one other i.day day end last i.place k fit (subst (λ (v : Bounds). v.end ≤ℤ last) i.is le) over)

-- a horizon is at most those of the incremental models among the parents
least_below : (ts : List ℤ) (t : ℤ) → least_of t ts ≤ℤ t
least_below [] t = omega (arith, ints)
least_below (x ∷ ts) t = let l = least_below ts (int_min t x) in let m : int_min t x ≤ℤ t = grind (arith, ints) in omega (arith, ints, l, m)

least_each : (ts : List ℤ) (t x : ℤ) → Has x ts → least_of t ts ≤ℤ x
least_each [] t x h = absurd h
least_each (y ∷ ts) t x (inl e) = let l = least_below ts (int_min t y) in let m : int_min t y ≤ℤ y = grind (arith, ints) in omega (arith, ints, l, m, e)
least_each (y ∷ ts) t x (inr h) = least_each ts (int_min t y) x h

own_horizon : (clock : Clock) (c : Closure) → is_incremental (own_of c).kind ≡ true → Has (horizon clock c) (horizons_from clock c)
own_horizon clock (Model own parents) e =
    subst (λ b. Has (horizon_under clock own (horizons_of clock parents)) (cond b (horizon_under clock own (horizons_of clock parents) ∷ horizons_of clock parents) (horizons_of clock parents))) (sym e) (inl refl)

parent_horizon : (clock : Clock) (cs : Closures) (c : Closure) → Has c (each_of cs) → is_incremental (own_of c).kind ≡ true → Has (horizon clock c) (horizons_of clock cs)
parent_horizon clock Alone c h e = absurd h
parent_horizon clock (With d cs) c (inl same) e =
    subst (λ x. Has (horizon clock c) (horizons_from clock x ++ horizons_of clock cs)) (sym same) (Has_left (horizon clock c) (horizons_from clock c) (horizons_of clock cs) (own_horizon clock c e))
parent_horizon clock (With d cs) c (inr h) e = Has_right (horizon clock c) (horizons_from clock d) (horizons_of clock cs) (parent_horizon clock cs c h e)

pub no_further : (clock : Clock) (own : Own) (parents : Closures) (c : Closure) → is_incremental own.kind ≡ true → Has c (each_of parents) → is_incremental (own_of c).kind ≡ true
    → horizon clock (Model own parents) ≤ℤ horizon clock c
no_further clock own parents c e h f =
    subst (λ b. cond b (least_of (last_tick clock own) (horizons_of clock parents)) (last_tick clock own) ≤ℤ horizon clock c) (sym e)
    (least_each (horizons_of clock parents) (last_tick clock own) (horizon clock c) (parent_horizon clock parents c h f))

-- the horizons of models by days are whole days where no model among them is by hours
abbrev NotHourly : Closure → Type 0
NotHourly c = is_hourly (own_of c) ≡ false

min_days : (s t : ℤ) → IsDays s → IsDays t → IsDays (int_min s t)
min_days s t a b = go (int_lt t s)
  where
    go : (c : Bool) → IsDays (cond c t s)
    go true = b
    go false = a

least_days : (ts : List ℤ) (t : ℤ) → IsDays t → Each IsDays ts → IsDays (least_of t ts)
least_days [] t d h = d
least_days (x ∷ ts) t d h = least_days ts (int_min t x) (min_days t x d h.0) h.1

tick_days : (clock : Clock) (own : Own) (unit : TimeUnit) → is_day unit ≡ true → IsDays (floored unit (clock own.cron))
tick_days clock own Day e = (int_div_euclid (clock own.cron) (pos 86_400), refl)
tick_days clock own Hour e = absurd (cc)

module _ (clock : Clock) where
  own_days : (own : Own) (hs : List ℤ) → is_hourly own ≡ false → Each IsDays hs → Each IsDays (with_horizon clock own hs)
  own_days own hs e h = go (is_incremental own.kind) (is_day own.unit) refl e
    where
      go : (b d : Bool) → is_day own.unit ≡ d → (b && not d) ≡ false → Each IsDays (cond b (cond b (least_of (last_tick clock own) hs) (last_tick clock own) ∷ hs) hs)
      go true true f e = (least_days hs (last_tick clock own) (tick_days clock own own.unit f) h, h)
      go true false f e = absurd (cc)
      go false d f e = h

  mutual
    from_days : (c : Closure) → Each NotHourly (standing c) → Each IsDays (horizons_from clock c)
    from_days (Model own parents) h = own_days own (horizons_of clock parents) h.0 (of_days parents h.1)

    of_days : (cs : Closures) → Each NotHourly (ancestors cs) → Each IsDays (horizons_of clock cs)
    of_days Alone h = tt
    of_days (With c cs) h =
        Each_both IsDays (horizons_from clock c) (horizons_of clock cs) (from_days c (Each_left NotHourly (standing c) (ancestors cs) h)) (of_days cs (Each_right NotHourly (standing c) (ancestors cs) h))

has_each : {X : Type 0} (P : X → Type 0) (xs : List X) (x : X) → Each P xs → Has x xs → P x
has_each P [] x h i = absurd i
has_each P (y ∷ ys) x h (inl e) = subst P e h.0
has_each P (y ∷ ys) x h (inr i) = has_each P ys x h.1 i

pub horizon_days : (clock : Clock) (c : Closure) → is_incremental (own_of c).kind ≡ true → Each NotHourly (standing c) → IsDays (horizon clock c)
horizon_days clock c e h = has_each IsDays (horizons_from clock c) (horizon clock c) (from_days clock c h) (own_horizon clock c e)

-- none of an even closure's parents has hours above days
pub none_any : {X : Type 0} (p : X → Bool) (xs : List X) → list_any p xs ≡ false → Each (λ x. p x ≡ false) xs
none_any p [] h = tt
none_any p (x ∷ xs) h = let n = neither (p x) (list_any p xs) h in (n.0, none_any p xs n.1)

itself : (c : Closure) → Has c (standing c)
itself (Model own parents) = inl refl

pub among_ancestors : (cs : Closures) (c : Closure) → Has c (each_of cs) → Has c (ancestors cs)
among_ancestors Alone c h = absurd h
among_ancestors (With d cs) c (inl e) = Has_left c (standing d) (ancestors cs) (subst (λ x. Has c (standing x)) (sym e) (itself c))
among_ancestors (With d cs) c (inr h) = Has_right c (standing d) (ancestors cs) (among_ancestors cs c h)

first_false : (a b : Bool) → not (a || b) ≡ true → a ≡ false
first_false false b h = refl
first_false true b h = absurd (cc)

and_false : (a b : Bool) → a ≡ true → (a && b) ≡ false → b ≡ false
and_false true b e h = h
and_false false b e h = absurd (cc)

daily_not_hourly : (o : Own) → is_daily o ≡ true → is_hourly o ≡ false
daily_not_hourly o h = go (is_incremental o.kind) (is_day o.unit) h
  where
    go : (a b : Bool) → (a && b) ≡ true → (a && not b) ≡ false
    go true true h = refl
    go true false h = absurd (cc)
    go false b h = absurd (cc)

pub under_hours : (own : Own) (parents : Closures) (c : Closure) → is_even (Model own parents) ≡ true → is_hourly own ≡ true → Has c (each_of parents) → is_daily (own_of c) ≡ true → Each NotHourly (standing c)
under_hours own parents (Model p ps) even hours there days =
    let uneven : is_uneven (Model own parents) ≡ false = first_false (is_uneven (Model own parents)) (list_any is_uneven (ancestors parents)) even in
    let none : list_any (λ b. is_daily (own_of b) && list_any (λ a. is_hourly (own_of a)) (ancestors (parents_of b))) (ancestors parents) ≡ false = and_false (is_hourly own) _ hours uneven in
    let its = has_each _ (ancestors parents) (Model p ps) (none_any _ (ancestors parents) none) (among_ancestors parents (Model p ps) there) in
    (daily_not_hourly p days, none_any (λ a. is_hourly (own_of a)) (ancestors ps) (and_false (is_daily p) _ days its))

-- a unit of an even model, beside the schedule of an incremental parent
pub fit_units : (clock : Clock) (own : Own) (parents : Closures) (c : Closure) → is_even (Model own parents) ≡ true → is_incremental own.kind ≡ true → Has c (each_of parents) → is_incremental (own_of c).kind ≡ true
    → FitUnits own.unit (own_of c).unit (horizon clock c)
fit_units clock own parents c even e there f = go own.unit refl (own_of c).unit refl
  where
    go : (one : TimeUnit) → own.unit ≡ one → (other : TimeUnit) → (own_of c).unit ≡ other → FitUnits one other (horizon clock c)
    go Hour o Hour p = tt
    go Day o Hour p = tt
    go Day o Day p = tt
    go Hour o Day p =
        let hours : is_hourly own ≡ true = (λ i. e i && not (is_day (o i))) in
        let days : is_daily (own_of c) ≡ true = (λ i. f i && is_day (p i)) in
        horizon_days clock c f (under_hours own parents c even hours there days)

pub unit_of_day : (clock : Clock) (c : Closure) (u : Bounds) → Contains (schedule clock c) u → IsOfDay u
unit_of_day clock c u there = of_day (own_of c).start (own_of c).unit (horizon clock c) u there
