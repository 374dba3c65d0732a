-- A moment decides the last tick of each model, and so horizons and rows.
use Rattle.std.proofs.Common.{◌≡◌, ℤ, cond, List, [], ◌∷◌, ◌++◌, refl, ap, ◌∙◌, arith, IsTrue}
use Rattle.std.specs.List.{All}
use Rattle.std.proofs.lemmas.Int.{ints, by_lt_z}
use Rattle.std.proofs.lemmas.List.Elements.{All-head, All-tail}
use Rattle.mesh_base.specs.declared.definitions.Own.{Own}
use Rattle.mesh_base.specs.declared.jobs.Input.{Input}
use Rattle.mesh_base_values.specs.Crons.{CronSets, is_cron}
use Rattle.mesh_base_values.specs.Kinds.{is_incremental}
use Rattle.mesh_time.specs.Ticks.{IsFloor}
use Rattle.mesh_spec_model.specs.Closures.{Closure, Closures, Model, Alone, With, own_of, standing, ancestors}
use Rattle.mesh_spec_model.specs.Horizons.{Clock, Shows, HasCrons, floored, last_tick, least_of, horizon_under, with_horizon, horizons_from, horizons_of, horizon, schedule, units_from}
use Rattle.mesh_spec_model.specs.Sources.{inputs}
use Rattle.mesh_spec_model.specs.Scratch.{from_scratch, tables, rows_over, table_of}

-- a cron has one last tick at a moment
pub one_floor : (c : CronSets) (t x y : ℤ) → IsFloor c t x → IsFloor c t y → x ≡ y
unfolding IsFloor
one_floor c t x y f g =
    by_lt_z x y (λ l. absurd (f.2 y l g.1 g.0)) (λ le. by_lt_z y x (λ l. absurd (g.2 x l f.1 f.0)) (λ ge. omega (arith, ints)))

module _ (clock other : Clock) where
  abbrev Same : Own → Type 0
  Same own = last_tick clock own ≡ last_tick other own

  abbrev Each : List Closure → Type 0
  Each [] = Unit {0}
  Each (c ∷ cs) = Same (own_of c) × Each cs

  left : (xs ys : List Closure) → Each (xs ++ ys) → Each xs
  left [] ys h = tt
  left (x ∷ xs) ys h = (h.0, left xs ys h.1)

  right : (xs ys : List Closure) → Each (xs ++ ys) → Each ys
  right [] ys h = h
  right (x ∷ xs) ys h = right xs ys h.1

  under_same : (own : Own) → Same own → (hs : List ℤ) → horizon_under clock own hs ≡ horizon_under other own hs
  under_same own e hs = λ i. cond (is_incremental own.kind) (least_of (e i) hs) (e i)

  mutual
    from_same : (c : Closure) → Each (standing c) → horizons_from clock c ≡ horizons_from other c
    from_same (Model own parents) h =
        (λ i. cond (is_incremental own.kind) (under_same own h.0 (horizons_of clock parents) i ∷ horizons_of clock parents) (horizons_of clock parents))
        ∙ ap (with_horizon other own) (of_same parents h.1)

    of_same : (cs : Closures) → Each (ancestors cs) → horizons_of clock cs ≡ horizons_of other cs
    of_same Alone h = refl
    of_same (With c cs) h = λ i. from_same c (left (standing c) (ancestors cs) h) i ++ of_same cs (right (standing c) (ancestors cs) h) i

  horizon_same : (c : Closure) → Each (standing c) → horizon clock c ≡ horizon other c
  horizon_same (Model own parents) h = under_same own h.0 (horizons_of clock parents) ∙ ap (horizon_under other own) (of_same parents h.1)

  schedule_same : (c : Closure) → Each (standing c) → schedule clock c ≡ schedule other c
  schedule_same c h = ap (units_from (own_of c).start (own_of c).unit) (horizon_same c h)

  mutual
    rows_same : (sources : List Input) (c : Closure) → Each (standing c) → from_scratch sources clock c ≡ from_scratch sources other c
    rows_same sources (Model own parents) h =
        (λ i. rows_over own (inputs sources own (tables_same sources parents h.1 i)) (schedule_same (Model own parents) h i))

    tables_same : (sources : List Input) (cs : Closures) → Each (ancestors cs) → tables sources clock cs ≡ tables sources other cs
    tables_same sources Alone h = refl
    tables_same sources (With c cs) h =
        λ i. table_of (own_of c) (rows_same sources c (left (standing c) (ancestors cs) h) i) ∷ tables_same sources cs (right (standing c) (ancestors cs) h) i

each_last : (clock other : Clock) (t : ℤ) → Shows clock t → Shows other t → (cs : List Closure) → All (λ s. IsTrue (is_cron (own_of s).cron)) cs → Each clock other cs
each_last clock other t s o [] h = tt
each_last clock other t s o (c ∷ cs) h =
    let cron = All-head (λ s. IsTrue (is_cron (own_of s).cron)) c cs h in
    (ap (floored (own_of c).unit) (one_floor (own_of c).cron t (clock (own_of c).cron) (other (own_of c).cron) (s (own_of c).cron cron) (o (own_of c).cron cron)), each_last clock other t s o cs (All-tail (λ s. IsTrue (is_cron (own_of s).cron)) c cs h))

-- two clocks that show one moment
pub one_horizon : (t : ℤ) (clock other : Clock) → Shows clock t → Shows other t → (c : Closure) → HasCrons c → horizon clock c ≡ horizon other c
one_horizon t clock other s o c h = horizon_same clock other c (each_last clock other t s o (standing c) h)

pub one_list_of_rows : (t : ℤ) (clock other : Clock) → Shows clock t → Shows other t → (c : Closure) → HasCrons c → (sources : List Input) → from_scratch sources clock c ≡ from_scratch sources other c
one_list_of_rows t clock other s o c h sources = rows_same clock other sources c (each_last clock other t s o (standing c) h)
