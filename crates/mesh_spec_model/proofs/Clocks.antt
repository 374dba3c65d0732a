-- Each cron has a last tick at each moment, and so each moment has a clock that shows it.
use Rattle.std.proofs.Common.{◌≡◌, ℕ, zero, suc, ◌+◌, ◌*◌, ◌/◌, ◌%◌, ◌-◌, ◌<◌, ◌≤◌, ℤ, pos, neg_ℤ, ◌+ℤ◌, ◌<ℤ◌, ◌⊎◌, inl, inr, Bool, true, false, refl, ap, sym, ◌∙◌, subst, arith, IsTrue, unsigned_abs, rules}
use Rattle.std.proofs.lemmas.Int.{by_lt_z}
use Rattle.jiff_core.specs.declared.civil.date.Date.{Date}
use Rattle.jiff_core.specs.Calendar.{days_in_month, days_from_civil}
use Rattle.jiff_core.specs.Date.{epoch_day}
use Rattle.jiff_core.proofs.SignedLemmas.{signed_arith, unsigned_abs-parts, one_part}
use Rattle.jiff_core.proofs.CalendarLemmas.{days_in_month_bounds}
use Rattle.jiff_core.proofs.DateLemmas.{days_from_civil-day, days_from_civil-next_month, days_from_civil-next_year, days_from_civil-min, days_from_civil-max}
use Rattle.mesh_base_values.specs.Crons.{CronSets, is_cron}
use Rattle.mesh_base_values.proofs.Tests.{by_lt}
use Rattle.mesh_time_days.specs.Moments.{moment, day_number, IsMoment}
use Rattle.mesh_time.specs.Ticks.{date_matches, minute_matches, IsFloor, IsQuiet}
use Rattle.mesh_time.proofs.TickLaws.{tick_day, is_day_number, quiet_day, quiet_minutes, floor_on, quiet_over, floor_over, next_day, quiet_nowhere, moment_far, moment_le}
use Rattle.mesh_time.proofs.Meets.{never_quiet}
use Rattle.mesh_spec_model.specs.Horizons.{Clock, Shows}

-- a day and the day after it
abbrev Dated : ℤ → Type 0
Dated n = (d : Date) × (epoch_day d ≡ n)

in_month : (d : Date) → d.day < days_in_month d.year d.month → Dated (epoch_day d +ℤ pos 1)
in_month d l = (
  record { year = d.year; month = d.month; day = d.day + 1; year_in = d.year_in; month_in = d.month_in; day_in = (omega arith, omega arith) },
  let e = days_from_civil-day d.year d.month d.day (d.day + 1) d.day_in.0 (omega arith) in omega (arith, signed_arith),
)

next_month : (d : Date) → d.day ≡ days_in_month d.year d.month → d.month < 12 → Dated (epoch_day d +ℤ pos 1)
next_month d last l =
    let long = days_in_month_bounds d.year (d.month + 1) in (
      record { year = d.year; month = d.month + 1; day = 1; year_in = d.year_in; month_in = (omega arith, omega arith); day_in = (omega arith, omega arith) },
      days_from_civil-next_month d.year d.month d.day d.month_in.0 last,
    )

next_year : (d : Date) → d.day ≡ days_in_month d.year d.month → 12 ≤ d.month → epoch_day d <ℤ pos 2_932_896 → Dated (epoch_day d +ℤ pos 1)
next_year d last l below =
    let december : d.month ≡ 12 = omega (arith, d.month_in.1) in
    let ends : d.day ≡ 31 = last ∙ ap (days_in_month d.year) december in
    let is : epoch_day d ≡ days_from_civil d.year 12 31 = (λ i. days_from_civil d.year (december i) (ends i)) in
    let before : d.year <ℤ pos 9999 = by_lt_z d.year (pos 9999) (λ l. l) (λ ge. let y : d.year ≡ pos 9999 = omega (arith, signed_arith, d.year_in.1) in
    let e : epoch_day d ≡ pos 2_932_896 = is ∙ ap (λ y. days_from_civil y 12 31) y ∙ days_from_civil-max in absurd (omega (arith, signed_arith))) in
    let long = days_in_month_bounds (d.year +ℤ pos 1) 1 in (
      record { year = d.year +ℤ pos 1; month = 1; day = 1; year_in = (omega (arith, signed_arith, d.year_in.0), omega (arith, signed_arith)); month_in = (omega arith, omega arith); day_in = (omega arith, omega arith) },
      days_from_civil-next_year d.year (d.year +ℤ pos 1) (omega (arith, signed_arith, d.year_in.0)) refl ∙ ap (λ t. t +ℤ pos 1) (sym is),
    )

tomorrow : (d : Date) → epoch_day d <ℤ pos 2_932_896 → Dated (epoch_day d +ℤ pos 1)
tomorrow d below = by_lt (d.day) (days_in_month d.year d.month) (in_month d)
    (λ ge. let last : d.day ≡ days_in_month d.year d.month = omega (arith, d.day_in.1) in by_lt d.month 12 (next_month d last) (λ l. next_year d last l below))

first_date : Date
first_date = record { year = neg_ℤ (pos 9999); month = 1; day = 1; year_in = search rules; month_in = search rules; day_in = search rules }

date_after : (n : ℕ) → n ≤ 7_304_483 → Dated (neg_ℤ (pos 4_371_587) +ℤ pos n)
unfolding first_date
date_after zero h = (first_date, days_from_civil-min)
date_after (suc n) h =
    let d = date_after n (omega arith) in
    let t = tomorrow d.0 (let e = d.1 in omega (arith, signed_arith)) in
    (t.0, t.1 ∙ (let e = d.1 in omega (arith, signed_arith)))

-- the last minute of a day, up to this one, that matches; or none does
abbrev LastMinute : CronSets → ℕ → Type 0
LastMinute c n =
    ((m : ℕ) × (m ≤ n) × IsTrue (minute_matches c m) × ((k : ℕ) → m < k → k ≤ n → minute_matches c k ≡ false))
    ⊎ ((k : ℕ) → k ≤ n → minute_matches c k ≡ false)

last_minute : (c : CronSets) (n : ℕ) → LastMinute c n
last_minute c zero = go (minute_matches c 0) refl
  where
    go : (b : Bool) → minute_matches c 0 ≡ b → LastMinute c 0
    go true e = inl (0, omega arith, e, λ k low high. absurd (omega arith))
    go false e = inr (λ k high. let z : 0 ≡ k = omega arith in subst (λ k. minute_matches c k ≡ false) z e)
last_minute c (suc n) = go (minute_matches c (suc n)) refl (last_minute c n)
  where
    go : (b : Bool) → minute_matches c (suc n) ≡ b → LastMinute c n → LastMinute c (suc n)
    go true e h = inl (suc n, omega arith, e, λ k low high. absurd (omega arith))
    go false e (inl (m, le, is, none)) =
        inl (m, omega arith, is, λ k low high. by_lt n k (λ beyond. let z : suc n ≡ k = omega arith in subst (λ k. minute_matches c k ≡ false) z e) (λ within. none k low within))
    go false e (inr none) = inr (λ k high. by_lt n k (λ beyond. let z : suc n ≡ k = omega arith in subst (λ k. minute_matches c k ≡ false) z e) (λ within. none k within))

abbrev pub HasFloor : CronSets → ℤ → Type 0
HasFloor c t = (tick : ℤ) × IsFloor c t tick

-- on one day
on_day : (c : CronSets) (day second : ℕ) → second < 86_400 → day ≤ 3_652_058 → HasFloor c (moment day second) ⊎ IsQuiet c (moment day 0) (moment day second)
unfolding day_number
on_day c day second h high = go (date_matches c d.0) refl (last_minute c (second / 60))
  where
    d : Dated (neg_ℤ (pos 4_371_587) +ℤ pos (day + 3_652_425))
    d = date_after (day + 3_652_425) (omega arith)

    is : epoch_day d.0 ≡ day_number day
    is = let e = d.1 in omega (arith, signed_arith)

    go : (b : Bool) → date_matches c d.0 ≡ b → LastMinute c (second / 60) → HasFloor c (moment day second) ⊎ IsQuiet c (moment day 0) (moment day second)
    go true e (inl (m, le, matches, none)) = inl (moment day (m * 60), floor_on c day second m h ((tick_day c (day_number day) d.0 (is_day_number day high) is).0 e) matches le none)
    go true e (inr none) = inr (quiet_minutes c day second h none)
    go false e last = inr (quiet_day c day second h (λ on. let t : IsTrue (date_matches c d.0) = (tick_day c (day_number day) d.0 (is_day_number day high) is).1 on in absurd (cc)))

-- on the n days before a day
before : (c : CronSets) (n start day : ℕ) → start + n ≡ day → 1 ≤ day → day ≤ 3_652_058 → HasFloor c (moment (day - 1) 86_399) ⊎ IsQuiet c (moment start 0) (moment (day - 1) 86_399)
before c zero start day e low high = inr (quiet_nowhere c day start low (omega (arith, e)))
before c (suc n) start day e low high = go (before c n (start + 1) day (omega (arith, e)) low high) (on_day c start 86_399 (omega arith) (omega (arith, e)))
  where
    go : HasFloor c (moment (day - 1) 86_399) ⊎ IsQuiet c (moment (start + 1) 0) (moment (day - 1) 86_399) → HasFloor c (moment start 86_399) ⊎ IsQuiet c (moment start 0) (moment start 86_399)
        → HasFloor c (moment (day - 1) 86_399) ⊎ IsQuiet c (moment start 0) (moment (day - 1) 86_399)
    go (inl found) here = inl found
    go (inr quiet) (inl (tick, f)) = inl (tick, floor_over c (moment start 86_399) (moment (start + 1) 0) (moment (day - 1) 86_399) tick f quiet (next_day start (start + 1) refl) (moment_le start (day - 1) 86_399 (omega (arith, e))))
    go (inr quiet) (inr here) = inr (quiet_over c (moment start 0) (moment start 86_399) (moment (start + 1) 0) (moment (day - 1) 86_399) here quiet (next_day start (start + 1) refl))

floor_at : (c : CronSets) → IsTrue (is_cron c) → (day second : ℕ) → second < 86_400 → 719_162 ≤ day → day ≤ 3_652_058 → HasFloor c (moment day second)
floor_at c h day second short low high = go (on_day c day second short high) (before c 3294 (day - 3294) day (omega arith) (omega arith) high)
  where
    go : HasFloor c (moment day second) ⊎ IsQuiet c (moment day 0) (moment day second) → HasFloor c (moment (day - 1) 86_399) ⊎ IsQuiet c (moment (day - 3294) 0) (moment (day - 1) 86_399) → HasFloor c (moment day second)
    go (inl found) earlier = found
    go (inr quiet) (inl (tick, f)) = (tick, floor_over c (moment (day - 1) 86_399) (moment day 0) (moment day second) tick f quiet (next_day (day - 1) day (omega arith)) (moment_far (day - 1) day 86_399 second (omega arith) (omega arith)))
    go (inr quiet) (inr none) = absurd (never_quiet c day (day - 3294) h low high (omega arith) none)

floor_of : (c : CronSets) → IsTrue (is_cron c) → (t : ℤ) → IsMoment t → HasFloor c t
unfolding moment day_number
floor_of c h t is =
    let n : ℕ = unsigned_abs t in
    let e : t ≡ pos n = omega (arith, signed_arith, unsigned_abs-parts t, one_part t, is.0) in
    let most : n ≤ 253_402_300_799 = omega (arith, signed_arith, is.1, e) in
    let same : moment (n / 86_400 + 719_162) (n % 86_400) ≡ t = omega (arith, signed_arith, e) in
    subst (HasFloor c) same (floor_at c h (n / 86_400 + 719_162) (n % 86_400) (omega arith) (omega arith) (omega (arith, most)))

tick_or : (t : ℤ) → IsMoment t → (c : CronSets) (b : Bool) → is_cron c ≡ b → ℤ
tick_or t h c true e = (floor_of c e t h).0
tick_or t h c false e = pos 0

tick_is : (t : ℤ) (h : IsMoment t) (c : CronSets) (b : Bool) (e : is_cron c ≡ b) → IsTrue (is_cron c) → IsFloor c t (tick_or t h c b e)
unfolding tick_or
tick_is t h c true e k = (floor_of c e t h).1
tick_is t h c false e k = absurd (cc)

pub shown : (t : ℤ) → IsMoment t → (clock : Clock) × Shows clock t
shown t h = (λ c. tick_or t h c (is_cron c) refl, λ c k. tick_is t h c (is_cron c) refl k)

pub floor_at_moment : (t : ℤ) → IsMoment t → (c : CronSets) → IsTrue (is_cron c) → HasFloor c t
floor_at_moment t h c k = floor_of c k t h
