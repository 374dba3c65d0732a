use Rattle.std.proofs.Common.{◌≡◌, ℕ, ◌+◌, ◌*◌, ◌/◌, ◌%◌, ◌-◌, ◌<◌, ◌≤◌, Bool, true, false, ◌&&◌, ◌||◌, refl, sym, ap, ◌∙◌, subst, arith, IsTrue, cond, inl, inr, pos, nat_lt}
use Rattle.std.proofs.lemmas.Bool.{and_parts, and_from, cases_Bool, ltb-true}
use Rattle.jiff_core.specs.declared.civil.date.Date.{Date}
use Rattle.jiff_core.specs.Calendar.{day_count, days_in_month, days_from_civil, weekday_number, IsCivilDate, IsYear}
use Rattle.jiff_core.specs.Date.{epoch_day}
use Rattle.jiff_core.proofs.SignedLemmas.{signed_arith}
use Rattle.jiff_core.proofs.CalendarLemmas.{days_from_civil-day_count, days_in_month_bounds, weekday_number_bound}
use Rattle.jiff_core.proofs.DateLemmas.{weekday_number-day}
use Rattle.mesh_base_values.specs.Crons.{CronSets, has, has_date, has_day, is_cron, longest}
use Rattle.mesh_time_days.specs.Moments.{day_number, moment}
use Rattle.mesh_time.specs.Ticks.{date_matches, day_matches, minute_matches, weekday, IsQuiet, IsTickDay}
use Rattle.mesh_time.proofs.CronFacts.{each_day_of_week, first_week, positive, rule_of, some_is, Rule}
use Rattle.mesh_time.proofs.TickLaws.{is_day_number, moment_between, tick_at, tick_day}
use Rattle.mesh_time.proofs.Years.{first, first_end, first_epoch, has_longest, in_year, year_of, years_between}

-- a date of one of the nine years that end in y
record Near (c : CronSets) (y : ℕ) : Type 0 where
  year : ℕ
  month : ℕ
  day : ℕ
  before : year < y
  after : y ≤ year + 8
  civil : IsCivilDate (pos year) month day
  matches : (has c.month month && day_matches c day (weekday (days_from_civil (pos year) month day))) ≡ true

week_matches : (a b p q : Bool) → b ≡ false → q ≡ true → (a ≡ true → p ≡ true) → (cond (a || b) (p && q) (p || q)) ≡ true
week_matches true b p q eb eq f = and_from p q (f refl) eq
week_matches false true p q eb eq f = absurd (cc)
week_matches false false true q eb eq f = refl
week_matches false false false q eb eq f = eq

both_match : (a b p q : Bool) → b ≡ true → p ≡ true → q ≡ true → (cond (a || b) (p && q) (p || q)) ≡ true
both_match true b p q eb ep eq = and_from p q ep eq
both_match false true p q eb ep eq = and_from p q ep eq
both_match false false p q eb ep eq = absurd (cc)

is_year : (y : ℕ) → y ≤ 9999 → IsYear (pos y)
is_year y h = (omega (arith, signed_arith), omega (arith, signed_arith))

turned : (start w : ℕ) → start < 7 → w < 7 → ((start + (1 + (w + 7 - (start + 1) % 7) % 7 - 1)) % 7 + 1) % 7 ≡ w
turned start w h k = omega arith

week_first : (c : CronSets) → Rule c → (d : ℕ) → 1 ≤ d → d ≤ 7 → c.dom_star ≡ true → has c.dom d ≡ true
week_first c rule d low high star = subst (λ s. has s d ≡ true) (sym (rule.whole_month star)) (first_week d low high)

a_weekday : (c : CronSets) → Rule c → (y : ℕ) → 1 ≤ y → y ≤ 9999 → c.dow_star ≡ false → Near c y
a_weekday c rule y low high star =
    let m = some_is (has c.month) 13 rule.month in
    let w = some_is (has c.dow) 7 rule.dow in
    let start : ℕ = weekday_number (days_from_civil (pos (y - 1)) m.0 1) in
    let d : ℕ = 1 + (w.0 + 7 - (start + 1) % 7) % 7 in
    let bound = weekday_number_bound (days_from_civil (pos (y - 1)) m.0 1) in
    let long = days_in_month_bounds (pos (y - 1)) m.0 in
    let month = positive c.month m.0 rule.no_month m.2 in
    let is = weekday_number-day (pos (y - 1)) m.0 1 d (omega arith) (omega arith) in
    let weekday_is : weekday (days_from_civil (pos (y - 1)) m.0 d) ≡ w.0 = ap (λ n. (n + 1) % 7) is ∙ turned start w.0 bound w.1 in
    record {
      year = y - 1;
      month = m.0;
      day = d;
      before = omega arith;
      after = omega arith;
      civil = (is_year _ (omega arith), (omega arith, omega arith), (omega arith, omega arith));
      matches = and_from _ _ m.2 (week_matches c.dom_star c.dow_star _ _ star (subst (λ n. has c.dow n ≡ true) (sym weekday_is) w.2) (week_first c rule d (omega arith) (omega arith)));
    }

dated : (c : CronSets) → Rule c → (y year m d : ℕ) → y ≤ 9999 → year < y → y ≤ year + 8 → 1 ≤ m → m ≤ 12 → 1 ≤ d → d ≤ days_in_month (pos year) m → has c.month m ≡ true → has c.dom d ≡ true → c.dow_star ≡ true → Near c y
dated c rule y year m d high before after month_low month_high day_low day_high month day star =
    let w : ℕ = weekday (days_from_civil (pos year) m d) in
    let week = each_day_of_week w (omega arith) in
    record {
      year = year;
      month = m;
      day = d;
      before = before;
      after = after;
      civil = (is_year year (omega arith), (month_low, month_high), (day_low, day_high));
      matches = and_from (has c.month m) _ month (both_match c.dom_star c.dow_star (has c.dom d) (has c.dow w) star day (subst (λ s. has s w ≡ true) (sym (rule.whole_week star)) week));
    }

a_date : (c : CronSets) → Rule c → (y : ℕ) → 9 ≤ y → y ≤ 9999 → c.dow_star ≡ true → Near c y
unfolding has_date has_day
a_date c rule y low high star =
    let m = some_is _ 13 (rule.date star) in
    let parts = and_parts (has c.month m.0) (has_day c.dom m.0) m.2 in
    let d = some_is _ 32 parts.1 in
    let fits = and_parts (has c.dom d.0) (nat_lt d.0 (longest m.0 + 1)) d.2 in
    let le = ltb-true _ _ fits.1 in
    let month = positive c.month m.0 rule.no_month parts.0 in
    let day = positive c.dom d.0 rule.no_day fits.0 in
    let near = has_longest y m.0 d.0 (omega arith) (omega arith) in
    dated c rule y near.0 m.0 d.0 high near.1 near.2 month (omega arith) day near.3 parts.0 fits.0 star

near_date : (c : CronSets) (y : ℕ) → Near c y → Date
near_date c y near =
    record { year = pos near.year; month = near.month; day = near.day; year_in = near.civil.0; month_in = near.civil.1; day_in = near.civil.2 }

near_year : (c : CronSets) → Rule c → (y : ℕ) → 9 ≤ y → y ≤ 9999 → Near c y
near_year c rule y low high =
    elim (cases_Bool c.dow_star) [
      | inl star ↦ a_date c rule y low high star
      | inr none ↦ a_weekday c rule y (omega arith) high none
    ]

-- a date of the last nine years, by its place in the calendar
near_day : (c : CronSets) → IsTrue (is_cron c) → (day : ℕ) → 719_162 ≤ day → day ≤ 3_652_058 → (other : ℕ) × (other < day) × (day ≤ other + 3294) × IsTickDay c (day_number other)
unfolding date_matches near_date day_number
near_day c h day low high =
    let e0 = first_epoch in
    let e1 : first (1970 + 8030) ≡ 7_304_850 = first_end in
    let y = year_of 8030 (day + 3_652_791) (omega arith) (omega arith) in
    let near = near_year c (rule_of c h) y.0 (omega arith) (omega arith) in
    let k : ℕ = day_count (pos near.year) near.month near.day in
    let at = in_year near.year near.month near.day near.civil in
    let b : near.year < y.0 = near.before in
    let a : y.0 ≤ near.year + 8 = near.after in
    let up_to = years_between (y.0 + 1 - near.year) near.year (y.0 + 1) (omega arith) in
    let from = years_between (y.0 - (near.year + 1)) (near.year + 1) y.0 (omega arith) in
    let d = near_date c y.0 near in
    let place : ℕ = k - 3_652_791 in
    let e : epoch_day d ≡ day_number place = omega (arith, signed_arith, days_from_civil-day_count (pos near.year) near.month near.day) in
    (place, omega arith, omega arith, (tick_day c (day_number place) d (is_day_number place (omega arith)) e).0 near.matches)

a_minute : (c : CronSets) → Rule c → (n : ℕ) × (n < 1440) × (minute_matches c n ≡ true)
unfolding minute_matches
a_minute c rule =
    let hour = some_is (has c.hour) 24 rule.hour in
    let minute = some_is (has c.minute) 60 rule.minute in
    let n : ℕ = hour.0 * 60 + minute.0 in
    let hour_is : n / 60 ≡ hour.0 = omega arith in
    let minute_is : n % 60 ≡ minute.0 = omega arith in
    (n, omega arith, and_from _ _ (subst (λ x. has c.hour x ≡ true) (sym hour_is) hour.2) (subst (λ x. has c.minute x ≡ true) (sym minute_is) minute.2))

pub never_quiet : (c : CronSets) (day start : ℕ) → IsTrue (is_cron c) → 719_162 ≤ day → day ≤ 3_652_058 → start + 3294 ≤ day → IsQuiet c (moment start 0) (moment (day - 1) 86_399) → ⊥
unfolding IsQuiet
never_quiet c day start h low high far quiet =
    let near = near_day c h day low high in
    let n = a_minute c (rule_of c h) in
    let div : n.0 * 60 / 60 ≡ n.0 = omega arith in
    let between = moment_between near.0 start (day - 1) (n.0 * 60) (omega arith) (omega arith) (omega arith) in
    quiet (moment near.0 (n.0 * 60)) between.0 between.1 ((tick_at c (moment near.0 (n.0 * 60)) near.0 (n.0 * 60) refl (omega arith)).1 (omega arith, subst (λ x. minute_matches c x ≡ true) (sym div) n.2, near.3))
