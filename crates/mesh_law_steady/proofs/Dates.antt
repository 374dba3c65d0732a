-- Each day of the calendar has a text, which names it.
use Rattle.std.proofs.Common.{◌≡◌, ℕ, zero, suc, ◌+◌, ◌<◌, ◌≤◌, ℤ, pos, negsuc, ◌+ℤ◌, ◌<ℤ◌, ◌≤ℤ◌, Some, refl, ap, sym, ◌∙◌, subst, arith, rules, unsigned_abs}
use Rattle.std.proofs.lemmas.Int.{by_lt_z}
use Rattle.mesh_base_values.proofs.Tests.{by_lt}
use Rattle.jiff_core.specs.declared.civil.date.Date.{Date}
use Rattle.jiff_core.specs.Calendar.{days_in_month, days_from_civil, day_count, days_of_years, days_of_months}
use Rattle.jiff_core.specs.Date.{epoch_day}
use Rattle.jiff_core.proofs.SignedLemmas.{signed_arith, unsigned_abs-parts, one_part}
use Rattle.jiff_core.proofs.CalendarLemmas.{days_in_month_bounds}
use Rattle.jiff_core.proofs.DateLemmas.{days_from_civil-day, days_from_civil-next_month, days_from_civil-next_year, days_from_civil-max}
use Rattle.mesh_time_days.specs.Moments.{IsDayNumber, IsDayText, date_text}
use Rattle.mesh_time_days.specs.casts.Dates.{day_named, day_text}
use Rattle.mesh_time_days.proofs.casts.CalendarDays.{named-is}
use Rattle.mesh_time_days.proofs.casts.DayTexts.{text_is}

-- a day from the year 1 on
record Dated (n : ℤ) : Type 0 where
  date : Date
  late : pos 1 ≤ℤ date.year
  day : epoch_day date ≡ n

in_month : (n : ℤ) (d : Dated n) → d.date.day < days_in_month d.date.year d.date.month → Dated (n +ℤ pos 1)
in_month n d l =
    let t = d.date in
    record {
      date = record { year = t.year; month = t.month; day = t.day + 1; year_in = t.year_in; month_in = t.month_in; day_in = (omega arith, omega arith) };
      late = d.late;
      day = let e = days_from_civil-day t.year t.month t.day (t.day + 1) t.day_in.0 (omega arith) in let is = d.day in omega (arith, signed_arith);
    }

next_month : (n : ℤ) (d : Dated n) → d.date.day ≡ days_in_month d.date.year d.date.month → d.date.month < 12 → Dated (n +ℤ pos 1)
next_month n d last l =
    let t = d.date in
    let long = days_in_month_bounds t.year (t.month + 1) in
    record {
      date = record { year = t.year; month = t.month + 1; day = 1; year_in = t.year_in; month_in = (omega arith, omega arith); day_in = (omega arith, omega arith) };
      late = d.late;
      day = days_from_civil-next_month t.year t.month t.day t.month_in.0 last ∙ ap (λ z. z +ℤ pos 1) d.day;
    }

next_year : (n : ℤ) (d : Dated n) → d.date.day ≡ days_in_month d.date.year d.date.month → 12 ≤ d.date.month → n <ℤ pos 2_932_896 → Dated (n +ℤ pos 1)
next_year n d last l below =
    let t = d.date in
    let december : t.month ≡ 12 = omega (arith, t.month_in.1) in
    let ends : t.day ≡ 31 = last ∙ ap (days_in_month t.year) december in
    let is : epoch_day t ≡ days_from_civil t.year 12 31 = (λ i. days_from_civil t.year (december i) (ends i)) in
    let before : t.year <ℤ pos 9999 = by_lt_z t.year (pos 9999) (λ l. l) (λ ge. let y : t.year ≡ pos 9999 = omega (arith, signed_arith, t.year_in.1) in
    let e : n ≡ pos 2_932_896 = sym d.day ∙ is ∙ ap (λ y. days_from_civil y 12 31) y ∙ days_from_civil-max in absurd (omega (arith, signed_arith))) in
    let long = days_in_month_bounds (t.year +ℤ pos 1) 1 in
    record {
      date = record { year = t.year +ℤ pos 1; month = 1; day = 1; year_in = (omega (arith, signed_arith, t.year_in.0), omega (arith, signed_arith)); month_in = (omega arith, omega arith); day_in = (omega arith, omega arith) };
      late = let y = d.late in omega (arith, signed_arith);
      day = days_from_civil-next_year t.year (t.year +ℤ pos 1) (omega (arith, signed_arith, t.year_in.0)) refl ∙ ap (λ z. z +ℤ pos 1) (sym is ∙ d.day);
    }

tomorrow : (n : ℤ) → Dated n → n <ℤ pos 2_932_896 → Dated (n +ℤ pos 1)
tomorrow n d below =
    by_lt d.date.day (days_in_month d.date.year d.date.month) (in_month n d)
    (λ ge. let last : d.date.day ≡ days_in_month d.date.year d.date.month = omega (arith, d.date.day_in.1) in by_lt d.date.month 12 (next_month n d last) (λ l. next_year n d last l below))

first_date : Date
first_date = record { year = pos 1; month = 1; day = 1; year_in = search rules; month_in = search rules; day_in = search rules }

first : Dated (negsuc 719_161)
unfolding first_date days_from_civil day_count days_of_years days_of_months
first = record { date = first_date; late = omega (arith, signed_arith); day = refl }

after : (n : ℕ) → n ≤ 3_652_058 → Dated (negsuc 719_161 +ℤ pos n)
after zero h = first
after (suc n) h =
    let t = tomorrow (negsuc 719_161 +ℤ pos n) (after n (omega arith)) (omega (arith, signed_arith)) in
    subst Dated (omega (arith, signed_arith)) t

dated : (day : ℤ) → IsDayNumber day → Dated day
dated day within =
    let n = unsigned_abs (day +ℤ pos 719_162) in
    let parts = unsigned_abs-parts (day +ℤ pos 719_162) in
    let one = one_part (day +ℤ pos 719_162) in
    subst Dated (grind (arith, signed_arith, parts, one, within)) (after n (grind (arith, signed_arith, parts, one, within)))

pub names_its_day : (day : ℤ) → IsDayNumber day → day_named (day_text day) ≡ Some day
unfolding IsDayText
names_its_day day within =
    let d = dated day within in
    let text : IsDayText day (date_text d.date) = (d.date, d.late, d.day, refl) in
    ap day_named (sym (text_is day (date_text d.date) within text)) ∙ named-is (date_text d.date) day text
