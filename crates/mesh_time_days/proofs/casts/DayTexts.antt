-- The text of a day: the days follow one another as the calendar counts them.
use Rattle.std.proofs.Common.{◌≡◌, ℕ, zero, suc, ◌+◌, ◌<◌, ◌≤◌, Bool, true, false, cond, nat_lt, List, [], ℤ, pos, ◌+ℤ◌, ◌-ℤ◌, unsigned_abs, refl, sym, ◌∙◌, ap, subst, arith}
use Rattle.std.proofs.lemmas.Bool.Decides.{nat_tests}
use Rattle.std.proofs.lemmas.Int.{ints}
use Rattle.jiff_core.specs.Calendar.{days_in_month, days_from_civil}
use Rattle.jiff_core.specs.Date.{epoch_day}
use Rattle.jiff_core.specs.declared.civil.date.Date.{Date}
use Rattle.jiff_core.proofs.SignedLemmas.{signed_arith, unsigned_abs-parts, one_part}
use Rattle.jiff_core.proofs.CalendarLemmas.{days_from_civil-day_count, days_in_month_bounds}
use Rattle.jiff_core.proofs.MarchLemmas.{day_count-early}
use Rattle.jiff_core.proofs.DateLemmas.{epoch_day_injective, days_from_civil-day, days_from_civil-next_month, days_from_civil-next_year, days_from_civil-max}
use Rattle.mesh_time_days.specs.Moments.{IsDayNumber, IsDayText}
use Rattle.mesh_time_days.specs.casts.Dates.{Civil, next_day, day_after, civil_text, day_form, day_text, is_day_number}
use Rattle.mesh_time_days.proofs.casts.CalendarDays.{form_is}

-- a day of the calendar, and how many days after 0001-01-01 it is
record IsAt (c : Civil) (n : ℕ) : Type 0 where
  year_low : 1 ≤ c.year
  year_high : c.year ≤ 9999
  month_low : 1 ≤ c.month
  month_high : c.month ≤ 12
  day_low : 1 ≤ c.day
  day_high : c.day ≤ days_in_month (pos c.year) c.month
  count : days_from_civil (pos c.year) c.month c.day ≡ pos n -ℤ pos 719_162

abbrev next_by : Bool → Bool → Civil → Civil
next_by same_month same_year c =
    cond same_month (record { year = c.year; month = c.month; day = c.day + 1 })
    (cond same_year (record { year = c.year; month = c.month + 1; day = 1 })
    (record { year = c.year + 1; month = 1; day = 1 }))

start : IsAt (record { year = 1; month = 1; day = 1 }) 0
start =
    let first = day_count-early (pos 1) 10_000 1 1 refl (omega arith) (omega arith) (omega arith) in
    record {
      year_low = omega arith;
      year_high = omega arith;
      month_low = omega arith;
      month_high = omega arith;
      day_low = omega arith;
      day_high = omega (arith, days_in_month_bounds (pos 1) 1);
      count = omega (arith, signed_arith, days_from_civil-day_count (pos 1) 1 1);
    }

last_month : (y m d : ℕ) → m ≤ 12 → ¬ (m < 12) → d ≡ days_in_month (pos y) m → (m ≡ 12) × (d ≡ 31)
last_month y m d high over e =
    let twelve : m ≡ 12 = omega arith in
    (twelve, e ∙ ap (days_in_month (pos y)) twelve)

step : (c : Civil) (n : ℕ) → n + 1 ≤ 3_652_058 → IsAt c n → (b e : Bool) → nat_lt c.day (days_in_month (pos c.year) c.month) ≡ b → nat_lt c.month 12 ≡ e → IsAt (next_by b e c) (n + 1)
step c n high at true e within month =
    let lt : c.day < days_in_month (pos c.year) c.month = grind (arith, nat_tests) in
    record {
      year_low = at.year_low;
      year_high = at.year_high;
      month_low = at.month_low;
      month_high = at.month_high;
      day_low = omega arith;
      day_high = omega arith;
      count = omega (arith, signed_arith, at.count, days_from_civil-day (pos c.year) c.month (c.day + 1) c.day (omega arith) at.day_low);
    }
step c n high at false true within month =
    let ge : ¬ (c.day < days_in_month (pos c.year) c.month) = grind (arith, nat_tests) in
    let lt : c.month < 12 = grind (arith, nat_tests) in
    let last : c.day ≡ days_in_month (pos c.year) c.month = omega (arith, at.day_high) in
    record {
      year_low = at.year_low;
      year_high = at.year_high;
      month_low = omega arith;
      month_high = omega arith;
      day_low = omega arith;
      day_high = omega (arith, days_in_month_bounds (pos c.year) (c.month + 1));
      count = omega (arith, signed_arith, at.count, days_from_civil-next_month (pos c.year) c.month c.day at.month_low last);
    }
step c n high at false false within month =
    let ge : ¬ (c.day < days_in_month (pos c.year) c.month) = grind (arith, nat_tests) in
    let over : ¬ (c.month < 12) = grind (arith, nat_tests) in
    let last : c.day ≡ days_in_month (pos c.year) c.month = omega (arith, at.day_high) in
    let end_of_year = last_month c.year c.month c.day at.month_high over last in
    let here : days_from_civil (pos c.year) 12 31 ≡ pos n -ℤ pos 719_162 = subst (λ k. days_from_civil (pos c.year) 12 k ≡ pos n -ℤ pos 719_162) end_of_year.1 (subst (λ k. days_from_civil (pos c.year) k c.day ≡ pos n -ℤ pos 719_162) end_of_year.0 at.count) in
    let not_last : ¬ (c.year ≡ 9999) = λ e. let there : days_from_civil (pos 9999) 12 31 ≡ pos n -ℤ pos 719_162 = subst (λ k. days_from_civil (pos k) 12 31 ≡ pos n -ℤ pos 719_162) e here in omega (arith, signed_arith, days_from_civil-max, there) in
    record {
      year_low = omega arith;
      year_high = omega (arith, at.year_high);
      month_low = omega arith;
      month_high = omega arith;
      day_low = omega arith;
      day_high = omega (arith, days_in_month_bounds (pos (c.year + 1)) 1);
      count = omega (arith, signed_arith, here, days_from_civil-next_year (pos c.year) (pos (c.year + 1)) (omega (arith, signed_arith)) (omega (arith, signed_arith)));
    }

-- the days after 0001-01-01
counted : (n : ℕ) → n ≤ 3_652_058 → IsAt (day_after n) n
unfolding day_after
counted zero high = start
counted (suc n) high =
    let c = day_after n in
    subst (λ k. IsAt (next_day c) k) (omega arith) (step c n (omega arith) (counted n (omega arith)) (nat_lt c.day (days_in_month (pos c.year) c.month)) (nat_lt c.month 12) refl refl)

-- a date of that day number has these parts
parts : (d : Date) (c : Civil) (n : ℕ) → IsAt c n → epoch_day d ≡ pos n -ℤ pos 719_162 → (d.year ≡ pos c.year) × (d.month ≡ c.month) × (d.day ≡ c.day)
parts d c n at e =
    let made : Date = record { year = pos c.year; month = c.month; day = c.day; year_in = (omega (arith, signed_arith), omega (arith, signed_arith, at.year_high)); month_in = (at.month_low, at.month_high); day_in = (at.day_low, at.day_high) } in
    epoch_day_injective d made (e ∙ sym at.count)

text_by : (day : ℤ) (n : ℕ) → n ≤ 3_652_058 → day ≡ pos n -ℤ pos 719_162 → (text : List ℕ) → IsDayText day text → text ≡ civil_text (day_after n)
unfolding IsDayText
text_by day n high e text (d, low, is, t) =
    let c = day_after n in
    let p = parts d c n (counted n high) (is ∙ e) in
    t ∙ form_is d c.year p.0 ∙ (λ i. day_form c.year (p.1 i) (p.2 i))

tested : (day : ℤ) → IsDayNumber day → is_day_number day ≡ true
tested day within = grind (arith, ints)

-- the text of a day number is the definition's
pub text_is : (day : ℤ) (text : List ℕ) → IsDayNumber day → IsDayText day text → text ≡ day_text day
text_is day text within is =
    let n = unsigned_abs (day +ℤ pos 719_162) in
    let parts = unsigned_abs-parts (day +ℤ pos 719_162) in
    let one = one_part (day +ℤ pos 719_162) in
    text_by day n (grind (arith, signed_arith, parts, one, within)) (grind (arith, signed_arith, parts, one, within)) text is
    ∙ sym (ap (λ (b : Bool). cond b (civil_text (day_after n)) []) (tested day within))
