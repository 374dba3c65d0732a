-- The day of a text and the text of a day are those of the calendar.
use Rattle.std.proofs.Common.{◌≡◌, ℕ, ◌+◌, ◌*◌, ◌<◌, ◌≤◌, Bool, true, false, ◌&&◌, cond, nat_lt, List, Some, None, ℤ, pos, ◌≤ℤ◌, refl, sym, ◌∙◌, ap, subst, arith}
use Rattle.std.specs.Prelude.{MatchOption}
use Rattle.std.specs.declared.option.Option.{Option}
use Rattle.std.proofs.lemmas.Bool.Decides.{nat_tests}
use Rattle.std.proofs.lemmas.Bool.{and_from as and_both}
use Rattle.jiff_core.specs.Calendar.{days_in_month, days_from_civil}
use Rattle.jiff_core.specs.Date.{epoch_day}
use Rattle.jiff_core.specs.declared.civil.date.Date.{Date}
use Rattle.jiff_core.proofs.SignedLemmas.{signed_arith}
use Rattle.mesh_list.proofs.Ascends.{and_left, and_right}
use Rattle.mesh_base_values.specs.Picked.{same_text}
use Rattle.mesh_base_values.proofs.Equals.{text_itself as same_itself, text_is as same_is}
use Rattle.mesh_base_values.proofs.Tests.{below_true as below}
use Rattle.mesh_time_days.specs.Moments.{date_text, IsDayText}
use Rattle.mesh_time_days.proofs.TextLaws.{date_parts}
use Rattle.mesh_time_days.specs.casts.Dates.{number_at, is_day, day_form, day_if, day_named}

is_below : (a b : ℕ) → nat_lt a b ≡ true → a < b
is_below a b h = grind (arith, nat_tests)

-- the date's year as a number
day_is : (d : Date) (y : ℕ) → d.year ≡ pos y → 0 < y → is_day y d.month d.day ≡ true
day_is d y e low =
    let high = d.year_in in
    let months = d.month_in in
    let days = subst (λ z. (1 ≤ d.day) × (d.day ≤ days_in_month z d.month)) e d.day_in in
    let small : y < 10_000 = omega (arith, signed_arith) in
    and_both _ _ (and_both _ _ (below 0 y low) (below y 10_000 small))
    (and_both _ _ (and_both _ _ (below 0 d.month (omega arith)) (below d.month 13 (omega arith)))
    (and_both _ _ (below 0 d.day (omega arith)) (below d.day (days_in_month (pos y) d.month + 1) (omega arith))))

pub form_is : (d : Date) (y : ℕ) → d.year ≡ pos y → date_text d ≡ day_form y d.month d.day
unfolding date_text
form_is d y e = rw e refl

if_is : (text : List ℕ) (d : Date) (y m n : ℕ) → pos 1 ≤ℤ d.year → d.year ≡ pos y → d.month ≡ m → d.day ≡ n → text ≡ date_text d → day_if text y m n ≡ Some (epoch_day d)
if_is text d y m n low e em en is =
    let positive : 0 < y = omega (arith, signed_arith) in
    let there : is_day y m n ≡ true = subst (λ k. is_day y k n ≡ true) em (subst (λ k. is_day y d.month k ≡ true) en (day_is d y e positive)) in
    let formed : text ≡ day_form y m n = is ∙ form_is d y e ∙ (λ i. day_form y (em i) (en i)) in
    let same : same_text text (day_form y m n) ≡ true = ap (same_text text) (sym formed) ∙ same_itself text in
    let number : days_from_civil (pos y) m n ≡ epoch_day d = λ i. days_from_civil (sym e i) (sym em i) (sym en i) in
    ap (λ (b : Bool). cond b (Some (days_from_civil (pos y) m n)) None) (and_both _ _ there same) ∙ ap Some number

-- a text of a day names it
pub named-is : (text : List ℕ) (day : ℤ) → IsDayText day text → day_named text ≡ Some day
unfolding IsDayText
named-is text day (d, low, is, e) =
    let p = date_parts d text (number_at text 0) (number_at text 2) (number_at text 5) (number_at text 8) low e refl refl refl refl in
    if_is text d (number_at text 0 * 100 + number_at text 2) (number_at text 5) (number_at text 8) low p.0 p.1 p.2 e ∙ ap Some is

made_day : (y m n : ℕ) → is_day y m n ≡ true → (d : Date) × (d.year ≡ pos y) × (d.month ≡ m) × (d.day ≡ n)
made_day y m n h =
    let year = and_left _ _ h in
    let rest = and_right (nat_lt 0 y && nat_lt y 10_000) _ h in
    let month = and_left _ _ rest in
    let day = and_right (nat_lt 0 m && nat_lt m 13) _ rest in
    let y_high = is_below y 10_000 (and_right _ _ year) in
    let m_low = is_below 0 m (and_left _ _ month) in
    let m_high = is_below m 13 (and_right _ _ month) in
    let n_low = is_below 0 n (and_left _ _ day) in
    let n_high = is_below n (days_in_month (pos y) m + 1) (and_right _ _ day) in
    (record { year = pos y; month = m; day = n; year_in = (omega (arith, signed_arith), omega (arith, signed_arith)); month_in = (omega arith, omega arith); day_in = (omega arith, omega arith) }, refl, refl, refl)

named_at : (text : List ℕ) (y m n : ℕ) (day : ℤ) (b : Bool) → b ≡ (is_day y m n && same_text text (day_form y m n)) → cond b (Some (days_from_civil (pos y) m n)) None ≡ Some day → IsDayText day text
unfolding IsDayText
named_at text y m n day false e h = cc
named_at text y m n day true e h =
    let there : is_day y m n ≡ true = and_left _ _ (sym e) in
    let same : text ≡ day_form y m n = same_is text (day_form y m n) (and_right (is_day y m n) _ (sym e)) in
    let made = made_day y m n there in
    let number : days_from_civil (pos y) m n ≡ day = cc in
    let low : 0 < y = is_below 0 y (and_left _ _ (and_left _ _ there)) in
    let at_least : pos 1 ≤ℤ pos y = omega (arith, signed_arith) in (
      made.0,
      subst (λ z. pos 1 ≤ℤ z) (sym made.1) at_least,
      (λ i. days_from_civil (made.1 i) (made.2 i) (made.3 i)) ∙ number,
      same ∙ sym (form_is made.0 y made.1 ∙ (λ i. day_form y (made.2 i) (made.3 i))),
    )

is-named-if : (text : List ℕ) (y m n : ℕ) (day : ℤ) → day_if text y m n ≡ Some day → IsDayText day text
is-named-if text y m n day h = named_at text y m n day (is_day y m n && same_text text (day_form y m n)) refl h

-- a text that names a day is its text
pub is-named : (text : List ℕ) (day : ℤ) → day_named text ≡ Some day → IsDayText day text
is-named text day h = is-named-if text (number_at text 0 * 100 + number_at text 2) (number_at text 5) (number_at text 8) day h

pub named-none : (text : List ℕ) → ((day : ℤ) → ¬ IsDayText day text) → day_named text ≡ None
named-none text never = at (day_named text) refl
  where
    at : (o : Option ℤ) → o ≡ day_named text → o ≡ None
    at None e = refl
    at (Some day) e = absurd (never day (is-named text day (sym e)))

-- what is found for a text is what the definition names
pub named_of : (o : Option ℤ) (text : List ℕ) → MatchOption o ((day : ℤ) → ¬ IsDayText day text) (λ day. IsDayText day text) → o ≡ day_named text
named_of None text h = sym (named-none text h)
named_of (Some day) text h = sym (named-is text day h)
