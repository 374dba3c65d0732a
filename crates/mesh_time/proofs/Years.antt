use Rattle.std.proofs.Common.{◌≡◌, ℕ, zero, suc, ◌+◌, ◌*◌, ◌/◌, ◌%◌, ◌-◌, ◌<◌, ◌≤◌, true, refl, sym, subst, arith, inl, inr, pos}
use Rattle.std.proofs.lemmas.Bool.{cases_eq, cases_lt, eq-eqb, ne_eqb}
use Rattle.std.proofs.lemmas.Grind.{common_steps}
use Rattle.jiff_core.specs.Calendar.{day_count, days_in_month, days_in_year, is_leap_year, IsCivilDate}
use Rattle.jiff_core.proofs.SignedLemmas.{signed_arith}
use Rattle.jiff_core.proofs.CalendarLemmas.{day_count-next_year, day_count-day_of_year, day_count-epoch, day_count-end, day_of_year_bound, days_in_year_bounds}
use Rattle.mesh_base_values.specs.Crons.{longest}

-- the count of days before a year
pub first : ℕ → ℕ
first y = day_count (pos y) 1 1

pub first_epoch : first 1970 ≡ 4_371_953
unfolding first
first_epoch = day_count-epoch

pub first_end : first 10_000 ≡ 7_304_850
unfolding first
first_end = day_count-end

pub year_step : (y next : ℕ) → next ≡ y + 1 → first next ≡ first y + days_in_year (pos y)
unfolding first
year_step y next e = day_count-next_year (pos y) (pos next) (omega (arith, signed_arith)) (omega (arith, signed_arith))

pub year_lt : (y next : ℕ) → next ≡ y + 1 → (first y + 365 ≤ first next) × (first next ≤ first y + 366)
year_lt y next e =
    let b = days_in_year_bounds (pos y) in
    let s = year_step y next e in
    (omega arith, omega arith)

pub years_between : (n y later : ℕ) → later ≡ y + n → (first y ≤ first later) × (first later ≤ first y + 366 * n)
years_between zero y later e =
    let is : later ≡ y = omega arith in
    subst (λ z. (first y ≤ first z) × (first z ≤ first y + 366 * 0)) (sym is) (omega arith, omega arith)
years_between (suc n) y later e =
    let rest = years_between n y (y + n) refl in
    let step = year_lt (y + n) later (omega arith) in
    (omega arith, omega arith)

pub year_of : (n day : ℕ) → first 1970 ≤ day → day < first (1970 + n) → (y : ℕ) × (1970 ≤ y) × (y < 1970 + n) × (first y ≤ day) × (day < first (y + 1))
year_of zero day low high = absurd (omega arith)
year_of (suc n) day low high =
    elim (cases_lt day (first (1970 + n))) [
      | inl below ↦ let y = year_of n day low below in (y.0, y.1, omega arith, y.3, y.4)
      | inr above ↦ (1970 + n, omega arith, omega arith, above, subst (λ z. day < first z) (omega arith) high)
    ]

pub in_year : (y m d : ℕ) → IsCivilDate (pos y) m d → (first y ≤ day_count (pos y) m d) × (day_count (pos y) m d < first (y + 1))
unfolding first
in_year y m d civil =
    let e = day_count-day_of_year (pos y) m d civil.2.0 in
    let b = day_of_year_bound (pos y) m d civil in
    let s = year_step y (y + 1) refl in
    let low : 1 ≤ d = civil.2.0 in
    (omega arith, omega arith)

leap_is : (y : ℕ) → y % 4 ≡ 0 → (y % 100 ≡ 0 → ⊥) → is_leap_year (pos y) ≡ true
leap_is y four century = grind (arith, common_steps)

pub leap_near : (y : ℕ) → 8 ≤ y → (leap : ℕ) × (leap < y) × (y ≤ leap + 8) × (is_leap_year (pos leap) ≡ true)
leap_near y h =
    let a : ℕ = (y - 1) / 4 * 4 in
    elim (cases_eq (a % 100) 0) [
      | inl e ↦ (a - 4, omega arith, omega arith, leap_is (a - 4) (omega arith) (omega arith))
      | inr ne ↦ (a, omega arith, omega arith, leap_is a (omega arith) ne)
    ]

february : (y m d : ℕ) → m ≡ 2 → d ≤ longest m → is_leap_year (pos y) ≡ true → d ≤ days_in_month (pos y) m
february y m d e le leap =
    let two = eq-eqb m 2 e in
    grind (arith, common_steps)

other : (y m d : ℕ) → (m ≡ 2 → ⊥) → d ≤ longest m → d ≤ days_in_month (pos y) m
other y m d ne le =
    let two = ne_eqb m 2 ne in
    grind (arith, common_steps)

pub has_longest : (y m d : ℕ) → 8 ≤ y → d ≤ longest m → (near : ℕ) × (near < y) × (y ≤ near + 8) × (d ≤ days_in_month (pos near) m)
has_longest y m d h le =
    elim (cases_eq m 2) [
      | inl e ↦ let near = leap_near y h in (near.0, near.1, near.2, february near.0 m d e le near.3)
      | inr ne ↦ (y - 1, omega arith, omega arith, other (y - 1) m d ne le)
    ]
