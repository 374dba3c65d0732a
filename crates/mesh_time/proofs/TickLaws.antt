use Rattle.std.proofs.Common.{◌&&◌, ap, ◌≡◌, ℕ, ◌+◌, ◌*◌, ◌/◌, ◌%◌, ◌-◌, ◌<◌, ◌≤◌, Bool, false, refl, sym, ◌∙◌, subst, arith, IsTrue, ℤ, pos, ◌+ℤ◌, ◌-ℤ◌, ◌<ℤ◌, ◌≤ℤ◌, ◌↔◌, unsigned_abs, add-one, cond}
use Rattle.std.proofs.lemmas.Int.{by_lt_z}
use Rattle.jiff_core.specs.declared.civil.date.Date.{Date}
use Rattle.jiff_core.specs.Date.{epoch_day}
use Rattle.jiff_core.proofs.SignedLemmas.{signed_arith, unsigned_abs-parts, one_part}
use Rattle.jiff_core.proofs.DateLemmas.{epoch_day_injective}
use Rattle.mesh_base_values.specs.Crons.{CronSets, has, count_below}
use Rattle.mesh_time_days.specs.Moments.{moment, day_number, day_at, second_at, IsDayNumber}
use Rattle.mesh_time_days.proofs.TextLaws.{parts_at}
use Rattle.mesh_time.specs.Ticks.{calendar_day, date_matches, day_matches, minute_matches, weekday, IsFloor, IsQuiet, IsTick, IsTickDay}

pub count_more : (p : ℕ → Bool) (n : ℕ) → count_below p (n + 1) ≡ count_below p n + cond (p n) 1 0
unfolding count_below
count_more p n = rw add-one refl

pub in_calendar : (day : ℤ) → IsDayNumber day → calendar_day day ≡ day
unfolding calendar_day
in_calendar day h = grind (arith, signed_arith)

pub tick_day : (c : CronSets) (day : ℤ) (d : Date) → IsDayNumber day → epoch_day d ≡ day → IsTrue (date_matches c d) ↔ IsTickDay c day
unfolding date_matches IsTickDay
tick_day c day d h e =
    let P : ℕ → ℕ → ℤ → Type 0 = λ m dom z. IsTrue (has c.month m && day_matches c dom (weekday z)) in (
      λ m. (d, e ∙ sym (in_calendar day h), subst (λ z. P d.month d.day z) e m),
      λ (other, is, m).
          let same = epoch_day_injective other d (is ∙ in_calendar day h ∙ sym e) in
          subst (λ z. P d.month d.day z) (sym e) (subst (λ x. P d.month x day) same.2 (subst (λ x. P x other.day day) same.1 m)),
    )

pub is_day_number : (day : ℕ) → day ≤ 3_652_058 → IsDayNumber (day_number day)
unfolding day_number
is_day_number day h = (omega (arith, signed_arith), omega (arith, signed_arith))

pub tick_at : (c : CronSets) (t : ℤ) (day second : ℕ) → t ≡ moment day second → second < 86_400 → IsTick c t ↔ ((second % 60 ≡ 0) × IsTrue (minute_matches c (second / 60)) × IsTickDay c (day_number day))
unfolding IsTick
tick_at c t day second e h =
    let p = parts_at t day second e h in
    let P : ℤ → ℕ → Type 0 = λ d s. (s % 60 ≡ 0) × IsTrue (minute_matches c (s / 60)) × IsTickDay c d in (
      λ k. subst (λ d. P d second) p.0 (subst (λ s. P (day_at t) s) p.1 k),
      λ k. subst (λ d. P d (second_at t)) (sym p.0) (subst (λ s. P (day_number day) s) (sym p.1) k),
    )

-- a moment of a day is so many seconds after its first
within : (t : ℤ) (day second : ℕ) → moment day 0 ≤ℤ t → t ≤ℤ moment day second → (s : ℕ) × (t ≡ moment day s) × (s ≤ second)
unfolding moment day_number
within t day second low high =
    let s : ℕ = unsigned_abs (t -ℤ moment day 0) in
    let is = unsigned_abs-parts (t -ℤ moment day 0) in
    let one = one_part (t -ℤ moment day 0) in
    (s, omega (arith, signed_arith), omega (arith, signed_arith))

pub quiet_day : (c : CronSets) (day second : ℕ) → second < 86_400 → ¬ IsTickDay c (day_number day) → IsQuiet c (moment day 0) (moment day second)
unfolding IsQuiet
quiet_day c day second h never t low high tick =
    let w = within t day second low high in
    never ((tick_at c t day w.0 w.1 (omega arith)).0 tick).2

pub quiet_minutes : (c : CronSets) (day second : ℕ) → second < 86_400 → ((n : ℕ) → n ≤ second / 60 → minute_matches c n ≡ false) → IsQuiet c (moment day 0) (moment day second)
unfolding IsQuiet
quiet_minutes c day second h never t low high tick =
    let w = within t day second low high in
    let matched = ((tick_at c t day w.0 w.1 (omega arith)).0 tick).1 in
    let fails = never (w.0 / 60) (omega arith) in
    absurd (cc)

moment_order : (day a b : ℕ) → a ≤ b → moment day a ≤ℤ moment day b
unfolding moment day_number
moment_order day a b h = omega (arith, signed_arith)

moment_less : (day a b : ℕ) → moment day a <ℤ moment day b → a < b
unfolding moment day_number
moment_less day a b h = omega (arith, signed_arith)

moment_from : (t : ℤ) (day a : ℕ) → moment day a <ℤ t → moment day 0 ≤ℤ t
unfolding moment day_number
moment_from t day a h = omega (arith, signed_arith)

pub floor_on : (c : CronSets) (day second minute : ℕ) → second < 86_400 → IsTickDay c (day_number day) → IsTrue (minute_matches c minute) → minute ≤ second / 60 → ((n : ℕ) → minute < n → n ≤ second / 60 → minute_matches c n ≡ false) → IsFloor c (moment day second) (moment day (minute * 60))
unfolding IsFloor
floor_on c day second minute h on matched le never =
    let div : minute * 60 / 60 ≡ minute = omega arith in (
      (tick_at c (moment day (minute * 60)) day (minute * 60) refl (omega arith)).1 (omega arith, subst (λ n. IsTrue (minute_matches c n)) (sym div) matched, on),
      moment_order day _ _ (omega arith),
      λ later above below k.
          let w = within later day second (moment_from later day (minute * 60) above) below in
          let t = (tick_at c later day w.0 w.1 (omega arith)).0 k in
          let r : w.0 % 60 ≡ 0 = t.0 in
          let more = moment_less day (minute * 60) w.0 (subst (λ x. moment day (minute * 60) <ℤ x) w.1 above) in
          let fails = never (w.0 / 60) (omega arith) (omega arith) in
          let seen = t.1 in
          absurd (cc),
    )

pub quiet_over : (c : CronSets) (first mid next last : ℤ) → IsQuiet c first mid → IsQuiet c next last → next ≡ mid +ℤ pos 1 → IsQuiet c first last
unfolding IsQuiet
quiet_over c first mid next last early late e t low high tick =
    by_lt_z mid t (λ above. late t (omega (arith, signed_arith)) high tick) (λ below. early t low below tick)

pub floor_over : (c : CronSets) (mid next last tick : ℤ) → IsFloor c mid tick → IsQuiet c next last → next ≡ mid +ℤ pos 1 → mid ≤ℤ last → IsFloor c last tick
unfolding IsFloor IsQuiet
floor_over c mid next last tick (is, le, none) quiet e h = (
  is,
  omega (arith, signed_arith),
  λ later above below k.
      by_lt_z mid later (λ beyond. quiet later (omega (arith, signed_arith)) below k) (λ within. none later above within k),
)

-- the second after a day's last one is the next day's first
pub next_day : (day next : ℕ) → next ≡ day + 1 → moment next 0 ≡ moment day 86_399 +ℤ pos 1
unfolding moment day_number
next_day day next e = omega (arith, signed_arith)

pub moment_far : (day later a b : ℕ) → day < later → a < 86_400 → moment day a ≤ℤ moment later b
unfolding moment day_number
moment_far day later a b h k = omega (arith, signed_arith)

pub moment_le : (day later a : ℕ) → day ≤ later → moment day a ≤ℤ moment later a
unfolding moment day_number
moment_le day later a h = omega (arith, signed_arith)

pub quiet_nowhere : (c : CronSets) (day first : ℕ) → 1 ≤ day → first ≡ day → IsQuiet c (moment first 0) (moment (day - 1) 86_399)
unfolding IsQuiet
quiet_nowhere c day first h is t low high tick =
    let e = next_day (day - 1) first (omega arith) in
    absurd (omega (arith, signed_arith))

pub quiet_more : (c : CronSets) (day next first : ℕ) (last : ℤ) → IsQuiet c (moment day 0) (moment day 86_399) → IsQuiet c (moment next 0) last → next ≡ day + 1 → first ≡ day → IsQuiet c (moment first 0) last
quiet_more c day next first last early late e is =
    subst (λ d. IsQuiet c (moment d 0) last) (sym is) (quiet_over c (moment day 0) (moment day 86_399) (moment next 0) last early late (next_day day next e))

pub from_epoch : (t : ℤ) (day second : ℕ) → t ≡ moment day second → second < 86_400 → pos 0 ≤ℤ t → 719_162 ≤ day
unfolding moment day_number
from_epoch t day second e h low = omega (arith, signed_arith)

pub moment_between : (day start last second : ℕ) → start ≤ day → day ≤ last → second ≤ 86_399 → (moment start 0 ≤ℤ moment day second) × (moment day second ≤ℤ moment last 86_399)
unfolding moment day_number
moment_between day start last second low high h = (omega (arith, signed_arith), omega (arith, signed_arith))

pub hour_off : (c : CronSets) (n hour : ℕ) → n / 60 ≡ hour → has c.hour hour ≡ false → minute_matches c n ≡ false
unfolding minute_matches
hour_off c n hour e h = ap (λ t. t && has c.minute (n % 60)) (ap (has c.hour) e ∙ h)
