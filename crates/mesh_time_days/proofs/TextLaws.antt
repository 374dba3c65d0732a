use Rattle.std.proofs.Common.{◌≡◌, ℕ, ◌+◌, ◌*◌, ◌/◌, ◌%◌, ◌-◌, ◌<◌, ◌≤◌, refl, sym, ap, ◌∙◌, subst, arith, ℤ, pos, negsuc, ◌+ℤ◌, ◌*ℤ◌, ◌≤ℤ◌, unsigned_abs, List, [], ◌∷◌, ◌++◌, append-nil, take, drop, length, slice_index, inl, inr}
use Rattle.std.proofs.Math.ListN.{length-append}
use Rattle.std.proofs.lemmas.Int.{by_lt_z}
use Rattle.std.proofs.lemmas.List.{take_at, drop_at, take-append-drop}
use Rattle.jiff_core.specs.declared.civil.date.Date.{Date}
use Rattle.std.specs.Int.{int_rem_euclid}
use Rattle.jiff_core.specs.Date.{epoch_day}
use Rattle.jiff_core.proofs.SignedLemmas.{signed_arith, unsigned_abs-parts, one_part, int_div_euclid-parts, int_rem_euclid-parts}
use Rattle.jiff_core.proofs.CalendarLemmas.{days_from_civil-day_count, days_in_month_bounds}
use Rattle.jiff_core.proofs.MarchLemmas.{day_count-early}
use Rattle.jiff_core.proofs.DateLemmas.{epoch_day-lt, epoch_day_range, epoch_day_same}
use Rattle.mesh_time_days.specs.Moments.{date_text, day_at, day_number, minute_text, moment, second_at, second_text, IsDayText, IsMomentText, IsSecondText, IsTimeText, IsZoned}

-- the first day of the year 1
first_date : Date
first_date = record { year = pos 1; month = 1; day = 1; year_in = (omega (arith, signed_arith), omega (arith, signed_arith)); month_in = (omega arith, omega arith); day_in = (omega arith, omega (arith, days_in_month_bounds (pos 1) 1)) }

first_epoch_day : epoch_day first_date ≡ negsuc 719_161
unfolding first_date
first_epoch_day =
    let count = day_count-early (pos 1) 10_000 1 1 refl (omega arith) (omega arith) (omega arith) in
    omega (arith, signed_arith, days_from_civil-day_count (pos 1) 1 1)

pub from_year_one : (d : Date) → negsuc 719_161 ≤ℤ epoch_day d → pos 1 ≤ℤ d.year
unfolding first_date
from_year_one d h =
    by_lt_z d.year (pos 1)
    (λ lt. let before = epoch_day-lt d first_date (inl lt) in let e = first_epoch_day in absurd (omega (arith, signed_arith)))
    (λ le. le)

pub date_text_length : (d : Date) → length (date_text d) ≡ 10
unfolding date_text
date_text_length d = refl

pub date_text_same : (a b : Date) → a.year ≡ b.year → a.month ≡ b.month → a.day ≡ b.day → date_text a ≡ date_text b
unfolding date_text
date_text_same a b year month day = rw (year, month, day)

digits_back : (n : ℕ) → n < 100 → (48 + n / 10 - 48) * 10 + (48 + n % 10 - 48) ≡ n
digits_back n h = omega arith

pub date_parts : (d : Date) (text : List ℕ) (century year month day : ℕ) → pos 1 ≤ℤ d.year → text ≡ date_text d
    → century ≡ (slice_index text 0 - 48) * 10 + (slice_index text 1 - 48)
    → year ≡ (slice_index text 2 - 48) * 10 + (slice_index text 3 - 48)
    → month ≡ (slice_index text 5 - 48) * 10 + (slice_index text 6 - 48)
    → day ≡ (slice_index text 8 - 48) * 10 + (slice_index text 9 - 48)
    → (d.year ≡ pos (century * 100 + year)) × (d.month ≡ month) × (d.day ≡ day)
unfolding date_text
date_parts d text century year month day low e c y m n =
    let at : ℕ → ℕ → ℕ = λ i j. (slice_index text i - 48) * 10 + (slice_index text j - 48) in
    let of : (i j : ℕ) → (slice_index text i - 48) * 10 + (slice_index text j - 48) ≡ (slice_index (date_text d) i - 48) * 10 + (slice_index (date_text d) j - 48) = λ i j. ap (λ t. (slice_index t i - 48) * 10 + (slice_index t j - 48)) e in
    let whole : ℕ = unsigned_abs d.year in
    let abs = unsigned_abs-parts d.year in
    let one = one_part d.year in
    let high = d.year_in in
    let months = d.month_in in
    let days = d.day_in in
    let long = days_in_month_bounds d.year d.month in
    let up_to : whole ≤ 9999 = omega (arith, signed_arith) in
    let c2 = c ∙ of 0 1 ∙ digits_back (whole / 100) (omega arith) in
    let y2 = y ∙ of 2 3 ∙ digits_back (whole % 100) (omega arith) in
    let m2 = m ∙ of 5 6 ∙ digits_back d.month (omega arith) in
    let n2 = n ∙ of 8 9 ∙ digits_back d.day (omega arith) in
    (omega (arith, signed_arith), sym m2, sym n2)

pub zoned_tail : (form text : List ℕ) → IsZoned form text → (tail : List ℕ) × (text ≡ form ++ tail) × (length tail ≤ 1)
unfolding IsZoned
zoned_tail form text (inl e) = ([], e ∙ sym (append-nil form), omega arith)
zoned_tail form text (inr e) = (90 ∷ [], e, omega arith)

pub no_time : (second : ℕ) (text : List ℕ) → length text < 6 → IsTimeText second text → 0 ≡ second
unfolding IsTimeText minute_text second_text
no_time second text h (inl (zero, z)) = sym zero
no_time second text h (inr (inl (even, z))) =
    let t = zoned_tail _ _ z in
    let n = ap length t.1 in
    absurd (omega arith)
no_time second text h (inr (inr z)) =
    let t = zoned_tail _ _ z in
    let n = ap length t.1 in
    absurd (omega arith)

pub minute_time : (second : ℕ) (text : List ℕ) (hours minutes : ℕ) → 6 ≤ length text → length text < 9 → second < 86_400
    → hours ≡ (slice_index text 1 - 48) * 10 + (slice_index text 2 - 48)
    → minutes ≡ (slice_index text 4 - 48) * 10 + (slice_index text 5 - 48)
    → IsTimeText second text → hours * 3600 + minutes * 60 ≡ second
unfolding IsTimeText minute_text second_text
minute_time second text hours minutes low high h hi mi (inl (zero, z)) =
    let t = zoned_tail _ _ z in
    let n = ap length t.1 in
    absurd (omega arith)
minute_time second text hours minutes low high h hi mi (inr (inl (even, z))) =
    let t = zoned_tail _ _ z in
    let hour = hi ∙ ap (λ x. (slice_index x 1 - 48) * 10 + (slice_index x 2 - 48)) t.1 ∙ digits_back (second / 3600) (omega arith) in
    let minute = mi ∙ ap (λ x. (slice_index x 4 - 48) * 10 + (slice_index x 5 - 48)) t.1 ∙ digits_back (second / 60 % 60) (omega arith) in
    omega arith
minute_time second text hours minutes low high h hi mi (inr (inr z)) =
    let t = zoned_tail _ _ z in
    let n = ap length t.1 in
    absurd (omega arith)

pub second_time : (second : ℕ) (text : List ℕ) (hours minutes seconds : ℕ) → 9 ≤ length text → second < 86_400
    → hours ≡ (slice_index text 1 - 48) * 10 + (slice_index text 2 - 48)
    → minutes ≡ (slice_index text 4 - 48) * 10 + (slice_index text 5 - 48)
    → seconds ≡ (slice_index text 7 - 48) * 10 + (slice_index text 8 - 48)
    → IsTimeText second text → hours * 3600 + minutes * 60 + seconds ≡ second
unfolding IsTimeText minute_text second_text
second_time second text hours minutes seconds low h hi mi si (inl (zero, z)) =
    let t = zoned_tail _ _ z in
    let n = ap length t.1 in
    absurd (omega arith)
second_time second text hours minutes seconds low h hi mi si (inr (inl (even, z))) =
    let t = zoned_tail _ _ z in
    let n = ap length t.1 in
    absurd (omega arith)
second_time second text hours minutes seconds low h hi mi si (inr (inr z)) =
    let t = zoned_tail _ _ z in
    let hour = hi ∙ ap (λ x. (slice_index x 1 - 48) * 10 + (slice_index x 2 - 48)) t.1 ∙ digits_back (second / 3600) (omega arith) in
    let minute = mi ∙ ap (λ x. (slice_index x 4 - 48) * 10 + (slice_index x 5 - 48)) t.1 ∙ digits_back (second / 60 % 60) (omega arith) in
    let last = si ∙ ap (λ x. (slice_index x 7 - 48) * 10 + (slice_index x 8 - 48)) t.1 ∙ digits_back (second % 60) (omega arith) in
    omega arith

pub day_text_length : (day : ℤ) (text : List ℕ) → IsDayText day text → length text ≡ 10
unfolding IsDayText
day_text_length day text (d, year, is, e) = ap length e ∙ date_text_length d

pub day_text_range : (day : ℤ) (text : List ℕ) → IsDayText day text → day ≤ℤ pos 2_932_896
unfolding IsDayText
day_text_range day text (d, year, is, e) = subst (λ z. z ≤ℤ pos 2_932_896) is (epoch_day_range d).1

pub one_day : (a b : ℤ) (text : List ℕ) → IsDayText a text → IsDayText b text → a ≡ b
unfolding IsDayText
one_day a b text (d, year, is, e) (d2, year2, is2, e2) =
    let p = date_parts d text _ _ _ _ year e refl refl refl refl in
    let q = date_parts d2 text _ _ _ _ year2 e2 refl refl refl refl in
    sym is ∙ epoch_day_same d d2 (p.0 ∙ sym q.0) (p.1 ∙ sym q.1) (p.2 ∙ sym q.2) ∙ is2

-- the two parts of a moment's text
pub moment_parts : (t : ℤ) (text : List ℕ) → IsMomentText t text → (10 ≤ length text) × IsDayText (day_at t) (take 10 text) × IsTimeText (second_at t) (drop 10 text) × (pos 0 ≤ℤ t)
unfolding IsMomentText
moment_parts t text (range, (date, time, day, second, e)) =
    let n = day_text_length (day_at t) date day in
    let front : take 10 text ≡ date = ap (take 10) e ∙ take_at date time 10 n in
    let back : drop 10 text ≡ time = ap (drop 10) e ∙ drop_at date time 10 n in
    let long : length text ≡ length date + length time = ap length e ∙ length-append date time in
    (omega arith, subst (λ x. IsDayText (day_at t) x) (sym front) day, subst (λ x. IsTimeText (second_at t) x) (sym back) second, range.0)

pub second_bound : (t : ℤ) → second_at t < 86_400
second_bound t =
    let r = int_rem_euclid-parts t 86_400 (omega arith) in
    omega (arith, signed_arith, unsigned_abs-parts (int_rem_euclid t (pos 86_400)))

pub day_not_below : (t : ℤ) → pos 0 ≤ℤ t → pos 0 ≤ℤ day_at t
day_not_below t h =
    let d = int_div_euclid-parts t 86_400 (omega arith) in
    omega (arith, signed_arith)

pub parts_of : (t day : ℤ) (second : ℕ) → t ≡ day *ℤ pos 86_400 +ℤ pos second → second < 86_400 → (day_at t ≡ day) × (second_at t ≡ second)
parts_of t day second e h =
    let d = int_div_euclid-parts t 86_400 (omega arith) in
    let r = int_rem_euclid-parts t 86_400 (omega arith) in
    (omega (arith, signed_arith), omega (arith, signed_arith))

pub moment_made : (t day : ℤ) (second : ℕ) (text : List ℕ) → t ≡ day *ℤ pos 86_400 +ℤ pos second → second < 86_400 → pos 0 ≤ℤ day → IsDayText day (take 10 text) → IsTimeText second (drop 10 text) → IsMomentText t text
unfolding IsMomentText
moment_made t day second text e h low first rest =
    let p = parts_of t day second e h in
    let high = day_text_range day (take 10 text) first in
    ((omega (arith, signed_arith), omega (arith, signed_arith)), (take 10 text, drop 10 text, subst (λ d. IsDayText d (take 10 text)) (sym p.0) first, subst (λ s. IsTimeText s (drop 10 text)) (sym p.1) rest, sym (take-append-drop 10 text)))

-- the nineteen bytes of a text of ten and one of nine
abbrev pub glued : List ℕ → List ℕ → List ℕ
glued a s =
    slice_index a 0 ∷ slice_index a 1 ∷ slice_index a 2 ∷ slice_index a 3 ∷ slice_index a 4 ∷ slice_index a 5 ∷ slice_index a 6 ∷ slice_index a 7 ∷ slice_index a 8 ∷ slice_index a 9
    ∷ slice_index s 0 ∷ slice_index s 1 ∷ slice_index s 2 ∷ slice_index s 3 ∷ slice_index s 4 ∷ slice_index s 5 ∷ slice_index s 6 ∷ slice_index s 7 ∷ slice_index s 8 ∷ []

glued_is : (d : Date) (second : ℕ) → glued (date_text d) (second_text second) ≡ date_text d ++ second_text second
unfolding date_text second_text minute_text
glued_is d second = refl

pub glued_text : (day : ℤ) (second : ℕ) (a s : List ℕ) → IsDayText day a → s ≡ second_text second → glued a s ≡ a ++ second_text second
unfolding IsDayText
glued_text day second a s (d, year, is, e) f =
    ap (λ x. glued x s) e ∙ ap (λ x. glued (date_text d) x) f ∙ glued_is d second ∙ ap (λ x. x ++ second_text second) (sym e)

pub second_made : (t day : ℤ) (second : ℕ) (a s : List ℕ) → day_at t ≡ day → second_at t ≡ second → IsDayText day a → s ≡ second_text second → IsSecondText t (glued a s)
unfolding IsSecondText
second_made t day second a s d e is f =
    (a, subst (λ x. IsDayText x a) (sym d) is, glued_text day second a s is f ∙ ap (λ x. a ++ second_text x) (sym e))

pub parts_at : (t : ℤ) (day second : ℕ) → t ≡ moment day second → second < 86_400 → (day_at t ≡ day_number day) × (second_at t ≡ second)
unfolding moment day_number
parts_at t day second e h =
    let d = int_div_euclid-parts t 86_400 (omega arith) in
    let r = int_rem_euclid-parts t 86_400 (omega arith) in
    (omega (arith, signed_arith), omega (arith, signed_arith))
