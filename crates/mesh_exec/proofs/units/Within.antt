-- A time that lies in a unit meets `BETWEEN` its start `AND` its end exactly where the macros are of the time's own
-- type.
use Rattle.std.proofs.Common.{◌≡◌, ℕ, ◌^◌, Bool, true, false, ◌&&◌, cond, List, Some, None, ℤ, pos, negsuc, ◌<ℤ◌, ◌≤ℤ◌, ◌↔◌, refl, ap, ◌∙◌, arith}
use Rattle.std.specs.Ordering.{int_cmp, is_ge, is_gt, is_le, nat_cmp, ordering_reverse}
use Rattle.std.specs.Cmp.Lexicographic.{slice_cmp}
use Rattle.std.specs.Option.{option_map}
use Rattle.std.specs.declared.cmp.Ordering.{Ordering}
use Rattle.std.specs.declared.cmp.Ordering.TheVariants.{Less, Equal, Greater}
use Rattle.std.specs.declared.option.Option.{Option}
use Rattle.std.proofs.lemmas.Bool.{lt-ltb}
use Rattle.std.proofs.lemmas.Cmp.{int_ranked}
use Rattle.jiff_core.proofs.SignedLemmas.{signed_arith, int_div_euclid-parts}
use Rattle.mesh_base_values.specs.NameOrder.{texts_total}
use Rattle.mesh_base_values.specs.declared.times.Bounds.{Bounds}
use Rattle.mesh_base_values.specs.declared.values.Cell.{Cell}
use Rattle.mesh_base_values.specs.declared.values.Cell.TheVariants.{Null, Int, Text, Date, Bool as Truth}
use Rattle.mesh_base.specs.declared.expressions.Var.{Var}
use Rattle.mesh_base.specs.declared.expressions.Var.TheVariants.{StartDate, EndDate, StartDs, EndDs, StartEpoch, EndEpoch}
use Rattle.mesh_time_days.specs.Moments.{IsDayNumber, day_at}
use Rattle.mesh_time_days.specs.seconds.Times.{first_second, time_of}
use Rattle.mesh_time_days.specs.casts.Casts.{cast_to_text}
use Rattle.mesh_time_days.specs.casts.Dates.{day_named, day_text}
use Rattle.mesh_time_days.proofs.casts.CalendarDays.{is-named}
use Rattle.mesh_time_days.proofs.casts.DayTexts.{text_is}
use Rattle.mesh_spec_query.specs.Cells.{between, fits, is_true}
use Rattle.mesh_spec_query.specs.Macros.{last_second, macro_value}
use Rattle.mesh_spec_changes.specs.steady.Steady.{are_ends_by}
use Rattle.mesh_exec.specs.units.Units.{IsInDays, IsUnit}
use Rattle.mesh_exec.proofs.units.DayOrder.{days_upto, tested}

in_days : (t : ℤ) → IsInDays t → IsDayNumber (day_at t)
in_days t h =
    let d = int_div_euclid-parts t 86_400 (omega arith) in
    (omega (arith, signed_arith), omega (arith, signed_arith))

of_days : (t : ℤ) → IsDayNumber (day_at t) → IsInDays t
of_days t h =
    let d = int_div_euclid-parts t 86_400 (omega arith) in
    (omega (arith, signed_arith), omega (arith, signed_arith))

pub seconds_of_days : (t : ℤ) → IsInDays t ↔ IsDayNumber (day_at t)
seconds_of_days t = (in_days t, of_days t)

ge_by : (x y : ℤ) → y ≤ℤ x → (o : Ordering) → o ≡ int_cmp x y → is_ge o ≡ true
ge_by x y le Less e = let lt : x <ℤ y = int_ranked x y Less e in absurd (omega (arith, signed_arith, lt, le))
ge_by x y le Equal e = refl
ge_by x y le Greater e = refl

int_ge : (x y : ℤ) → y ≤ℤ x → is_ge (int_cmp x y) ≡ true
int_ge x y le = ge_by x y le (int_cmp x y) refl

le_by : (x y : ℤ) → x ≤ℤ y → (o : Ordering) → o ≡ int_cmp x y → is_le o ≡ true
le_by x y le Less e = refl
le_by x y le Equal e = refl
le_by x y le Greater e = let lt : y <ℤ x = int_ranked x y Greater e in absurd (omega (arith, signed_arith, lt, le))

int_le : (x y : ℤ) → x ≤ℤ y → is_le (int_cmp x y) ≡ true
int_le x y le = le_by x y le (int_cmp x y) refl

upto_le : (o : Ordering) → is_gt o ≡ false → is_le o ≡ true
upto_le Less h = refl
upto_le Equal h = refl
upto_le Greater h = absurd (cc)

upto_ge : (o : Ordering) → is_gt o ≡ false → is_ge (ordering_reverse o) ≡ true
upto_ge Less h = refl
upto_ge Equal h = refl
upto_ge Greater h = absurd (cc)

fits_here : (z : ℤ) → IsInDays z → fits z ≡ true
fits_here (pos n) h = lt-ltb n (2 ^ 63) (omega (arith, signed_arith))
fits_here (negsuc n) h = lt-ltb n (2 ^ 63) (omega (arith, signed_arith))

-- the macros are of the time's type
abbrev pub of_kind : Cell → Var → Bool
of_kind (Int n) StartEpoch = true
of_kind (Date d) StartDate = true
of_kind (Text x) StartDs = true
of_kind v start = false

module _ (b : Bounds) (unit : IsUnit b) where
  abbrev first : ℤ
  first = day_at b.start

  abbrev last : ℤ
  last = day_at (last_second b)

  last_here : IsInDays (last_second b)
  last_here = let begins = unit.1.0 in let ends = unit.2.1 in let below = unit.0 in (omega (arith, signed_arith), omega (arith, signed_arith))

  first_in : IsDayNumber first
  first_in = in_days b.start unit.1

  last_in : IsDayNumber last
  last_in = in_days (last_second b) last_here

  start_date : macro_value StartDate b ≡ Date first
  start_date = ap (λ (t : Bool). cond t (Date first) Null) (tested first first_in)

  end_date : macro_value EndDate b ≡ Date last
  end_date = ap (λ (t : Bool). cond t (Date last) Null) (tested last last_in)

  start_ds : macro_value StartDs b ≡ Text (day_text first)
  start_ds = ap cast_to_text start_date

  end_ds : macro_value EndDs b ≡ Text (day_text last)
  end_ds = ap cast_to_text end_date

  end_epoch : macro_value EndEpoch b ≡ Int (last_second b)
  end_epoch = ap (λ (t : Bool). cond t (Int (last_second b)) Null) (fits_here (last_second b) last_here)

  -- a day whose first second lies in the unit is between those of its ends
  from_first : (d t : ℤ) → first_second d ≡ t → b.start ≤ℤ t → first ≤ℤ d
  from_first d t is low = let q = int_div_euclid-parts b.start 86_400 (omega arith) in omega (arith, signed_arith, is, low, q)

  to_last : (d t : ℤ) → first_second d ≡ t → t <ℤ b.end → d ≤ℤ last
  to_last d t is high = let q = int_div_euclid-parts (last_second b) 86_400 (omega arith) in omega (arith, signed_arith, is, high, q)

  between_days : (d : ℤ) → first ≤ℤ d → d ≤ℤ last → IsDayNumber d
  between_days d low high = let p = first_in in let q = last_in in (omega (arith, signed_arith, low, p), omega (arith, signed_arith, high, q))

  some_same : (x y : ℤ) → ◌≡◌ {A = Option ℤ} (Some x) (Some y) → x ≡ y
  some_same x y e = cc

  by_date : (v : Cell) (t : ℤ) → time_of v ≡ Some t → b.start ≤ℤ t → t <ℤ b.end → is_true (between v (macro_value StartDate b) (macro_value EndDate b)) ≡ of_kind v StartDate
  by_date v t at low high = (λ i. is_true (between v (start_date i) (end_date i))) ∙ go v at
    where
      go : (v : Cell) → time_of v ≡ Some t → is_true (between v (Date first) (Date last)) ≡ of_kind v StartDate
      go Null at = absurd (cc)
      go (Int n) at = refl
      go (Text x) at = refl
      go (Date d) at =
          let is = some_same (first_second d) t at in
          λ i. int_ge d first (from_first d t is low) i && int_le d last (to_last d t is high) i
      go (Truth c) at = absurd (cc)

  by_epoch : (v : Cell) (t : ℤ) → time_of v ≡ Some t → b.start ≤ℤ t → t <ℤ b.end → is_true (between v (macro_value StartEpoch b) (macro_value EndEpoch b)) ≡ of_kind v StartEpoch
  by_epoch v t at low high = (λ i. is_true (between v (Int b.start) (end_epoch i))) ∙ go v at
    where
      go : (v : Cell) → time_of v ≡ Some t → is_true (between v (Int b.start) (Int (last_second b))) ≡ of_kind v StartEpoch
      go Null at = absurd (cc)
      go (Int n) at =
          let is = some_same n t at in
          λ i. int_ge n b.start (omega (arith, signed_arith, is, low)) i && int_le n (last_second b) (omega (arith, signed_arith, is, high)) i
      go (Text x) at = refl
      go (Date d) at = refl
      go (Truth c) at = absurd (cc)

  by_text : (v : Cell) (t : ℤ) → time_of v ≡ Some t → b.start ≤ℤ t → t <ℤ b.end → is_true (between v (macro_value StartDs b) (macro_value EndDs b)) ≡ of_kind v StartDs
  by_text v t at low high = (λ i. is_true (between v (start_ds i) (end_ds i))) ∙ go v at
    where
      named : (x : List ℕ) (o : Option ℤ) → day_named x ≡ o → option_map first_second o ≡ Some t → is_true (between (Text x) (Text (day_text first)) (Text (day_text last))) ≡ true
      named x None is at = absurd (cc)
      named x (Some d) is at =
          let e = some_same (first_second d) t at in
          let from = from_first d t e low in
          let to = to_last d t e high in
          let here = between_days d from to in
          let text : x ≡ day_text d = text_is d x here (is-named x d is) in
          let ge : is_ge (slice_cmp nat_cmp (day_text d) (day_text first)) ≡ true = ap is_ge (texts_total.antisymm (day_text d) (day_text first)) ∙ upto_ge _ (days_upto first d first_in here from) in
          let le : is_le (slice_cmp nat_cmp (day_text d) (day_text last)) ≡ true = upto_le _ (days_upto d last here last_in to) in
          ap (λ y. is_ge (slice_cmp nat_cmp y (day_text first)) && is_le (slice_cmp nat_cmp y (day_text last))) text ∙ (λ i. ge i && le i)

      go : (v : Cell) → time_of v ≡ Some t → is_true (between v (Text (day_text first)) (Text (day_text last))) ≡ of_kind v StartDs
      go Null at = absurd (cc)
      go (Int n) at = refl
      go (Text x) at = named x (day_named x) refl at
      go (Date d) at = refl
      go (Truth c) at = absurd (cc)

  pub meets : (v : Cell) (t : ℤ) (start end : Var) → are_ends_by start end ≡ true → time_of v ≡ Some t → b.start ≤ℤ t → t <ℤ b.end → is_true (between v (macro_value start b) (macro_value end b)) ≡ of_kind v start
  meets v t StartDate StartDate ends at low high = absurd (cc)
  meets v t StartDate EndDate ends at low high = by_date v t at low high
  meets v t StartDate StartDs ends at low high = absurd (cc)
  meets v t StartDate EndDs ends at low high = absurd (cc)
  meets v t StartDate StartEpoch ends at low high = absurd (cc)
  meets v t StartDate EndEpoch ends at low high = absurd (cc)
  meets v t EndDate end ends at low high = absurd (cc)
  meets v t StartDs StartDate ends at low high = absurd (cc)
  meets v t StartDs EndDate ends at low high = absurd (cc)
  meets v t StartDs StartDs ends at low high = absurd (cc)
  meets v t StartDs EndDs ends at low high = by_text v t at low high
  meets v t StartDs StartEpoch ends at low high = absurd (cc)
  meets v t StartDs EndEpoch ends at low high = absurd (cc)
  meets v t EndDs end ends at low high = absurd (cc)
  meets v t StartEpoch StartDate ends at low high = absurd (cc)
  meets v t StartEpoch EndDate ends at low high = absurd (cc)
  meets v t StartEpoch StartDs ends at low high = absurd (cc)
  meets v t StartEpoch EndDs ends at low high = absurd (cc)
  meets v t StartEpoch StartEpoch ends at low high = absurd (cc)
  meets v t StartEpoch EndEpoch ends at low high = by_epoch v t at low high
  meets v t EndEpoch end ends at low high = absurd (cc)
