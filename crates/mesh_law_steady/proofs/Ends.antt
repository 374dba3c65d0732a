-- What lies between the ends of a unit has a time in the unit, or on its day before it.
use Rattle.std.proofs.Common.{◌≡◌, Bool, true, false, ◌&&◌, cond, ℤ, pos, negsuc, ◌*ℤ◌, ◌<ℤ◌, ◌≤ℤ◌, refl, sym, ap, ◌∙◌, subst, arith}
use Rattle.std.specs.Int.{int_div_euclid}
use Rattle.std.specs.Int.Signed.{le_z, lt_z}
use Rattle.std.specs.Ordering.{int_cmp, is_ge, is_le, nat_cmp}
use Rattle.std.specs.Cmp.Lexicographic.{slice_cmp}
use Rattle.std.specs.Option.{option_map}
use Rattle.std.specs.declared.cmp.Ordering.{Ordering}
use Rattle.std.specs.declared.cmp.Ordering.TheVariants.{Less, Equal, Greater}
use Rattle.std.specs.declared.option.Option.{Option}
use Rattle.std.specs.declared.option.Option.TheVariants.{Some}
use Rattle.std.proofs.lemmas.Bool.{and_parts, and_from as and_true}
use Rattle.std.proofs.lemmas.Cmp.{int_ranked}
use Rattle.std.proofs.lemmas.Int.{ints}
use Rattle.std.proofs.lemmas.Map.Lookups.{exact_bytes}
use Rattle.jiff_core.proofs.SignedLemmas.{signed_arith, int_div_euclid-parts}
use Rattle.mesh_base_values.specs.declared.times.Bounds.{Bounds}
use Rattle.mesh_base_values.specs.declared.values.Cell.{Cell}
use Rattle.mesh_base_values.specs.declared.values.Cell.TheVariants.{Null, Int, Text, Date, Bool as Truth}
use Rattle.mesh_base_values.proofs.Tests.{lt_true, le_true, le_says}
use Rattle.mesh_base.specs.declared.expressions.Var.{Var}
use Rattle.mesh_base.specs.declared.expressions.Var.TheVariants.{StartDate, EndDate, StartDs, EndDs, StartEpoch, EndEpoch}
use Rattle.mesh_time_days.specs.Moments.{IsDayNumber}
use Rattle.mesh_time_days.specs.seconds.Times.{first_second, is_within, time_of}
use Rattle.mesh_time_days.specs.casts.Casts.{cast_to_text}
use Rattle.mesh_time_days.specs.casts.Dates.{day_named, day_text, is_day_number}
use Rattle.mesh_spec_query.specs.Cells.{between, both, compared, day, fits, is_true}
use Rattle.mesh_spec_query.specs.Macros.{last_second, macro_value}
use Rattle.mesh_spec_changes.specs.steady.Steady.{are_ends_by}
use Rattle.mesh_spec_changes.specs.steady.Arrives.{from_its_day}
use Rattle.mesh_law_steady.specs.Days.{IsOfDay}
use Rattle.mesh_law_steady.proofs.Dates.{names_its_day}

-- an AND is true where both sides are
pub true_both : (x y : Cell) → is_true (both x y) ≡ (is_true x && is_true y)
true_both Null Null = refl
true_both Null (Int n) = refl
true_both Null (Text t) = refl
true_both Null (Date d) = refl
true_both Null (Truth true) = refl
true_both Null (Truth false) = refl
true_both (Int n) y = refl
true_both (Text t) y = refl
true_both (Date d) y = refl
true_both (Truth true) Null = refl
true_both (Truth false) Null = refl
true_both (Truth true) (Int n) = refl
true_both (Truth false) (Int n) = refl
true_both (Truth true) (Text t) = refl
true_both (Truth false) (Text t) = refl
true_both (Truth true) (Date d) = refl
true_both (Truth false) (Date d) = refl
true_both (Truth a) (Truth b) = refl

-- both comparisons are true
ends_of : (x low high : Cell) → is_true (between x low high) ≡ true → (is_true (compared is_ge x low) ≡ true) × (is_true (compared is_le x high) ≡ true)
ends_of x low high h = and_parts (is_true (compared is_ge x low)) (is_true (compared is_le x high)) (sym (true_both (compared is_ge x low) (compared is_le x high)) ∙ h)

ge_says : (x y : ℤ) → is_ge (int_cmp x y) ≡ true → y ≤ℤ x
ge_says x y h = go (int_cmp x y) refl h
  where
    go : (o : Ordering) → o ≡ int_cmp x y → is_ge o ≡ true → y ≤ℤ x
    go Less e h = absurd (cc)
    go Equal e h = let same : x ≡ y = int_ranked x y Equal e in omega (arith, ints, same)
    go Greater e h = let more : y <ℤ x = int_ranked x y Greater e in omega (arith, ints, more)

le_says_by : (x y : ℤ) → is_le (int_cmp x y) ≡ true → x ≤ℤ y
le_says_by x y h = go (int_cmp x y) refl h
  where
    go : (o : Ordering) → o ≡ int_cmp x y → is_le o ≡ true → x ≤ℤ y
    go Less e h = let less : x <ℤ y = int_ranked x y Less e in omega (arith, ints, less)
    go Equal e h = let same : x ≡ y = int_ranked x y Equal e in omega (arith, ints, same)
    go Greater e h = absurd (cc)

-- what is neither below nor above is equal
only_equal : (o : Ordering) → is_ge o ≡ true → is_le o ≡ true → o ≡ Equal
only_equal Less g l = absurd (cc)
only_equal Equal g l = refl
only_equal Greater g l = absurd (cc)

module _ (u : Bounds) (of : IsOfDay u) where
  abbrev here : ℤ
  here = int_div_euclid u.start (pos 86_400)

  one : int_div_euclid (last_second u) (pos 86_400) ≡ here
  one =
      let p = int_div_euclid-parts u.start 86_400 (omega arith) in
      let q = int_div_euclid-parts (last_second u) 86_400 (omega arith) in
      let below = of.below in
      let ends = of.ends in
      omega (arith, signed_arith, p, q, below, ends)

  abbrev Near : Option ℤ → Type 0
  Near t = is_within (from_its_day u) t ≡ true

  near : (t : ℤ) → (here *ℤ pos 86_400) ≤ℤ t → t <ℤ u.end → Near (Some t)
  near t low high = and_true (le_z (here *ℤ pos 86_400) t) (lt_z t u.end) (le_true (here *ℤ pos 86_400) t low) (lt_true t u.end high)

  on_its_day : Near (Some (first_second here))
  on_its_day =
      let p = int_div_euclid-parts u.start 86_400 (omega arith) in
      let below = of.below in
      near (here *ℤ pos 86_400) (omega (arith, signed_arith)) (omega (arith, signed_arith, p, below))

  -- the macros of a day that the calendar has, and of one that it hasn't
  by_date : (v : Cell) (b : Bool) → is_day_number here ≡ b → is_true (between v (cond b (Date here) Null) (cond b (Date here) Null)) ≡ true → Near (time_of v)
  by_date v false e h = let p = ends_of v Null Null h in absurd (nothing v p.0)
    where
      nothing : (v : Cell) → is_true (compared is_ge v Null) ≡ true → ⊥
      nothing Null h = cc
      nothing (Int n) h = cc
      nothing (Text t) h = cc
      nothing (Date d) h = cc
      nothing (Truth b) h = cc
  by_date Null true e h = absurd (cc)
  by_date (Int n) true e h = absurd (cc)
  by_date (Text t) true e h = absurd (cc)
  by_date (Date d) true e h =
      let p = ends_of (Date d) (Date here) (Date here) h in
      let low = ge_says d here p.0 in
      let high = le_says_by d here p.1 in
      let same : here ≡ d = omega (arith, ints, low, high) in
      subst (λ x. Near (Some (first_second x))) same on_its_day
  by_date (Truth b) true e h = absurd (cc)

  by_text : (v : Cell) (b : Bool) → is_day_number here ≡ b → is_true (between v (cast_to_text (cond b (Date here) Null)) (cast_to_text (cond b (Date here) Null))) ≡ true → Near (time_of v)
  by_text v false e h = let p = ends_of v Null Null h in absurd (nothing v p.0)
    where
      nothing : (v : Cell) → is_true (compared is_ge v Null) ≡ true → ⊥
      nothing Null h = cc
      nothing (Int n) h = cc
      nothing (Text t) h = cc
      nothing (Date d) h = cc
      nothing (Truth b) h = cc
  by_text Null true e h = absurd (cc)
  by_text (Int n) true e h = absurd (cc)
  by_text (Date d) true e h = absurd (cc)
  by_text (Truth b) true e h = absurd (cc)
  by_text (Text x) true e h =
      let p = ends_of (Text x) (Text (day_text here)) (Text (day_text here)) h in
      let same : x ≡ day_text here = exact_bytes x (day_text here) (only_equal (slice_cmp nat_cmp x (day_text here)) p.0 p.1) in
      let within : IsDayNumber here = let q = and_parts (le_z (negsuc 719_161) here) (le_z here (pos 2_932_896)) e in (le_says (negsuc 719_161) here q.0, le_says here (pos 2_932_896) q.1) in
      let named : day_named x ≡ Some here = ap day_named same ∙ names_its_day here within in
      ap (λ o. is_within (from_its_day u) (option_map first_second o)) named ∙ on_its_day

  by_epoch : (v : Cell) (b : Bool) → is_true (between v (Int u.start) (cond b (Int (last_second u)) Null)) ≡ true → Near (time_of v)
  by_epoch v false h = let p = ends_of v (Int u.start) Null h in absurd (nothing v p.1)
    where
      nothing : (v : Cell) → is_true (compared is_le v Null) ≡ true → ⊥
      nothing Null h = cc
      nothing (Int n) h = cc
      nothing (Text t) h = cc
      nothing (Date d) h = cc
      nothing (Truth b) h = cc
  by_epoch Null true h = absurd (cc)
  by_epoch (Int n) true h =
      let p = ends_of (Int n) (Int u.start) (Int (last_second u)) h in
      let low = ge_says n u.start p.0 in
      let high = le_says_by n (last_second u) p.1 in
      let q = int_div_euclid-parts u.start 86_400 (omega arith) in
      near n (omega (arith, signed_arith, q, low)) (omega (arith, signed_arith, high))
  by_epoch (Text t) true h = absurd (cc)
  by_epoch (Date d) true h = absurd (cc)
  by_epoch (Truth b) true h = absurd (cc)

  pub between_ends : (v : Cell) (start end : Var) → are_ends_by start end ≡ true → is_true (between v (macro_value start u) (macro_value end u)) ≡ true → is_within (from_its_day u) (time_of v) ≡ true
  between_ends v StartDate EndDate ends h = by_date v (is_day_number here) refl (ap (λ d. is_true (between v (day here) (day d))) (sym one) ∙ h)
  between_ends v StartDs EndDs ends h = by_text v (is_day_number here) refl (ap (λ d. is_true (between v (cast_to_text (day here)) (cast_to_text (day d)))) (sym one) ∙ h)
  between_ends v StartEpoch EndEpoch ends h = by_epoch v (fits (last_second u)) h
  between_ends v StartDate StartDate ends h = absurd (cc)
  between_ends v StartDate StartDs ends h = absurd (cc)
  between_ends v StartDate EndDs ends h = absurd (cc)
  between_ends v StartDate StartEpoch ends h = absurd (cc)
  between_ends v StartDate EndEpoch ends h = absurd (cc)
  between_ends v EndDate end ends h = absurd (cc)
  between_ends v StartDs StartDate ends h = absurd (cc)
  between_ends v StartDs EndDate ends h = absurd (cc)
  between_ends v StartDs StartDs ends h = absurd (cc)
  between_ends v StartDs StartEpoch ends h = absurd (cc)
  between_ends v StartDs EndEpoch ends h = absurd (cc)
  between_ends v EndDs end ends h = absurd (cc)
  between_ends v StartEpoch StartDate ends h = absurd (cc)
  between_ends v StartEpoch EndDate ends h = absurd (cc)
  between_ends v StartEpoch StartDs ends h = absurd (cc)
  between_ends v StartEpoch EndDs ends h = absurd (cc)
  between_ends v StartEpoch StartEpoch ends h = absurd (cc)
  between_ends v EndEpoch end ends h = absurd (cc)
