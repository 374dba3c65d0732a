-- The digits of a fingerprint are no other fingerprint's.
use Rattle.std.proofs.Common.{◌≡◌, ℕ, ◌/◌, ◌%◌, ◌<◌, ◌≤◌, inl, inr, true, List, [], ◌∷◌, slice_index, Some, None, refl, sym, ap, ◌∙◌, arith}
use Rattle.std.specs.Prelude.{nat_lt}
use Rattle.std.specs.List.{list_all}
use Rattle.std.proofs.lemmas.Bool.{and_parts, cases_lt, ltb-true}
use Rattle.std.proofs.Math.ListN.{get_or-eq_default}
use Rattle.hex.specs.Hex.{encode_lower, encode_with, hex_digit_value, lower_digits}
use Rattle.hex.proofs.HexLemmas.{IsDigits-lower_digits}
use Rattle.mesh_canon_reading.proofs.Exact.{some_is}
use Rattle.mesh_keep_records.proofs.Words.{cons_is}

no_digit : (a : ℕ) → 16 ≤ a → slice_index lower_digits a ≡ 0
no_digit a h = get_or-eq_default lower_digits 0 {n = a} h

digit_one : (a b : ℕ) → b < 16 → slice_index lower_digits a ≡ slice_index lower_digits b → a ≡ b
digit_one a b lt e = elim (cases_lt a 16) [
  | inl small ↦ some_is a b (sym (IsDigits-lower_digits a small) ∙ ap hex_digit_value e ∙ IsDigits-lower_digits b lt)
  | inr big ↦
      let clash : None ≡ Some b = ap hex_digit_value (sym (no_digit a big) ∙ e) ∙ IsDigits-lower_digits b lt in
      absurd (cc)
]

pub digits_one : (k d : List ℕ) → list_all (λ b. nat_lt b 256) d ≡ true → encode_lower k ≡ encode_lower d → k ≡ d
unfolding encode_with
digits_one [] [] h e = refl
digits_one [] (y ∷ ys) h e = absurd cc
digits_one (x ∷ xs) [] h e = absurd cc
digits_one (x ∷ xs) (y ∷ ys) h e =
    let p = and_parts (nat_lt y 256) (list_all (λ b. nat_lt b 256) ys) h in
    let lt : y < 256 = ltb-true y 256 p.0 in
    let u = cons_is (slice_index lower_digits (x / 16)) (slice_index lower_digits (y / 16)) _ _ e in
    let v = cons_is (slice_index lower_digits (x % 16)) (slice_index lower_digits (y % 16)) _ _ u.1 in
    let high : x / 16 ≡ y / 16 = digit_one (x / 16) (y / 16) (omega arith) u.0 in
    let low : x % 16 ≡ y % 16 = digit_one (x % 16) (y % 16) (omega arith) v.0 in
    let here : x ≡ y = omega arith in
    let more : xs ≡ ys = digits_one xs ys p.1 v.1 in
    λ i. here i ∷ more i
