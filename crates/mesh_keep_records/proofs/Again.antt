-- Numbers that were written are read again.
use Rattle.std.proofs.Common.{◌≡◌, ℕ, ◌-◌, ◌^◌, ◌<◌, true, [], Some, refl, sym, ap, ◌∙◌, arith}
use Rattle.std.specs.Prelude.{ℤ}
use Rattle.std.specs.Fmt.{decimal, signed_decimal}
use Rattle.std.proofs.lemmas.Bool.{ltb-true}
use Rattle.std.proofs.lemmas.List.{append-nil}
use Rattle.mesh_canon_reading.specs.Fits.{signed_fits}
use Rattle.mesh_canon_reading.specs.Reading.{whole}
use Rattle.mesh_canon_reading.proofs.Numbers.{number_again, signed_again}
use Rattle.mesh_canon_words.specs.Words.{number_at, signed_at}
use Rattle.mesh_keep_records.specs.Parts.{is_count, number_in, signed_in}

pub signed_is_read : (z : ℤ) → signed_fits (2 ^ 63 - 1) z ≡ true → signed_in (signed_decimal z) ≡ Some z
unfolding signed_in
signed_is_read z fits =
    ap (λ t. whole (signed_at (2 ^ 63 - 1) t)) (sym (append-nil (signed_decimal z))) ∙ rw (signed_again (2 ^ 63 - 1) z [] (omega arith) fits tt) refl

pub number_is_read : (n : ℕ) → is_count n ≡ true → number_in (decimal n) ≡ Some n
unfolding number_in
number_is_read n fits =
    let small : n < 2 ^ 32 = ltb-true n (2 ^ 32) fits in
    ap (λ t. whole (number_at (2 ^ 32 - 1) t)) (sym (append-nil (decimal n))) ∙ rw (number_again (2 ^ 32 - 1) n [] (omega arith) (omega arith) tt) refl
