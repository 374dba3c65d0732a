-- A moment's text is the definition's.
use Rattle.std.proofs.Common.{◌≡◌, ℕ, ap, ◌∙◌, arith, ℤ, pos, negsuc, List, ◌++◌}
use Rattle.jiff_core.specs.Calendar.{IsBetween}
use Rattle.jiff_core.proofs.SignedLemmas.{signed_arith, int_div_euclid-parts}
use Rattle.mesh_time_days.specs.Moments.{day_at, second_at, second_text, IsDayNumber, IsSecondText}
use Rattle.mesh_time_days.specs.casts.Dates.{day_text}
use Rattle.mesh_time_days.proofs.casts.DayTexts.{text_is}

in_days : (t : ℤ) → IsBetween (negsuc 62_135_596_799) (pos 253_402_300_799) t → IsDayNumber (day_at t)
in_days t within =
    let d = int_div_euclid-parts t 86_400 (omega arith) in
    (omega (arith, signed_arith, within.0), omega (arith, signed_arith, within.1))

pub written : (t : ℤ) (text : List ℕ) → IsBetween (negsuc 62_135_596_799) (pos 253_402_300_799) t → IsSecondText t text → text ≡ day_text (day_at t) ++ second_text (second_at t)
unfolding IsSecondText
written t text within (date, day, is) = is ∙ ap (λ d. d ++ second_text (second_at t)) (text_is (day_at t) date (in_days t within) day)
