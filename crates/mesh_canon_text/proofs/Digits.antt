-- Decimal digits, written one by one.
use Rattle.std.proofs.Common.{◌≡◌, ℕ, ◌+◌, ◌/◌, ◌%◌, ◌^◌, ◌<◌, ◌≤◌, List, [], ◌∷◌, ◌++◌, ap, sym, ◌∙◌, append_assoc}
use Rattle.std.specs.Fmt.{decimal}
use Rattle.std.proofs.lemmas.Fmt.{decimal_digit, decimal_step}

-- a number of one digit, behind what was written
pub one_digit : (out made : List ℕ) (n : ℕ) → made ≡ out ++ (48 + n) ∷ [] → n < 10 → made ≡ out ++ decimal n
one_digit out made n e lt = e ∙ ap (λ ds. out ++ ds) (sym (decimal_digit n lt))

-- the last digit of a longer number
pub last_digit : (out front made : List ℕ) (n : ℕ) → front ≡ out ++ decimal (n / 10) → made ≡ front ++ (48 + n % 10) ∷ [] → 10 ≤ n → n < 2 ^ 64 → made ≡ out ++ decimal n
last_digit out front made n before e le lt =
    e ∙ ap (λ ds. ds ++ (48 + n % 10) ∷ []) before ∙ append_assoc out (decimal (n / 10)) ((48 + n % 10) ∷ []) ∙ ap (λ ds. out ++ ds) (sym (decimal_step n le lt))
