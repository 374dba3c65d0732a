-- What is written piece by piece.
use Rattle.std.proofs.Common.{◌≡◌, ℕ, List, ◌++◌, OnOk, append_assoc, ap, subst, ◌∙◌}
use Rattle.std.specs.declared.result.Result.{Result}

-- four pieces, one behind the other, the first two of them at once
pub four : {A E : Type 0} (r : Result A E) (out two three all a b c d : List ℕ) → two ≡ out ++ (a ++ b) → three ≡ two ++ c → OnOk r (all ≡ three ++ d) → OnOk r (all ≡ out ++ (a ++ (b ++ (c ++ d))))
four r out two three all a b c d p q h =
    subst (λ t. OnOk r (all ≡ t))
    (ap (λ x. x ++ d) q ∙ ap (λ x. (x ++ c) ++ d) p ∙ append_assoc (out ++ (a ++ b)) c d ∙ append_assoc out (a ++ b) (c ++ d) ∙ ap (λ x. out ++ x) (append_assoc a b (c ++ d)))
    h
