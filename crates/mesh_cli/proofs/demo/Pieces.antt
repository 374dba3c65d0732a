-- Pieces of a text, one behind another.
use Rattle.std.proofs.Common.{Result, Ok, Err, OnOk, ◌≡◌, ◌∙◌, ℕ, List, ◌++◌, ap}
use Rattle.std.proofs.lemmas.List.{append_assoc}

-- some bytes stand behind others, and more behind these
grow : (out before p q now : List ℕ) → before ≡ out ++ p → now ≡ before ++ q → now ≡ out ++ (p ++ q)
grow out before p q now is so = so ∙ (ap (λ t. t ++ q) is ∙ append_assoc out p q)

-- six pieces one behind another
pub six : {X E : Type 0} (r : Result X E) (o a b c d e f p q s t u v : List ℕ) → a ≡ o ++ p → b ≡ a ++ q → c ≡ b ++ s → d ≡ c ++ t → e ≡ d ++ u → OnOk r (f ≡ e ++ v)
    → OnOk r (f ≡ o ++ (p ++ (q ++ (s ++ (t ++ (u ++ v))))))
six (Ok x) o a b c d e f p q s t u v i j k l m n = grow o a p (q ++ (s ++ (t ++ (u ++ v)))) f i (grow a b q (s ++ (t ++ (u ++ v))) f j (grow b c s (t ++ (u ++ v)) f k (grow c d t (u ++ v) f l (grow d e u v f m n))))
six (Err x) o a b c d e f p q s t u v i j k l m n = tt
