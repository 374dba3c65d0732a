-- A list of changes, up to one of them.
use Rattle.std.proofs.Common.{◌≡◌, ℕ, zero, suc, ◌<◌, List, [], ◌∷◌, ◌++◌, length, take, drop, get_or, ap, arith, sym}
use Rattle.mesh_house.specs.declared.world.Change.{Change}

pub take-more : (cs : List Change) (i : ℕ) (c : Change) → i < length cs → c ≡ get_or cs i c → take (suc i) cs ≡ take i cs ++ c ∷ []
take-more [] i c lt here = absurd (omega arith)
take-more (x ∷ xs) zero c lt here = ap (λ (y : Change). y ∷ []) (sym here)
take-more (x ∷ xs) (suc i) c lt here = ap (λ (l : List Change). x ∷ l) (take-more xs i c (omega arith) here)

pub take-parts : (cs : List Change) (i : ℕ) (c : Change) → i < length cs → c ≡ get_or cs i c → cs ≡ take i cs ++ ((c ∷ []) ++ drop (suc i) cs)
take-parts [] i c lt here = absurd (omega arith)
take-parts (x ∷ xs) zero c lt here = ap (λ (y : Change). y ∷ xs) (sym here)
take-parts (x ∷ xs) (suc i) c lt here = ap (λ (l : List Change). x ∷ l) (take-parts xs i c (omega arith) here)
