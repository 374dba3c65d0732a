-- What was read step by step, taken apart again.
use Rattle.std.proofs.Common.{◌≡◌, ℕ, List, [], ◌∷◌, ◌++◌, Option, Some, None, refl, ap, subst, ◌∙◌}
use Rattle.mesh_canon_words.specs.Words.{◌>>=◌, after, behind, word_at}
use Rattle.mesh_canon_reading.specs.Reading.{whole}
use Rattle.mesh_canon_reading.proofs.Exact.{some_is}
use Rattle.mesh_canon_words.proofs.Prefix.{after_takes}

-- a step and what came of the next
pub bound : {A B : Type 0} (o : Option A) (next : A → Option B) (y : B) → (o >>= next) ≡ Some y → (x : A) × (o ≡ Some x) × (next x ≡ Some y)
bound None next y e = absurd cc
bound (Some x) next y e = (x, refl, e)

-- nothing is left behind what is the whole
pub whole_is : {A : Type 0} (o : Option (A × List ℕ)) (y : A) → whole o ≡ Some y → o ≡ Some (y, [])
whole_is None y e = absurd cc
whole_is (Some (x, [])) y e = ap (λ z. Some (z, [])) (some_is x y e)
whole_is (Some (x, b ∷ rest)) y e = absurd cc

-- what holds of a value behind its word and of each other choice
pub either : {A : Type 0} (P : A × List ℕ → Type 0) (x : A) (o : Option (List ℕ)) (other : Option (A × List ℕ)) → ((rest : List ℕ) → o ≡ Some rest → P (x, rest)) → ((y : A × List ℕ) → other ≡ Some y → P y) → (y : A × List ℕ) → behind x o other ≡ Some y → P y
either P x None other p q y e = q y e
either P x (Some rest) other p q y e = subst P (some_is (x, rest) y e) (p rest refl)

-- a table whose words are the texts of their values
abbrev pub Spells : {A : Type 0} → (A → List ℕ) → List (List ℕ × A) → Type 0
Spells spell [] = Unit {0}
Spells spell (entry ∷ table) = (entry.0 ≡ spell entry.1) × Spells spell table

-- what a word says stands behind its text
pub word_says : {A : Type 0} (spell : A → List ℕ) (table : List (List ℕ × A)) (bytes : List ℕ) → Spells spell table → (y : A × List ℕ) → word_at table bytes ≡ Some y → bytes ≡ spell y.0 ++ y.1
word_says spell [] bytes h y e = absurd cc
word_says spell (entry ∷ table) bytes h y e =
    either (λ z. bytes ≡ spell z.0 ++ z.1) entry.1 (after entry.0 bytes) (word_at table bytes)
    (λ rest is. after_takes entry.0 bytes rest is ∙ ap (λ w. w ++ rest) h.0) (word_says spell table bytes h.1) y e
