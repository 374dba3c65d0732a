-- What comes of one item more.
use Rattle.std.proofs.Common.{◌≡◌, ◌+◌, ◌<◌, ℕ, List, [], ◌∷◌, ◌++◌, length, take, get_or, sym, ap, ◌∙◌}
use Rattle.std.specs.List.{flat_map}
use Rattle.std.proofs.lemmas.List.{flat_map_more, take_more}

-- what comes of one item more stands behind what came of those before it
pub one_behind : {X Y : Type 0} (f : X → List Y) (first : List Y) (xs : List X) (i : ℕ) (x : X) (was new : List Y) → i < length xs → x ≡ get_or xs i x → was ≡ first ++ flat_map f (take i xs) → new ≡ was ++ f x → new ≡ first ++ flat_map f (take (i + 1) xs)
one_behind {X} {Y} f first xs i x was new lt here before pushed =
    pushed
    ∙ ap (λ (l : List Y). l ++ f x) before
    ∙ flat_map_more f first (take i xs) x
    ∙ ap (λ (l : List X). first ++ flat_map f l) (ap (λ (z : X). take i xs ++ z ∷ []) here ∙ sym (take_more xs i x lt))
