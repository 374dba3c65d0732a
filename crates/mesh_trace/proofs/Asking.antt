-- What is asked of models, one more at a time.
use Rattle.std.proofs.Common.{◌≡◌, ℕ, zero, suc, ◌<◌, List, [], ◌∷◌, length, slice_index_or, slice_set, Some, None, refl, ap, ◌∙◌}
use Rattle.std.proofs.lemmas.List.{get_or_default}
use Rattle.mesh_trace.specs.Asks.{Ask, ask_more, asked_at}

set_twice : {X : Type 0} (xs : List X) (i : ℕ) (a b : X) → slice_set (slice_set xs i a) i b ≡ slice_set xs i b
set_twice [] i a b = refl
set_twice (x ∷ xs) zero a b = refl
set_twice (x ∷ xs) (suc i) a b = ap (λ l. x ∷ l) (set_twice xs i a b)

pub asked_is : (asks : List Ask) (place : ℕ) (more : List (List ℕ)) (none asked : Ask) (all : List (List ℕ)) → place < length asks → asked ≡ slice_index_or asks place asked → Some all ≡ ask_more asked more
    → slice_set (slice_set asks place none) place (Some all) ≡ asked_at asks place more
asked_is asks place more none asked all inside there made =
    set_twice asks place none (Some all)
    ∙ ap (slice_set asks place) (made ∙ ap (λ a. ask_more a more) (there ∙ get_or_default asks place asked None inside))
