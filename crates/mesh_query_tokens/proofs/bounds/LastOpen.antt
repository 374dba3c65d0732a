-- The innermost bracket.
use Rattle.std.proofs.Common.{◌≡◌, Bool, true, false, cond, [], ◌∷◌, ◌++◌, refl, ap, ◌∙◌}
use Rattle.std.proofs.Math.Bool.{beq}
use Rattle.std.specs.Option.{option_map}
use Rattle.std.specs.declared.option.Option.TheVariants.{None, Some}
use Rattle.mesh_query_tokens.specs.bounds.Brackets.{Open, alike, closed}

mapped : (b : Bool) (x : Bool) (held : Open) → option_map (λ l. x ∷ l) (cond b (Some held) None) ≡ cond b (Some (x ∷ held)) None
mapped true x held = refl
mapped false x held = refl

-- it closes, and those before it stay open
pub last_closes : (round last : Bool) (held : Open) → closed round (held ++ last ∷ []) ≡ cond (alike last round) (Some held) None
last_closes round last [] = refl
last_closes round last (x ∷ []) = mapped (alike last round) x []
last_closes round last (x ∷ y ∷ ys) = ap (option_map (λ l. x ∷ l)) (last_closes round last (y ∷ ys)) ∙ mapped (alike last round) x (y ∷ ys)

pub is_alike : (a b : Bool) → alike a b ≡ beq a b
is_alike true true = refl
is_alike true false = refl
is_alike false true = refl
is_alike false false = refl
