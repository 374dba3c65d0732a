-- The value of a property: its tokens go up to the next comma or closing parenthesis outside brackets.
use Rattle.std.specs.Prelude.{ℕ, suc, Bool, true, false, ◌&&◌, ◌||◌, not, nat_lt, List, [], ◌∷◌, ◌++◌, codes, Result, Ok, Err, if◌then◌else◌}
use Rattle.std.specs.List.{count_by}
use Rattle.std.specs.Option.{option_map}
use Rattle.std.specs.declared.option.Option.{Option}
use Rattle.std.specs.declared.option.Option.TheVariants.{None, Some}
use Rattle.mesh_query_tokens.specs.Gives.{◌>>=◌}
use Rattle.mesh_query_tokens.specs.declared.faults.ReadFault.{ReadFault}
use Rattle.mesh_query_tokens.specs.declared.tokens.Token.{Token}
use Rattle.mesh_query_tokens.specs.Walk.{provided}
use Rattle.mesh_query_tokens.specs.bounds.Faults.{broken, too_deep, deepest}
use Rattle.mesh_query_tokens.specs.bounds.Signs.{is_sign}

-- the brackets that are open, the innermost last; a parenthesis is true
abbrev pub Open : Type 0
Open = List Bool

-- whether brackets are of one shape
abbrev pub alike : Bool → Bool → Bool
alike true b = b
alike false b = not b

-- the brackets that stay open where one of this shape closes
abbrev pub closed : Bool → Open → Option Open
closed round [] = None
closed round (b ∷ []) = if alike b round then Some [] else None
closed round (b ∷ c ∷ cs) = option_map (λ held. b ∷ held) (closed round (c ∷ cs))

abbrev pub or_fault : {A : Type 0} → ReadFault → Option A → Result A ReadFault
or_fault fault None = Err fault
or_fault fault (Some x) = Ok x

abbrev pub is_none_open : Open → Bool
is_none_open [] = true
is_none_open (b ∷ bs) = false

-- the parentheses that are open, with that of the statement
abbrev pub rounds : Open → ℕ
rounds held = suc (count_by (λ round. round) held)

-- the brackets that are open behind a token; only where any token may stand, [ ] and := may
abbrev pub opened : Bool → ℕ → Open → Token → Result Open ReadFault
opened any before held k =
    if is_sign (codes "(") k then provided (nat_lt (rounds held) deepest) (held ++ true ∷ []) too_deep
    else if is_sign (codes ")") k then or_fault (broken before) (closed true held)
    else if is_sign (codes "[") k then provided any (held ++ false ∷ []) (broken before)
    else if is_sign (codes "]") k then or_fault (broken before) (closed false held)
    else if is_sign (codes ":=") k then provided any held (broken before)
    else Ok held

abbrev pub ends_value : Open → Token → Bool
ends_value held k = is_none_open held && (is_sign (codes ",") k || is_sign (codes ")") k)

-- how many tokens a value has, behind a token that ends at this place
unfoldable pub value_len : Bool → ℕ → Open → List Token → Result ℕ ReadFault
value_len any before held [] = Err (broken before)
value_len any before held (k ∷ ks) = if ends_value held k then Ok 0 else (do
  more ← opened any before held k
  n ← value_len any k.end more ks
  Ok (suc n))
