-- The lines of a script, and the words of a line.
use Rattle.std.specs.Prelude.{ℕ, Bool, true, ◌==◌, if◌then◌else◌, List, [], ◌∷◌, ◌++◌, Some, None}
use Rattle.std.specs.Option.{option_map}
use Rattle.std.specs.declared.option.Option.{Option}

-- what stands in front of each line feed, and behind the last
abbrev pub lines_from : List ℕ → List ℕ → List (List ℕ)
lines_from front [] = front ∷ []
lines_from front (b ∷ bs) = if b == 10 then front ∷ lines_from [] bs else lines_from (front ++ b ∷ []) bs

abbrev pub lines : List ℕ → List (List ℕ)
lines script = lines_from [] script

-- an empty line, and one that begins with #, asks for nothing
abbrev pub is_skipped : List ℕ → Bool
is_skipped [] = true
is_skipped (b ∷ bs) = b == 35

-- The words of a line stand between spaces. A word may stand in double quotes, in which no double quote stands;
-- elsewhere one can't stand.
abbrev mutual
  pub between : List ℕ → Option (List (List ℕ))
  between [] = Some []
  between (b ∷ bs) = if b == 32 then between bs else (if b == 34 then quoted [] bs else plain (b ∷ []) bs)

  pub plain : List ℕ → List ℕ → Option (List (List ℕ))
  plain word [] = Some (word ∷ [])
  plain word (b ∷ bs) = if b == 32 then option_map (λ words. word ∷ words) (between bs) else (if b == 34 then None else plain (word ++ b ∷ []) bs)

  pub quoted : List ℕ → List ℕ → Option (List (List ℕ))
  quoted word [] = None
  quoted word (b ∷ bs) = if b == 34 then option_map (λ words. word ∷ words) (closed bs) else quoted (word ++ b ∷ []) bs

  pub closed : List ℕ → Option (List (List ℕ))
  closed [] = Some []
  closed (b ∷ bs) = if b == 32 then between bs else None

abbrev pub words_of : List ℕ → Option (List (List ℕ))
words_of line = between line
