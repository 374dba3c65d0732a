-- A line that has been split so far.
use Rattle.std.specs.Prelude.{◌≡◌, ℕ, List, ◌∷◌, ◌++◌, None}
use Rattle.std.specs.Option.{option_map}
use Rattle.std.specs.declared.option.Option.{Option}
use Rattle.mesh_cli_values.specs.declared.scripts.Splitting.{Splitting}
use Rattle.mesh_cli_values.specs.declared.scripts.State.{State}
use Rattle.mesh_cli_values.specs.declared.scripts.State.TheVariants.{Between, Plain, Quoted, Closed, Wrong}
use Rattle.mesh_cli_values.specs.scripts.Scripts.{between, closed, plain, quoted}

-- the words that are still to come
abbrev pub rest_by : State → List ℕ → List ℕ → Option (List (List ℕ))
rest_by Between word rest = between rest
rest_by Plain word rest = plain word rest
rest_by Quoted word rest = quoted word rest
rest_by Closed word rest = closed rest
rest_by Wrong word rest = None

-- all words, where this much of the line is left
abbrev pub resumed : Splitting → List ℕ → Option (List (List ℕ))
resumed s rest = option_map (λ more. s.words ++ more) (rest_by s.state s.word rest)

-- one byte was taken
abbrev pub Steps : ℕ → Splitting → Splitting → Type 0
Steps b old new = (rest : List ℕ) → resumed new rest ≡ resumed old (b ∷ rest)
