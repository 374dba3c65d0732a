-- Which calls of a house in memory fail.
use Rattle.std.specs.Prelude.{ℕ, Bool, false, not, ◌&&◌, ◌||◌, ◌==◌, List, [], ◌∷◌, Some, None, if◌then◌else◌}
use Rattle.std.specs.declared.option.Option.{Option}
use Rattle.mesh_list.specs.Counts.{risen}
use Rattle.mesh_house.specs.declared.fails.Fail.{Fail}

-- whether the change call of that number fails, and then whether after its effect, by the first that lists it
abbrev pub change_fails : List Fail → ℕ → Option Bool
change_fails [] number = None
change_fails (f ∷ fs) number = if f.change && (f.call == number) then Some f.after else change_fails fs number

-- whether the call of that number that only reads fails
abbrev pub read_fails : List Fail → ℕ → Bool
read_fails [] number = false
read_fails (f ∷ fs) number = (not f.change && (f.call == number)) || read_fails fs number

-- the count of faults after a call, by whether the call was listed
abbrev pub raised : Bool → ℕ → ℕ
raised listed count = if listed then risen 1 count else count
