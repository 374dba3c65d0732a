-- What is due, model by model.
use Rattle.std.specs.Prelude.{ℕ, Bool, true, false, nat_eq, if◌then◌else◌, List, [], ◌∷◌}
use Rattle.mesh_base.specs.declared.plans.Due.{Due}
use Rattle.mesh_exec_works.specs.Executable.{place_of}

-- what is due of the model at a place leads what is due from there on
abbrev pub leading : ℕ → List Due → List Due
leading place [] = []
leading place (d ∷ ds) = if nat_eq (place_of d) place then d ∷ leading place ds else []

abbrev pub behind : ℕ → List Due → List Due
behind place [] = []
behind place (d ∷ ds) = if nat_eq (place_of d) place then behind place ds else d ∷ ds

-- something is due
abbrev pub is_any : List Due → Bool
is_any [] = false
is_any (d ∷ ds) = true
