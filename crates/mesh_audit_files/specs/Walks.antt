-- Steps that are taken one after the other, up to the first fault.
use Rattle.std.specs.Prelude.{List, [], ◌∷◌, Result, Ok, Err}
use Rattle.mesh_project_files.specs.Loading.{Gives}
use Rattle.mesh_project_files.specs.declared.faults.LoadFault.{LoadFault}

-- what comes next where there is a value, and otherwise its fault
abbrev pub Then : {S X : Type 0} → Result S LoadFault → (S → Type 0) → Result X LoadFault → Type 0
Then (Ok s) next answer = next s
Then (Err fault) next answer = Gives answer (Err fault)

-- From a state on, one step for each of these; the first fault ends it.
abbrev pub Along : {S A : Type 0} → (S → A → Result S LoadFault → Type 0) → S → List A → Result S LoadFault → Type 0
Along Step now [] answer = Gives answer (Ok now)
Along {S = S} Step now (x ∷ xs) answer = (made : Result S LoadFault) × Step now x made × Then made (λ next. Along Step next xs answer) answer
