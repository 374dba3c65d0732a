-- A walk goes step by step, up to its first fault.
use Rattle.std.specs.Prelude.{◌≡◌, List, [], ◌∷◌, Result, Ok, Err}
use Rattle.mesh_project_files.specs.Loading.{◌>>=◌, Refuses}
use Rattle.mesh_project_files.specs.declared.faults.LoadFault.{LoadFault}

-- from a state on, one step for each of these
unfoldable pub along : {S A : Type 0} → (S → A → Result S LoadFault) → S → List A → Result S LoadFault
along step now [] = Ok now
along step now (x ∷ xs) = do
  next ← step now x
  along step next xs

-- a state that was changed in its place is what the step gives, or the refusal is its own, unless memory ran out
abbrev pub Leads : {S : Type 0} → Result (Unit {0}) LoadFault → S → Result S LoadFault → Type 0
Leads (Ok u) now step = step ≡ Ok now
Leads (Err e) now step = Refuses e step
