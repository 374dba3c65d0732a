-- A walk goes step by step, up to its first fault.
use Rattle.std.specs.Prelude.{◌≡◌, Bool, List, [], ◌∷◌, ◌++◌, Result, Ok, Err, if◌then◌else◌}
use Rattle.std.specs.declared.option.Option.{Option}
use Rattle.std.specs.declared.option.Option.TheVariants.{None, Some}
use Rattle.mesh_query_tokens.specs.Gives.{◌>>=◌}
use Rattle.mesh_query_tokens.specs.declared.faults.ReadFault.{ReadFault}
use Rattle.mesh_query_tokens.specs.declared.faults.ReadFault.TheVariants as faults

-- a value, where a test says so, and otherwise a fault
abbrev pub provided : {A : Type 0} → Bool → A → ReadFault → Result A ReadFault
provided b x fault = if b then Ok x else Err fault

-- from a state on, one step for each of these
unfoldable pub along : {S A : Type 0} → (S → A → Result S ReadFault) → S → List A → Result S ReadFault
along step now [] = Ok now
along step now (x ∷ xs) = do
  next ← step now x
  along step next xs

abbrev pub one_more : {A : Type 0} → List A → Result A ReadFault → Result (List A) ReadFault
one_more made r = r >>= λ x. Ok (made ++ x ∷ [])

-- all of these, or the first fault among them
abbrev pub all_of : {A : Type 0} → List (Result A ReadFault) → Result (List A) ReadFault
all_of = along one_more []

-- the same of one that may be absent
abbrev pub some_of : {A : Type 0} → Option (Result A ReadFault) → Result (Option A) ReadFault
some_of None = Ok None
some_of (Some r) = r >>= λ x. Ok (Some x)

-- a fault is this one, unless memory ran out
abbrev pub Refused : ReadFault → ReadFault → Type 0
Refused faults.Memory fault = Unit {0}
Refused (faults.Fault at kind) fault = fault ≡ faults.Fault at kind
