-- The tokens of a text in front of its first fault.
use Rattle.std.specs.Prelude.{ℕ, List, [], take, Result, Ok, Err}
use Rattle.std.specs.declared.option.Option.{Option}
use Rattle.std.specs.declared.option.Option.TheVariants.{None, Some}
use Rattle.mesh_query_tokens.specs.Text.{tokens}
use Rattle.mesh_query_tokens.specs.declared.faults.ReadFault.{ReadFault}
use Rattle.mesh_query_tokens.specs.declared.faults.ReadFault.TheVariants as faults
use Rattle.mesh_query_tokens.specs.declared.tokens.Token.{Token}

abbrev pub or_none : Result (List Token) ReadFault → List Token
or_none (Ok ts) = ts
or_none (Err fault) = []

-- the tokens in front of a place: a text or a comment that the place cuts has no end there, and is a fault where it
-- begins
abbrev pub cut : List ℕ → Result (List Token) ReadFault → List Token
cut bytes (Ok ts) = ts
cut bytes (Err (faults.Fault at kind)) = or_none (tokens (take at bytes))
cut bytes (Err faults.Memory) = []

abbrev pub in_front : List ℕ → ℕ → List Token
in_front bytes at = cut bytes (tokens (take at bytes))

-- the tokens of a text, and its fault, if it has one
abbrev pub known_tokens : List ℕ → Result (List Token) ReadFault → List Token
known_tokens bytes (Ok ts) = ts
known_tokens bytes (Err (faults.Fault at kind)) = in_front bytes at
known_tokens bytes (Err faults.Memory) = []

abbrev pub fault_of : Result (List Token) ReadFault → Option ReadFault
fault_of (Ok ts) = None
fault_of (Err fault) = Some fault

-- the tokens in front of the first fault of a text
abbrev pub file_tokens : List ℕ → List Token
file_tokens bytes = known_tokens bytes (tokens bytes)

-- the first fault of a text
abbrev pub file_fault : List ℕ → Option ReadFault
file_fault bytes = fault_of (tokens bytes)
