-- What a function that takes a token answers where there is none to take.
use Rattle.std.specs.Prelude.{◌≡◌, ℕ, List, Bool, false, drop}
use Rattle.mesh_query_tokens.specs.declared.tokens.Token.{Token}
use Rattle.mesh_query_grammar.specs.declared.lookahead.fault.Fault.{Fault}
use Rattle.mesh_query_grammar.specs.declared.lookahead.fault.Fault.TheVariants as fault
use Rattle.mesh_query_grammar.specs.Machine.{begins}

-- the token at a place doesn't pass the test, and is at fault, or memory is out
abbrev pub IsNot : (Token → Bool) → List Token → ℕ → Fault → Type 0
IsNot test ts at fault.Memory = Unit {0}
IsNot test ts at (fault.Syntax token) = (token ≡ at) × (begins test (drop at ts) ≡ false)
IsNot test ts at fault.Nesting = ⊥
