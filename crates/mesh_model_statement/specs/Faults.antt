-- What may be wrong with a statement, and where.
use Rattle.std.specs.Prelude.{ℕ, Bool, false, List, Result, Ok, Err, if◌then◌else◌}
use Rattle.std.specs.Str.{bytes_eq}
use Rattle.mesh_query_tokens.specs.declared.faults.FaultKind.TheVariants.{UnknownProperty, BadProperty, Outside}
use Rattle.mesh_query_tokens.specs.declared.faults.ReadFault.{ReadFault}
use Rattle.mesh_query_tokens.specs.declared.faults.ReadFault.TheVariants.{Fault}
use Rattle.mesh_query_tokens.specs.declared.tokens.Token.{Token}
use Rattle.mesh_query_tokens.specs.declared.tokens.TokenKind.{TokenKind}
use Rattle.mesh_query_tokens.specs.declared.tokens.TokenKind.TheVariants.{Ident}

-- a property has a bad value, or is there twice
abbrev pub bad : ℕ → List ℕ → ReadFault
bad at name = Fault at (BadProperty name)

abbrev pub unknown : ℕ → List ℕ → ReadFault
unknown at name = Fault at (UnknownProperty name)

abbrev pub outside : ℕ → List ℕ → ReadFault
outside at name = Fault at (Outside name)

-- a value, where a test says so, and otherwise a fault
abbrev pub provided : {A : Type 0} → Bool → A → ReadFault → Result A ReadFault
provided b x fault = if b then Ok x else Err fault

abbrev pub is_word_kind : List ℕ → TokenKind → Bool
is_word_kind word (Ident found) = bytes_eq found word
is_word_kind word _ = false

abbrev pub is_word : List ℕ → Token → Bool
is_word word k = is_word_kind word k.kind
