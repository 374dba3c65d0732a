-- What reading a model's file answers.
use Rattle.std.specs.Prelude.{◌≡◌, ℕ, List, [], drop, take, true, Result, Ok, Err}
use Rattle.mesh_query_grammar.specs.Beginnings.{IsQuery}
use Rattle.mesh_query_grammar.specs.Grammar.{Spells, query as a_query}
use Rattle.mesh_query.specs.Refusals.{IsRefusal}
use Rattle.mesh_query.specs.Sizes.{is_within}
use Rattle.mesh_query_grammar.specs.declared.surface.queries.Surface.{Surface}
use Rattle.mesh_query_tokens.specs.Gives.{Gives}
use Rattle.mesh_query_tokens.specs.declared.faults.ReadFault.{ReadFault}
use Rattle.mesh_query_tokens.specs.declared.tokens.Token.{Token}
use Rattle.mesh_query_grammar.specs.lookahead.Places.{deepest}
use Rattle.mesh_model_statement.specs.declared.model.model.ModelText.{ModelText}
use Rattle.mesh_model.specs.Lexed.{file_tokens, file_fault}
use Rattle.mesh_model.specs.ModelTexts.{query_at, model_of}

-- a query is read from a token on: the one tree that the tokens spell, in which no expression has too many nodes, or
-- why they are refused, and where
abbrev pub IsQueryRead : List Token → ℕ → Result Surface ReadFault → Type 0
IsQueryRead ts from (Ok tree) = Spells deepest (a_query tree) (drop from ts) [] × (is_within tree ≡ true) × ((other : Surface) → IsQuery other (drop from ts) → tree ≡ other)
IsQueryRead ts from (Err fault) = IsRefusal (take from ts) (drop from ts) fault

-- what a model's file says, with its query read from behind the statement
abbrev pub IsModelRead : List ℕ → List ℕ → Result ModelText ReadFault → Type 0
IsModelRead file bytes answer =
    (query : Result Surface ReadFault) × IsQueryRead (file_tokens bytes) (query_at file (file_tokens bytes)) query
    × Gives answer (model_of file (file_tokens bytes) (file_fault bytes) query)
