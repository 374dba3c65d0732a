-- Which tokens are a query, which begin one, and where tokens that are none go wrong.
use Rattle.std.specs.Prelude.{◌≡◌, ℕ, ◌≤◌, List, [], ◌++◌, length}
use Rattle.mesh_query_tokens.specs.declared.tokens.Token.{Token}
use Rattle.mesh_query_grammar.specs.declared.surface.queries.Surface.{Surface}
use Rattle.mesh_query_grammar.specs.Grammar.{query, Spells}

-- the tokens are a query, of any depth
abbrev pub IsQuery : Surface → List Token → Type 0
IsQuery tree ts = (n : ℕ) × Spells n (query tree) ts []

-- some query begins with the tokens
abbrev pub IsBegun : List Token → Type 0
IsBegun ts = (tree : Surface) × (more : List Token) × IsQuery tree (ts ++ more)

-- the longest list of tokens from the first one on with which some query begins
pub record IsLongestBegun (ts front : List Token) : Type 0 where
  pub rest : List Token
  pub whole : ts ≡ front ++ rest
  pub begun : IsBegun front
  pub longest : (other more : List Token) → ts ≡ other ++ more → IsBegun other → length other ≤ length front
