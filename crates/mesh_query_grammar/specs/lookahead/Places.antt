-- What the tokens from one place up to another spell.
use Rattle.std.specs.Prelude.{◌≡◌, ℕ, ◌+◌, ◌≤◌, List, drop, length}
use Rattle.mesh_query_tokens.specs.declared.tokens.Token.{Token}

-- the most parentheses, CASEs, NOTs and minus signs that may be open at once
abbrev pub deepest : ℕ
deepest = 64

-- the next token alone
abbrev pub Takes : (List Token → List Token → Type 0) → List Token → ℕ → ℕ → Type 0
Takes R ts from to = (to ≡ from + 1) × (to ≤ length ts) × R (drop from ts) (drop to ts)
