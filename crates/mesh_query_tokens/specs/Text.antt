-- The tokens of a text.
use Rattle.std.specs.Prelude.{ℕ, zero, suc, ◌+◌, ◌-◌, Bool, true, ◌&&◌, nat_le, nat_lt, List, [], ◌∷◌, ◌++◌, length, Some, None, Result, Ok, if◌then◌else◌}
use Rattle.mesh_query_tokens.specs.declared.faults.ReadFault.{ReadFault}
use Rattle.mesh_query_tokens.specs.declared.tokens.Token.{Token}
use Rattle.mesh_query_tokens.specs.Gives.{◌>>=◌}
use Rattle.mesh_query_tokens.specs.Pieces.{Piece, piece_at, too_large}

-- a piece that is a token stands behind those in front of it
abbrev pub with_piece : List Token → ℕ → Piece → List Token
with_piece front at (None, n) = front
with_piece front at (Some kind, n) = front ++ record { start = at; end = at + n; kind = kind } ∷ []

-- The tokens of a text whose next byte stands at this place, behind those that are known. So many bytes more belong to
-- the piece before.
unfoldable pub tokens_from : List Token → ℕ → ℕ → List ℕ → Result (List Token) ReadFault
tokens_from front left at [] = Ok front
tokens_from front (suc left) at (b ∷ bs) = tokens_from front left (suc at) bs
tokens_from front zero at (b ∷ bs) = do
  piece ← piece_at at b bs
  tokens_from (with_piece front at piece) (piece.1 - 1) (suc at) bs

-- `file`
abbrev pub file_word : List ℕ
file_word = 102 ∷ 105 ∷ 108 ∷ 101 ∷ []

-- the most bytes of a file
abbrev pub largest_file : ℕ
largest_file = 1048576

-- the tokens of a text, or its first fault
unfoldable pub tokens : List ℕ → Result (List Token) ReadFault
tokens bytes = if nat_le (length bytes) largest_file then tokens_from [] 0 0 bytes else too_large 0 file_word largest_file

-- tokens stand one behind another from this place on, each with a byte at least
abbrev pub in_order : ℕ → List Token → Bool
in_order from [] = true
in_order from (t ∷ ts) = nat_le from t.start && (nat_lt t.start t.end && in_order t.end ts)
