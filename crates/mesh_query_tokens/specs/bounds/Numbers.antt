-- The number that a token is, and the longest lookback.
use Rattle.std.specs.Prelude.{ℕ, nat_le, List, [], ◌∷◌, if◌then◌else◌}
use Rattle.std.specs.declared.option.Option.{Option}
use Rattle.std.specs.declared.option.Option.TheVariants.{None, Some}
use Rattle.mesh_query_tokens.specs.declared.tokens.Token.{Token}
use Rattle.mesh_query_tokens.specs.declared.tokens.TokenKind.{TokenKind}
use Rattle.mesh_query_tokens.specs.declared.tokens.TokenKind.TheVariants.{Number}
use Rattle.mesh_query_tokens.specs.bounds.Found.{◌>>=◌}

abbrev pub longest_lookback : ℕ
longest_lookback = 366

-- the number that a token is
abbrev pub number_kind : TokenKind → Option ℕ
number_kind (Number n) = Some n
number_kind _ = None

abbrev pub as_lookback : ℕ → Option ℕ
as_lookback n = if nat_le n longest_lookback then Some n else None

-- a number from 0 to the longest lookback
abbrev pub lookback_number : List Token → Option ℕ
lookback_number (k ∷ []) = number_kind k.kind >>= as_lookback
lookback_number _ = None
