-- The signs among tokens.
use Rattle.std.specs.Prelude.{ℕ, Bool, false, List}
use Rattle.std.specs.Str.{bytes_eq}
use Rattle.mesh_query_tokens.specs.declared.tokens.Token.{Token}
use Rattle.mesh_query_tokens.specs.declared.tokens.TokenKind.{TokenKind}
use Rattle.mesh_query_tokens.specs.declared.tokens.TokenKind.TheVariants.{Sign}

abbrev pub is_sign_kind : List ℕ → TokenKind → Bool
is_sign_kind sign (Sign found) = bytes_eq found sign
is_sign_kind sign _ = false

abbrev pub is_sign : List ℕ → Token → Bool
is_sign sign k = is_sign_kind sign k.kind
