-- Tokens in which a model's name stands for `@this_model`.
use Rattle.std.specs.Prelude.{ℕ, Bool, false, if◌then◌else◌, List, [], ◌∷◌, codes}
use Rattle.std.specs.List.{flat_map}
use Rattle.std.specs.Str.{bytes_eq}
use Rattle.mesh_base_values.specs.declared.values.Name.{Name}
use Rattle.mesh_query_tokens.specs.declared.tokens.Token.{Token}
use Rattle.mesh_query_tokens.specs.declared.tokens.TokenKind.{TokenKind}
use Rattle.mesh_query_tokens.specs.declared.tokens.TokenKind.TheVariants.{Ident, Macro, Sign}

abbrev pub is_this_kind : TokenKind → Bool
is_this_kind (Macro name) = bytes_eq name (codes "this_model")
is_this_kind other = false

-- a token is `@this_model`
abbrev pub is_this : Token → Bool
is_this k = is_this_kind k.kind

-- another token at the same place
abbrev pub as_kind : Token → TokenKind → Token
as_kind k kind = record { start = k.start; end = k.end; kind = kind }

-- `schema.model`, at the place of a token
abbrev pub name_tokens : Name → Token → List Token
name_tokens name k = as_kind k (Ident name.schema) ∷ as_kind k (Sign (codes ".")) ∷ as_kind k (Ident name.model) ∷ []

abbrev pub token_for : Name → Token → List Token
token_for name k = if is_this k then name_tokens name k else k ∷ []

-- the tokens with a model's name for each `@this_model`
abbrev pub with_name : Name → List Token → List Token
with_name name ks = flat_map (token_for name) ks
