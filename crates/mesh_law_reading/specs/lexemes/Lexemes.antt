-- The bytes that spell a token, and the tokens of a text: each the longest that stands there.
use Rattle.std.specs.Prelude.{◌≡◌, ℕ, ◌+◌, ◌≤◌, Bool, true, false, not, ◌&&◌, ◌||◌, ◌==◌, List, [], ◌∷◌, ◌++◌, length, codes, if◌then◌else◌}
use Rattle.std.specs.List.{list_all, Contains}
use Rattle.mesh_base_values.specs.Names.{is_identifier}
use Rattle.mesh_query_tokens.specs.declared.tokens.Token.{Token}
use Rattle.mesh_query_tokens.specs.declared.tokens.TokenKind.{TokenKind}
use Rattle.mesh_query_tokens.specs.declared.tokens.TokenKind.TheVariants.{Ident, Number, Text, Macro, Sign}
use Rattle.mesh_query_tokens.specs.Letters.{is_blank, is_digit, lowered, decimal}

-- a text as it is written between quotes, each quote in it twice
abbrev pub doubled : List ℕ → List ℕ
doubled [] = []
doubled (b ∷ bs) = if b == 39 then 39 ∷ 39 ∷ doubled bs else b ∷ doubled bs

-- the signs that mean themselves
abbrev pub signs : List (List ℕ)
signs =
    codes "(" ∷ codes ")" ∷ codes "[" ∷ codes "]" ∷ codes "," ∷ codes ";" ∷ codes "." ∷ codes "*" ∷ codes "+" ∷ codes "-" ∷ codes "/" ∷ codes "%"
    ∷ codes "=" ∷ codes "<>" ∷ codes "<" ∷ codes "<=" ∷ codes ">" ∷ codes ">=" ∷ codes "||" ∷ codes "::" ∷ codes ":=" ∷ []

-- these bytes spell a token of this kind: a name, a number, a text in quotes, a macro, a sign
pub data Lexeme : TokenKind → List ℕ → Type 0 where
  word : {bytes : List ℕ} → is_identifier bytes ≡ true → Lexeme (Ident (lowered bytes)) bytes
  number : {digit : ℕ} {digits : List ℕ} → list_all is_digit (digit ∷ digits) ≡ true → Lexeme (Number (decimal (digit ∷ digits))) (digit ∷ digits)
  quoted : {said : List ℕ} → Lexeme (Text said) (codes "'" ++ doubled said ++ codes "'")
  macro : {bytes : List ℕ} → is_identifier bytes ≡ true → Lexeme (Macro (lowered bytes)) (codes "@" ++ bytes)
  sign : {bytes : List ℕ} → Contains signs bytes → Lexeme (Sign bytes) bytes
  unequal : Lexeme (Sign (codes "<>")) (codes "!=")

-- a line ends in front of a line feed, and where the text ends
abbrev pub ends_line : List ℕ → Bool
ends_line [] = true
ends_line (b ∷ bs) = b == 10

-- where a `*/` stands behind these bytes, none begins sooner
abbrev pub IsInFrontOfFirst : List ℕ → Type 0
IsInFrontOfFirst said = (front behind : List ℕ) → front ++ codes "*/" ++ behind ≡ said ++ codes "*/" → length said ≤ length front

-- The first bytes, in front of the others, are blanks and comments. A comment goes from `--` to the end of its line,
-- or from `/*` to the first `*/`.
pub data AreBetween : List ℕ → List ℕ → Type 0 where
  nothing : {behind : List ℕ} → AreBetween [] behind
  blank : {b : ℕ} {bytes behind : List ℕ} → is_blank b ≡ true → AreBetween bytes behind → AreBetween (b ∷ bytes) behind
  line : (said : List ℕ) {bytes behind : List ℕ} → list_all (λ b. not (b == 10)) said ≡ true → ends_line (bytes ++ behind) ≡ true
      → AreBetween bytes behind → AreBetween (codes "--" ++ said ++ bytes) behind
  note : (said : List ℕ) {bytes behind : List ℕ} → IsInFrontOfFirst said
      → AreBetween bytes behind → AreBetween (codes "/*" ++ said ++ codes "*/" ++ bytes) behind

-- `--` or `/*` begins here
abbrev pub begins_comment : List ℕ → Bool
begins_comment [] = false
begins_comment (a ∷ []) = false
begins_comment (a ∷ b ∷ bs) = ((a == 45) && (b == 45)) || ((a == 47) && (b == 42))

-- where the first bytes stand in front of the others, no longer front of both spells a token of any kind
abbrev pub IsLongest : List ℕ → List ℕ → Type 0
IsLongest bytes behind = (kind : TokenKind) (front rest : List ℕ) → front ++ rest ≡ bytes ++ behind → Lexeme kind front → length front ≤ length bytes

-- These are the tokens of a text whose first byte stands at this place: blanks and comments, the longest bytes that
-- spell a token, where no comment begins, and so on behind them; at last blanks and comments.
pub data AreLexed : ℕ → List ℕ → List Token → Type 0 where
  no_more : {at : ℕ} {between : List ℕ} → AreBetween between [] → AreLexed at between []
  next : {at : ℕ} (between bytes behind : List ℕ) {kind : TokenKind} {more : List Token} → AreBetween between (bytes ++ behind)
      → begins_comment (bytes ++ behind) ≡ false → Lexeme kind bytes → IsLongest bytes behind
      → AreLexed (at + length between + length bytes) behind more
      → AreLexed at (between ++ bytes ++ behind) (record { start = at + length between; end = at + length between + length bytes; kind = kind } ∷ more)
