-- The piece that a text begins with: a blank, a comment or a token, each as long as it can be.
use Rattle.std.specs.Prelude.{ℕ, suc, ◌+◌, ◌&&◌, nat_le, ◌==◌, List, [], ◌∷◌, length, take, Some, None, Result, Ok, Err, if◌then◌else◌}
use Rattle.std.specs.List.{prefix_len}
use Rattle.std.specs.Option.{option_map}
use Rattle.std.specs.Str.Lossy.{utf8_valid_len}
use Rattle.std.specs.declared.option.Option.{Option}
use Rattle.mesh_base_values.specs.Names.{is_name_byte}
use Rattle.mesh_query_tokens.specs.declared.faults.FaultKind.TheVariants.{Syntax, TooLarge}
use Rattle.mesh_query_tokens.specs.declared.faults.ReadFault.{ReadFault}
use Rattle.mesh_query_tokens.specs.declared.faults.ReadFault.TheVariants.{Fault}
use Rattle.mesh_query_tokens.specs.declared.tokens.TokenKind.{TokenKind}
use Rattle.mesh_query_tokens.specs.declared.tokens.TokenKind.TheVariants.{Ident, Number, Text, Macro, Sign}
use Rattle.mesh_query_tokens.specs.Letters.{is_blank, is_digit, begins_word, is_sign, is_long_sign, lowered, decimal}

-- what a piece is, if it is a token, and its length in bytes
abbrev pub Piece : Type 0
Piece = Option TokenKind × ℕ

-- there is no token of this kind at this place
abbrev pub no_token : {A : Type 0} → ℕ → Result A ReadFault
no_token at = Err (Fault at Syntax)

-- a token at this place passes a limit
abbrev pub too_large : {A : Type 0} → ℕ → List ℕ → ℕ → Result A ReadFault
too_large at what limit = Err (Fault at (TooLarge what limit))

-- bytes are UTF-8, and otherwise the fault is where they stop being so
abbrev pub utf8 : {A : Type 0} → ℕ → List ℕ → A → Result A ReadFault
utf8 at bytes value = if utf8_valid_len bytes == length bytes then Ok value else no_token (at + utf8_valid_len bytes)

-- `name`, `number`
abbrev pub name_word : List ℕ
name_word = 110 ∷ 97 ∷ 109 ∷ 101 ∷ []

abbrev pub number_word : List ℕ
number_word = 110 ∷ 117 ∷ 109 ∷ 98 ∷ 101 ∷ 114 ∷ []

-- the most bytes of an identifier
abbrev pub longest_name : ℕ
longest_name = 128

-- the greatest number
abbrev pub greatest : ℕ
greatest = 9223372036854775807

-- an identifier has every name byte that follows
abbrev pub word_len : List ℕ → ℕ
word_len bytes = prefix_len is_name_byte bytes

unfoldable pub word_at : ℕ → List ℕ → Result Piece ReadFault
word_at at bytes =
    if nat_le (word_len bytes) longest_name then Ok (Some (Ident (lowered (take (word_len bytes) bytes))), word_len bytes)
    else too_large at name_word longest_name

-- a number has every digit that follows
abbrev pub digits_len : List ℕ → ℕ
digits_len bytes = prefix_len is_digit bytes

unfoldable pub number_at : ℕ → List ℕ → Result Piece ReadFault
number_at at bytes =
    if nat_le (decimal (take (digits_len bytes) bytes)) greatest then Ok (Some (Number (decimal (take (digits_len bytes) bytes))), digits_len bytes)
    else too_large at number_word greatest

-- a macro is an identifier behind an @; these are the bytes behind it
unfoldable pub macro_at : ℕ → List ℕ → Result Piece ReadFault
macro_at at [] = no_token at
macro_at at (b ∷ bs) =
    if begins_word b then (
    if nat_le (word_len (b ∷ bs)) longest_name then Ok (Some (Macro (lowered (take (word_len (b ∷ bs)) (b ∷ bs)))), suc (word_len (b ∷ bs)))
    else too_large at name_word longest_name)
    else no_token at

-- the bytes in front of the quote that closes a text: two quotes in it are one
abbrev pub text_len : List ℕ → Option ℕ
text_len [] = None
text_len (b ∷ []) = if b == 39 then Some 0 else None
text_len (a ∷ b ∷ bs) =
    if (a == 39) && (b == 39) then option_map (λ n. 2 + n) (text_len bs)
    else if a == 39 then Some 0
    else option_map suc (text_len (b ∷ bs))

-- what a text says between its quotes
abbrev pub unquoted : List ℕ → List ℕ
unquoted [] = []
unquoted (a ∷ []) = a ∷ []
unquoted (a ∷ b ∷ bs) = if (a == 39) && (b == 39) then 39 ∷ unquoted bs else a ∷ unquoted (b ∷ bs)

-- a text goes on to its closing quote; these are the bytes behind the opening one
abbrev pub text_of : ℕ → List ℕ → Option ℕ → Result Piece ReadFault
text_of at bytes None = no_token at
text_of at bytes (Some n) = utf8 (suc at) (take n bytes) (Some (Text (unquoted (take n bytes))), 2 + n)

unfoldable pub text_at : ℕ → List ℕ → Result Piece ReadFault
text_at at bytes = text_of at bytes (text_len bytes)

-- a comment behind two hyphens goes on to the end of the line
abbrev pub line_len : List ℕ → ℕ
line_len [] = 0
line_len (b ∷ bs) = if b == 10 then 0 else suc (line_len bs)

unfoldable pub line_at : ℕ → List ℕ → Result Piece ReadFault
line_at at bytes = utf8 (2 + at) (take (line_len bytes) bytes) (None, 2 + line_len bytes)

-- one behind a slash and a star goes on to the next star and slash
abbrev pub note_len : List ℕ → Option ℕ
note_len [] = None
note_len (b ∷ []) = None
note_len (a ∷ b ∷ bs) = if (a == 42) && (b == 47) then Some 0 else option_map suc (note_len (b ∷ bs))

abbrev pub note_of : ℕ → List ℕ → Option ℕ → Result Piece ReadFault
note_of at bytes None = no_token at
note_of at bytes (Some n) = utf8 (2 + at) (take n bytes) (None, 4 + n)

unfoldable pub note_at : ℕ → List ℕ → Result Piece ReadFault
note_at at bytes = note_of at bytes (note_len bytes)

-- `!=` means `<>`, and each other sign itself
abbrev pub long_sign : ℕ → ℕ → TokenKind
long_sign a b = if a == 33 then Sign (60 ∷ 62 ∷ []) else Sign (a ∷ b ∷ [])

-- the piece that these two bytes begin, where it isn't known by the first
unfoldable pub pair_at : ℕ → ℕ → ℕ → List ℕ → Result Piece ReadFault
pair_at at a b bs =
    if (a == 45) && (b == 45) then line_at at bs
    else if (a == 47) && (b == 42) then note_at at bs
    else if is_long_sign a b then Ok (Some (long_sign a b), 2)
    else if is_sign a then Ok (Some (Sign (a ∷ [])), 1)
    else no_token at

-- a sign at the end
unfoldable pub last_at : ℕ → ℕ → Result Piece ReadFault
last_at at a = if is_sign a then Ok (Some (Sign (a ∷ [])), 1) else no_token at

-- what begins with this byte, where no identifier, number, text or macro does
unfoldable pub sign_at : ℕ → ℕ → List ℕ → Result Piece ReadFault
sign_at at a [] = last_at at a
sign_at at a (b ∷ bs) = pair_at at a b bs

-- the piece that begins with this byte at this place
unfoldable pub piece_at : ℕ → ℕ → List ℕ → Result Piece ReadFault
piece_at at b bs =
    if is_blank b then Ok (None, 1)
    else if begins_word b then word_at at (b ∷ bs)
    else if is_digit b then number_at at (b ∷ bs)
    else if b == 39 then text_at at bs
    else if b == 64 then macro_at at bs
    else sign_at at b bs

-- the piece that a text begins with at this place
abbrev pub piece_of : ℕ → List ℕ → Result Piece ReadFault
piece_of at [] = no_token at
piece_of at (b ∷ bs) = piece_at at b bs
