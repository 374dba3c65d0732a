-- What the value of a model's `audits` lists.
use Rattle.std.specs.Prelude.{ℕ, zero, suc, ◌-◌, Bool, true, false, ◌&&◌, ◌||◌, nat_eq, if◌then◌else◌, List, [], ◌∷◌, ◌++◌, codes, length, take, drop}
use Rattle.std.specs.List.{flat_map}
use Rattle.std.specs.Str.{bytes_eq}
use Rattle.std.specs.declared.option.Option.{Option}
use Rattle.std.specs.declared.option.Option.TheVariants.{None, Some}
use Rattle.std.specs.Fmt.{decimal}
use Rattle.mesh_query_tokens.specs.bounds.Found.{◌>>=◌}
use Rattle.mesh_query_tokens.specs.bounds.Signs.{is_sign}
use Rattle.mesh_query_tokens.specs.declared.tokens.Token.{Token}
use Rattle.mesh_query_tokens.specs.declared.tokens.TokenKind.{TokenKind}
use Rattle.mesh_query_tokens.specs.declared.tokens.TokenKind.TheVariants.{Ident, Number, Text, Macro, Sign}
use Rattle.mesh_model_statement.specs.Faults.{is_word}
use Rattle.mesh_model_statement.specs.Values.{word}
use Rattle.mesh_audit_files.specs.declared.text.entries.Entry.{Entry}
use Rattle.mesh_audit_files.specs.declared.text.entries.Entry.TheVariants.{Named, NotNull, UniqueValues, Other}

abbrev pub opens : Token → Bool
opens k = is_sign (codes "(") k || is_sign (codes "[") k

abbrev pub closes : Token → Bool
closes k = is_sign (codes ")") k || is_sign (codes "]") k

-- so many brackets are open behind a token
abbrev pub depth_behind : ℕ → Token → ℕ
depth_behind depth k = if opens k then suc depth else if closes k then depth - 1 else depth

-- a comma outside of all brackets
abbrev pub is_border : ℕ → Token → Bool
is_border depth k = nat_eq depth 0 && is_sign (codes ",") k

-- the pieces between such commas, the first of which begins with these tokens
abbrev pub pieces_from : List Token → ℕ → List Token → List (List Token)
pieces_from front depth [] = front ∷ []
pieces_from front depth (k ∷ ks) = if is_border depth k then front ∷ pieces_from [] 0 ks else pieces_from (front ++ k ∷ []) (depth_behind depth k) ks

abbrev pub is_closing : List Token → Bool
is_closing (k ∷ []) = closes k
is_closing ks = false

-- the tokens inside of the brackets round all of them; where there are none, all tokens
abbrev pub inside : List Token → List Token
inside [] = []
inside (k ∷ ks) = if opens k && is_closing (drop (length ks - 1) ks) then take (length ks - 1) ks else k ∷ ks

abbrev pub is_end : List Token → Bool
is_end (k ∷ []) = is_sign (codes ")") k
is_end ks = false

-- a column, whether it is the last, and the tokens behind it: a comma stands there and more, or the parenthesis that
-- closes the list and the one that closes the form
abbrev pub one_column : List Token → Option (List ℕ × Bool × List Token)
one_column (c ∷ p ∷ ks) = do
  name ← word c
  if is_sign (codes ",") p then Some (name, false, ks)
      else if is_sign (codes ")") p && is_end ks then Some (name, true, ks) else None
one_column ks = None

-- the columns behind these; so many tokens are left at most
unfoldable pub columns_from : ℕ → List (List ℕ) → List Token → Option (List (List ℕ))
columns_from zero front ks = None
columns_from (suc most) front ks = one_column ks >>= λ r. if r.1 then Some (front ++ r.0 ∷ []) else columns_from most (front ++ r.0 ∷ []) r.2

-- one column without parentheses, up to the one that closes the form
abbrev pub only_column : Token → List Token → Option (List (List ℕ))
only_column c ks = do
  name ← word c
  if is_end ks then Some (name ∷ []) else None

-- `column)` or `(column, ..))`
abbrev pub columns_given : List Token → Option (List (List ℕ))
columns_given [] = None
columns_given (o ∷ ks) = if is_sign (codes "(") o then columns_from (length ks) [] ks else only_column o ks

-- `(columns := ` and the columns
abbrev pub columns_behind : List Token → Option (List (List ℕ))
columns_behind (o ∷ w ∷ e ∷ ks) = if is_sign (codes "(") o && (is_word (codes "columns") w && is_sign (codes ":=") e) then columns_given ks else None
columns_behind ks = None

-- the text of a token
abbrev pub kind_said : TokenKind → List ℕ
kind_said (Ident word) = word
kind_said (Number n) = decimal n
kind_said (Text text) = text
kind_said (Macro name) = 64 ∷ name
kind_said (Sign sign) = sign

-- an entry of no form goes by the text of its first token
abbrev pub other : Token → Entry
other k = Other (kind_said k.kind)

abbrev pub not_null_or : Token → Option (List (List ℕ)) → Entry
not_null_or k None = other k
not_null_or k (Some columns) = NotNull columns

abbrev pub unique_values_or : Token → Option (List (List ℕ)) → Entry
unique_values_or k None = other k
unique_values_or k (Some columns) = UniqueValues columns

abbrev pub named_or : Token → Option (List ℕ) → Entry
named_or k None = other k
named_or k (Some name) = Named name

-- what a piece means whose first token is this
abbrev pub entry_of : Token → List Token → Entry
entry_of k [] = named_or k (word k)
entry_of k (l ∷ ks) =
    if is_word (codes "not_null") k then not_null_or k (columns_behind (l ∷ ks))
    else if is_word (codes "unique_values") k then unique_values_or k (columns_behind (l ∷ ks))
    else other k

-- a piece without tokens is no entry
abbrev pub piece_entry : List Token → List Entry
piece_entry [] = []
piece_entry (k ∷ ks) = entry_of k ks ∷ []

-- the entries of a value
abbrev pub entries_of : List Token → List Entry
entries_of value = flat_map piece_entry (pieces_from [] 0 (inside value))
