-- The words among the tokens of a text.
use Rattle.std.proofs.Common.{◌≡◌, ℕ, zero, suc, ◌+◌, ◌-◌, Bool, true, false, cond, ◌&&◌, not, nat_le, nat_lt, ◌==◌, List, [], ◌∷◌, length, take, Result, Ok, Err, IfOk, refl, ◌∙◌, ap, subst, arith}
use Rattle.std.proofs.lemmas.List.{length-map}
use Rattle.std.proofs.lemmas.List.Folds.{length-prefix_len, list_all-append}
use Rattle.std.specs.Char.{to_ascii_lowercase, is_ascii_uppercase}
use Rattle.std.specs.List.{list_all, list_any}
use Rattle.std.specs.Str.Lossy.{utf8_valid_len}
use Rattle.std.proofs.lemmas.Bool.Decides.{nat_tests}
use Rattle.std.specs.declared.option.Option.{Option}
use Rattle.std.specs.declared.option.Option.TheVariants.{None, Some}
use Rattle.std.proofs.lemmas.Bool.{and_from as and_both}
use Rattle.mesh_base_values.specs.Names.{is_name_byte, is_identifier}
use Rattle.mesh_query_tokens.specs.Letters.{is_blank, is_digit, begins_word, is_sign, is_long_sign, lowered, decimal}
use Rattle.mesh_query_tokens.specs.Pieces.{Piece, piece_at, word_at, number_at, macro_at, text_at, text_of, text_len, line_at, line_len, note_at, note_of, note_len, pair_at, last_at, long_sign, sign_at, utf8, no_token, too_large, longest_name, greatest, word_len, digits_len}
use Rattle.mesh_query_tokens.specs.Text.{tokens, tokens_from, with_piece, largest_file, file_word}
use Rattle.mesh_query_tokens.specs.declared.faults.ReadFault.{ReadFault}
use Rattle.mesh_query_tokens.specs.declared.faults.ReadFault.TheVariants as faults
use Rattle.mesh_query_tokens.specs.declared.tokens.Token.{Token}
use Rattle.mesh_query_tokens.specs.declared.tokens.TokenKind.{TokenKind}
use Rattle.mesh_query_tokens.specs.declared.tokens.TokenKind.TheVariants.{Sign}
use Rattle.mesh_query_tokens.proofs.Steps.{word_begins}
use Rattle.mesh_model_statement.specs.Values.{word, word_kind}
use Rattle.mesh_model_statement.proofs.Kept.{bound}
use Rattle.mesh_model.specs.Complete.{is_word}
use Rattle.mesh_model.specs.Lexed.{or_none, cut, known_tokens, file_tokens}

-- a byte in lower case
lower_begins : (b : ℕ) → begins_word b ≡ true → begins_word (to_ascii_lowercase b) ≡ true
lower_begins b h = by (nat_lt b 65) (nat_lt b 91) refl refl
  where
    by : (low high : Bool) → nat_lt b 65 ≡ low → nat_lt b 91 ≡ high → begins_word (cond low b (cond high (b + 32) b)) ≡ true
    by true high is up = h
    by false false is up = h
    by false true is up = grind (arith, nat_tests)

lower_name : (b : ℕ) → is_name_byte b ≡ true → is_name_byte (to_ascii_lowercase b) ≡ true
lower_name b h = by (nat_lt b 65) (nat_lt b 91) refl refl
  where
    by : (low high : Bool) → nat_lt b 65 ≡ low → nat_lt b 91 ≡ high → is_name_byte (cond low b (cond high (b + 32) b)) ≡ true
    by true high is up = h
    by false false is up = h
    by false true is up = grind (arith, nat_tests)

no_capital : (b : ℕ) → is_ascii_uppercase (to_ascii_lowercase b) ≡ false
no_capital b = by (nat_lt b 65) (nat_lt b 91) refl refl
  where
    by : (low high : Bool) → nat_lt b 65 ≡ low → nat_lt b 91 ≡ high → is_ascii_uppercase (cond low b (cond high (b + 32) b)) ≡ false
    by true high is up = grind (arith, nat_tests)
    by false false is up = grind (arith, nat_tests)
    by false true is up = grind (arith, nat_tests)

no_capitals : (bs : List ℕ) → list_any is_ascii_uppercase (lowered bs) ≡ false
no_capitals [] = refl
no_capitals (b ∷ bs) = rw (no_capital b) (no_capitals bs)

-- the name bytes that a text begins with
name_bytes : (bs : List ℕ) → list_all is_name_byte (lowered (take (word_len bs) bs)) ≡ true
name_bytes [] = refl
name_bytes (b ∷ bs) = by (is_name_byte b) refl (name_bytes bs)
  where
    one : 1 + word_len bs ≡ suc (word_len bs)
    one = omega arith

    by : (c : Bool) → is_name_byte b ≡ c → list_all is_name_byte (lowered (take (word_len bs) bs)) ≡ true → list_all is_name_byte (lowered (take (cond c (1 + word_len bs) 0) (b ∷ bs))) ≡ true
    by true is more = rw one (and_both _ _ (lower_name b is) more)
    by false is more = refl

-- an identifier in lower case is a word
read_word : (b : ℕ) (bs : List ℕ) → begins_word b ≡ true → nat_le (word_len (b ∷ bs)) longest_name ≡ true → is_word (lowered (take (word_len (b ∷ bs)) (b ∷ bs))) ≡ true
read_word b bs h short = and_both _ _ identifier (and_both _ _ (ap not (no_capitals (take (word_len (b ∷ bs)) (b ∷ bs)))) fits)
  where
    one : 1 + word_len bs ≡ suc (word_len bs)
    one = omega arith

    identifier : is_identifier (lowered (take (word_len (b ∷ bs)) (b ∷ bs))) ≡ true
    identifier = rw (word_begins b h, one) (and_both _ _ (lower_begins b h) (name_bytes bs))

    long : length (lowered (take (word_len (b ∷ bs)) (b ∷ bs))) ≡ word_len (b ∷ bs)
    long = length-map (take (word_len (b ∷ bs)) (b ∷ bs)) to_ascii_lowercase ∙ length-prefix_len is_name_byte (b ∷ bs)

    fits : nat_le (length (lowered (take (word_len (b ∷ bs)) (b ∷ bs)))) longest_name ≡ true
    fits = ap (λ n. nat_le n longest_name) long ∙ short

abbrev pub is_word_if_any : Option (List ℕ) → Bool
is_word_if_any None = true
is_word_if_any (Some text) = is_word text

-- the identifiers among tokens are words
abbrev pub have_words : List Token → Bool
have_words ts = list_all (λ t. is_word_if_any (word t)) ts

abbrev kind_of_piece : Option TokenKind → Bool
kind_of_piece None = true
kind_of_piece (Some kind) = is_word_if_any (word_kind kind)

-- a piece that is read is a word where it is an identifier
abbrev Fine : Result Piece ReadFault → Type 0
Fine r = IfOk r (λ p. kind_of_piece p.0 ≡ true)

either : (c : Bool) (x y : Result Piece ReadFault) → (c ≡ true → Fine x) → (c ≡ false → Fine y) → Fine (cond c x y)
either true x y p q = p refl
either false x y p q = q refl

valid : (at : ℕ) (bytes : List ℕ) (p : Piece) → kind_of_piece p.0 ≡ true → Fine (utf8 at bytes p)
valid at bytes p fine = either (utf8_valid_len bytes == length bytes) (Ok p) (no_token (at + utf8_valid_len bytes)) (λ _. fine) (λ _. tt)

text_fine : (at : ℕ) (bs : List ℕ) (o : Option ℕ) → Fine (text_of at bs o)
text_fine at bs None = tt
text_fine at bs (Some n) = valid (suc at) (take n bs) _ refl

note_fine : (at : ℕ) (bs : List ℕ) (o : Option ℕ) → Fine (note_of at bs o)
note_fine at bs None = tt
note_fine at bs (Some n) = valid (2 + at) (take n bs) _ refl

line_fine : (at : ℕ) (bs : List ℕ) → Fine (line_at at bs)
unfolding line_at
line_fine at bs = valid (2 + at) (take (line_len bs) bs) _ refl

last_fine : (at a : ℕ) → Fine (last_at at a)
unfolding last_at
last_fine at a = either (is_sign a) _ _ (λ _. refl) (λ _. tt)

long_fine : (a b : ℕ) → kind_of_piece (Some (long_sign a b)) ≡ true
long_fine a b = by (a == 33)
  where
    by : (c : Bool) → kind_of_piece (Some (cond c (Sign (60 ∷ 62 ∷ [])) (Sign (a ∷ b ∷ [])))) ≡ true
    by true = refl
    by false = refl

pair_fine : (at a b : ℕ) (bs : List ℕ) → Fine (pair_at at a b bs)
unfolding pair_at note_at
pair_fine at a b bs = either ((a == 45) && (b == 45)) _ _ (λ _. line_fine at bs)
    (λ _. either ((a == 47) && (b == 42)) _ _ (λ _. note_fine at bs (note_len bs))
    (λ _. either (is_long_sign a b) _ _ (λ _. long_fine a b) (λ _. either (is_sign a) _ _ (λ _. refl) (λ _. tt))))

sign_fine : (at a : ℕ) (bs : List ℕ) → Fine (sign_at at a bs)
unfolding sign_at
sign_fine at a [] = last_fine at a
sign_fine at a (b ∷ bs) = pair_fine at a b bs

macro_fine : (at : ℕ) (bs : List ℕ) → Fine (macro_at at bs)
unfolding macro_at
macro_fine at [] = tt
macro_fine at (b ∷ bs) = either (begins_word b) _ _ (λ _. either (nat_le (word_len (b ∷ bs)) longest_name) _ _ (λ _. refl) (λ _. tt)) (λ _. tt)

piece_fine : (at b : ℕ) (bs : List ℕ) → Fine (piece_at at b bs)
unfolding piece_at word_at number_at text_at
piece_fine at b bs = either (is_blank b) _ _ (λ _. refl)
    (λ _. either (begins_word b) _ _ (λ w. either (nat_le (word_len (b ∷ bs)) longest_name) _ _ (λ s. read_word b bs w s) (λ _. tt))
    (λ _. either (is_digit b) _ _ (λ _. either (nat_le (decimal (take (digits_len (b ∷ bs)) (b ∷ bs))) greatest) _ _ (λ _. refl) (λ _. tt))
    (λ _. either (b == 39) _ _ (λ _. text_fine at bs (text_len bs))
    (λ _. either (b == 64) _ _ (λ _. macro_fine at bs) (λ _. sign_fine at b bs)))))

with_fine : (front : List Token) (at : ℕ) (p : Piece) → have_words front ≡ true → kind_of_piece p.0 ≡ true → have_words (with_piece front at p) ≡ true
with_fine front at (None, n) h fine = h
with_fine front at (Some kind, n) h fine = list_all-append _ front (record { start = at; end = at + n; kind = kind } ∷ []) ∙ and_both _ _ h (and_both _ _ fine refl)

from_fine : (front : List Token) (left at : ℕ) (bs : List ℕ) (all : List Token) → tokens_from front left at bs ≡ Ok all → have_words front ≡ true → have_words all ≡ true
unfolding tokens_from
from_fine front left at [] all is h = let same : front ≡ all = cc is in subst (λ (ts : List Token). have_words ts ≡ true) same h
from_fine front (suc left) at (b ∷ bs) all is h = from_fine front left (suc at) bs all is h
from_fine front zero at (b ∷ bs) all is h =
    let p = bound (piece_at at b bs) (λ p. tokens_from (with_piece front at p) (p.1 - 1) (suc at) bs) all is in
    let fine : kind_of_piece p.0.0 ≡ true = subst Fine p.1 (piece_fine at b bs) in
    from_fine (with_piece front at p.0) (p.0.1 - 1) (suc at) bs all p.2 (with_fine front at p.0 h fine)

text_words : (bytes : List ℕ) → have_words (or_none (tokens bytes)) ≡ true
unfolding tokens
text_words bytes = by_size (nat_le (length bytes) largest_file)
  where
    by_read : (r : Result (List Token) ReadFault) → tokens_from [] 0 0 bytes ≡ r → have_words (or_none r) ≡ true
    by_read (Ok ts) is = from_fine [] 0 0 bytes ts is refl
    by_read (Err fault) is = refl

    by_size : (c : Bool) → have_words (or_none (cond c (tokens_from [] 0 0 bytes) (too_large 0 file_word largest_file))) ≡ true
    by_size true = by_read (tokens_from [] 0 0 bytes) refl
    by_size false = refl

front_words : (bytes : List ℕ) (r : Result (List Token) ReadFault) → have_words (or_none r) ≡ true → have_words (cut bytes r) ≡ true
front_words bytes (Ok ts) h = h
front_words bytes (Err (faults.Fault at kind)) h = text_words (take at bytes)
front_words bytes (Err faults.Memory) h = refl

-- the identifiers of a file are words
pub file_words : (bytes : List ℕ) → have_words (file_tokens bytes) ≡ true
file_words bytes = by (tokens bytes) (text_words bytes)
  where
    by : (r : Result (List Token) ReadFault) → have_words (or_none r) ≡ true → have_words (known_tokens bytes r) ≡ true
    by (Ok ts) h = h
    by (Err (faults.Fault at kind)) h = front_words bytes (tokens (take at bytes)) (text_words (take at bytes))
    by (Err faults.Memory) h = refl
