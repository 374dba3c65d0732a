-- The tokens of a text stand one behind another.
use Rattle.std.proofs.Common.{◌≡◌, ℕ, zero, suc, ◌+◌, ◌-◌, ◌≤◌, Bool, true, false, cond, ◌&&◌, nat_le, nat_lt, ◌==◌, List, [], ◌∷◌, ◌++◌, length, take, Some, None, Result, Ok, Err, IfOk, refl, sym, ◌∙◌, arith, subst}
use Rattle.std.specs.Str.Lossy.{utf8_valid_len}
use Rattle.std.specs.declared.option.Option.{Option}
use borrow.Author.Tests.{le-leb, leb-true, lt-ltb}
use Rattle.mesh_query_tokens.specs.declared.faults.ReadFault.{ReadFault}
use Rattle.mesh_query_tokens.specs.declared.tokens.Token.{Token}
use Rattle.mesh_query_tokens.specs.declared.tokens.TokenKind.{TokenKind}
use Rattle.mesh_query_tokens.specs.Letters.{is_blank, is_digit, begins_word, is_sign, is_long_sign, decimal}
use Rattle.mesh_query_tokens.specs.Pieces.{Piece, piece_at, word_at, number_at, macro_at, text_at, text_of, text_len, line_at, line_len, note_at, note_of, note_len, pair_at, last_at, sign_at, utf8, no_token, too_large, longest_name, greatest, word_len, digits_len}
use Rattle.mesh_query_tokens.specs.Text.{tokens, tokens_from, with_piece, in_order, largest_file, file_word}
use Rattle.std.proofs.lemmas.List.{append_assoc}
use Rattle.std.proofs.lemmas.List.{append-nil}
use Rattle.mesh_query_tokens.specs.Gives.{◌>>=◌}
use Rattle.mesh_query_tokens.proofs.Steps.{some_word, some_digits}

-- a piece that was read has a byte at least
abbrev Long : Result Piece ReadFault → Type 0
Long r = IfOk r (λ p. 1 ≤ p.1)

either : (c : Bool) (x y : Result Piece ReadFault) → (c ≡ true → Long x) → (c ≡ false → Long y) → Long (cond c x y)
either true x y p q = p refl
either false x y p q = q refl

valid : (at : ℕ) (bytes : List ℕ) (p : Piece) → 1 ≤ p.1 → Long (utf8 at bytes p)
valid at bytes p some = either (utf8_valid_len bytes == length bytes) (Ok p) (no_token (at + utf8_valid_len bytes)) (λ _. some) (λ _. tt)

text_long : (at : ℕ) (bs : List ℕ) (o : Option ℕ) → Long (text_of at bs o)
text_long at bs None = tt
text_long at bs (Some n) = valid (suc at) (take n bs) _ (omega arith)

note_long : (at : ℕ) (bs : List ℕ) (o : Option ℕ) → Long (note_of at bs o)
note_long at bs None = tt
note_long at bs (Some n) = valid (2 + at) (take n bs) _ (omega arith)

line_long : (at : ℕ) (bs : List ℕ) → Long (line_at at bs)
unfolding line_at
line_long at bs = valid (2 + at) (take (line_len bs) bs) _ (omega arith)

last_long : (at a : ℕ) → Long (last_at at a)
unfolding last_at
last_long at a = either (is_sign a) _ _ (λ _. omega arith) (λ _. tt)

pair_long : (at a b : ℕ) (bs : List ℕ) → Long (pair_at at a b bs)
unfolding pair_at note_at
pair_long at a b bs = either ((a == 45) && (b == 45)) _ _ (λ _. line_long at bs)
    (λ _. either ((a == 47) && (b == 42)) _ _ (λ _. note_long at bs (note_len bs))
    (λ _. either (is_long_sign a b) _ _ (λ _. omega arith) (λ _. either (is_sign a) _ _ (λ _. omega arith) (λ _. tt))))

sign_long : (at a : ℕ) (bs : List ℕ) → Long (sign_at at a bs)
unfolding sign_at
sign_long at a [] = last_long at a
sign_long at a (b ∷ bs) = pair_long at a b bs

macro_long : (at : ℕ) (bs : List ℕ) → Long (macro_at at bs)
unfolding macro_at
macro_long at [] = tt
macro_long at (b ∷ bs) = either (begins_word b) _ _ (λ _. either (nat_le (word_len (b ∷ bs)) longest_name) _ _ (λ _. omega arith) (λ _. tt)) (λ _. tt)

piece_long : (at b : ℕ) (bs : List ℕ) → Long (piece_at at b bs)
unfolding piece_at word_at number_at text_at
piece_long at b bs = either (is_blank b) _ _ (λ _. omega arith)
    (λ _. either (begins_word b) _ _ (λ w. either (nat_le (word_len (b ∷ bs)) longest_name) _ _ (λ _. some_word (b ∷ bs) (omega arith) w) (λ _. tt))
    (λ _. either (is_digit b) _ _ (λ d. either (nat_le (decimal (take (digits_len (b ∷ bs)) (b ∷ bs))) greatest) _ _ (λ _. some_digits (b ∷ bs) (omega arith) d) (λ _. tt))
    (λ _. either (b == 39) _ _ (λ _. text_long at bs (text_len bs))
    (λ _. either (b == 64) _ _ (λ _. macro_long at bs) (λ _. sign_long at b bs)))))

lower : (low high : ℕ) (ts : List Token) → low ≤ high → in_order high ts ≡ true → in_order low ts ≡ true
lower low high [] le h = refl
lower low high (t ∷ ts) le h = by_first (nat_le high t.start) refl h
  where
    by_first : (b : Bool) → nat_le high t.start ≡ b → (b && (nat_lt t.start t.end && in_order t.end ts)) ≡ true → (nat_le low t.start && (nat_lt t.start t.end && in_order t.end ts)) ≡ true
    by_first true is h = rw (le-leb low t.start (let le2 : high ≤ t.start = leb-true high t.start is in omega (le, le2, arith))) h
    by_first false is h = cc

-- what is read behind tokens that are known
record Behind (front all : List Token) (from : ℕ) : Type 0 where
  more : List Token
  joined : all ≡ front ++ more
  ordered : in_order from more ≡ true

nothing_more : (front : List Token) (from : ℕ) → Behind front front from
nothing_more front from = record { more = []; joined = sym (append-nil front); ordered = refl }

further : (front all : List Token) (at n : ℕ) → Behind front all (suc at + (n - 1)) → Behind front all at
further front all at n rest = record { more = rest.more; joined = rest.joined; ordered = lower at (suc at + (n - 1)) rest.more (omega arith) rest.ordered }

ok_same : (front all : List Token) → ◌≡◌ {A = Result (List Token) ReadFault} (Ok front) (Ok all) → front ≡ all
ok_same front all is = cc

with_token : (front all : List Token) (at n : ℕ) (kind : TokenKind) → 1 ≤ n → Behind (front ++ record { start = at; end = at + n; kind = kind } ∷ []) all (suc at + (n - 1)) → Behind front all at
with_token front all at n kind some rest = record {
  more = record { start = at; end = at + n; kind = kind } ∷ rest.more;
  joined = rest.joined ∙ append_assoc front (record { start = at; end = at + n; kind = kind } ∷ []) rest.more;
  ordered = rw (le-leb at at (omega arith), lt-ltb at (at + n) (omega (some, arith))) (subst (λ (k : ℕ). in_order k rest.more ≡ true) same rest.ordered);
}
  where
    same : suc at + (n - 1) ≡ at + n
    same = omega (some, arith)

all_behind : (front : List Token) (left at : ℕ) (bs : List ℕ) (all : List Token) → tokens_from front left at bs ≡ Ok all → Behind front all (at + left)
unfolding tokens_from
all_behind front left at [] all is = subst (λ (ts : List Token). Behind front ts (at + left)) (ok_same front all is) (nothing_more front (at + left))
all_behind front (suc left) at (b ∷ bs) all is = subst (Behind front all) same (all_behind front left (suc at) bs all is)
  where
    same : suc at + left ≡ at + suc left
    same = omega arith
all_behind front zero at (b ∷ bs) all is = subst (Behind front all) same (by_piece (piece_at at b bs) (piece_long at b bs) (λ made n. all_behind made n (suc at) bs all) is)
  where
    same : at ≡ at + 0
    same = omega arith

    by_piece : (r : Result Piece ReadFault) → Long r → ((made : List Token) (n : ℕ) → tokens_from made n (suc at) bs ≡ Ok all → Behind made all (suc at + n))
        → (r >>= λ p. tokens_from (with_piece front at p) (p.1 - 1) (suc at) bs) ≡ Ok all → Behind front all at
    by_piece (Err e) long more is = absurd cc
    by_piece (Ok (None, n)) long more is = further front all at n (more front (n - 1) is)
    by_piece (Ok (Some kind, n)) long more is = with_token front all at n kind long (more (front ++ record { start = at; end = at + n; kind = kind } ∷ []) (n - 1) is)

pub stand_in_order : (bytes : List ℕ) (found : List Token) → tokens bytes ≡ Ok found → in_order 0 found ≡ true
unfolding tokens
stand_in_order bytes found is = by_size (nat_le (length bytes) largest_file) is
  where
    all_of : Behind [] found 0 → in_order 0 found ≡ true
    all_of b = subst (λ (ts : List Token). in_order 0 ts ≡ true) (sym b.joined) b.ordered

    by_size : (c : Bool) → cond c (tokens_from [] 0 0 bytes) (too_large 0 file_word largest_file) ≡ Ok found → in_order 0 found ≡ true
    by_size true is = all_of (all_behind [] 0 0 bytes found is)
    by_size false is = absurd cc
