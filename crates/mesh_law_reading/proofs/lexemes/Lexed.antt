-- One token behind another.
use Rattle.std.proofs.Common.{◌≡◌, ℕ, zero, suc, ◌+◌, ◌-◌, ◌≤◌, Bool, true, false, cond, nat_le, List, [], ◌∷◌, ◌++◌, length, drop, Some, None, Result, Ok, Err, refl, sym, ◌∙◌, ap, ap₂, subst, arith, append_assoc}
use Rattle.std.proofs.lemmas.List.{append-nil}
use Rattle.std.proofs.Math.Seq.{drop-append_seam}
use lib.ListN.{length-append}
use Rattle.std.specs.declared.option.Option.{Option}
use Rattle.mesh_query_tokens.specs.declared.faults.ReadFault.{ReadFault}
use Rattle.mesh_query_tokens.specs.declared.tokens.Token.{Token}
use Rattle.mesh_query_tokens.specs.declared.tokens.TokenKind.{TokenKind}
use Rattle.mesh_query_tokens.specs.Gives.{◌>>=◌}
use Rattle.mesh_query_tokens.specs.Pieces.{Piece, piece_at, piece_of, too_large}
use Rattle.mesh_query_tokens.specs.Text.{tokens, tokens_from, with_piece, largest_file, file_word}
use Rattle.mesh_law_reading.specs.lexemes.Lexemes.{Lexeme, AreBetween, AreLexed, IsLongest, begins_comment}
use Rattle.mesh_law_reading.specs.lexemes.Lexemes.AreBetween.{nothing}
use Rattle.mesh_law_reading.specs.lexemes.Lexemes.AreLexed.{no_more, next}
use Rattle.mesh_law_reading.proofs.lexemes.Fronts.{Means, IsRead, Reads, piece_read}
use Rattle.mesh_law_reading.proofs.lexemes.Longest.{no_longer}

-- a token in front of others, wherever its places and the text are said to be
next_at : {at start finish : ℕ} {all : List ℕ} {kind : TokenKind} {more : List Token} (between bytes behind : List ℕ) → all ≡ (between ++ bytes) ++ behind → start ≡ at + length between → finish ≡ at + length between + length bytes
    → AreBetween between (bytes ++ behind) → begins_comment (bytes ++ behind) ≡ false → Lexeme kind bytes → IsLongest bytes behind → AreLexed finish behind more
    → AreLexed at all (record { start = start; end = finish; kind = kind } ∷ more)
next_at {more = more} between bytes behind whole begins ends blanks plain lexeme longest rest =
    rw (whole, begins, ends) (next between bytes behind blanks plain lexeme longest (subst (λ (k : ℕ). AreLexed k behind more) ends rest))

-- what stands between tokens in front of what is lexed
between_first : {at from : ℕ} {behind : List ℕ} {more : List Token} (bytes : List ℕ) → from ≡ at + length bytes → Means bytes behind None → AreLexed from behind more → AreLexed at (bytes ++ behind) more
between_first bytes is means (no_more {between = between} blanks) = no_more (means between [] (sym (append-nil between)) blanks)
between_first {at} bytes is means (next {at = from} between token rest blanks plain lexeme longest more) =
    next_at (bytes ++ between) token rest whole begins ends (means between (token ++ rest) (append_assoc between token rest) blanks) plain lexeme longest more
  where
    whole : bytes ++ ((between ++ token) ++ rest) ≡ ((bytes ++ between) ++ token) ++ rest
    whole = sym (append_assoc bytes (between ++ token) rest) ∙ ap (λ (x : List ℕ). x ++ rest) (sym (append_assoc bytes between token))

    begins : from + length between ≡ at + length (bytes ++ between)
    begins = omega (is, length-append bytes between, arith)

    ends : from + length between + length token ≡ at + length (bytes ++ between) + length token
    ends = omega (is, length-append bytes between, arith)

-- what is read behind tokens that are known
record Behind (front all : List Token) (from : ℕ) (rest : List ℕ) : Type 0 where
  more : List Token
  joined : all ≡ front ++ more
  lexed : AreLexed from rest more

nothing_more : (front : List Token) (left at : ℕ) → Behind front front (at + left) (drop left [])
nothing_more front zero at = record { more = []; joined = sym (append-nil front); lexed = no_more nothing }
nothing_more front (suc left) at = record { more = []; joined = sym (append-nil front); lexed = no_more nothing }

-- bytes that were read, and what stands behind them
rest_is : {text : List ℕ} {what : Option TokenKind} {n : ℕ} (r : IsRead text what n) → drop n text ≡ r.behind
rest_is {text} {what} {n} r = ap₂ (λ (k : ℕ) (x : List ℕ). drop k x) (sym r.size) r.cut ∙ drop-append_seam r.bytes r.behind

blanks_first : (front all : List Token) (at n : ℕ) (text : List ℕ) → IsRead text None n → Behind front all (at + n) (drop n text) → Behind front all at text
blanks_first front all at n text r rest = record {
  more = rest.more;
  joined = rest.joined;
  lexed = rw (r.cut) (between_first r.bytes same r.meant (subst (λ (x : List ℕ). AreLexed (at + n) x rest.more) (rest_is r) rest.lexed));
}
  where
    same : at + n ≡ at + length r.bytes
    same = omega (r.size, arith)

token_first : (front all : List Token) (at n : ℕ) (text : List ℕ) (kind : TokenKind) → piece_of at text ≡ Ok (Some kind, n) → IsRead text (Some kind) n
    → Behind (front ++ record { start = at; end = at + n; kind = kind } ∷ []) all (at + n) (drop n text) → Behind front all at text
token_first front all at n text kind is r rest = record {
  more = record { start = at; end = at + n; kind = kind } ∷ rest.more;
  joined = rest.joined ∙ append_assoc front (record { start = at; end = at + n; kind = kind } ∷ []) rest.more;
  lexed = next_at [] r.bytes r.behind r.cut begins ends nothing r.meant.1 r.meant.0 longest (subst (λ (x : List ℕ). AreLexed (at + n) x rest.more) (rest_is r) rest.lexed);
}
  where
    begins : at ≡ at + 0
    begins = omega arith

    ends : at + n ≡ at + 0 + length r.bytes
    ends = omega (r.size, arith)

    longest : IsLongest r.bytes r.behind
    longest other longer behind same lexeme = omega (no_longer at behind kind n lexeme (ap (piece_of at) (same ∙ sym r.cut) ∙ is), r.size, arith)

-- the place and the text behind a piece, whose first byte is passed over already
passed : (front all : List Token) (at b n : ℕ) (bs : List ℕ) → 1 ≤ n → Behind front all (suc at + (n - 1)) (drop (n - 1) bs) → Behind front all (at + n) (drop n (b ∷ bs))
passed front all at b zero bs some rest = absurd (omega arith)
passed front all at b (suc n) bs some rest = subst (λ (k : ℕ). Behind front all k (drop n bs)) ahead (subst (λ (m : ℕ). Behind front all (suc at + m) (drop m bs)) less rest)
  where
    less : suc n - 1 ≡ n
    less = omega arith

    ahead : suc at + n ≡ at + suc n
    ahead = omega arith

ok_same : (front all : List Token) → ◌≡◌ {A = Result (List Token) ReadFault} (Ok front) (Ok all) → front ≡ all
ok_same front all is = cc

all_lexed : (front : List Token) (left at : ℕ) (bs : List ℕ) (all : List Token) → tokens_from front left at bs ≡ Ok all → Behind front all (at + left) (drop left bs)
unfolding tokens_from
all_lexed front left at [] all is = subst (λ (ts : List Token). Behind front ts (at + left) (drop left [])) (ok_same front all is) (nothing_more front left at)
all_lexed front (suc left) at (b ∷ bs) all is = subst (λ (k : ℕ). Behind front all k (drop left bs)) same (all_lexed front left (suc at) bs all is)
  where
    same : suc at + left ≡ at + suc left
    same = omega arith
all_lexed front zero at (b ∷ bs) all is = subst (λ (k : ℕ). Behind front all k (b ∷ bs)) same (by_piece (piece_at at b bs) refl (piece_read at b bs) (λ made n. all_lexed made n (suc at) bs all) is)
  where
    same : at ≡ at + 0
    same = omega arith

    by_piece : (r : Result Piece ReadFault) → piece_at at b bs ≡ r → Reads (b ∷ bs) r → ((made : List Token) (n : ℕ) → tokens_from made n (suc at) bs ≡ Ok all → Behind made all (suc at + n) (drop n bs))
        → (r >>= λ p. tokens_from (with_piece front at p) (p.1 - 1) (suc at) bs) ≡ Ok all → Behind front all at (b ∷ bs)
    by_piece (Err e) here read more is = absurd cc
    by_piece (Ok (None, n)) here read more is = blanks_first front all at n (b ∷ bs) read (passed front all at b n bs read.some (more front (n - 1) is))
    by_piece (Ok (Some kind, n)) here read more is = token_first front all at n (b ∷ bs) kind here read
        (passed (front ++ record { start = at; end = at + n; kind = kind } ∷ []) all at b n bs read.some (more (front ++ record { start = at; end = at + n; kind = kind } ∷ []) (n - 1) is))

pub tokens_are_lexed : (bytes : List ℕ) (found : List Token) → tokens bytes ≡ Ok found → AreLexed 0 bytes found
unfolding tokens
tokens_are_lexed bytes found is = by_size (nat_le (length bytes) largest_file) is
  where
    all_of : Behind [] found 0 bytes → AreLexed 0 bytes found
    all_of b = subst (AreLexed 0 bytes) (sym b.joined) b.lexed

    by_size : (c : Bool) → cond c (tokens_from [] 0 0 bytes) (too_large 0 file_word largest_file) ≡ Ok found → AreLexed 0 bytes found
    by_size true is = all_of (all_lexed [] 0 0 bytes found is)
    by_size false is = absurd cc
