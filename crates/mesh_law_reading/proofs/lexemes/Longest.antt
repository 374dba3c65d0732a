-- No longer front of a text than its first piece spells a token.
use Rattle.std.proofs.Common.{◌≡◌, ℕ, suc, ◌+◌, ◌≤◌, Bool, true, false, cond, not, ◌&&◌, nat_le, ◌==◌, List, [], ◌∷◌, ◌++◌, length, take, Some, None, Result, Ok, Err, IfOk, refl, sym, ◌∙◌, ap, subst, arith, append_assoc}
use Rattle.std.specs.List.{list_all, prefix_len, Contains}
use Rattle.std.specs.Option.{option_map}
use Rattle.std.specs.Str.Lossy.{utf8_valid_len}
use Rattle.std.specs.declared.option.Option.{Option}
use Rattle.std.proofs.lemmas.Bool.{leb-true, false≢true, or_parts, or_from, and_parts, and_from, not-true, lt-leb, and_left}
use Rattle.std.proofs.lemmas.List.Elements.{All-contains}
use Rattle.std.proofs.lemmas.List.Sums.{AllPass-from_list_all}
use lib.ListN.{length-append}
use Rattle.mesh_base_values.specs.Names.{is_identifier, is_name_byte}
use Rattle.mesh_query_tokens.specs.declared.faults.ReadFault.{ReadFault}
use Rattle.mesh_query_tokens.specs.declared.tokens.TokenKind.{TokenKind}
use Rattle.mesh_query_tokens.specs.Letters.{is_blank, is_digit, begins_word, is_long_sign, decimal}
use Rattle.mesh_query_tokens.specs.Pieces.{Piece, piece_at, piece_of, word_at, number_at, macro_at, text_at, text_of, text_len, pair_at, sign_at, long_sign, longest_name, greatest, word_len, digits_len}
use Rattle.mesh_query_tokens.proofs.Steps.{word_begins}
use Rattle.mesh_law_reading.specs.lexemes.Lexemes.{Lexeme, doubled, signs, begins_comment}
use Rattle.mesh_law_reading.specs.lexemes.Lexemes.Lexeme.{word, number, quoted, macro, sign, unequal}
use Rattle.mesh_law_reading.proofs.lexemes.Fronts.{apart, IsRead, piece_read}

-- the length of the piece that reading gives
ok_length : {what kind : Option TokenKind} {m n : ℕ} → ◌≡◌ {A = Result Piece ReadFault} (Ok (what, m)) (Ok (kind, n)) → m ≡ n
ok_length {what} {kind} {m} {n} is = ap (λ (p : Piece). p.1) same
  where
    same : ◌≡◌ {A = Piece} (what, m) (kind, n)
    same = cc

of_length : (c : Bool) (what kind : Option TokenKind) (m n : ℕ) (e : ReadFault) → ◌≡◌ {A = Result Piece ReadFault} (cond c (Ok (what, m)) (Err e)) (Ok (kind, n)) → m ≡ n
of_length true what kind m n e is = ok_length is
of_length false what kind m n e is = absurd cc

-- bytes that pass a test are no more than the front whose bytes do
passing : (p : ℕ → Bool) (bs rest : List ℕ) → list_all p bs ≡ true → length bs ≤ prefix_len p (bs ++ rest)
passing p [] rest all = omega arith
passing p (b ∷ bs) rest all = let both = and_parts (p b) (list_all p bs) all in rw (both.0) (omega (passing p bs rest both.1, arith))

-- no byte is of two kinds
pub word_no_blank : (b : ℕ) → begins_word b ≡ true → is_blank b ≡ false
word_no_blank b h = or_from _ _ (or_from _ _ (or_from _ _ (apart begins_word 32 b refl h) (apart begins_word 9 b refl h)) (apart begins_word 13 b refl h)) (apart begins_word 10 b refl h)

pub digit_no_blank : (b : ℕ) → is_digit b ≡ true → is_blank b ≡ false
digit_no_blank b h = or_from _ _ (or_from _ _ (or_from _ _ (apart is_digit 32 b refl h) (apart is_digit 9 b refl h)) (apart is_digit 13 b refl h)) (apart is_digit 10 b refl h)

pub digit_no_word : (b : ℕ) → is_digit b ≡ true → begins_word b ≡ false
digit_no_word b h = or_from _ _ (or_from _ _ (and_left _ _ (lt-leb 97 b (omega (below, arith)))) (and_left _ _ (lt-leb 65 b (omega (below, arith))))) (apart is_digit 95 b refl h)
  where
    below : b ≤ 57
    below = leb-true b 57 (and_parts (nat_le 48 b) (nat_le b 57) h).1

name_bytes : (b : ℕ) (bs : List ℕ) → is_identifier (b ∷ bs) ≡ true → list_all is_name_byte (b ∷ bs) ≡ true
name_bytes b bs h = let both = and_parts (begins_word b) (list_all is_name_byte bs) h in and_from (is_name_byte b) (list_all is_name_byte bs) (word_begins b both.0) both.1

-- which piece is read behind which first byte
at_word : (at b : ℕ) (bs : List ℕ) → begins_word b ≡ true → piece_at at b bs ≡ word_at at (b ∷ bs)
unfolding piece_at
at_word at b bs h = rw (word_no_blank b h, h) refl

at_digit : (at b : ℕ) (bs : List ℕ) → is_digit b ≡ true → piece_at at b bs ≡ number_at at (b ∷ bs)
unfolding piece_at
at_digit at b bs h = rw (digit_no_blank b h, digit_no_word b h, h) refl

word_longest : (at : ℕ) (bytes rest : List ℕ) (k : TokenKind) (n : ℕ) → is_identifier bytes ≡ true → piece_of at (bytes ++ rest) ≡ Ok (Some k, n) → length bytes ≤ n
unfolding word_at
word_longest at [] rest k n h is = absurd (false≢true h)
word_longest at (b ∷ bs) rest k n h is = omega (passing is_name_byte (b ∷ bs) rest (name_bytes b bs h), same, arith)
  where
    same : word_len (b ∷ (bs ++ rest)) ≡ n
    same = of_length (nat_le (word_len (b ∷ (bs ++ rest))) longest_name) _ _ _ n _ (sym (at_word at b (bs ++ rest) (and_parts (begins_word b) (list_all is_name_byte bs) h).0) ∙ is)

number_longest : (at b : ℕ) (bs rest : List ℕ) (k : TokenKind) (n : ℕ) → list_all is_digit (b ∷ bs) ≡ true → piece_at at b (bs ++ rest) ≡ Ok (Some k, n) → suc (length bs) ≤ n
unfolding number_at
number_longest at b bs rest k n h is = omega (passing is_digit (b ∷ bs) rest h, same, arith)
  where
    same : digits_len (b ∷ (bs ++ rest)) ≡ n
    same = of_length (nat_le (decimal (take (digits_len (b ∷ (bs ++ rest))) (b ∷ (bs ++ rest)))) greatest) _ _ _ n _ (sym (at_digit at b (bs ++ rest) (and_parts (is_digit b) (list_all is_digit bs) h).0) ∙ is)

macro_longest : (at : ℕ) (bytes rest : List ℕ) (k : TokenKind) (n : ℕ) → is_identifier bytes ≡ true → piece_at at 64 (bytes ++ rest) ≡ Ok (Some k, n) → suc (length bytes) ≤ n
unfolding piece_at macro_at
macro_longest at [] rest k n h is = absurd (false≢true h)
macro_longest at (b ∷ bs) rest k n h is = omega (passing is_name_byte (b ∷ bs) rest (name_bytes b bs h), same, arith)
  where
    same : suc (word_len (b ∷ (bs ++ rest))) ≡ n
    same = of_length (nat_le (word_len (b ∷ (bs ++ rest))) longest_name) _ _ _ n _ (rw ((and_parts (begins_word b) (list_all is_name_byte bs) h).0) at is)

-- a text that is read is no shorter than one that stands there
text_len_plain : (b : ℕ) (bs : List ℕ) → (b == 39) ≡ false → text_len (b ∷ bs) ≡ option_map suc (text_len bs)
text_len_plain b [] h = rw h refl
text_len_plain b (c ∷ bs) h = rw h refl

reads_to : (said rest : List ℕ) (n : ℕ) → text_len (doubled said ++ 39 ∷ rest) ≡ Some n → length (doubled said) ≤ n
reads_to [] rest n is = omega arith
reads_to (b ∷ said) rest n is = by_test (b == 39) refl (reads_to said rest) is
  where
    by_pair : (o : Option ℕ) → text_len (doubled said ++ 39 ∷ rest) ≡ o → ((m : ℕ) → text_len (doubled said ++ 39 ∷ rest) ≡ Some m → length (doubled said) ≤ m) → option_map (λ n. 2 + n) o ≡ Some n → suc (suc (length (doubled said))) ≤ n
    by_pair None here more is = absurd cc
    by_pair (Some m) here more is = let same : 2 + m ≡ n = cc in omega (more m here, same, arith)

    by_byte : (o : Option ℕ) → text_len (doubled said ++ 39 ∷ rest) ≡ o → ((m : ℕ) → text_len (doubled said ++ 39 ∷ rest) ≡ Some m → length (doubled said) ≤ m) → option_map suc o ≡ Some n → suc (length (doubled said)) ≤ n
    by_byte None here more is = absurd cc
    by_byte (Some m) here more is = let same : suc m ≡ n = cc in omega (more m here, same, arith)

    by_test : (t : Bool) → (b == 39) ≡ t → ((m : ℕ) → text_len (doubled said ++ 39 ∷ rest) ≡ Some m → length (doubled said) ≤ m)
        → text_len (cond t (39 ∷ 39 ∷ doubled said) (b ∷ doubled said) ++ 39 ∷ rest) ≡ Some n → length (cond t (39 ∷ 39 ∷ doubled said) (b ∷ doubled said)) ≤ n
    by_test true same more is = by_pair (text_len (doubled said ++ 39 ∷ rest)) refl more is
    by_test false other more is = by_byte (text_len (doubled said ++ 39 ∷ rest)) refl more (sym (text_len_plain b (doubled said ++ 39 ∷ rest) other) ∙ is)

text_longest : (at : ℕ) (said rest : List ℕ) (k : TokenKind) (n : ℕ) → piece_at at 39 ((doubled said ++ 39 ∷ []) ++ rest) ≡ Ok (Some k, n) → length (39 ∷ (doubled said ++ 39 ∷ [])) ≤ n
unfolding piece_at text_at
text_longest at said rest k n is = by_length (text_len ((doubled said ++ 39 ∷ []) ++ rest)) refl is
  where
    by_length : (o : Option ℕ) → text_len ((doubled said ++ 39 ∷ []) ++ rest) ≡ o → text_of at ((doubled said ++ 39 ∷ []) ++ rest) o ≡ Ok (Some k, n) → length (39 ∷ (doubled said ++ 39 ∷ [])) ≤ n
    by_length None here is = absurd cc
    by_length (Some m) here is = omega (length-append (doubled said) (39 ∷ []), reads_to said rest m (ap text_len (sym (append_assoc (doubled said) (39 ∷ []) rest)) ∙ here), same, arith)
      where
        same : 2 + m ≡ n
        same = of_length (utf8_valid_len (take m ((doubled said ++ 39 ∷ []) ++ rest)) == length (take m ((doubled said ++ 39 ∷ []) ++ rest))) _ _ _ n _ is

-- how signs are made
abbrev pub begins_sign : ℕ → Bool
begins_sign b = not (is_blank b) && (not (begins_word b) && (not (is_digit b) && (not (b == 39) && not (b == 64))))

made_as_sign : List ℕ → Bool
made_as_sign [] = false
made_as_sign (a ∷ []) = true
made_as_sign (a ∷ b ∷ []) = begins_sign a && (is_long_sign a b && not (begins_comment (a ∷ b ∷ [])))
made_as_sign (a ∷ b ∷ c ∷ bs) = false

sign_made : (bytes : List ℕ) → Contains signs bytes → made_as_sign bytes ≡ true
unfolding made_as_sign
sign_made bytes there = All-contains (λ (x : List ℕ). made_as_sign x ≡ true) signs bytes (AllPass-from_list_all made_as_sign signs refl) there

at_sign : (at b : ℕ) (bs : List ℕ) → begins_sign b ≡ true → piece_at at b bs ≡ sign_at at b bs
unfolding piece_at
at_sign at b bs h =
    let one = and_parts _ _ h in let two = and_parts _ _ one.1 in let three = and_parts _ _ two.1 in let four = and_parts _ _ three.1 in
    rw (not-true (is_blank b) one.0, not-true (begins_word b) two.0, not-true (is_digit b) three.0, not-true (b == 39) four.0, not-true (b == 64) four.1) refl

at_long_sign : (at a b : ℕ) (bs : List ℕ) → is_long_sign a b ≡ true → begins_comment (a ∷ b ∷ []) ≡ false → sign_at at a (b ∷ bs) ≡ Ok (Some (long_sign a b), 2)
unfolding sign_at pair_at
at_long_sign at a b bs h plain = let apart = or_parts ((a == 45) && (b == 45)) ((a == 47) && (b == 42)) plain in rw (apart.0, apart.1, h) refl

piece_some : (at : ℕ) (bs : List ℕ) (k : TokenKind) (n : ℕ) → piece_of at bs ≡ Ok (Some k, n) → 1 ≤ n
piece_some at [] k n is = absurd cc
piece_some at (b ∷ bs) k n is = of_read (subst (λ r. IfOk r (λ p. IsRead (b ∷ bs) p.0 p.1)) is (piece_read at b bs))
  where
    of_read : IsRead (b ∷ bs) (Some k) n → 1 ≤ n
    of_read r = r.some

sign_longest : (at : ℕ) (bytes rest : List ℕ) (k : TokenKind) (n : ℕ) → made_as_sign bytes ≡ true → piece_of at (bytes ++ rest) ≡ Ok (Some k, n) → length bytes ≤ n
unfolding made_as_sign
sign_longest at [] rest k n h is = absurd (false≢true h)
sign_longest at (a ∷ []) rest k n h is = piece_some at (a ∷ rest) k n is
sign_longest at (a ∷ b ∷ []) rest k n h is = omega (same, arith)
  where
    same : 2 ≡ n
    same =
        let one = and_parts _ _ h in let two = and_parts _ _ one.1 in
        ok_length (sym (at_sign at a (b ∷ rest) one.0 ∙ at_long_sign at a b rest two.0 (not-true (begins_comment (a ∷ b ∷ [])) two.1)) ∙ is)
sign_longest at (a ∷ b ∷ c ∷ bs) rest k n h is = absurd (false≢true h)

unequal_longest : (at : ℕ) (rest : List ℕ) (k : TokenKind) (n : ℕ) → piece_at at 33 (61 ∷ rest) ≡ Ok (Some k, n) → 2 ≤ n
unfolding piece_at sign_at pair_at
unequal_longest at rest k n is = let same : 2 ≡ n = ok_length is in omega (same, arith)

-- where a token is read, no longer front spells one
pub no_longer : {kind : TokenKind} {front : List ℕ} (at : ℕ) (rest : List ℕ) (k : TokenKind) (n : ℕ) → Lexeme kind front → piece_of at (front ++ rest) ≡ Ok (Some k, n) → length front ≤ n
no_longer at rest k n (word {bytes = bytes} h) is = word_longest at bytes rest k n h is
no_longer at rest k n (number {digit = b} {digits = bs} h) is = number_longest at b bs rest k n h is
no_longer at rest k n (quoted {said = said}) is = text_longest at said rest k n is
no_longer at rest k n (macro {bytes = bytes} h) is = macro_longest at bytes rest k n h is
no_longer at rest k n (sign {bytes = bytes} h) is = sign_longest at bytes rest k n (sign_made bytes h) is
no_longer at rest k n (unequal) is = unequal_longest at rest k n is
