-- What the piece that a text begins with is.
use Rattle.std.proofs.Common.{◌≡◌, ℕ, suc, ◌+◌, ◌≤◌, Bool, true, false, cond, not, ◌&&◌, ◌||◌, nat_le, ◌==◌, List, [], ◌∷◌, ◌++◌, length, take, drop, Some, None, Result, Ok, IfOk, refl, sym, ◌∙◌, ap, subst, arith, append_assoc, one-add}
use Rattle.std.specs.Prelude.{codes}
use Rattle.std.specs.List.{list_all, prefix_len, Contains}
use Rattle.std.specs.Option.{option_map}
use Rattle.std.specs.Str.Lossy.{utf8_valid_len}
use Rattle.std.specs.declared.option.Option.{Option}
use Rattle.std.proofs.lemmas.Bool.{eqb-true, true≢false, false≢true, or_from, and_parts, and_from}
use Rattle.std.proofs.lemmas.List.{take-append-drop, length-take-le, take_at}
use Rattle.std.proofs.lemmas.List.Sums.{prefix_len-le-length}
use lib.ListN.{length-append}
use Rattle.mesh_base_values.specs.Names.{is_identifier, is_name_byte}
use Rattle.mesh_query_tokens.specs.declared.faults.ReadFault.{ReadFault}
use Rattle.mesh_query_tokens.specs.declared.tokens.TokenKind.{TokenKind}
use Rattle.mesh_query_tokens.specs.declared.tokens.TokenKind.TheVariants.{Ident, Number, Text, Macro, Sign}
use Rattle.mesh_query_tokens.specs.Letters.{is_blank, is_digit, begins_word, is_sign, is_long_sign, lowered, decimal}
use Rattle.mesh_query_tokens.specs.Pieces.{Piece, piece_at, word_at, number_at, macro_at, text_at, text_of, text_len, unquoted, line_at, line_len, note_at, note_of, note_len, pair_at, last_at, sign_at, utf8, no_token, long_sign, longest_name, greatest, word_len, digits_len}
use Rattle.mesh_query_tokens.proofs.Steps.{word_begins}
use Rattle.mesh_law_reading.specs.lexemes.Lexemes.{Lexeme, doubled, signs, ends_line, IsInFrontOfFirst, AreBetween, begins_comment}
use Rattle.mesh_law_reading.specs.lexemes.Lexemes.Lexeme.{word, number, quoted, macro, sign, unequal}
use Rattle.mesh_law_reading.specs.lexemes.Lexemes.AreBetween.{blank, line, note}

-- bytes that were read spell a token where they are one, and otherwise stand between tokens
abbrev pub Means : List ℕ → List ℕ → Option TokenKind → Type 0
Means bytes behind None = (more rest : List ℕ) → behind ≡ more ++ rest → AreBetween more rest → AreBetween (bytes ++ more) rest
Means bytes behind (Some kind) = Lexeme kind bytes × (begins_comment (bytes ++ behind) ≡ false)

-- a piece of so many bytes that a text begins with
pub record IsRead (text : List ℕ) (what : Option TokenKind) (n : ℕ) : Type 0 where
  pub bytes : List ℕ
  pub behind : List ℕ
  pub cut : text ≡ bytes ++ behind
  pub size : length bytes ≡ n
  pub some : 1 ≤ n
  pub meant : Means bytes behind what

abbrev pub Reads : List ℕ → Result Piece ReadFault → Type 0
Reads text r = IfOk r (λ p. IsRead text p.0 p.1)

either : (text : List ℕ) (c : Bool) (x y : Result Piece ReadFault) → (c ≡ true → Reads text x) → (c ≡ false → Reads text y) → Reads text (cond c x y)
either text true x y p q = p refl
either text false x y p q = q refl

valid : (text : List ℕ) (at : ℕ) (bytes : List ℕ) (p : Piece) → IsRead text p.0 p.1 → Reads text (utf8 at bytes p)
valid text at bytes p read = either text (utf8_valid_len bytes == length bytes) (Ok p) (no_token (at + utf8_valid_len bytes)) (λ _. read) (λ _. tt)

-- a test that fails at a byte tells it from each byte that passes
pub apart : (p : ℕ → Bool) (n b : ℕ) → p n ≡ false → p b ≡ true → (b == n) ≡ false
apart p n b fails passes = by_test (b == n) refl
  where
    by_test : (t : Bool) → (b == n) ≡ t → t ≡ false
    by_test true is = absurd (true≢false (sym passes ∙ ap p (eqb-true b n is) ∙ fails))
    by_test false is = refl

-- no comment begins with such a byte
no_comment : (p : ℕ → Bool) → p 45 ≡ false → p 47 ≡ false → (b : ℕ) (bs : List ℕ) → p b ≡ true → begins_comment (b ∷ bs) ≡ false
no_comment p one two b [] h = refl
no_comment p one two b (c ∷ bs) h = rw (apart p 45 b one h, apart p 47 b two h) refl

-- a front whose bytes pass a test
all_front : (p : ℕ → Bool) (bs : List ℕ) → list_all p (take (prefix_len p bs) bs) ≡ true
all_front p [] = refl
all_front p (b ∷ bs) = by_test (p b) refl (all_front p bs)
  where
    by_test : (t : Bool) → p b ≡ t → list_all p (take (prefix_len p bs) bs) ≡ true → list_all p (take (cond t (1 + prefix_len p bs) 0) (b ∷ bs)) ≡ true
    by_test true is rest = rw one-add (and_from (p b) (list_all p (take (prefix_len p bs) bs)) is rest)
    by_test false is rest = refl

front_begins : (p : ℕ → Bool) (b : ℕ) (bs : List ℕ) → p b ≡ true → take (prefix_len p (b ∷ bs)) (b ∷ bs) ≡ b ∷ take (prefix_len p bs) bs
front_begins p b bs h = rw h (rw one-add refl)

front_some : (p : ℕ → Bool) (b : ℕ) (bs : List ℕ) → p b ≡ true → 1 ≤ prefix_len p (b ∷ bs)
front_some p b bs h = rw h (omega arith)

-- a piece that is the longest front whose bytes pass a test
front_read : (p : ℕ → Bool) (b : ℕ) (bs : List ℕ) (kind : TokenKind) → p b ≡ true → Lexeme kind (take (prefix_len p (b ∷ bs)) (b ∷ bs)) → begins_comment (b ∷ bs) ≡ false
    → IsRead (b ∷ bs) (Some kind) (prefix_len p (b ∷ bs))
front_read p b bs kind h lexeme plain = record {
  bytes = take (prefix_len p (b ∷ bs)) (b ∷ bs);
  behind = drop (prefix_len p (b ∷ bs)) (b ∷ bs);
  cut = sym (take-append-drop (prefix_len p (b ∷ bs)) (b ∷ bs));
  size = length-take-le (prefix_len p (b ∷ bs)) (b ∷ bs) (prefix_len-le-length p (b ∷ bs));
  some = front_some p b bs h;
  meant = (lexeme, ap begins_comment (take-append-drop (prefix_len p (b ∷ bs)) (b ∷ bs)) ∙ plain);
}

-- a name is as long as its bytes are name bytes
word_front : (b : ℕ) (bs : List ℕ) → begins_word b ≡ true → is_identifier (take (word_len (b ∷ bs)) (b ∷ bs)) ≡ true
word_front b bs h = ap is_identifier (front_begins is_name_byte b bs (word_begins b h)) ∙ and_from (begins_word b) (list_all is_name_byte (take (word_len bs) bs)) h (all_front is_name_byte bs)

word_read : (at b : ℕ) (bs : List ℕ) → begins_word b ≡ true → Reads (b ∷ bs) (word_at at (b ∷ bs))
unfolding word_at
word_read at b bs h = either (b ∷ bs) (nat_le (word_len (b ∷ bs)) longest_name) _ _
    (λ _. front_read is_name_byte b bs (Ident (lowered (take (word_len (b ∷ bs)) (b ∷ bs)))) (word_begins b h) (word (word_front b bs h)) (no_comment begins_word refl refl b bs h)) (λ _. tt)

number_read : (at b : ℕ) (bs : List ℕ) → is_digit b ≡ true → Reads (b ∷ bs) (number_at at (b ∷ bs))
unfolding number_at
number_read at b bs h = either (b ∷ bs) (nat_le (decimal (take (digits_len (b ∷ bs)) (b ∷ bs))) greatest) _ _
    (λ _. front_read is_digit b bs (Number (decimal (take (digits_len (b ∷ bs)) (b ∷ bs)))) h
    (subst (λ (x : List ℕ). Lexeme (Number (decimal x)) x) (sym (front_begins is_digit b bs h)) (number (and_from (is_digit b) (list_all is_digit (take (digits_len bs) bs)) h (all_front is_digit bs))))
    (no_comment is_digit refl refl b bs h)) (λ _. tt)

-- a macro is a name behind an @
macro_read : (at : ℕ) (bs : List ℕ) → Reads (64 ∷ bs) (macro_at at bs)
unfolding macro_at
macro_read at [] = tt
macro_read at (b ∷ bs) = either (64 ∷ b ∷ bs) (begins_word b) _ _ (λ h. either (64 ∷ b ∷ bs) (nat_le (word_len (b ∷ bs)) longest_name) _ _ (λ _. behind_at h) (λ _. tt)) (λ _. tt)
  where
    behind_at : begins_word b ≡ true → IsRead (64 ∷ b ∷ bs) (Some (Macro (lowered (take (word_len (b ∷ bs)) (b ∷ bs))))) (suc (word_len (b ∷ bs)))
    behind_at h = record {
      bytes = 64 ∷ take (word_len (b ∷ bs)) (b ∷ bs);
      behind = drop (word_len (b ∷ bs)) (b ∷ bs);
      cut = ap (λ (x : List ℕ). 64 ∷ x) (sym (take-append-drop (word_len (b ∷ bs)) (b ∷ bs)));
      size = ap suc (length-take-le (word_len (b ∷ bs)) (b ∷ bs) (prefix_len-le-length is_name_byte (b ∷ bs)));
      some = omega arith;
      meant = (macro (word_front b bs h), ap (λ (x : List ℕ). begins_comment (64 ∷ x)) (take-append-drop (word_len (b ∷ bs)) (b ∷ bs)));
    }

-- what a text says
record Says (bs : List ℕ) (n : ℕ) : Type 0 where
  said : List ℕ
  behind : List ℕ
  cut : bs ≡ doubled said ++ 39 ∷ behind
  size : length (doubled said) ≡ n

doubled_plain : (b : ℕ) (bs : List ℕ) → (b == 39) ≡ false → doubled (b ∷ bs) ≡ b ∷ doubled bs
doubled_plain b bs h = rw h refl

unquoted_plain : (b : ℕ) (bs : List ℕ) → (b == 39) ≡ false → unquoted (b ∷ bs) ≡ b ∷ unquoted bs
unquoted_plain b [] h = refl
unquoted_plain b (c ∷ bs) h = rw h refl

pub unquoted-doubled : (said : List ℕ) → unquoted (doubled said) ≡ said
unquoted-doubled [] = refl
unquoted-doubled (b ∷ said) = by_test (b == 39) refl (unquoted-doubled said)
  where
    by_test : (t : Bool) → (b == 39) ≡ t → unquoted (doubled said) ≡ said → unquoted (cond t (39 ∷ 39 ∷ doubled said) (b ∷ doubled said)) ≡ b ∷ said
    by_test true is rest = cc (eqb-true b 39 is, rest)
    by_test false is rest = unquoted_plain b (doubled said) is ∙ ap (λ (x : List ℕ). b ∷ x) rest

-- more that a text says in front of the rest
says_quote : (bs : List ℕ) (n : ℕ) → Says bs n → Says (39 ∷ 39 ∷ bs) (2 + n)
says_quote bs n s = record { said = 39 ∷ s.said; behind = s.behind; cut = ap (λ (x : List ℕ). 39 ∷ 39 ∷ x) s.cut; size = rw s.size (omega arith) }

says_byte : (b : ℕ) (bs : List ℕ) (n : ℕ) → (b == 39) ≡ false → Says bs n → Says (b ∷ bs) (suc n)
says_byte b bs n h s = record {
  said = b ∷ s.said;
  behind = s.behind;
  cut = ap (λ (x : List ℕ). b ∷ x) s.cut ∙ ap (λ (x : List ℕ). x ++ 39 ∷ s.behind) (sym (doubled_plain b s.said h));
  size = ap length (doubled_plain b s.said h) ∙ ap suc s.size;
}

says_none : (b : ℕ) (bs : List ℕ) → (b == 39) ≡ true → Says (b ∷ bs) 0
says_none b bs h = record { said = []; behind = bs; cut = ap (λ (x : ℕ). x ∷ bs) (eqb-true b 39 h); size = refl }

text_says : (bs : List ℕ) (n : ℕ) → text_len bs ≡ Some n → Says bs n
text_says [] n is = absurd cc
text_says (b ∷ []) n is = by_test (b == 39) refl is
  where
    by_test : (t : Bool) → (b == 39) ≡ t → cond t (Some 0) None ≡ Some n → Says (b ∷ []) n
    by_test true same is = subst (Says (b ∷ [])) (cc) (says_none b [] same)
    by_test false same is = absurd cc
text_says (a ∷ b ∷ bs) n is = by_tests (a == 39) (b == 39) refl refl (text_says bs) (text_says (b ∷ bs)) is
  where
    over_pair : (o : Option ℕ) → text_len bs ≡ o → ((m : ℕ) → text_len bs ≡ Some m → Says bs m) → a ≡ 39 → b ≡ 39 → option_map (λ n. 2 + n) o ≡ Some n → Says (a ∷ b ∷ bs) n
    over_pair None here rest one two is = absurd cc
    over_pair (Some m) here rest one two is = rw (one, two) (subst (Says (39 ∷ 39 ∷ bs)) (cc) (says_quote bs m (rest m here)))

    over_byte : (o : Option ℕ) → text_len (b ∷ bs) ≡ o → ((m : ℕ) → text_len (b ∷ bs) ≡ Some m → Says (b ∷ bs) m) → (a == 39) ≡ false → option_map suc o ≡ Some n → Says (a ∷ b ∷ bs) n
    over_byte None here rest other is = absurd cc
    over_byte (Some m) here rest other is = subst (Says (a ∷ b ∷ bs)) (cc) (says_byte a (b ∷ bs) m other (rest m here))

    by_tests : (s t : Bool) → (a == 39) ≡ s → (b == 39) ≡ t → ((m : ℕ) → text_len bs ≡ Some m → Says bs m) → ((m : ℕ) → text_len (b ∷ bs) ≡ Some m → Says (b ∷ bs) m)
        → cond (s && t) (option_map (λ n. 2 + n) (text_len bs)) (cond s (Some 0) (option_map suc (text_len (b ∷ bs)))) ≡ Some n → Says (a ∷ b ∷ bs) n
    by_tests true true one two pair byte is = over_pair (text_len bs) refl pair (eqb-true a 39 one) (eqb-true b 39 two) is
    by_tests true false one other pair byte is = subst (Says (a ∷ b ∷ bs)) (cc) (says_none a (b ∷ bs) one)
    by_tests false t other two pair byte is = over_byte (text_len (b ∷ bs)) refl byte other is

said_read : (bs : List ℕ) (n : ℕ) → Says bs n → IsRead (39 ∷ bs) (Some (Text (unquoted (take n bs)))) (2 + n)
said_read bs n s = record {
  bytes = 39 ∷ (doubled s.said ++ 39 ∷ []);
  behind = s.behind;
  cut = ap (λ (x : List ℕ). 39 ∷ x) whole;
  size = ap suc (length-append (doubled s.said) (39 ∷ [])) ∙ counted;
  some = omega arith;
  meant = (subst (λ (x : List ℕ). Lexeme (Text x) (39 ∷ (doubled s.said ++ 39 ∷ []))) (sym same) quoted, no_comment (λ b. b == 39) refl refl 39 _ refl);
}
  where
    whole : bs ≡ (doubled s.said ++ 39 ∷ []) ++ s.behind
    whole = s.cut ∙ sym (append_assoc (doubled s.said) (39 ∷ []) s.behind)

    counted : suc (length (doubled s.said) + 1) ≡ 2 + n
    counted = omega (s.size, arith)

    same : unquoted (take n bs) ≡ s.said
    same = ap (λ (x : List ℕ). unquoted (take n x)) s.cut ∙ ap unquoted (take_at (doubled s.said) (39 ∷ s.behind) n s.size) ∙ unquoted-doubled s.said

text_read : (at : ℕ) (bs : List ℕ) → Reads (39 ∷ bs) (text_at at bs)
unfolding text_at
text_read at bs = by_length (text_len bs) refl
  where
    by_length : (o : Option ℕ) → text_len bs ≡ o → Reads (39 ∷ bs) (text_of at bs o)
    by_length None is = tt
    by_length (Some n) is = valid (39 ∷ bs) (suc at) (take n bs) (Some (Text (unquoted (take n bs))), 2 + n) (said_read bs n (text_says bs n is))

-- a comment behind two hyphens
line_within : (bs : List ℕ) → list_all (λ b. not (b == 10)) (take (line_len bs) bs) ≡ true
line_within [] = refl
line_within (b ∷ bs) = by_test (b == 10) refl (line_within bs)
  where
    by_test : (t : Bool) → (b == 10) ≡ t → list_all (λ b. not (b == 10)) (take (line_len bs) bs) ≡ true → list_all (λ b. not (b == 10)) (take (cond t 0 (suc (line_len bs))) (b ∷ bs)) ≡ true
    by_test true is rest = refl
    by_test false is rest = and_from (not (b == 10)) (list_all (λ b. not (b == 10)) (take (line_len bs) bs)) (ap not is) rest

line_ends : (bs : List ℕ) → ends_line (drop (line_len bs) bs) ≡ true
line_ends [] = refl
line_ends (b ∷ bs) = by_test (b == 10) refl (line_ends bs)
  where
    by_test : (t : Bool) → (b == 10) ≡ t → ends_line (drop (line_len bs) bs) ≡ true → ends_line (drop (cond t 0 (suc (line_len bs))) (b ∷ bs)) ≡ true
    by_test true is rest = is
    by_test false is rest = rest

line_inside : (bs : List ℕ) → line_len bs ≤ length bs
line_inside [] = omega arith
line_inside (b ∷ bs) = by_test (b == 10) (line_inside bs)
  where
    by_test : (t : Bool) → line_len bs ≤ length bs → cond t 0 (suc (line_len bs)) ≤ suc (length bs)
    by_test true h = omega arith
    by_test false h = omega arith

line_read : (at : ℕ) (bs : List ℕ) → Reads (45 ∷ 45 ∷ bs) (line_at at bs)
unfolding line_at
line_read at bs = valid (45 ∷ 45 ∷ bs) (2 + at) (take (line_len bs) bs) (None, 2 + line_len bs) (record {
  bytes = 45 ∷ 45 ∷ take (line_len bs) bs;
  behind = drop (line_len bs) bs;
  cut = ap (λ (x : List ℕ). 45 ∷ 45 ∷ x) (sym (take-append-drop (line_len bs) bs));
  size = counted;
  some = omega arith;
  meant = λ more rest same between. line (take (line_len bs) bs) (line_within bs) (ap ends_line (sym same) ∙ line_ends bs) between;
})
  where
    counted : suc (suc (length (take (line_len bs) bs))) ≡ 2 + line_len bs
    counted = omega (length-take-le (line_len bs) bs (line_inside bs), arith)

-- a comment behind a slash and a star goes on to the first star and slash
record Notes (bs : List ℕ) (n : ℕ) : Type 0 where
  said : List ℕ
  behind : List ℕ
  cut : bs ≡ said ++ 42 ∷ 47 ∷ behind
  size : length said ≡ n

note_cut : (bs : List ℕ) (n : ℕ) → note_len bs ≡ Some n → Notes bs n
note_cut [] n is = absurd cc
note_cut (b ∷ []) n is = absurd cc
note_cut (a ∷ b ∷ bs) n is = by_test ((a == 42) && (b == 47)) refl (note_cut (b ∷ bs)) is
  where
    over_byte : (o : Option ℕ) → note_len (b ∷ bs) ≡ o → ((m : ℕ) → note_len (b ∷ bs) ≡ Some m → Notes (b ∷ bs) m) → option_map suc o ≡ Some n → Notes (a ∷ b ∷ bs) n
    over_byte None here rest is = absurd cc
    over_byte (Some m) here rest is = let r = rest m here in record { said = a ∷ r.said; behind = r.behind; cut = ap (λ (x : List ℕ). a ∷ x) r.cut; size = ap suc r.size ∙ cc }

    by_test : (t : Bool) → ((a == 42) && (b == 47)) ≡ t → ((m : ℕ) → note_len (b ∷ bs) ≡ Some m → Notes (b ∷ bs) m) → cond t (Some 0) (option_map suc (note_len (b ∷ bs))) ≡ Some n → Notes (a ∷ b ∷ bs) n
    by_test true two rest is = let both = and_parts (a == 42) (b == 47) two in record { said = []; behind = bs; cut = cc (eqb-true a 42 both.0, eqb-true b 47 both.1); size = cc }
    by_test false two rest is = over_byte (note_len (b ∷ bs)) refl rest is

note_is_first : (bs : List ℕ) (n : ℕ) → note_len bs ≡ Some n → (front behind : List ℕ) → front ++ 42 ∷ 47 ∷ behind ≡ bs → n ≤ length front
note_is_first [] n is front behind same = absurd cc
note_is_first (b ∷ []) n is front behind same = absurd cc
note_is_first (a ∷ b ∷ bs) n is [] behind same = let two : ((a == 42) && (b == 47)) ≡ true = cut_two same in omega (first_none two, arith)
  where
    cut_two : 42 ∷ 47 ∷ behind ≡ a ∷ b ∷ bs → ((a == 42) && (b == 47)) ≡ true
    cut_two same = let one : 42 ≡ a = cc in let two : 47 ≡ b = cc in rw (← one, ← two) refl

    first_none : ((a == 42) && (b == 47)) ≡ true → n ≡ 0
    first_none two = let here = rw two at is in cc
note_is_first (a ∷ b ∷ bs) n is (x ∷ front) behind same = by_test ((a == 42) && (b == 47)) is (λ m here. note_is_first (b ∷ bs) m here front behind cc)
  where
    over_byte : (o : Option ℕ) → note_len (b ∷ bs) ≡ o → ((m : ℕ) → note_len (b ∷ bs) ≡ Some m → m ≤ length front) → option_map suc o ≡ Some n → n ≤ suc (length front)
    over_byte None here rest is = absurd cc
    over_byte (Some m) here rest is = let same : suc m ≡ n = cc in omega (rest m here, same, arith)

    by_test : (t : Bool) → cond t (Some 0) (option_map suc (note_len (b ∷ bs))) ≡ Some n → ((m : ℕ) → note_len (b ∷ bs) ≡ Some m → m ≤ length front) → n ≤ suc (length front)
    by_test true is rest = let same : 0 ≡ n = cc in omega (same, arith)
    by_test false is rest = over_byte (note_len (b ∷ bs)) refl rest is

note_cut_read : (bs : List ℕ) (n : ℕ) → note_len bs ≡ Some n → Notes bs n → IsRead (47 ∷ 42 ∷ bs) None (4 + n)
note_cut_read bs n is s = record {
  bytes = 47 ∷ 42 ∷ (s.said ++ 42 ∷ 47 ∷ []);
  behind = s.behind;
  cut = ap (λ (x : List ℕ). 47 ∷ 42 ∷ x) (s.cut ∙ sym (append_assoc s.said (42 ∷ 47 ∷ []) s.behind));
  size = counted;
  some = omega arith;
  meant = λ more rest same between. note s.said first between;
}
  where
    counted : suc (suc (length (s.said ++ 42 ∷ 47 ∷ []))) ≡ 4 + n
    counted = omega (length-append s.said (42 ∷ 47 ∷ []), s.size, arith)

    longer : (front behind : List ℕ) → front ++ codes "*/" ++ behind ≡ s.said ++ codes "*/" → front ++ 42 ∷ 47 ∷ (behind ++ s.behind) ≡ bs
    longer front behind same = sym (append_assoc front (42 ∷ 47 ∷ behind) s.behind) ∙ ap (λ (x : List ℕ). x ++ s.behind) (sym (append_assoc front (42 ∷ 47 ∷ []) behind) ∙ same) ∙ append_assoc s.said (42 ∷ 47 ∷ []) s.behind ∙ sym s.cut

    first : IsInFrontOfFirst s.said
    first front behind same = omega (note_is_first bs n is front (behind ++ s.behind) (longer front behind same), s.size, arith)

note_read : (at : ℕ) (bs : List ℕ) → Reads (47 ∷ 42 ∷ bs) (note_at at bs)
unfolding note_at
note_read at bs = by_length (note_len bs) refl
  where
    by_length : (o : Option ℕ) → note_len bs ≡ o → Reads (47 ∷ 42 ∷ bs) (note_of at bs o)
    by_length None is = tt
    by_length (Some n) is = valid (47 ∷ 42 ∷ bs) (2 + at) (take n bs) (None, 4 + n) (note_cut_read bs n is (note_cut bs n is))

-- the signs of one byte and of two
is_one : (n a : ℕ) → Contains signs (n ∷ []) → (a == n) ≡ true → Contains signs (a ∷ [])
is_one n a known h = subst (λ (x : ℕ). Contains signs (x ∷ [])) (sym (eqb-true a n h)) known

or : {P : Type 0} (s t : Bool) → (s ≡ true → P) → (t ≡ true → P) → (s || t) ≡ true → P
or true t p q h = p refl
or false t p q h = q h

sign_one : (a : ℕ) → is_sign a ≡ true → Contains signs (a ∷ [])
sign_one a = or _ (a == 62) (or _ (a == 60) (or _ (a == 61) (or _ (a == 37) (or _ (a == 47) (or _ (a == 45) (or _ (a == 43)
    (or _ (a == 42) (or _ (a == 46) (or _ (a == 59) (or _ (a == 44) (or _ (a == 93) (or _ (a == 91) (or (a == 40) (a == 41)
    (is_one 40 a (0, omega arith, refl)) (is_one 41 a (1, omega arith, refl))) (is_one 91 a (2, omega arith, refl))) (is_one 93 a (3, omega arith, refl))) (is_one 44 a (4, omega arith, refl)))
    (is_one 59 a (5, omega arith, refl))) (is_one 46 a (6, omega arith, refl))) (is_one 42 a (7, omega arith, refl))) (is_one 43 a (8, omega arith, refl))) (is_one 45 a (9, omega arith, refl)))
    (is_one 47 a (10, omega arith, refl))) (is_one 37 a (11, omega arith, refl))) (is_one 61 a (12, omega arith, refl))) (is_one 60 a (14, omega arith, refl))) (is_one 62 a (16, omega arith, refl))

is_two : (m n a b : ℕ) → Contains signs (m ∷ n ∷ []) → ((a == m) && (b == n)) ≡ true → Contains signs (a ∷ b ∷ [])
is_two m n a b known h = let both = and_parts (a == m) (b == n) h in rw (eqb-true a m both.0, eqb-true b n both.1) known

-- but `!=` is `<>`
sign_two : (a b : ℕ) → (a == 33) ≡ false → is_long_sign a b ≡ true → Contains signs (a ∷ b ∷ [])
sign_two a b other = or _ ((a == 58) && (b == 61)) (or _ ((a == 58) && (b == 58)) (or _ ((a == 124) && (b == 124)) (or _ ((a == 62) && (b == 61)) (or _ ((a == 60) && (b == 61))
    (or ((a == 60) && (b == 62)) ((a == 33) && (b == 61)) (is_two 60 62 a b (13, omega arith, refl)) (λ h. absurd (false≢true (sym other ∙ (and_parts (a == 33) (b == 61) h).0))))
    (is_two 60 61 a b (15, omega arith, refl))) (is_two 62 61 a b (17, omega arith, refl))) (is_two 124 124 a b (18, omega arith, refl)))
    (is_two 58 58 a b (19, omega arith, refl))) (is_two 58 61 a b (20, omega arith, refl))

long_sign_spells : (a b : ℕ) → is_long_sign a b ≡ true → Lexeme (long_sign a b) (a ∷ b ∷ [])
long_sign_spells a b h = by_test (a == 33) refl
  where
    second_of : (a ≡ 33) → b ≡ 61
    second_of is = by_second (b == 61) refl (rw is at h)
      where
        by_second : (t : Bool) → (b == 61) ≡ t → is_long_sign 33 b ≡ true → b ≡ 61
        by_second true same h = eqb-true b 61 same
        by_second false other h = absurd (false≢true (sym (rw other refl) ∙ h))

    by_test : (t : Bool) → (a == 33) ≡ t → Lexeme (cond t (Sign (60 ∷ 62 ∷ [])) (Sign (a ∷ b ∷ []))) (a ∷ b ∷ [])
    by_test true is = rw (eqb-true a 33 is, second_of (eqb-true a 33 is)) unequal
    by_test false is = sign (sign_two a b is h)

one_read : (a : ℕ) (bs : List ℕ) → is_sign a ≡ true → begins_comment (a ∷ bs) ≡ false → IsRead (a ∷ bs) (Some (Sign (a ∷ []))) 1
one_read a bs h plain = record { bytes = a ∷ []; behind = bs; cut = refl; size = refl; some = omega arith; meant = (sign (sign_one a h), plain) }

two_read : (a b : ℕ) (bs : List ℕ) → is_long_sign a b ≡ true → begins_comment (a ∷ b ∷ bs) ≡ false → IsRead (a ∷ b ∷ bs) (Some (long_sign a b)) 2
two_read a b bs h plain = record { bytes = a ∷ b ∷ []; behind = bs; cut = refl; size = refl; some = omega arith; meant = (long_sign_spells a b h, plain) }

last_read : (at a : ℕ) → Reads (a ∷ []) (last_at at a)
unfolding last_at
last_read at a = either (a ∷ []) (is_sign a) _ _ (λ h. one_read a [] h refl) (λ _. tt)

pair_read : (at a b : ℕ) (bs : List ℕ) → Reads (a ∷ b ∷ bs) (pair_at at a b bs)
unfolding pair_at
pair_read at a b bs = either (a ∷ b ∷ bs) ((a == 45) && (b == 45)) _ _ (λ h. lined (and_parts (a == 45) (b == 45) h))
    (λ n1. either (a ∷ b ∷ bs) ((a == 47) && (b == 42)) _ _ (λ h. noted (and_parts (a == 47) (b == 42) h))
    (λ n2. either (a ∷ b ∷ bs) (is_long_sign a b) _ _ (λ h. two_read a b bs h (or_from _ _ n1 n2))
    (λ _. either (a ∷ b ∷ bs) (is_sign a) _ _ (λ h. one_read a (b ∷ bs) h (or_from _ _ n1 n2)) (λ _. tt))))
  where
    lined : ((a == 45) ≡ true) × ((b == 45) ≡ true) → Reads (a ∷ b ∷ bs) (line_at at bs)
    lined both = subst (λ (x : List ℕ). Reads x (line_at at bs)) (cc (eqb-true a 45 both.0, eqb-true b 45 both.1)) (line_read at bs)

    noted : ((a == 47) ≡ true) × ((b == 42) ≡ true) → Reads (a ∷ b ∷ bs) (note_at at bs)
    noted both = subst (λ (x : List ℕ). Reads x (note_at at bs)) (cc (eqb-true a 47 both.0, eqb-true b 42 both.1)) (note_read at bs)

sign_read : (at a : ℕ) (bs : List ℕ) → Reads (a ∷ bs) (sign_at at a bs)
unfolding sign_at
sign_read at a [] = last_read at a
sign_read at a (b ∷ bs) = pair_read at a b bs

blank_read : (b : ℕ) (bs : List ℕ) → is_blank b ≡ true → IsRead (b ∷ bs) None 1
blank_read b bs h = record { bytes = b ∷ []; behind = bs; cut = refl; size = refl; some = omega arith; meant = λ more rest same between. blank h between }

-- the piece that a text begins with is a lexeme, or stands between two
pub piece_read : (at b : ℕ) (bs : List ℕ) → Reads (b ∷ bs) (piece_at at b bs)
unfolding piece_at
piece_read at b bs = either (b ∷ bs) (is_blank b) _ _ (λ h. blank_read b bs h)
    (λ _. either (b ∷ bs) (begins_word b) _ _ (λ h. word_read at b bs h)
    (λ _. either (b ∷ bs) (is_digit b) _ _ (λ h. number_read at b bs h)
    (λ _. either (b ∷ bs) (b == 39) _ _ (λ h. subst (λ (x : ℕ). Reads (x ∷ bs) (text_at at bs)) (sym (eqb-true b 39 h)) (text_read at bs))
    (λ _. either (b ∷ bs) (b == 64) _ _ (λ h. subst (λ (x : ℕ). Reads (x ∷ bs) (macro_at at bs)) (sym (eqb-true b 64 h)) (macro_read at bs)) (λ _. sign_read at b bs)))))
