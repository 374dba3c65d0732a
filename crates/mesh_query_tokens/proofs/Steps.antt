-- One piece after another.
use Rattle.std.proofs.Common.{◌≡◌, ℕ, zero, suc, ◌+◌, ◌-◌, ◌*◌, ◌<◌, ◌≤◌, Bool, true, false, ◌&&◌, ◌||◌, nat_le, ◌==◌, List, [], ◌∷◌, length, drop, get_or, Some, None, Result, Ok, Err, refl, sym, ◌∙◌, ap, ap₂, subst, arith}
use Rattle.std.proofs.Math.Seq.{drop-drop}
use Rattle.std.specs.Option.{option_map}
use Rattle.std.specs.declared.option.Option.{Option}
use Rattle.mesh_base_values.specs.Names.{is_letter, is_name_byte}
use Rattle.mesh_query_tokens.specs.declared.faults.ReadFault.{ReadFault}
use Rattle.mesh_query_tokens.specs.declared.tokens.Token.{Token}
use Rattle.mesh_query_tokens.specs.declared.tokens.TokenKind.{TokenKind}
use Rattle.mesh_query_tokens.specs.Letters.{begins_word, is_digit, decimal_after}
use Rattle.mesh_query_tokens.specs.Pieces.{Piece, piece_at, piece_of, word_len, digits_len, greatest, note_len, text_len}
use Rattle.mesh_query_tokens.specs.Gives.{Gives, Refuses}
use Rattle.mesh_query_tokens.specs.declared.faults.ReadFault.TheVariants as faults
use Rattle.mesh_query_tokens.specs.Text.{tokens, tokens_from, with_piece, largest_file}
use Rattle.std.specs.Result.{IsErrAnd}
use borrow.Author.Tests.{le-leb}
use lib.ListN.{length-drop}

-- more digits never say less
pub digits_grow : (n : ℕ) (bs : List ℕ) → n ≤ decimal_after n bs
digits_grow n [] = omega arith
digits_grow n (b ∷ bs) = let more : 10 * n + (b - 48) ≤ decimal_after n (b ∷ bs) = digits_grow (10 * n + (b - 48)) bs in omega (more, arith)

-- bytes that belong to the piece before are passed over
pub passed_over : (front : List Token) (n at : ℕ) (bs : List ℕ) → tokens_from front n at bs ≡ tokens_from front 0 (at + n) (drop n bs)
unfolding tokens_from
passed_over front zero at [] = refl
passed_over front (suc n) at [] = refl
passed_over front zero at (b ∷ bs) = ap (λ (k : ℕ). tokens_from front 0 k (b ∷ bs)) same
  where
    same : at ≡ at + 0
    same = omega arith
passed_over front (suc n) at (b ∷ bs) = passed_over front n (suc at) bs ∙ ap (λ (k : ℕ). tokens_from front 0 k (drop n bs)) same
  where
    same : suc at + n ≡ at + suc n
    same = omega arith

after_piece : (front : List Token) (at : ℕ) (b : ℕ) (bs : List ℕ) (p : Piece) → piece_at at b bs ≡ Ok p → tokens_from front 0 at (b ∷ bs) ≡ tokens_from (with_piece front at p) (p.1 - 1) (suc at) bs
unfolding tokens_from
after_piece front at b bs p is = rw is refl

-- after a piece the text goes on behind it
pub goes_on : (front : List Token) (at : ℕ) (rest : List ℕ) (p : Piece) → 1 ≤ p.1 → piece_of at rest ≡ Ok p → tokens_from front 0 at rest ≡ tokens_from (with_piece front at p) 0 (at + p.1) (drop p.1 rest)
goes_on front at [] p some is = absurd cc
goes_on front at (b ∷ bs) p some is =
    after_piece front at b bs p is ∙ passed_over (with_piece front at p) (p.1 - 1) (suc at) bs
    ∙ behind p.1 some
  where
    behind : (n : ℕ) → 1 ≤ n → tokens_from (with_piece front at p) 0 (suc at + (n - 1)) (drop (n - 1) bs) ≡ tokens_from (with_piece front at p) 0 (at + n) (drop n (b ∷ bs))
    behind zero some = absurd (omega arith)
    behind (suc n) some = ap₂ (λ (k m : ℕ). tokens_from (with_piece front at p) 0 k (drop m bs)) ahead less
      where
        ahead : suc at + (suc n - 1) ≡ at + suc n
        ahead = omega arith

        less : suc n - 1 ≡ n
        less = omega arith

-- a fault in a piece is the text's
pub stops : (front : List Token) (at : ℕ) (rest : List ℕ) (e : ReadFault) → 0 < length rest → piece_of at rest ≡ Err e → tokens_from front 0 at rest ≡ Err e
unfolding tokens_from
stops front at [] e some is = absurd (omega arith)
stops front at (b ∷ bs) e some is = rw is refl

-- an identifier has its first byte
pub word_begins : (b : ℕ) → begins_word b ≡ true → is_name_byte b ≡ true
word_begins b h = by_letter (is_letter b) (nat_le 48 b && nat_le b 57) (b == 95) h
  where
    by_letter : (l d u : Bool) → (l || u) ≡ true → ((l || d) || u) ≡ true
    by_letter true d u h = refl
    by_letter false true u h = refl
    by_letter false false u h = h

pub some_word : (bs : List ℕ) → 1 ≤ length bs → begins_word (get_or bs 0 0) ≡ true → 1 ≤ word_len bs
some_word [] some h = absurd (omega arith)
some_word (b ∷ bs) some h = rw (word_begins b h) (omega arith)

pub some_digits : (bs : List ℕ) → 1 ≤ length bs → is_digit (get_or bs 0 0) ≡ true → 1 ≤ digits_len bs
some_digits [] some h = absurd (omega arith)
some_digits (b ∷ bs) some h = rw h (omega arith)

-- digits say too much where the number in front of them does, or with the first of them
pub too_many_digits : (n : ℕ) (rest : List ℕ) → 1 ≤ length rest → 922337203685477580 < n → greatest < decimal_after n rest
too_many_digits n [] some big = absurd (omega arith)
too_many_digits n (b ∷ bs) some big = let more : 10 * n + (b - 48) ≤ decimal_after n (b ∷ bs) = digits_grow (10 * n + (b - 48)) bs in omega (more, big, arith)

pub too_great_digit : (n d : ℕ) (rest : List ℕ) → 1 ≤ length rest → d ≡ get_or rest 0 0 - 48 → greatest < 10 * n + d → greatest < decimal_after n rest
too_great_digit n d [] some is big = absurd (omega arith)
too_great_digit n d (b ∷ bs) some is big = let more : 10 * n + (b - 48) ≤ decimal_after n (b ∷ bs) = digits_grow (10 * n + (b - 48)) bs in omega (more, big, is, arith)

-- a text passes over each byte that is no quote, and over two quotes; a quote without another one closes it
passes_byte : (bs : List ℕ) (at x : ℕ) → at < length bs → x ≡ get_or bs at 0 → (x == 39) ≡ false → text_len (drop at bs) ≡ option_map suc (text_len (drop (suc at) bs))
passes_byte [] at x lt here other = absurd (omega arith)
passes_byte (b ∷ []) zero x lt here other = rw (ap (λ (k : ℕ). k == 39) (sym here) ∙ other) refl
passes_byte (b ∷ c ∷ bs) zero x lt here other = rw (ap (λ (k : ℕ). k == 39) (sym here) ∙ other) refl
passes_byte (b ∷ bs) (suc at) x lt here other = passes_byte bs at x (omega arith) here other

passes_pair : (bs : List ℕ) (at x y : ℕ) → suc at < length bs → x ≡ get_or bs at 0 → y ≡ get_or bs (suc at) 0 → (x == 39) ≡ true → (y == 39) ≡ true → text_len (drop at bs) ≡ option_map (λ n. 2 + n) (text_len (drop (suc (suc at)) bs))
passes_pair [] at x y lt here next one two = absurd (omega arith)
passes_pair (b ∷ []) at x y lt here next one two = absurd (omega arith)
passes_pair (b ∷ c ∷ bs) zero x y lt here next one two = rw (ap (λ (k : ℕ). k == 39) (sym here) ∙ one, ap (λ (k : ℕ). k == 39) (sym next) ∙ two) refl
passes_pair (b ∷ bs) (suc at) x y lt here next one two = passes_pair bs at x y (omega arith) here next one two

closes_last : (bs : List ℕ) (at x : ℕ) → suc at ≡ length bs → x ≡ get_or bs at 0 → (x == 39) ≡ true → text_len (drop at bs) ≡ Some 0
closes_last [] at x last here one = absurd (omega arith)
closes_last (b ∷ []) zero x last here one = rw (ap (λ (k : ℕ). k == 39) (sym here) ∙ one) refl
closes_last (b ∷ c ∷ bs) zero x last here one = absurd (omega (last, arith))
closes_last (b ∷ bs) (suc at) x last here one = closes_last bs at x (omega (last, arith)) here one

closes_here : (bs : List ℕ) (at x y : ℕ) → suc at < length bs → x ≡ get_or bs at 0 → y ≡ get_or bs (suc at) 0 → (x == 39) ≡ true → (y == 39) ≡ false → text_len (drop at bs) ≡ Some 0
closes_here [] at x y lt here next one other = absurd (omega arith)
closes_here (b ∷ []) at x y lt here next one other = absurd (omega arith)
closes_here (b ∷ c ∷ bs) zero x y lt here next one other = rw (ap (λ (k : ℕ). k == 39) (sym here) ∙ one, ap (λ (k : ℕ). k == 39) (sym next) ∙ other) refl
closes_here (b ∷ bs) (suc at) x y lt here next one other = closes_here bs at x y (omega arith) here next one other

-- the tokens so far, and those from here on, are all tokens
pub onward : (bytes : List ℕ) (front made : List Token) (at n : ℕ) (k : Option TokenKind) (all : Result (List Token) ReadFault) → piece_of at (drop at bytes) ≡ Ok (k, n) → 1 ≤ n → made ≡ with_piece front at (k, n)
    → tokens_from front 0 at (drop at bytes) ≡ all → tokens_from made 0 (at + n) (drop (at + n) bytes) ≡ all
onward bytes front made at n k all is some more so_far =
    ap₂ (λ (m : List Token) (l : List ℕ). tokens_from m 0 (at + n) l) more (sym (drop-drop n at bytes))
    ∙ sym (goes_on front at (drop at bytes) (k, n) some is) ∙ so_far

one_more : (at : ℕ) (o : Option ℕ) → option_map (λ n. (at + 1) + n) o ≡ option_map (λ n. at + n) (option_map suc o)
one_more at None = refl
one_more at (Some n) = ap Some same
  where
    same : (at + 1) + n ≡ at + suc n
    same = omega arith

two_more : (at : ℕ) (o : Option ℕ) → option_map (λ n. (at + 2) + n) o ≡ option_map (λ n. at + n) (option_map (λ n. 2 + n) o)
two_more at None = refl
two_more at (Some n) = ap Some same
  where
    same : (at + 2) + n ≡ at + (2 + n)
    same = omega arith

pub text_goes_on : (bs : List ℕ) (at x : ℕ) (all : Option ℕ) → at < length bs → x ≡ get_or bs at 0 → (x == 39) ≡ false → option_map (λ n. at + n) (text_len (drop at bs)) ≡ all → option_map (λ n. (at + 1) + n) (text_len (drop (at + 1) bs)) ≡ all
text_goes_on bs at x all lt here other so_far =
    ap (λ (k : ℕ). option_map (λ n. (at + 1) + n) (text_len (drop k bs))) next ∙ one_more at (text_len (drop (suc at) bs))
    ∙ ap (option_map (λ n. at + n)) (sym (passes_byte bs at x lt here other)) ∙ so_far
  where
    next : at + 1 ≡ suc at
    next = omega arith

pub text_has_quote : (bs : List ℕ) (at x y : ℕ) (all : Option ℕ) → at + 1 < length bs → x ≡ get_or bs at 0 → y ≡ get_or bs (at + 1) 0 → (x == 39) ≡ true → (y == 39) ≡ true → option_map (λ n. at + n) (text_len (drop at bs)) ≡ all → option_map (λ n. (at + 2) + n) (text_len (drop (at + 2) bs)) ≡ all
text_has_quote bs at x y all lt here after one two so_far =
    ap (λ (k : ℕ). option_map (λ n. (at + 2) + n) (text_len (drop k bs))) next ∙ two_more at (text_len (drop (suc (suc at)) bs))
    ∙ ap (option_map (λ n. at + n)) (sym (passes_pair bs at x y (omega arith) here (subst (λ (k : ℕ). y ≡ get_or bs k 0) first after) one two)) ∙ so_far
  where
    next : at + 2 ≡ suc (suc at)
    next = omega arith

    first : at + 1 ≡ suc at
    first = omega arith

-- the length that is found at a place
found_at : (at : ℕ) (o all : Option ℕ) → o ≡ Some 0 → option_map (λ n. at + n) o ≡ all → Some at ≡ all
found_at at o all found so_far = ap Some same ∙ ap (option_map (λ n. at + n)) (sym found) ∙ so_far
  where
    same : at ≡ at + 0
    same = omega arith

pub text_ends : (bs : List ℕ) (at x : ℕ) (all : Option ℕ) → at + 1 ≡ length bs → x ≡ get_or bs at 0 → (x == 39) ≡ true → option_map (λ n. at + n) (text_len (drop at bs)) ≡ all → Some at ≡ all
text_ends bs at x all last here one so_far = found_at at (text_len (drop at bs)) all (closes_last bs at x (omega arith) here one) so_far

pub text_closes : (bs : List ℕ) (at x y : ℕ) (all : Option ℕ) → at + 1 < length bs → x ≡ get_or bs at 0 → y ≡ get_or bs (at + 1) 0 → (x == 39) ≡ true → (y == 39) ≡ false → option_map (λ n. at + n) (text_len (drop at bs)) ≡ all → Some at ≡ all
text_closes bs at x y all lt here after one other so_far =
    found_at at (text_len (drop at bs)) all (closes_here bs at x y (omega arith) here (subst (λ (k : ℕ). y ≡ get_or bs k 0) first after) one other) so_far
  where
    first : at + 1 ≡ suc at
    first = omega arith

-- a comment goes on over each byte that closes it not with the next one, and no last byte closes it
note_passes : (bs : List ℕ) (at x y : ℕ) → suc at < length bs → x ≡ get_or bs at 0 → y ≡ get_or bs (suc at) 0 → ((x == 42) && (y == 47)) ≡ false
    → note_len (drop at bs) ≡ option_map suc (note_len (drop (suc at) bs))
note_passes [] at x y lt here next other = absurd (omega arith)
note_passes (b ∷ []) at x y lt here next other = absurd (omega arith)
note_passes (b ∷ c ∷ bs) zero x y lt here next other = rw (ap₂ (λ (k m : ℕ). (k == 42) && (m == 47)) (sym here) (sym next) ∙ other) refl
note_passes (b ∷ bs) (suc at) x y lt here next other = note_passes bs at x y (omega arith) here next other

note_stops : (bs : List ℕ) (at x y : ℕ) → suc at < length bs → x ≡ get_or bs at 0 → y ≡ get_or bs (suc at) 0 → ((x == 42) && (y == 47)) ≡ true → note_len (drop at bs) ≡ Some 0
note_stops [] at x y lt here next one = absurd (omega arith)
note_stops (b ∷ []) at x y lt here next one = absurd (omega arith)
note_stops (b ∷ c ∷ bs) zero x y lt here next one = rw (ap₂ (λ (k m : ℕ). (k == 42) && (m == 47)) (sym here) (sym next) ∙ one) refl
note_stops (b ∷ bs) (suc at) x y lt here next one = note_stops bs at x y (omega arith) here next one

note_last : (bs : List ℕ) (at : ℕ) → suc at ≡ length bs → note_len (drop at bs) ≡ None
note_last [] at last = absurd (omega arith)
note_last (b ∷ []) zero last = refl
note_last (b ∷ c ∷ bs) zero last = absurd (omega (last, arith))
note_last (b ∷ bs) (suc at) last = note_last bs at (omega (last, arith))

pub note_ends : (bs : List ℕ) (at : ℕ) (all : Option ℕ) → at + 1 ≡ length bs → option_map (λ n. at + n) (note_len (drop at bs)) ≡ all → None ≡ all
note_ends bs at all last so_far = ap (option_map (λ n. at + n)) (sym (note_last bs at (omega (last, arith)))) ∙ so_far

pub note_closes : (bs : List ℕ) (at x y : ℕ) (all : Option ℕ) → at + 1 < length bs → x ≡ get_or bs at 0 → y ≡ get_or bs (at + 1) 0 → ((x == 42) && (y == 47)) ≡ true
    → option_map (λ n. at + n) (note_len (drop at bs)) ≡ all → Some at ≡ all
note_closes bs at x y all lt here after one so_far =
    found_at at (note_len (drop at bs)) all (note_stops bs at x y (omega arith) here (subst (λ (k : ℕ). y ≡ get_or bs k 0) first after) one) so_far
  where
    first : at + 1 ≡ suc at
    first = omega arith

pub note_goes_on : (bs : List ℕ) (at x y : ℕ) (all : Option ℕ) → at + 1 < length bs → x ≡ get_or bs at 0 → y ≡ get_or bs (at + 1) 0 → ((x == 42) && (y == 47)) ≡ false
    → option_map (λ n. at + n) (note_len (drop at bs)) ≡ all → option_map (λ n. (at + 1) + n) (note_len (drop (at + 1) bs)) ≡ all
note_goes_on bs at x y all lt here after other so_far =
    ap (λ (k : ℕ). option_map (λ n. (at + 1) + n) (note_len (drop k bs))) next ∙ one_more at (note_len (drop (suc at) bs))
    ∙ ap (option_map (λ n. at + n)) (sym (note_passes bs at x y (omega arith) here (subst (λ (k : ℕ). y ≡ get_or bs k 0) next after) other)) ∙ so_far
  where
    next : at + 1 ≡ suc at
    next = omega arith

-- a text that is no larger than a file is read from its first byte
pub read_from_first : (bytes : List ℕ) → length bytes ≤ largest_file → tokens bytes ≡ tokens_from [] 0 0 bytes
unfolding tokens
read_from_first bytes small = rw (le-leb (length bytes) largest_file small) refl

-- a fault in a piece is the text's, unless memory ran out
pub refused : (bytes rest : List ℕ) (front : List Token) (at : ℕ) (e : ReadFault) (r : Result (List Token) ReadFault) → length bytes ≤ largest_file → at < length bytes → rest ≡ drop at bytes
    → tokens_from front 0 at (drop at bytes) ≡ tokens_from [] 0 0 bytes → Refuses e (piece_of at rest) → IsErrAnd r (λ y. y ≡ e) → Gives r (tokens bytes)
refused bytes rest front at e (Ok x) small lt here so_far bad is = absurd is
refused bytes rest front at e (Err faults.Memory) small lt here so_far bad is = tt
refused bytes rest front at (faults.Memory) (Err (faults.Fault n kind)) small lt here so_far bad is = absurd cc
refused bytes rest front at (faults.Fault m k) (Err (faults.Fault n kind)) small lt here so_far bad is =
    read_from_first bytes small ∙ sym so_far
    ∙ stops front at (drop at bytes) (faults.Fault m k) (rw (length-drop at bytes) (omega (lt, arith))) (ap (piece_of at) (sym here) ∙ bad)
    ∙ ap Err (sym is)

-- at the end of the text all its tokens are there
pub at_end : (front : List Token) (at : ℕ) (bytes : List ℕ) → length bytes ≤ at → tokens_from front 0 at (drop at bytes) ≡ Ok front
unfolding tokens_from
at_end front at bytes over = ap (tokens_from front 0 at) (drop-beyond at bytes over) ∙ nothing_left front at
  where
    nothing_left : (front : List Token) (at : ℕ) → tokens_from front 0 at [] ≡ Ok front
    nothing_left front at = refl

    drop-beyond : (n : ℕ) (bs : List ℕ) → length bs ≤ n → drop n bs ≡ []
    drop-beyond zero [] over = refl
    drop-beyond zero (b ∷ bs) over = absurd (omega arith)
    drop-beyond (suc n) [] over = refl
    drop-beyond (suc n) (b ∷ bs) over = drop-beyond n bs (omega (over, arith))
