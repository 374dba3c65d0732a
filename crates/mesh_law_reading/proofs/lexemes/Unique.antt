-- A text has no two lists of tokens.
use Rattle.std.proofs.Common.{◌≡◌, ℕ, suc, ◌+◌, ◌-◌, ◌<◌, ◌≤◌, ◌⊎◌, Bool, true, false, not, ◌&&◌, ◌==◌, List, [], ◌∷◌, ◌++◌, length, take, get_or, refl, sym, ◌∙◌, ap, ap₂, arith, append_assoc}
use mathlib.Core.Logic.{inl, inr}
use Rattle.std.specs.Prelude.{codes, if◌then◌else◌}
use Rattle.std.specs.List.{list_all}
use Rattle.std.proofs.lemmas.Bool.{true≢false, false≢true, and_parts, and_from, not-true, cases_lt}
use Rattle.std.proofs.lemmas.List.{append-nil, take_at}
use Rattle.std.proofs.lemmas.List.Elements.{All-contains}
use Rattle.std.proofs.lemmas.List.Sums.{AllPass-from_list_all}
use lib.ListN.{length-append}
use Rattle.mesh_base_values.specs.Names.{is_identifier, is_name_byte}
use Rattle.mesh_query_tokens.specs.declared.tokens.Token.{Token}
use Rattle.mesh_query_tokens.specs.declared.tokens.TokenKind.{TokenKind}
use Rattle.mesh_query_tokens.specs.declared.tokens.TokenKind.TheVariants.{Ident, Number, Text, Macro, Sign}
use Rattle.mesh_query_tokens.specs.Letters.{is_blank, is_digit, begins_word, lowered, decimal}
use Rattle.mesh_query_tokens.specs.Pieces.{unquoted, line_len}
use Rattle.mesh_law_reading.specs.lexemes.Lexemes.{Lexeme, doubled, signs, ends_line, IsInFrontOfFirst, AreBetween, begins_comment, AreLexed}
use Rattle.mesh_law_reading.specs.lexemes.Lexemes.Lexeme.{word, number, quoted, macro, sign, unequal}
use Rattle.mesh_law_reading.specs.lexemes.Lexemes.AreBetween.{nothing, blank, line, note}
use Rattle.mesh_law_reading.specs.lexemes.Lexemes.AreLexed.{no_more, next}
use Rattle.mesh_law_reading.proofs.lexemes.Fronts.{unquoted-doubled}
use Rattle.mesh_law_reading.proofs.lexemes.Longest.{begins_sign, word_no_blank, digit_no_blank, digit_no_word}

-- the one kind that bytes can spell
abbrev kind_of : List ℕ → TokenKind
kind_of [] = Sign []
kind_of (b ∷ bs) =
    if begins_word b then Ident (lowered (b ∷ bs))
    else if is_digit b then Number (decimal (b ∷ bs))
    else if b == 39 then Text (unquoted (take (length bs - 1) bs))
    else if b == 64 then Macro (lowered bs)
    else if b == 33 then Sign (60 ∷ 62 ∷ [])
    else Sign (b ∷ bs)

abbrev means_itself : List ℕ → Bool
means_itself [] = false
means_itself (b ∷ bs) = begins_sign b && not (b == 33)

word_kind : (bytes : List ℕ) → is_identifier bytes ≡ true → kind_of bytes ≡ Ident (lowered bytes)
word_kind [] h = absurd (false≢true h)
word_kind (b ∷ bs) h = rw ((and_parts (begins_word b) (list_all is_name_byte bs) h).0) refl

number_kind : (b : ℕ) (bs : List ℕ) → list_all is_digit (b ∷ bs) ≡ true → kind_of (b ∷ bs) ≡ Number (decimal (b ∷ bs))
number_kind b bs h = let digit = (and_parts (is_digit b) (list_all is_digit bs) h).0 in rw (digit_no_word b digit, digit) refl

text_kind : (said : List ℕ) → kind_of (39 ∷ (doubled said ++ 39 ∷ [])) ≡ Text said
text_kind said = ap Text (ap unquoted (take_at (doubled said) (39 ∷ []) (length (doubled said ++ 39 ∷ []) - 1) (omega (length-append (doubled said) (39 ∷ []), arith))) ∙ unquoted-doubled said)

sign_kind : (bytes : List ℕ) → means_itself bytes ≡ true → kind_of bytes ≡ Sign bytes
sign_kind [] h = absurd (false≢true h)
sign_kind (b ∷ bs) h =
    let all = and_parts (begins_sign b) (not (b == 33)) h in let one = and_parts _ _ all.0 in let two = and_parts _ _ one.1 in let three = and_parts _ _ two.1 in let four = and_parts _ _ three.1 in
    rw (not-true (begins_word b) two.0, not-true (is_digit b) three.0, not-true (b == 39) four.0, not-true (b == 64) four.1, not-true (b == 33) all.1) refl

spells_kind : {kind : TokenKind} {bytes : List ℕ} → Lexeme kind bytes → kind_of bytes ≡ kind
spells_kind (word {bytes = bytes} h) = word_kind bytes h
spells_kind (number {digit = b} {digits = bs} h) = number_kind b bs h
spells_kind (quoted {said = said}) = text_kind said
spells_kind (macro {bytes = bytes} h) = refl
spells_kind (sign {bytes = bytes} h) = sign_kind bytes (All-contains (λ (x : List ℕ). means_itself x ≡ true) signs bytes (AllPass-from_list_all means_itself signs refl) h)
spells_kind (unequal) = refl

same_kind : {k l : TokenKind} {bytes more : List ℕ} → Lexeme k bytes → Lexeme l more → bytes ≡ more → k ≡ l
same_kind first second same = sym (spells_kind first) ∙ ap kind_of same ∙ spells_kind second

-- two cuts of a text
record AreSame (a b x y : List ℕ) : Type 0 where
  fronts : a ≡ b
  rests : x ≡ y

same_cut : (a b x y : List ℕ) → a ++ x ≡ b ++ y → length a ≡ length b → AreSame a b x y
same_cut [] [] x y same long = record { fronts = refl; rests = same }
same_cut [] (c ∷ b) x y same long = absurd (omega (long, arith))
same_cut (c ∷ a) [] x y same long = absurd (omega (long, arith))
same_cut (c ∷ a) (d ∷ b) x y same long = let rest = same_cut a b x y (cc) (omega (long, arith)) in record { fronts = cc; rests = rest.rests }

-- a shorter front begins a longer one
begun_by : (a b x y : List ℕ) → a ++ x ≡ b ++ y → length a ≤ length b → (z : List ℕ) × (a ++ z ≡ b)
begun_by [] b x y same long = (b, refl)
begun_by (c ∷ a) [] x y same long = absurd (omega (long, arith))
begun_by (c ∷ a) (d ∷ b) x y same long = let rest = begun_by a b x y (cc) (omega (long, arith)) in (rest.0, cc)

line_over : (said rest : List ℕ) → list_all (λ b. not (b == 10)) said ≡ true → ends_line rest ≡ true → line_len (said ++ rest) ≡ length said
line_over [] [] plain over = refl
line_over [] (b ∷ rest) plain over = rw over refl
line_over (b ∷ said) rest plain over = let both = and_parts (not (b == 10)) (list_all (λ b. not (b == 10)) said) plain in rw (not-true (b == 10) both.0) (ap suc (line_over said rest both.1 over))

no_sooner : (a b x y : List ℕ) → IsInFrontOfFirst b → (a ++ codes "*/") ++ x ≡ (b ++ codes "*/") ++ y → length a ≤ length b → length b ≤ length a
no_sooner a b x y first same long = let rest = begun_by (a ++ codes "*/") (b ++ codes "*/") x y same (omega (length-append a (codes "*/"), length-append b (codes "*/"), arith)) in first a rest.0 rest.1

first_same : (a b x y : List ℕ) → IsInFrontOfFirst a → IsInFrontOfFirst b → (a ++ codes "*/") ++ x ≡ (b ++ codes "*/") ++ y → length a ≡ length b
first_same a b x y one two same = by_length (cases_lt (length a) (length b))
  where
    by_length : (length a < length b) ⊎ (length b ≤ length a) → length a ≡ length b
    by_length (inl less) = omega (no_sooner a b x y two same (omega (less, arith)), less, arith)
    by_length (inr more) = omega (no_sooner b a y x one (sym same) more, more, arith)

-- neither a blank nor a comment begins here
abbrev stops : List ℕ → Bool
stops [] = true
stops (b ∷ bs) = not (is_blank b) && not (begins_comment (b ∷ bs))

moves : {bytes behind : List ℕ} → AreBetween bytes behind → (bytes ≡ []) ⊎ (stops (bytes ++ behind) ≡ false)
moves (nothing) = inl refl
moves (blank h more) = inr (rw h refl)
moves (line said plain over more) = inr refl
moves (note said first more) = inr refl

no_move : {bytes behind : List ℕ} (rest : List ℕ) → AreBetween bytes behind → bytes ++ behind ≡ rest → stops rest ≡ true → bytes ≡ []
no_move {bytes} {behind} rest between same stop = by_move (moves between)
  where
    by_move : (bytes ≡ []) ⊎ (stops (bytes ++ behind) ≡ false) → bytes ≡ []
    by_move (inl none) = none
    by_move (inr some) = absurd (true≢false (sym stop ∙ ap stops (sym same) ∙ some))

first_nothing : {bytes behind : List ℕ} (rest : List ℕ) → AreBetween bytes behind → rest ≡ bytes ++ behind → stops rest ≡ true → AreSame [] bytes rest behind
first_nothing {behind = behind} rest between same stop = let none = no_move rest between (sym same) stop in record { fronts = sym none; rests = same ∙ ap (λ (x : List ℕ). x ++ behind) none }

lines_same : (said other a b x y : List ℕ) → list_all (λ b. not (b == 10)) said ≡ true → list_all (λ b. not (b == 10)) other ≡ true → ends_line (a ++ x) ≡ true → ends_line (b ++ y) ≡ true
    → (said ++ a) ++ x ≡ (other ++ b) ++ y → AreSame said other (a ++ x) (b ++ y)
lines_same said other a b x y one two over ends same = same_cut said other (a ++ x) (b ++ y) whole (sym (line_over said (a ++ x) one over) ∙ ap line_len whole ∙ line_over other (b ++ y) two ends)
  where
    whole : said ++ (a ++ x) ≡ other ++ (b ++ y)
    whole = sym (append_assoc said a x) ∙ same ∙ append_assoc other b y

notes_same : (said other a b x y : List ℕ) → IsInFrontOfFirst said → IsInFrontOfFirst other → ((said ++ codes "*/") ++ a) ++ x ≡ ((other ++ codes "*/") ++ b) ++ y → AreSame (said ++ codes "*/") (other ++ codes "*/") (a ++ x) (b ++ y)
notes_same said other a b x y one two same = same_cut (said ++ codes "*/") (other ++ codes "*/") (a ++ x) (b ++ y) whole (length-append said (codes "*/") ∙ ap (λ (k : ℕ). k + 2) (first_same said other (a ++ x) (b ++ y) one two whole) ∙ sym (length-append other (codes "*/")))
  where
    whole : (said ++ codes "*/") ++ (a ++ x) ≡ (other ++ codes "*/") ++ (b ++ y)
    whole = sym (append_assoc (said ++ codes "*/") a x) ∙ same ∙ append_assoc (other ++ codes "*/") b y

behind_same : (said other a b x y : List ℕ) → AreSame said other (a ++ x) (b ++ y) → (a ++ x ≡ b ++ y → AreSame a b x y) → AreSame (said ++ a) (other ++ b) x y
behind_same said other a b x y cut more = let rest = more cut.rests in record { fronts = ap₂ (λ (u v : List ℕ). u ++ v) cut.fronts rest.fronts; rests = rest.rests }

two_more : (c d : ℕ) (a b x y : List ℕ) → AreSame a b x y → AreSame (c ∷ d ∷ a) (c ∷ d ∷ b) x y
two_more c d a b x y s = record { fronts = ap (λ (u : List ℕ). c ∷ d ∷ u) s.fronts; rests = s.rests }

one_more : (c d : ℕ) (a b x y : List ℕ) → c ≡ d → AreSame a b x y → AreSame (c ∷ a) (d ∷ b) x y
one_more c d a b x y same s = record { fronts = ap₂ (λ (k : ℕ) (u : List ℕ). k ∷ u) same s.fronts; rests = s.rests }

no_blank : (b c : ℕ) → is_blank b ≡ true → is_blank c ≡ false → b ≡ c → ⊥
no_blank b c h other same = true≢false (sym h ∙ ap is_blank same ∙ other)

other_comments : (a b : List ℕ) → 45 ∷ a ≡ 47 ∷ b → ⊥
other_comments a b same = omega (first, arith)
  where
    first : ◌≡◌ {A = ℕ} 45 47
    first = ap (λ (x : List ℕ). get_or x 0 0) same

same_between : {a b x y : List ℕ} → AreBetween a x → AreBetween b y → a ++ x ≡ b ++ y → stops x ≡ true → stops y ≡ true → AreSame a b x y
same_between {x = x} (nothing) second same stop over = first_nothing x second same stop
same_between (blank h first) (nothing {behind = y}) same stop over = absurd (true≢false (sym over ∙ ap stops (sym same) ∙ rw h refl))
same_between (blank {b} {bytes} {behind = x} h first) (blank {b = c} {bytes = others} {behind = y} k second) same stop over = one_more b c bytes others x y (cc) (same_between first second (cc) stop over)
same_between (blank {b} {bytes} {behind = x} h first) (line other two ends second) same stop over = absurd (no_blank b 45 h refl cc)
same_between (blank {b} {bytes} {behind = x} h first) (note other two second) same stop over = absurd (no_blank b 47 h refl cc)
same_between (line said plain ends first) (nothing) same stop over = absurd (true≢false (sym over ∙ ap stops (sym same)))
same_between (line said plain ends first) (blank {b = c} k second) same stop over = absurd (no_blank c 45 k refl cc)
same_between (line said {bytes = a} {behind = x} plain ends first) (line other {bytes = b} {behind = y} two over_too second) same stop over =
    two_more 45 45 (said ++ a) (other ++ b) x y (behind_same said other a b x y (lines_same said other a b x y plain two ends over_too (cc)) (λ rest. same_between first second rest stop over))
same_between (line said plain ends first) (note other two second) same stop over = absurd (other_comments _ _ same)
same_between (note said one first) (nothing) same stop over = absurd (true≢false (sym over ∙ ap stops (sym same)))
same_between (note said one first) (blank {b = c} k second) same stop over = absurd (no_blank c 47 k refl cc)
same_between (note said one first) (line other two ends second) same stop over = absurd (other_comments _ _ (sym same))
same_between (note said {bytes = a} {behind = x} one first) (note other {bytes = b} {behind = y} two second) same stop over =
    two_more 47 42 ((said ++ codes "*/") ++ a) ((other ++ codes "*/") ++ b) x y (behind_same (said ++ codes "*/") (other ++ codes "*/") a b x y (notes_same said other a b x y one two (cc)) (λ rest. same_between first second rest stop over))

-- a token has a first byte, which is no blank
abbrev begins_unblank : List ℕ → Bool
begins_unblank [] = false
begins_unblank (b ∷ bs) = not (is_blank b)

word_unblank : (bytes : List ℕ) → is_identifier bytes ≡ true → begins_unblank bytes ≡ true
word_unblank [] h = absurd (false≢true h)
word_unblank (b ∷ bs) h = ap not (word_no_blank b (and_parts (begins_word b) (list_all is_name_byte bs) h).0)

lexeme_unblank : {kind : TokenKind} {bytes : List ℕ} → Lexeme kind bytes → begins_unblank bytes ≡ true
lexeme_unblank (word {bytes = bytes} h) = word_unblank bytes h
lexeme_unblank (number {digit = b} {digits = bs} h) = ap not (digit_no_blank b (and_parts (is_digit b) (list_all is_digit bs) h).0)
lexeme_unblank (quoted) = refl
lexeme_unblank (macro h) = refl
lexeme_unblank (sign {bytes = bytes} h) = All-contains (λ (x : List ℕ). begins_unblank x ≡ true) signs bytes (AllPass-from_list_all begins_unblank signs refl) h
lexeme_unblank (unequal) = refl

token_stops : (bytes behind : List ℕ) → begins_unblank bytes ≡ true → begins_comment (bytes ++ behind) ≡ false → stops (bytes ++ behind) ≡ true
token_stops [] behind h plain = absurd (false≢true h)
token_stops (b ∷ bs) behind h plain = and_from (not (is_blank b)) (not (begins_comment (b ∷ (bs ++ behind)))) h (ap not plain)

some_token : (bytes behind : List ℕ) → begins_unblank bytes ≡ true → [] ≡ bytes ++ behind → ⊥
some_token [] behind h none = false≢true h
some_token (b ∷ bs) behind h none = cc

-- a text that holds a token is not all blanks and comments
no_token_left : {kind : TokenKind} (all between bytes behind : List ℕ) → AreBetween all [] → AreBetween between (bytes ++ behind) → begins_comment (bytes ++ behind) ≡ false → Lexeme kind bytes → all ≡ (between ++ bytes) ++ behind → ⊥
no_token_left all between bytes behind blanks more plain lexeme same =
    some_token bytes behind (lexeme_unblank lexeme) (same_between blanks more (append-nil all ∙ same ∙ append_assoc between bytes behind) refl (token_stops bytes behind (lexeme_unblank lexeme) plain)).rests

-- the same token in front of the same tokens
same_list : {k l : TokenKind} {ts us : List Token} (start finish begin over : ℕ) → start ≡ begin → finish ≡ over → k ≡ l → ts ≡ us
    → ◌≡◌ {A = List Token} (record { start = start; end = finish; kind = k } ∷ ts) (record { start = begin; end = over; kind = l } ∷ us)
same_list {k} {l} {ts} {us} start finish begin over one two three four = rw (one, two, three, four) refl

one_list : {at from : ℕ} {all other : List ℕ} {ts us : List Token} → AreLexed at all ts → AreLexed from other us → at ≡ from → all ≡ other → ts ≡ us
one_list (no_more blanks) (no_more more) place same = refl
one_list (no_more {between = all} blanks) (next between bytes behind more plain lexeme longest rest) place same = absurd (no_token_left all between bytes behind blanks more plain lexeme same)
one_list (next between bytes behind more plain lexeme longest rest) (no_more {between = all} blanks) place same = absurd (no_token_left all between bytes behind blanks more plain lexeme (sym same))
one_list (next {at} between bytes behind blanks plain lexeme longest rest) (next {at = from} gap token after more bare spelled greatest others) place same =
    same_list (at + length between) (at + length between + length bytes) (from + length gap) (from + length gap + length token) begins ends (same_kind lexeme spelled tokens.fronts) (one_list rest others ends tokens.rests)
  where
    cut : AreSame between gap (bytes ++ behind) (token ++ after)
    cut = same_between blanks more (sym (append_assoc between bytes behind) ∙ same ∙ append_assoc gap token after) (token_stops bytes behind (lexeme_unblank lexeme) plain) (token_stops token after (lexeme_unblank spelled) bare)

    long : length bytes ≡ length token
    long = omega (longest _ token after (sym cut.rests) spelled, greatest _ bytes behind cut.rests lexeme, arith)

    tokens : AreSame bytes token behind after
    tokens = same_cut bytes token behind after cut.rests long

    begins : at + length between ≡ from + length gap
    begins = omega (place, ap length cut.fronts, arith)

    ends : at + length between + length bytes ≡ from + length gap + length token
    ends = omega (begins, long, arith)

pub lexed_once : (at : ℕ) (text : List ℕ) (one other : List Token) → AreLexed at text one → AreLexed at text other → one ≡ other
lexed_once at text one other first second = one_list first second refl refl
