-- Numbers and texts that were written are read again, whatever follows that is no digit.
use Rattle.std.proofs.Common.{◌≡◌, ◌≢◌, ℕ, zero, suc, ◌+◌, ◌-◌, ◌*◌, ◌/◌, ◌%◌, ◌^◌, ◌<◌, ◌≤◌, true, false, ltb, List, [], ◌∷◌, ◌++◌, length, Some, None, refl, sym, ap, ◌∙◌, append_assoc, arith}
use Rattle.std.specs.Prelude.{ℤ, pos, negsuc, codes}
use Rattle.std.specs.Char.{is_ascii_digit}
use Rattle.std.specs.Fmt.{decimal, signed_decimal}
use Rattle.std.proofs.lemmas.Bool.{le-leb, le-ltb, leb-true, ltb-true, ne_eqb}
use Rattle.std.proofs.lemmas.Fmt.{decimal_by_steps, decimal_digit}
use Rattle.std.proofs.lemmas.List.{take_at, drop_at, length-append}
use Rattle.mesh_canon_text.specs.Text.{text_of}
use Rattle.mesh_canon_reading.specs.Fits.{signed_fits, text_fits}
use Rattle.mesh_canon_words.specs.Words.{after, digits_at, number_at, signed_at, text_at}

-- no digit comes
abbrev pub Ends : List ℕ → Type 0
Ends [] = Unit {0}
Ends (b ∷ bytes) = is_ascii_digit b ≡ false

is_digit : (d : ℕ) → d < 10 → is_ascii_digit (48 + d) ≡ true
is_digit d lt = rw (le-leb 48 (48 + d) (omega arith), le-leb (48 + d) 57 (omega arith)) refl

digit_step : (most m d n : ℕ) (rest : List ℕ) → d < 10 → m * 10 + d ≡ n → n ≤ most → digits_at most m ((48 + d) ∷ rest) ≡ digits_at most n rest
unfolding digits_at
digit_step most m d n rest lt e le =
    let v : m * 10 + (48 + d - 48) ≡ n = omega arith in
    rw (is_digit d lt, v, le-leb n most le) refl

digits_end : (most n : ℕ) (rest : List ℕ) → Ends rest → digits_at most n rest ≡ Some (n, rest)
unfolding digits_at
digits_end most n [] h = refl
digits_end most n (b ∷ rest) h = rw h refl

abbrev Again : ℕ → ℕ → List ℕ → Type 0
Again most n ds = (rest : List ℕ) → n ≤ most → digits_at most 0 (ds ++ rest) ≡ digits_at most n rest

digits_again : (most n : ℕ) → n < 2 ^ 64 → Again most n (decimal n)
digits_again most n small =
    decimal_by_steps (Again most)
    (λ k lt rest le. digit_step most 0 k k rest lt (omega arith) le)
    (λ k ds ten before rest le.
    ap (digits_at most 0) (append_assoc ds ((48 + k % 10) ∷ []) rest)
    ∙ before ((48 + k % 10) ∷ rest) (omega arith)
    ∙ digit_step most (k / 10) (k % 10) k rest (omega arith) (omega arith) le)
    n small

-- how a number begins
abbrev Begins : ℕ → List ℕ → Type 0
Begins n ds = (b : ℕ) × (more : List ℕ) × (ds ≡ b ∷ more) × (48 ≤ b) × (b ≤ 57) × (0 < n → 48 < b)

pub begins : (n : ℕ) → n < 2 ^ 64 → Begins n (decimal n)
begins n small =
    decimal_by_steps Begins
    (λ k lt. (48 + k, [], refl, omega arith, omega arith, λ p. omega arith))
    (λ k ds ten before. (before.0, before.1 ++ (48 + k % 10) ∷ [], ap (λ x. x ++ (48 + k % 10) ∷ []) before.2, before.3, before.4, λ p. before.5 (omega arith)))
    n small

number_begun : (most b n : ℕ) (more rest : List ℕ) → 48 < b → b ≤ 57 → digits_at most 0 (b ∷ more) ≡ Some (n, rest) → number_at most (b ∷ more) ≡ Some (n, rest)
unfolding number_at
number_begun most b n more rest low high e =
    rw (ne_eqb b 48 (λ h. omega arith), le-leb 48 b (omega arith), le-leb b 57 high) e

number_zero : (most : ℕ) (rest : List ℕ) → number_at most (decimal 0 ++ rest) ≡ Some (0, rest)
unfolding number_at
number_zero most rest = rw (decimal_digit 0 (omega arith)) refl

pub number_again : (most n : ℕ) (rest : List ℕ) → n < 2 ^ 64 → n ≤ most → Ends rest → number_at most (decimal n ++ rest) ≡ Some (n, rest)
number_again most zero rest small le ends = number_zero most rest
number_again most (suc n) rest small le ends =
    let b = begins (suc n) small in
    let read : digits_at most 0 (decimal (suc n) ++ rest) ≡ Some (suc n, rest) = digits_again most (suc n) small rest le ∙ digits_end most (suc n) rest ends in
    let e : decimal (suc n) ++ rest ≡ b.0 ∷ (b.1 ++ rest) = ap (λ x. x ++ rest) b.2 in
    ap (number_at most) e ∙ number_begun most b.0 (suc n) (b.1 ++ rest) rest (b.5 (omega arith)) b.4 (sym (ap (digits_at most 0) e) ∙ read)

signed_begun : (most b n : ℕ) (more rest : List ℕ) → 48 ≤ b → number_at most (b ∷ more) ≡ Some (n, rest) → signed_at most (b ∷ more) ≡ Some (pos n, rest)
unfolding signed_at after
signed_begun most b n more rest low e = rw (ne_eqb 45 b (λ h. omega arith), e) refl

signed_below : (most n : ℕ) (bytes rest : List ℕ) → number_at (most + 1) bytes ≡ Some (suc n, rest) → signed_at most (45 ∷ bytes) ≡ Some (negsuc n, rest)
unfolding signed_at after
signed_below most n bytes rest e =
    let back : suc n - 1 ≡ n = omega arith in
    rw (e, ne_eqb (suc n) 0 (λ h. omega arith), back) refl

pub signed_again : (most : ℕ) (z : ℤ) (rest : List ℕ) → most < 2 ^ 63 → signed_fits most z ≡ true → Ends rest → signed_at most (signed_decimal z ++ rest) ≡ Some (z, rest)
signed_again most (pos n) rest small fits ends =
    let le : n ≤ most = leb-true n most fits in
    let b = begins n (omega arith) in
    let e : decimal n ++ rest ≡ b.0 ∷ (b.1 ++ rest) = ap (λ x. x ++ rest) b.2 in
    ap (signed_at most) e ∙ signed_begun most b.0 n (b.1 ++ rest) rest b.3 (sym (ap (number_at most) e) ∙ number_again most n rest (omega arith) le ends)
signed_again most (negsuc n) rest small fits ends =
    let le : n ≤ most = leb-true n most fits in
    signed_below most n (decimal (suc n) ++ rest) rest (number_again (most + 1) (suc n) rest (omega arith) (omega arith) ends)

text_begun : (n : ℕ) (bytes s rest : List ℕ) → number_at (length bytes) bytes ≡ Some (n, 58 ∷ (s ++ rest)) → length s ≡ n → text_at bytes ≡ Some (s, rest)
unfolding text_at after
text_begun n bytes s rest e len =
    let enough : ltb (length (s ++ rest)) n ≡ false = le-ltb (length (s ++ rest)) n (omega (arith, length-append s rest)) in
    rw (e, enough, take_at s rest n len, drop_at s rest n len) refl

pub text_again : (s rest : List ℕ) → text_fits s ≡ true → text_at (text_of s ++ rest) ≡ Some (s, rest)
unfolding text_of
text_again s rest fits =
    let small : length s < 2 ^ 64 = ltb-true (length s) (2 ^ 64) fits in
    let e : text_of s ++ rest ≡ decimal (length s) ++ (58 ∷ (s ++ rest)) = append_assoc (decimal (length s)) (58 ∷ s) rest in
    let long : length s ≤ length (text_of s ++ rest) = omega (arith, length-append (decimal (length s) ++ (58 ∷ s)) rest, length-append (decimal (length s)) (58 ∷ s)) in
    text_begun (length s) (text_of s ++ rest) s rest (ap (number_at (length (text_of s ++ rest))) e ∙ number_again (length (text_of s ++ rest)) (length s) (58 ∷ (s ++ rest)) small long refl) refl

-- a text begins with a digit
pub text_opens : (s rest : List ℕ) → text_fits s ≡ true → after (codes "]") (text_of s ++ rest) ≡ None
unfolding text_of after
text_opens s rest fits =
    let b = begins (length s) (ltb-true (length s) (2 ^ 64) fits) in
    ap (λ x. after (codes "]") ((x ++ (58 ∷ s)) ++ rest)) b.2 ∙ rw (ne_eqb 93 b.0 (λ h. omega arith)) refl

not_none : (b : ℕ) (bytes : List ℕ) → b ≢ 110 → after (codes "none") (b ∷ bytes) ≡ None
unfolding after
not_none b bytes ne = rw (ne_eqb 110 b (λ e. ne (sym e))) refl

-- a text doesn't begin with `none`
pub text_some : (s rest : List ℕ) → text_fits s ≡ true → after (codes "none") (text_of s ++ rest) ≡ None
unfolding text_of
text_some s rest fits =
    let b = begins (length s) (ltb-true (length s) (2 ^ 64) fits) in
    ap (λ x. after (codes "none") ((x ++ (58 ∷ s)) ++ rest)) b.2 ∙ not_none b.0 ((b.1 ++ (58 ∷ s)) ++ rest) (λ e. omega arith)

pub signed_some : (most : ℕ) (z : ℤ) (rest : List ℕ) → most < 2 ^ 63 → signed_fits most z ≡ true → after (codes "none") (signed_decimal z ++ rest) ≡ None
signed_some most (pos n) rest small fits =
    let le : n ≤ most = leb-true n most fits in
    let b = begins n (omega arith) in
    ap (λ x. after (codes "none") (x ++ rest)) b.2 ∙ not_none b.0 (b.1 ++ rest) (λ e. omega arith)
signed_some most (negsuc n) rest small fits = not_none 45 (decimal (suc n) ++ rest) (λ e. omega arith)
