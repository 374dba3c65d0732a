-- How tightly a token binds what stands before it, and how it may begin a phrase.
use Rattle.std.proofs.Common.{◌≡◌, ◌≢◌, ℕ, ◌+◌, ◌-◌, ◌<◌, List, [], ◌∷◌, codes, Bool, true, false, ◌||◌, Option, Some, None, ◌⊎◌, inl, inr, refl, ap, ◌∙◌, arith, if◌then◌else◌}
use Rattle.std.specs.Str.{bytes_eq}
use Rattle.std.proofs.lemmas.Slice.Eq.{bytes_eq-Decides}
use Rattle.std.proofs.lemmas.Bool.{false_from_ne_true as untrue, or_from as neither}
use Rattle.mesh_query_tokens.specs.declared.tokens.Token.{Token}
use Rattle.mesh_query_tokens.specs.declared.tokens.TokenKind.{TokenKind}
use Rattle.mesh_query_tokens.specs.declared.tokens.TokenKind.TheVariants.{Ident, Text, Sign}
use Rattle.mesh_query_grammar.specs.Words.{is_reserved}
use Rattle.mesh_query_grammar.specs.Signs.{Next, IsWord, IsSign, IsName}
use Rattle.mesh_query_grammar.specs.Plans.{said, kind_is_word, kind_is_sign, is_word, is_sign, is_name, is_text, is_any, is_cmp, is_add, is_mul, begins_range, begins_join, ends_items, cmp_said, add_said, mul_said}
use Rattle.mesh_query_grammar.specs.Signs.{cmp_text, add_text, mul_text}
use Rattle.mesh_query_grammar.specs.declared.surface.signs.Cmp.{Cmp}
use Rattle.mesh_query_grammar.specs.declared.surface.signs.Cmp.TheVariants as cmp
use Rattle.mesh_query_grammar.specs.declared.surface.signs.AddSign.{AddSign}
use Rattle.mesh_query_grammar.specs.declared.surface.signs.AddSign.TheVariants as add
use Rattle.mesh_query_grammar.specs.declared.surface.signs.MulSign.{MulSign}
use Rattle.mesh_query_grammar.specs.declared.surface.signs.MulSign.TheVariants as mul
use Rattle.mesh_query_grammar.specs.Machine.{next, begins}
use Rattle.mesh_query_grammar.proofs.Heads.{word_at, sign_at, name_at, text_at, cmp_at, add_at, mul_at}

abbrev pub kind_ends_items : TokenKind → Bool
kind_ends_items k =
    kind_is_word (codes "from") k || kind_is_word (codes "where") k || kind_is_word (codes "group") k || kind_is_word (codes "having") k || kind_is_word (codes "union") k
    || kind_is_sign (codes ")") k || kind_is_sign (codes ";") k

-- of the tokens behind the items of a SELECT
abbrev pub low : TokenKind → ℕ
low (Sign x) = if bytes_eq x (codes ";") then 1 else 2
low (Ident x) =
    if bytes_eq x (codes "union") then 3 else
    (if bytes_eq x (codes "having") then 4 else (if bytes_eq x (codes "group") then 5 else (if bytes_eq x (codes "where") then 6 else 7)))
low _ = 7

abbrev pub high_word : List ℕ → ℕ
high_word x =
    if bytes_eq x (codes "on") then 8 else
    (if bytes_eq x (codes "cross") then 9 else
    (if bytes_eq x (codes "inner") then 9 else
    (if bytes_eq x (codes "join") then 9 else
    (if bytes_eq x (codes "left") then 9 else
    (if bytes_eq x (codes "end") then 11 else
    (if bytes_eq x (codes "else") then 12 else
    (if bytes_eq x (codes "when") then 13 else
    (if bytes_eq x (codes "then") then 14 else
    (if bytes_eq x (codes "as") then 15 else
    (if bytes_eq x (codes "or") then 17 else
    (if bytes_eq x (codes "and") then 18 else
    (if bytes_eq x (codes "is") then 19 else
    (if bytes_eq x (codes "not") then 19 else
    (if bytes_eq x (codes "between") then 19 else
    (if bytes_eq x (codes "in") then 19 else 16)))))))))))))))

abbrev pub high_sign : List ℕ → ℕ
high_sign x =
    if bytes_eq x (codes ",") then 10 else
    (if bytes_eq x (codes "=") then 19 else
    (if bytes_eq x (codes "<>") then 19 else
    (if bytes_eq x (codes "<") then 19 else
    (if bytes_eq x (codes "<=") then 19 else
    (if bytes_eq x (codes ">") then 19 else
    (if bytes_eq x (codes ">=") then 19 else
    (if bytes_eq x (codes "||") then 20 else
    (if bytes_eq x (codes "+") then 21 else
    (if bytes_eq x (codes "-") then 21 else
    (if bytes_eq x (codes "*") then 22 else
    (if bytes_eq x (codes "/") then 22 else
    (if bytes_eq x (codes "%") then 22 else
    (if bytes_eq x (codes "::") then 23 else
    (if bytes_eq x (codes "(") then 24 else
    (if bytes_eq x (codes ".") then 24 else 16)))))))))))))))

-- of the others, at least 8
abbrev pub raised : ℕ → ℕ
raised n = 8 + (n - 8)

abbrev pub high : TokenKind → ℕ
high (Ident x) = if is_reserved x then high_word x else 16
high (Sign x) = high_sign x
high (Text x) = 24
high _ = 16

unfoldable pub kind_scale : TokenKind → ℕ
kind_scale k = if kind_ends_items k then low k else raised (high k)

abbrev pub scale_of : Option Token → ℕ
scale_of None = 0
scale_of (Some k) = kind_scale k.kind

unfoldable pub scale : List Token → ℕ
scale s = scale_of (next s)

abbrev pub opening_word : List ℕ → ℕ
opening_word x =
    if bytes_eq x (codes "case") then 1 else
    (if bytes_eq x (codes "cast") then 1 else
    (if bytes_eq x (codes "true") then 1 else
    (if bytes_eq x (codes "false") then 1 else
    (if bytes_eq x (codes "null") then 1 else (if bytes_eq x (codes "not") then 3 else 0)))))

-- 1 for a value, 2 for a minus, 3 for NOT, 4 for a star, and 0 for what begins no item
unfoldable pub kind_opens : TokenKind → ℕ
kind_opens (Ident x) = if is_reserved x then opening_word x else 1
kind_opens (Sign x) = if bytes_eq x (codes "(") then 1 else (if bytes_eq x (codes "-") then 2 else (if bytes_eq x (codes "*") then 4 else 0))
kind_opens _ = 1

abbrev pub opens_of : Option Token → ℕ
opens_of None = 0
opens_of (Some k) = kind_opens k.kind

unfoldable pub opens : List Token → ℕ
opens s = opens_of (next s)

pub scale_next : {c : TokenKind} {s m : List Token} → Next c s m → scale s ≡ kind_scale c
unfolding scale
scale_next h = ap (λ (z : List Token). scale_of (next z)) h.1 ∙ ap kind_scale h.2

pub opens_next : {c : TokenKind} {s m : List Token} → Next c s m → opens s ≡ kind_opens c
unfolding opens
opens_next h = ap (λ (z : List Token). opens_of (next z)) h.1 ∙ ap kind_opens h.2

-- what a test of the next token's kind says
pub seen : (test : TokenKind → Bool) {c : TokenKind} {s m : List Token} → Next c s m → begins (λ k. test k.kind) s ≡ test c
seen test h = ap (λ (z : List Token). begins (λ k. test k.kind) z) h.1 ∙ ap test h.2

pub word_seen : (w : List ℕ) (s : List Token) → begins (is_word w) s ≡ true → (m : List Token) × IsWord w s m
word_seen w [] h = absurd cc
word_seen w (k ∷ s) h = (s, word_at w k h s)

pub sign_seen : (w : List ℕ) (s : List Token) → begins (is_sign w) s ≡ true → (m : List Token) × IsSign w s m
sign_seen w [] h = absurd cc
sign_seen w (k ∷ s) h = (s, sign_at w k h s)

pub name_seen : (s : List Token) → begins is_name s ≡ true → (x : List ℕ) × (m : List Token) × IsName x s m
name_seen [] h = absurd cc
name_seen (k ∷ s) h = (said k, s, name_at k h s)

text_seen : (s : List Token) → begins is_text s ≡ true → (x : List ℕ) × (m : List Token) × Next (Text x) s m
text_seen [] h = absurd cc
text_seen (k ∷ s) h = (said k, s, text_at k h s)

pub no_word : (w : List ℕ) (c : ℕ) (s : List Token) → kind_scale (Ident w) ≡ c → scale s < c → begins (is_word w) s ≡ false
no_word w c s e h = untrue (begins (is_word w) s) (λ g. let i = scale_next (word_seen w s g).1 in omega (arith, e, h, i))

pub no_sign : (w : List ℕ) (c : ℕ) (s : List Token) → kind_scale (Sign w) ≡ c → scale s < c → begins (is_sign w) s ≡ false
no_sign w c s e h = untrue (begins (is_sign w) s) (λ g. let i = scale_next (sign_seen w s g).1 in omega (arith, e, h, i))

pub unopened_word : (w : List ℕ) (s : List Token) → opens s ≢ kind_opens (Ident w) → begins (is_word w) s ≡ false
unopened_word w s h = untrue (begins (is_word w) s) (λ g. h (opens_next (word_seen w s g).1))

pub unopened_sign : (w : List ℕ) (s : List Token) → opens s ≢ kind_opens (Sign w) → begins (is_sign w) s ≡ false
unopened_sign w s h = untrue (begins (is_sign w) s) (λ g. h (opens_next (sign_seen w s g).1))

pub unlike : (x w : List ℕ) → is_reserved x ≡ false → is_reserved w ≡ true → bytes_eq x w ≡ false
unlike x w h g = untrue (bytes_eq x w) (λ e. let same : x ≡ w = (bytes_eq-Decides x w).0 e in let i : is_reserved x ≡ is_reserved w = ap is_reserved same in absurd cc)

name_kind_scale : (x : List ℕ) → is_reserved x ≡ false → kind_scale (Ident x) ≡ 16
unfolding kind_scale is_reserved
name_kind_scale x h =
    rw (h, unlike x (codes "from") h refl, unlike x (codes "where") h refl, unlike x (codes "group") h refl, unlike x (codes "having") h refl, unlike x (codes "union") h refl) refl

pub name_scale : {x : List ℕ} {s m : List Token} → IsName x s m → scale s ≡ 16
name_scale {x = x} h = scale_next h.0 ∙ name_kind_scale x h.1

pub name_opens : {x : List ℕ} {s m : List Token} → IsName x s m → opens s ≡ 1
unfolding kind_opens
name_opens {x = x} h = opens_next h.0 ∙ rw h.1 refl

pub no_name : (s : List Token) → scale s < 16 → begins is_name s ≡ false
no_name s h = untrue (begins is_name s) (λ g. let i = name_scale (name_seen s g).2 in omega (arith, h, i))

pub no_text : (s : List Token) → scale s < 24 → begins is_text s ≡ false
unfolding kind_scale
no_text s h = untrue (begins is_text s) (λ g. let i = scale_next (text_seen s g).2 in omega (arith, h, i))

add_scale : (o : AddSign) → kind_scale (Sign (add_text o)) ≡ 21
unfolding kind_scale
add_scale add.Plus = refl
add_scale add.Minus = refl

mul_scale : (o : MulSign) → kind_scale (Sign (mul_text o)) ≡ 22
unfolding kind_scale
mul_scale mul.Times = refl
mul_scale mul.Over = refl
mul_scale mul.Modulo = refl

cmp_scale : (o : Cmp) → kind_scale (Sign (cmp_text o)) ≡ 19
unfolding kind_scale
cmp_scale cmp.Eq = refl
cmp_scale cmp.Ne = refl
cmp_scale cmp.Lt = refl
cmp_scale cmp.Le = refl
cmp_scale cmp.Gt = refl
cmp_scale cmp.Ge = refl

pub add_next : (o : AddSign) {s m : List Token} → IsSign (add_text o) s m → scale s ≡ 21
add_next o h = scale_next h ∙ add_scale o

pub mul_next : (o : MulSign) {s m : List Token} → IsSign (mul_text o) s m → scale s ≡ 22
mul_next o h = scale_next h ∙ mul_scale o

pub cmp_next : (o : Cmp) {s m : List Token} → IsSign (cmp_text o) s m → scale s ≡ 19
cmp_next o h = scale_next h ∙ cmp_scale o

pub no_add : (s : List Token) → scale s < 21 → begins is_add s ≡ false
no_add [] h = refl
no_add (k ∷ s) h = untrue (is_add k) (λ g. let i = add_next (add_said (said k)) (add_at k g s) in omega (arith, h, i))

pub no_mul : (s : List Token) → scale s < 22 → begins is_mul s ≡ false
no_mul [] h = refl
no_mul (k ∷ s) h = untrue (is_mul k) (λ g. let i = mul_next (mul_said (said k)) (mul_at k g s) in omega (arith, h, i))

pub no_cmp : (s : List Token) → scale s < 19 → begins is_cmp s ≡ false
no_cmp [] h = refl
no_cmp (k ∷ s) h = untrue (is_cmp k) (λ g. let i = cmp_next (cmp_said (said k)) (cmp_at k g s) in omega (arith, h, i))

-- neither of two

pub no_range : (s : List Token) → scale s < 19 → begins begins_range s ≡ false
unfolding kind_scale is_reserved
no_range [] h = refl
no_range (k ∷ s) h = neither (is_word (codes "between") k) (is_word (codes "in") k) (no_word (codes "between") 19 (k ∷ s) refl h) (no_word (codes "in") 19 (k ∷ s) refl h)

pub no_join : (s : List Token) → scale s < 9 → begins begins_join s ≡ false
unfolding kind_scale is_reserved
no_join [] h = refl
no_join (k ∷ s) h =
    neither (is_sign (codes ",") k || is_word (codes "cross") k || is_word (codes "inner") k || is_word (codes "join") k) (is_word (codes "left") k)
    (neither (is_sign (codes ",") k || is_word (codes "cross") k || is_word (codes "inner") k) (is_word (codes "join") k)
    (neither (is_sign (codes ",") k || is_word (codes "cross") k) (is_word (codes "inner") k)
    (neither (is_sign (codes ",") k) (is_word (codes "cross") k) (no_sign (codes ",") 10 (k ∷ s) refl (omega (arith, h))) (no_word (codes "cross") 9 (k ∷ s) refl h))
    (no_word (codes "inner") 9 (k ∷ s) refl h))
    (no_word (codes "join") 9 (k ∷ s) refl h))
    (no_word (codes "left") 9 (k ∷ s) refl h)

ends_by : (k : TokenKind) (b : Bool) → kind_ends_items k ≡ b → (if b then low k else raised (high k)) < 8 → b ≡ true
ends_by k true h g = refl
ends_by k false h g = absurd (omega (arith, g))

pub ends_or_over : (s : List Token) → scale s < 8 → (begins ends_items s ≡ true) ⊎ (s ≡ [])
unfolding kind_scale scale
ends_or_over [] h = inr refl
ends_or_over (k ∷ s) h = inl (ends_by k.kind (kind_ends_items k.kind) refl h)

-- what opens an item doesn't end the items
pub unended : (s : List Token) → 0 < opens s → begins ends_items s ≡ false
unfolding kind_opens is_reserved
unended [] h = refl
unended (k ∷ s) h =
    let no : (w : List ℕ) → kind_opens (Ident w) ≡ 0 → is_word w k ≡ false = λ w e. unopened_word w (k ∷ s) (λ g. absurd (omega (arith, h, g, e))) in
    let nos : (w : List ℕ) → kind_opens (Sign w) ≡ 0 → is_sign w k ≡ false = λ w e. unopened_sign w (k ∷ s) (λ g. absurd (omega (arith, h, g, e))) in
    neither (is_word (codes "from") k || is_word (codes "where") k || is_word (codes "group") k || is_word (codes "having") k || is_word (codes "union") k || is_sign (codes ")") k) (is_sign (codes ";") k)
    (neither (is_word (codes "from") k || is_word (codes "where") k || is_word (codes "group") k || is_word (codes "having") k || is_word (codes "union") k) (is_sign (codes ")") k)
    (neither (is_word (codes "from") k || is_word (codes "where") k || is_word (codes "group") k || is_word (codes "having") k) (is_word (codes "union") k)
    (neither (is_word (codes "from") k || is_word (codes "where") k || is_word (codes "group") k) (is_word (codes "having") k)
    (neither (is_word (codes "from") k || is_word (codes "where") k) (is_word (codes "group") k)
    (neither (is_word (codes "from") k) (is_word (codes "where") k) (no (codes "from") refl) (no (codes "where") refl))
    (no (codes "group") refl))
    (no (codes "having") refl))
    (no (codes "union") refl))
    (nos (codes ")") refl))
    (nos (codes ";") refl)

pub is_there : (s : List Token) → 0 < opens s → begins is_any s ≡ true
unfolding opens
is_there [] h = absurd (omega arith)
is_there (k ∷ s) h = refl
