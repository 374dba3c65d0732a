-- What a token is that passes a test.
use Rattle.std.proofs.Common.{◌≡◌, ℕ, List, ◌∷◌, codes, Bool, true, false, ◌||◌, Option, Some, None, refl, ap, if◌then◌else◌}
use Rattle.std.specs.Str.{bytes_eq}
use Rattle.std.proofs.lemmas.Slice.Eq.{bytes_eq-Decides}
use Rattle.mesh_base_values.specs.declared.values.ColType.{ColType}
use Rattle.mesh_query_tokens.specs.declared.tokens.Token.{Token}
use Rattle.mesh_query_tokens.specs.declared.tokens.TokenKind.{TokenKind}
use Rattle.mesh_query_tokens.specs.declared.tokens.TokenKind.TheVariants.{Ident, Number, Text, Macro, Sign}
use Rattle.mesh_query_grammar.specs.declared.surface.signs.Cmp.TheVariants as cmp
use Rattle.mesh_query_grammar.specs.declared.surface.signs.AddSign.TheVariants as add
use Rattle.mesh_query_grammar.specs.declared.surface.signs.MulSign.TheVariants as mul
use Rattle.mesh_query_grammar.specs.Words.{is_reserved, type_of}
use Rattle.mesh_query_grammar.specs.Signs.{Next, IsWord, IsSign, IsName, IsType, cmp_text, add_text, mul_text}
use Rattle.mesh_query_grammar.specs.Plans.{said, amount, bytes_of, kind_is_word, kind_is_sign, kind_is_name, kind_is_text, kind_is_number, kind_is_macro, kind_is_type, negated, is_type_of, the_type, type_named, is_word, is_sign, is_name, is_text, is_number, is_macro, is_type, is_cmp, is_add, is_mul, cmp_said, add_said, mul_said}

pub same_bytes : (x y : List ℕ) → bytes_eq x y ≡ true → x ≡ y
same_bytes x y h = (bytes_eq-Decides x y).0 h

pub no_negation : (b : Bool) → negated b ≡ true → b ≡ false
no_negation true h = absurd cc
no_negation false h = refl

word_kind : (w : List ℕ) (k : TokenKind) → kind_is_word w k ≡ true → k ≡ Ident w
word_kind w (Ident x) h = ap Ident (same_bytes x w h)
word_kind w _ h = absurd cc

sign_kind : (w : List ℕ) (k : TokenKind) → kind_is_sign w k ≡ true → k ≡ Sign w
sign_kind w (Sign x) h = ap Sign (same_bytes x w h)
sign_kind w _ h = absurd cc

pub name_kind : (k : TokenKind) → kind_is_name k ≡ true → (k ≡ Ident (bytes_of k)) × (is_reserved (bytes_of k) ≡ false)
name_kind (Ident x) h = (refl, no_negation (is_reserved x) h)
name_kind _ h = absurd cc

text_kind : (k : TokenKind) → kind_is_text k ≡ true → k ≡ Text (bytes_of k)
text_kind (Text x) h = refl
text_kind _ h = absurd cc

macro_kind : (k : TokenKind) → kind_is_macro k ≡ true → k ≡ Macro (bytes_of k)
macro_kind (Macro x) h = refl
macro_kind _ h = absurd cc

number_kind : (k : Token) (c : TokenKind) → k.kind ≡ c → kind_is_number c ≡ true → k.kind ≡ Number (amount k)
number_kind k (Number x) e h = rw e refl
number_kind k _ e h = absurd cc

some_type : (o : Option ColType) → is_type_of o ≡ true → o ≡ Some (the_type o)
some_type None h = absurd cc
some_type (Some t) h = refl

type_kind : (k : TokenKind) → kind_is_type k ≡ true → (k ≡ Ident (bytes_of k)) × (type_of (bytes_of k) ≡ Some (the_type (type_of (bytes_of k))))
type_kind (Ident x) h = (refl, some_type (type_of x) h)
type_kind _ h = absurd cc

pub word_at : (w : List ℕ) (k : Token) → is_word w k ≡ true → (x : List Token) → IsWord w (k ∷ x) x
word_at w k h x = (k, refl, word_kind w k.kind h)

pub sign_at : (w : List ℕ) (k : Token) → is_sign w k ≡ true → (x : List Token) → IsSign w (k ∷ x) x
sign_at w k h x = (k, refl, sign_kind w k.kind h)

pub name_at : (k : Token) → is_name k ≡ true → (x : List Token) → IsName (said k) (k ∷ x) x
name_at k h x = let z = name_kind k.kind h in ((k, refl, z.0), z.1)

pub text_at : (k : Token) → is_text k ≡ true → (x : List Token) → Next (Text (said k)) (k ∷ x) x
text_at k h x = (k, refl, text_kind k.kind h)

pub macro_at : (k : Token) → is_macro k ≡ true → (x : List Token) → Next (Macro (said k)) (k ∷ x) x
macro_at k h x = (k, refl, macro_kind k.kind h)

pub number_at : (k : Token) → is_number k ≡ true → (x : List Token) → Next (Number (amount k)) (k ∷ x) x
number_at k h x = (k, refl, number_kind k k.kind refl h)

pub type_at : (k : Token) → is_type k ≡ true → (x : List Token) → IsType (type_named k) (k ∷ x) x
type_at k h x = let z = type_kind k.kind h in (said k, (k, refl, z.0), z.1)

add_by : (x : List ℕ) (a b : Bool) → bytes_eq x (codes "+") ≡ a → bytes_eq x (codes "-") ≡ b → (a || b) ≡ true → x ≡ add_text (if a then add.Plus else add.Minus)
add_by x true b e f h = same_bytes x (codes "+") e
add_by x false true e f h = same_bytes x (codes "-") f
add_by x false false e f h = absurd cc

add_kind : (k : TokenKind) → (kind_is_sign (codes "+") k || kind_is_sign (codes "-") k) ≡ true → k ≡ Sign (add_text (add_said (bytes_of k)))
add_kind (Sign x) h = ap Sign (add_by x (bytes_eq x (codes "+")) (bytes_eq x (codes "-")) refl refl h)
add_kind _ h = absurd cc

pub add_at : (k : Token) → is_add k ≡ true → (x : List Token) → IsSign (add_text (add_said (said k))) (k ∷ x) x
add_at k h x = (k, refl, add_kind k.kind h)

mul_by : (x : List ℕ) (a b c : Bool) → bytes_eq x (codes "*") ≡ a → bytes_eq x (codes "/") ≡ b → bytes_eq x (codes "%") ≡ c → (a || b || c) ≡ true → x ≡ mul_text (if a then mul.Times else (if b then mul.Over else mul.Modulo))
mul_by x true b c e f g h = same_bytes x (codes "*") e
mul_by x false true c e f g h = same_bytes x (codes "/") f
mul_by x false false true e f g h = same_bytes x (codes "%") g
mul_by x false false false e f g h = absurd cc

mul_kind : (k : TokenKind) → (kind_is_sign (codes "*") k || kind_is_sign (codes "/") k || kind_is_sign (codes "%") k) ≡ true → k ≡ Sign (mul_text (mul_said (bytes_of k)))
mul_kind (Sign x) h = ap Sign (mul_by x (bytes_eq x (codes "*")) (bytes_eq x (codes "/")) (bytes_eq x (codes "%")) refl refl refl h)
mul_kind _ h = absurd cc

pub mul_at : (k : Token) → is_mul k ≡ true → (x : List Token) → IsSign (mul_text (mul_said (said k))) (k ∷ x) x
mul_at k h x = (k, refl, mul_kind k.kind h)

cmp_by : (x : List ℕ) (a b c d e f : Bool) → bytes_eq x (codes "=") ≡ a → bytes_eq x (codes "<>") ≡ b → bytes_eq x (codes "<") ≡ c → bytes_eq x (codes "<=") ≡ d → bytes_eq x (codes ">") ≡ e → bytes_eq x (codes ">=") ≡ f →
    (a || b || c || d || e || f) ≡ true → x ≡ cmp_text (if a then cmp.Eq else (if b then cmp.Ne else (if c then cmp.Lt else (if d then cmp.Le else (if e then cmp.Gt else cmp.Ge)))))
cmp_by x true b c d e f A B C D E F h = same_bytes x (codes "=") A
cmp_by x false true c d e f A B C D E F h = same_bytes x (codes "<>") B
cmp_by x false false true d e f A B C D E F h = same_bytes x (codes "<") C
cmp_by x false false false true e f A B C D E F h = same_bytes x (codes "<=") D
cmp_by x false false false false true f A B C D E F h = same_bytes x (codes ">") E
cmp_by x false false false false false true A B C D E F h = same_bytes x (codes ">=") F
cmp_by x false false false false false false A B C D E F h = absurd cc

cmp_kind : (k : TokenKind) → (kind_is_sign (codes "=") k || kind_is_sign (codes "<>") k || kind_is_sign (codes "<") k || kind_is_sign (codes "<=") k || kind_is_sign (codes ">") k || kind_is_sign (codes ">=") k) ≡ true →
    k ≡ Sign (cmp_text (cmp_said (bytes_of k)))
cmp_kind (Sign x) h =
    ap Sign (cmp_by x (bytes_eq x (codes "=")) (bytes_eq x (codes "<>")) (bytes_eq x (codes "<")) (bytes_eq x (codes "<=")) (bytes_eq x (codes ">")) (bytes_eq x (codes ">=")) refl refl refl refl refl refl h)
cmp_kind _ h = absurd cc

pub cmp_at : (k : Token) → is_cmp k ≡ true → (x : List Token) → IsSign (cmp_text (cmp_said (said k))) (k ∷ x) x
cmp_at k h x = (k, refl, cmp_kind k.kind h)
