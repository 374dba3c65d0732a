-- Runs that take the token that the grammar names.
use Rattle.std.proofs.Common.{◌≡◌, ℕ, List, [], ◌∷◌, codes, Bool, true, false, ◌||◌, ◌&&◌, Option, Some, None, refl, ap, sym, ◌∙◌, subst, if◌then◌else◌}
use Rattle.std.specs.Str.{bytes_eq}
use Rattle.std.proofs.lemmas.Slice.Eq.{bytes_eq-Decides}
use Rattle.mesh_base_values.specs.declared.values.ColType.{ColType}
use Rattle.mesh_query_tokens.specs.declared.tokens.Token.{Token}
use Rattle.mesh_query_tokens.specs.declared.tokens.TokenKind.{TokenKind}
use Rattle.mesh_query_tokens.specs.declared.tokens.TokenKind.TheVariants.{Ident, Number, Text, Macro, Sign}
use Rattle.mesh_query_grammar.specs.declared.surface.signs.Cmp.{Cmp}
use Rattle.mesh_query_grammar.specs.declared.surface.signs.Cmp.TheVariants as cmp
use Rattle.mesh_query_grammar.specs.declared.surface.signs.AddSign.{AddSign}
use Rattle.mesh_query_grammar.specs.declared.surface.signs.AddSign.TheVariants as add
use Rattle.mesh_query_grammar.specs.declared.surface.signs.MulSign.{MulSign}
use Rattle.mesh_query_grammar.specs.declared.surface.signs.MulSign.TheVariants as mul
use Rattle.mesh_query_grammar.specs.declared.surface.signs.Function.{Function}
use Rattle.mesh_query_grammar.specs.Words.{is_reserved, type_of, row_function_of, group_function_of, function_of, or_else}
use Rattle.mesh_query_grammar.specs.Signs.{place, Next, IsWord, IsSign, IsName, IsType, cmp_text, add_text, mul_text}
use Rattle.mesh_query_grammar.specs.Rules.{Rule, Tree}
use Rattle.mesh_query_grammar.specs.Plans.{Plan, accept, said, amount, bytes_of, number_in, kind_is_word, kind_is_sign, kind_is_name, kind_is_text, kind_is_number, kind_is_macro, kind_is_type, negated, is_type_of, the_type, type_named, is_word, is_sign, is_name, is_text, is_number, is_macro, is_type, is_cmp, is_add, is_mul, cmp_said, add_said, mul_said}
use Rattle.mesh_query_grammar.specs.Machine.{begins, begins_star, Runs, accepts}
use Rattle.mesh_query_grammar.proofs.Heads.{same_bytes}

own_bytes : (w : List ℕ) → bytes_eq w w ≡ true
own_bytes w = (bytes_eq-Decides w w).1 refl

pub word_taken : (w : List ℕ) (k : Token) → k.kind ≡ Ident w → is_word w k ≡ true
word_taken w k h = ap (kind_is_word w) h ∙ own_bytes w

pub sign_taken : (w : List ℕ) (k : Token) → k.kind ≡ Sign w → is_sign w k ≡ true
sign_taken w k h = ap (kind_is_sign w) h ∙ own_bytes w

pub name_taken : {x : List ℕ} {s m : List Token} (h : IsName x s m) → (is_name h.0.0 ≡ true) × (said h.0.0 ≡ x)
name_taken h = (ap kind_is_name h.0.2 ∙ ap negated h.1, ap bytes_of h.0.2)

pub type_taken : {x : ColType} {s m : List Token} (h : IsType x s m) → (is_type h.1.0 ≡ true) × (type_named h.1.0 ≡ x)
type_taken h = (ap kind_is_type h.1.2 ∙ ap is_type_of h.2, ap (λ (z : TokenKind). the_type (type_of (bytes_of z))) h.1.2 ∙ ap the_type h.2)

pub takes_word : {n : ℕ} {r : Rule} (w : List ℕ) {f : Token → Plan r} {q : Plan r} {t : Tree r} {s m e : List Token} (h : IsWord w s m) → Runs n r (f h.0) t m e → Runs n r (accept (is_word w) f q) t s e
takes_word {n = n} {r = r} w {f = f} {q = q} {t = t} {e = e} h d =
    subst (λ (z : List Token). Runs n r (accept (is_word w) f q) t z e) (sym h.1) (accepts (ap (kind_is_word w) h.2 ∙ own_bytes w) d)

pub takes_sign : {n : ℕ} {r : Rule} (w : List ℕ) {f : Token → Plan r} {q : Plan r} {t : Tree r} {s m e : List Token} (h : IsSign w s m) → Runs n r (f h.0) t m e → Runs n r (accept (is_sign w) f q) t s e
takes_sign {n = n} {r = r} w {f = f} {q = q} {t = t} {e = e} h d =
    subst (λ (z : List Token). Runs n r (accept (is_sign w) f q) t z e) (sym h.1) (accepts (ap (kind_is_sign w) h.2 ∙ own_bytes w) d)

-- a token that passes a test and says what the plan goes on with
takes_said : {n : ℕ} {r : Rule} {A : Type 0} (test : Token → Bool) (says : Token → A) (F : A → Plan r) {q : Plan r} {t : Tree r} {s m e : List Token} (k : Token) (a : A) →
    s ≡ k ∷ m → test k ≡ true → says k ≡ a → Runs n r (F a) t m e → Runs n r (accept test (λ k. F (says k)) q) t s e
takes_said {n = n} {r = r} test says F {q = q} {t = t} {m = m} {e = e} k a h g i d =
    subst (λ (z : List Token). Runs n r (accept test (λ k. F (says k)) q) t z e) (sym h) (accepts g (subst (λ (z : _). Runs n r (F z) t m e) (sym i) d))

pub takes_name : {n : ℕ} {r : Rule} (F : List ℕ → Plan r) {q : Plan r} {t : Tree r} {x : List ℕ} {s m e : List Token} → IsName x s m → Runs n r (F x) t m e → Runs n r (accept is_name (λ k. F (said k)) q) t s e
takes_name F {x = x} h d = takes_said is_name said F h.0.0 x h.0.1 (ap kind_is_name h.0.2 ∙ ap negated h.1) (ap bytes_of h.0.2) d

pub takes_type : {n : ℕ} {r : Rule} (F : ColType → Plan r) {q : Plan r} {t : Tree r} {x : ColType} {s m e : List Token} → IsType x s m → Runs n r (F x) t m e → Runs n r (accept is_type (λ k. F (type_named k)) q) t s e
takes_type F {x = x} h d = takes_said is_type type_named F h.1.0 x h.1.1 (ap kind_is_type h.1.2 ∙ ap is_type_of h.2) (ap (λ (z : TokenKind). the_type (type_of (bytes_of z))) h.1.2 ∙ ap the_type h.2) d

pub takes_number : {n : ℕ} {r : Rule} (F : ℕ → Plan r) {q : Plan r} {t : Tree r} {x : ℕ} {s m e : List Token} → Next (Number x) s m → Runs n r (F x) t m e → Runs n r (accept is_number (λ k. F (amount k)) q) t s e
takes_number F {x = x} h d = takes_said is_number amount F h.0 x h.1 (ap kind_is_number h.2) (ap number_in h.2) d

pub takes_text : {n : ℕ} {r : Rule} (F : List ℕ → Plan r) {q : Plan r} {t : Tree r} {x : List ℕ} {s m e : List Token} → Next (Text x) s m → Runs n r (F x) t m e → Runs n r (accept is_text (λ k. F (said k)) q) t s e
takes_text F {x = x} h d = takes_said is_text said F h.0 x h.1 (ap kind_is_text h.2) (ap bytes_of h.2) d

pub takes_macro : {n : ℕ} {r : Rule} (F : List ℕ → Plan r) {q : Plan r} {t : Tree r} {x : List ℕ} {s m e : List Token} → Next (Macro x) s m → Runs n r (F x) t m e → Runs n r (accept is_macro (λ k. F (said k)) q) t s e
takes_macro F {x = x} h d = takes_said is_macro said F h.0 x h.1 (ap kind_is_macro h.2) (ap bytes_of h.2) d

cmp_read : (o : Cmp) → cmp_said (cmp_text o) ≡ o
cmp_read cmp.Eq = refl
cmp_read cmp.Ne = refl
cmp_read cmp.Lt = refl
cmp_read cmp.Le = refl
cmp_read cmp.Gt = refl
cmp_read cmp.Ge = refl

abbrev kind_is_cmp : TokenKind → Bool
kind_is_cmp k = kind_is_sign (codes "=") k || kind_is_sign (codes "<>") k || kind_is_sign (codes "<") k || kind_is_sign (codes "<=") k || kind_is_sign (codes ">") k || kind_is_sign (codes ">=") k

cmp_true : (o : Cmp) → kind_is_cmp (Sign (cmp_text o)) ≡ true
cmp_true cmp.Eq = refl
cmp_true cmp.Ne = refl
cmp_true cmp.Lt = refl
cmp_true cmp.Le = refl
cmp_true cmp.Gt = refl
cmp_true cmp.Ge = refl

pub takes_cmp : {n : ℕ} {r : Rule} (F : Cmp → Plan r) {q : Plan r} {t : Tree r} (o : Cmp) {s m e : List Token} → IsSign (cmp_text o) s m → Runs n r (F o) t m e → Runs n r (accept is_cmp (λ k. F (cmp_said (said k))) q) t s e
takes_cmp F o h d = takes_said is_cmp (λ k. cmp_said (said k)) F h.0 o h.1 (ap kind_is_cmp h.2 ∙ cmp_true o) (ap (λ (z : TokenKind). cmp_said (bytes_of z)) h.2 ∙ cmp_read o) d

add_read : (o : AddSign) → add_said (add_text o) ≡ o
add_read add.Plus = refl
add_read add.Minus = refl

abbrev kind_is_add : TokenKind → Bool
kind_is_add k = kind_is_sign (codes "+") k || kind_is_sign (codes "-") k

add_true : (o : AddSign) → kind_is_add (Sign (add_text o)) ≡ true
add_true add.Plus = refl
add_true add.Minus = refl

pub takes_add : {n : ℕ} {r : Rule} (F : ℕ → AddSign → Plan r) {q : Plan r} {t : Tree r} (o : AddSign) {s m e : List Token} → IsSign (add_text o) s m → Runs n r (F (place s) o) t m e → Runs n r (accept is_add (λ k. F k.start (add_said (said k))) q) t s e
takes_add {n = n} {r = r} F {q = q} {t = t} o {s = s} {m = m} {e = e} h d =
    subst (λ (z : List Token). Runs n r (accept is_add (λ k. F k.start (add_said (said k))) q) t z e) (sym h.1)
    (accepts (ap kind_is_add h.2 ∙ add_true o)
    (subst (λ (z : AddSign). Runs n r (F h.0.start z) t m e) (sym (ap (λ (z : TokenKind). add_said (bytes_of z)) h.2 ∙ add_read o))
    (subst (λ (z : ℕ). Runs n r (F z o) t m e) (ap place h.1) d)))

mul_read : (o : MulSign) → mul_said (mul_text o) ≡ o
mul_read mul.Times = refl
mul_read mul.Over = refl
mul_read mul.Modulo = refl

abbrev kind_is_mul : TokenKind → Bool
kind_is_mul k = kind_is_sign (codes "*") k || kind_is_sign (codes "/") k || kind_is_sign (codes "%") k

mul_true : (o : MulSign) → kind_is_mul (Sign (mul_text o)) ≡ true
mul_true mul.Times = refl
mul_true mul.Over = refl
mul_true mul.Modulo = refl

pub takes_mul : {n : ℕ} {r : Rule} (F : ℕ → MulSign → Plan r) {q : Plan r} {t : Tree r} (o : MulSign) {s m e : List Token} → IsSign (mul_text o) s m → Runs n r (F (place s) o) t m e → Runs n r (accept is_mul (λ k. F k.start (mul_said (said k))) q) t s e
takes_mul {n = n} {r = r} F {q = q} {t = t} o {s = s} {m = m} {e = e} h d =
    subst (λ (z : List Token). Runs n r (accept is_mul (λ k. F k.start (mul_said (said k))) q) t z e) (sym h.1)
    (accepts (ap kind_is_mul h.2 ∙ mul_true o)
    (subst (λ (z : MulSign). Runs n r (F h.0.start z) t m e) (sym (ap (λ (z : TokenKind). mul_said (bytes_of z)) h.2 ∙ mul_read o))
    (subst (λ (z : ℕ). Runs n r (F z o) t m e) (ap place h.1) d)))

row_unreserved : (w : List ℕ) (f : Function) (a b c d e g : Bool) → bytes_eq w (codes "abs") ≡ a → bytes_eq w (codes "length") ≡ b → bytes_eq w (codes "upper") ≡ c → bytes_eq w (codes "lower") ≡ d → bytes_eq w (codes "nullif") ≡ e → bytes_eq w (codes "coalesce") ≡ g →
    (a || b || c || d || e || g) ≡ true → is_reserved w ≡ false
unfolding is_reserved
row_unreserved w f true b c d e g A B C D E G h = ap is_reserved (same_bytes w (codes "abs") A)
row_unreserved w f false true c d e g A B C D E G h = ap is_reserved (same_bytes w (codes "length") B)
row_unreserved w f false false true d e g A B C D E G h = ap is_reserved (same_bytes w (codes "upper") C)
row_unreserved w f false false false true e g A B C D E G h = ap is_reserved (same_bytes w (codes "lower") D)
row_unreserved w f false false false false true g A B C D E G h = ap is_reserved (same_bytes w (codes "nullif") E)
row_unreserved w f false false false false false true A B C D E G h = ap is_reserved (same_bytes w (codes "coalesce") G)
row_unreserved w f false false false false false false A B C D E G h = absurd cc

row_some : (f : Function) (a b c d e g : Bool) (A B C D E G : Function) → (if a then Some A else (if b then Some B else (if c then Some C else (if d then Some D else (if e then Some E else (if g then Some G else None)))))) ≡ Some f → (a || b || c || d || e || g) ≡ true
row_some f true b c d e g A B C D E G h = refl
row_some f false true c d e g A B C D E G h = refl
row_some f false false true d e g A B C D E G h = refl
row_some f false false false true e g A B C D E G h = refl
row_some f false false false false true g A B C D E G h = refl
row_some f false false false false false true A B C D E G h = refl
row_some f false false false false false false A B C D E G h = absurd cc

group_unreserved : (w : List ℕ) (a b c d : Bool) → bytes_eq w (codes "count") ≡ a → bytes_eq w (codes "sum") ≡ b → bytes_eq w (codes "min") ≡ c → bytes_eq w (codes "max") ≡ d → (a || b || c || d) ≡ true → is_reserved w ≡ false
unfolding is_reserved
group_unreserved w true b c d A B C D h = ap is_reserved (same_bytes w (codes "count") A)
group_unreserved w false true c d A B C D h = ap is_reserved (same_bytes w (codes "sum") B)
group_unreserved w false false true d A B C D h = ap is_reserved (same_bytes w (codes "min") C)
group_unreserved w false false false true A B C D h = ap is_reserved (same_bytes w (codes "max") D)
group_unreserved w false false false false A B C D h = absurd cc

group_some : (f : Function) (a b c d : Bool) (A B C D : Function) → (if a then Some A else (if b then Some B else (if c then Some C else (if d then Some D else None)))) ≡ Some f → (a || b || c || d) ≡ true
group_some f true b c d A B C D h = refl
group_some f false true c d A B C D h = refl
group_some f false false true d A B C D h = refl
group_some f false false false true A B C D h = refl
group_some f false false false false A B C D h = absurd cc

either_unreserved : (w : List ℕ) (f : Function) (a b : Option Function) → row_function_of w ≡ a → group_function_of w ≡ b → or_else a b ≡ Some f → is_reserved w ≡ false
either_unreserved w f None (Some g) h i e =
    group_unreserved w (bytes_eq w (codes "count")) (bytes_eq w (codes "sum")) (bytes_eq w (codes "min")) (bytes_eq w (codes "max")) refl refl refl refl
    (group_some g (bytes_eq w (codes "count")) (bytes_eq w (codes "sum")) (bytes_eq w (codes "min")) (bytes_eq w (codes "max")) _ _ _ _ i)
either_unreserved w f (Some g) b h i e =
    row_unreserved w g (bytes_eq w (codes "abs")) (bytes_eq w (codes "length")) (bytes_eq w (codes "upper")) (bytes_eq w (codes "lower")) (bytes_eq w (codes "nullif")) (bytes_eq w (codes "coalesce")) refl refl refl refl refl refl
    (row_some g (bytes_eq w (codes "abs")) (bytes_eq w (codes "length")) (bytes_eq w (codes "upper")) (bytes_eq w (codes "lower")) (bytes_eq w (codes "nullif")) (bytes_eq w (codes "coalesce")) _ _ _ _ _ _ h)
either_unreserved w f None None h i e = absurd cc

-- a function's name is no word of queries
pub function_unreserved : (w : List ℕ) (f : Function) → function_of w ≡ Some f → is_reserved w ≡ false
function_unreserved w f h = either_unreserved w f (row_function_of w) (group_function_of w) refl refl h

false_and : (a b c : Bool) → a ≡ false → (a && b && c) ≡ false
false_and a b c h = rw h refl

false_second : (a b c : Bool) → b ≡ false → (a && b && c) ≡ false
false_second true b c h = rw h refl
false_second false b c h = refl

false_third : (a b c : Bool) → c ≡ false → (a && b && c) ≡ false
false_third true true c h = rw h refl
false_third true false c h = refl
false_third false b c h = refl

-- what begins with no name begins with no star of a name
pub starless_name : (s : List Token) → begins is_name s ≡ false → begins_star s ≡ false
starless_name [] h = refl
starless_name (k ∷ []) h = refl
starless_name (k ∷ d ∷ []) h = refl
starless_name (k ∷ d ∷ m ∷ s) h = false_and (is_name k) (is_sign (codes ".") d) (is_sign (codes "*") m) h

pub starless_dot : (k : Token) (s : List Token) → begins (is_sign (codes ".")) s ≡ false → begins_star (k ∷ s) ≡ false
starless_dot k [] h = refl
starless_dot k (d ∷ []) h = refl
starless_dot k (d ∷ m ∷ s) h = false_second (is_name k) (is_sign (codes ".") d) (is_sign (codes "*") m) h

pub starless_times : (k d : Token) (s : List Token) → begins (is_sign (codes "*")) s ≡ false → begins_star (k ∷ d ∷ s) ≡ false
starless_times k d [] h = refl
starless_times k d (m ∷ s) h = false_third (is_name k) (is_sign (codes ".") d) (is_sign (codes "*") m) h

pub cmp_taken : (o : Cmp) {s m : List Token} (h : IsSign (cmp_text o) s m) → (is_cmp h.0 ≡ true) × (cmp_said (said h.0) ≡ o)
cmp_taken o h = (ap kind_is_cmp h.2 ∙ cmp_true o, ap (λ (z : TokenKind). cmp_said (bytes_of z)) h.2 ∙ cmp_read o)

pub add_taken : (o : AddSign) {s m : List Token} (h : IsSign (add_text o) s m) → (is_add h.0 ≡ true) × (add_said (said h.0) ≡ o)
add_taken o h = (ap kind_is_add h.2 ∙ add_true o, ap (λ (z : TokenKind). add_said (bytes_of z)) h.2 ∙ add_read o)

pub mul_taken : (o : MulSign) {s m : List Token} (h : IsSign (mul_text o) s m) → (is_mul h.0 ≡ true) × (mul_said (said h.0) ≡ o)
mul_taken o h = (ap kind_is_mul h.2 ∙ mul_true o, ap (λ (z : TokenKind). mul_said (bytes_of z)) h.2 ∙ mul_read o)
