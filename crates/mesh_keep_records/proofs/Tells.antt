-- Two values of one text are one, part by part.
use Rattle.std.proofs.Common.{◌≡◌, ℕ, ◌<◌, ◌^◌, Bool, true, false, ◌&&◌, List, [], ◌∷◌, length, map, Option, Some, None, refl, sym, ap, subst, ◌∙◌, arith}
use Rattle.std.specs.Prelude.{ℤ}
use Rattle.std.specs.List.{list_all}
use Rattle.std.specs.Fmt.{decimal, signed_decimal}
use Rattle.std.proofs.lemmas.Bool.{and_parts, ltb-true}
use Rattle.hex.specs.Hex.{encode_lower}
use Rattle.mesh_base_values.specs.declared.values.Cell.{Cell}
use Rattle.mesh_base_values.specs.declared.values.ColType.{ColType}
use Rattle.mesh_base_values.specs.declared.values.Column.{Column}
use Rattle.mesh_base_values.specs.declared.values.Name.{Name}
use Rattle.mesh_base_values.specs.declared.values.Pair.{Pair}
use Rattle.mesh_base_values.specs.declared.times.Bounds.{Bounds}
use Rattle.mesh_base.specs.declared.definitions.Own.{Own}
use Rattle.mesh_base.specs.declared.snapshots.Ref.{Ref}
use Rattle.mesh_canon_text.specs.declared.form.Form.TheVariants.{Current, Former}
use Rattle.mesh_canon_text.specs.Text.{cell_text, list_text, own_text, own_text_old, type_word}
use Rattle.mesh_canon_reading.specs.Fits.{are_texts, cell_fits, column_fits, is_own, text_fits}
use Rattle.mesh_canon_reading.specs.Reading.{cell_in, list_in, own_in, type_in}
use Rattle.mesh_canon_reading.proofs.Definitions.{list_is_read, own_is_read}
use Rattle.mesh_canon_reading.proofs.Exact.{one_value}
use Rattle.mesh_canon_reading.proofs.Forms.{forms_agree}
use Rattle.mesh_canon_reading.proofs.Lone.{cell_is_read, type_is_read}
use Rattle.mesh_keep_records.specs.Parts.{bool_word, digits_in, is_count, is_digest, number_in, option_fits, option_parts, signed_in}
use Rattle.mesh_canon.specs.canon.Forms.{IsOwnText}
use Rattle.mesh_keep_records.specs.Records.{all_fit, bounds_fits, bounds_list, column_list, each_text, moment_fits, name_list, option_list, pair_fits, pair_list, ref_fits, ref_list, rows_fit, rows_list}
use Rattle.mesh_keep_records.proofs.Digits.{digits_are_read}
use Rattle.mesh_keep_records.proofs.Inside.{parts_fit}
use Rattle.mesh_keep_records.proofs.Again.{number_is_read, signed_is_read}
use Rattle.mesh_keep_records.proofs.Words.{cons_is}

-- two values that fit and have one text, which fits, are one
abbrev pub Tells : (A : Type 0) → (A → List ℕ) → (A → Bool) → Type 0
Tells A text fits = (x y : A) → fits x ≡ true → fits y ≡ true → text_fits (text x) ≡ true → text x ≡ text y → x ≡ y

-- lists of one text, with their texts that fit
pub same_parts : (ps qs : List (List ℕ)) → text_fits (list_text ps) ≡ true → list_text ps ≡ list_text qs → (ps ≡ qs) × (are_texts ps ≡ true)
same_parts ps qs fits e =
    let lt : length (list_text ps) < 2 ^ 64 = ltb-true (length (list_text ps)) (2 ^ 64) fits in
    let p = parts_fit ps lt in
    let q = parts_fit qs (subst (λ t. length t < 2 ^ 64) e lt) in
    (one_value list_text list_in ps qs (list_is_read ps p) (list_is_read qs q) e, p)

-- the first of some texts, and the others
pub first_fits : (t : List ℕ) (ts : List (List ℕ)) → are_texts (t ∷ ts) ≡ true → (text_fits t ≡ true) × (are_texts ts ≡ true)
first_fits t ts fits = and_parts (text_fits t) (are_texts ts) fits

pub text_tells : Tells (List ℕ) (λ t. t) (λ t. true)
text_tells x y p q f e = e

pub signed_tells : Tells ℤ signed_decimal moment_fits
signed_tells x y p q f e = one_value signed_decimal signed_in x y (signed_is_read x p) (signed_is_read y q) e

pub count_tells : Tells ℕ decimal is_count
count_tells x y p q f e = one_value decimal number_in x y (number_is_read x p) (number_is_read y q) e

pub digits_tells : Tells (List ℕ) encode_lower is_digest
digits_tells x y p q f e = one_value encode_lower digits_in x y (digits_are_read x p) (digits_are_read y q) e

pub type_tells : Tells ColType type_word (λ kind. true)
type_tells x y p q f e = one_value type_word type_in x y (type_is_read x) (type_is_read y) e

pub cell_tells : Tells Cell cell_text cell_fits
cell_tells x y p q f e = one_value cell_text cell_in x y (cell_is_read x p) (cell_is_read y q) e

pub bool_tells : Tells Bool bool_word (λ b. true)
bool_tells true true p q f e = refl
bool_tells true false p q f e = absurd (let h = (cons_is 116 102 _ _ e).0 in omega (arith, h))
bool_tells false true p q f e = absurd (let h = (cons_is 102 116 _ _ e).0 in omega (arith, h))
bool_tells false false p q f e = refl

pub each_tells : {A : Type 0} (text : A → List ℕ) (fits : A → Bool) → Tells A text fits → (xs ys : List A) → list_all fits xs ≡ true → list_all fits ys ≡ true → are_texts (map text xs) ≡ true → map text xs ≡ map text ys → xs ≡ ys
each_tells text fits tells [] [] p q f e = refl
each_tells text fits tells [] (y ∷ ys) p q f e = absurd cc
each_tells text fits tells (x ∷ xs) [] p q f e = absurd cc
each_tells text fits tells (x ∷ xs) (y ∷ ys) p q f e =
    let px = and_parts (fits x) (list_all fits xs) p in
    let qy = and_parts (fits y) (list_all fits ys) q in
    let fx = first_fits (text x) (map text xs) f in
    let h = cons_is (text x) (text y) (map text xs) (map text ys) e in
    let a : x ≡ y = tells x y px.0 qy.0 fx.0 h.0 in
    let b : xs ≡ ys = each_tells text fits tells xs ys px.1 qy.1 fx.1 h.1 in
    λ i. a i ∷ b i

pub seq_tells : {A : Type 0} (text : A → List ℕ) (fits : A → Bool) → Tells A text fits → Tells (List A) (each_text text) (list_all fits)
seq_tells text fits tells xs ys p q f e =
    let s = same_parts (map text xs) (map text ys) f e in
    each_tells text fits tells xs ys p q s.1 s.0

by_option : {A : Type 0} (text : A → List ℕ) (fits : A → Bool) → Tells A text fits → (x y : Option A) → option_fits fits x ≡ true → option_fits fits y ≡ true → are_texts (option_parts text x) ≡ true → option_parts text x ≡ option_parts text y → x ≡ y
by_option text fits tells None None p q f e = refl
by_option text fits tells None (Some y) p q f e = absurd cc
by_option text fits tells (Some x) None p q f e = absurd cc
by_option text fits tells (Some x) (Some y) p q f e =
    ap Some (tells x y p q (first_fits (text x) [] f).0 (cons_is (text x) (text y) [] [] e).0)

pub option_tells : {A : Type 0} (text : A → List ℕ) (fits : A → Bool) → Tells A text fits → Tells (Option A) (option_list text) (option_fits fits)
option_tells text fits tells x y p q f e =
    let s = same_parts (option_parts text x) (option_parts text y) f e in
    by_option text fits tells x y p q s.1 s.0

-- two parts of one list
pub two_parts : (a b c d : List ℕ) → text_fits (list_text (a ∷ b ∷ [])) ≡ true → list_text (a ∷ b ∷ []) ≡ list_text (c ∷ d ∷ []) → (a ≡ c) × (b ≡ d) × (text_fits a ≡ true) × (text_fits b ≡ true)
two_parts a b c d f e =
    let s = same_parts (a ∷ b ∷ []) (c ∷ d ∷ []) f e in
    let h = cons_is a c (b ∷ []) (d ∷ []) s.0 in
    let g = first_fits a (b ∷ []) s.1 in
    (h.0, (cons_is b d [] [] h.1).0, g.0, (first_fits b [] g.1).0)

-- three parts of one list
pub three_parts : (a b c d e g : List ℕ) → text_fits (list_text (a ∷ b ∷ c ∷ [])) ≡ true → list_text (a ∷ b ∷ c ∷ []) ≡ list_text (d ∷ e ∷ g ∷ []) → (a ≡ d) × (b ≡ e) × (c ≡ g) × (text_fits a ≡ true) × (text_fits b ≡ true) × (text_fits c ≡ true)
three_parts a b c d e g f is =
    let s = same_parts (a ∷ b ∷ c ∷ []) (d ∷ e ∷ g ∷ []) f is in
    let h = cons_is a d (b ∷ c ∷ []) (e ∷ g ∷ []) s.0 in
    let k = cons_is b e (c ∷ []) (g ∷ []) h.1 in
    let u = first_fits a (b ∷ c ∷ []) s.1 in
    let v = first_fits b (c ∷ []) u.1 in
    (h.0, k.0, (cons_is c g [] [] k.1).0, u.0, v.0, (first_fits c [] v.1).0)

pub name_tells : Tells Name name_list (λ n. true)
name_tells x y p q f e =
    let h = two_parts x.schema x.model y.schema y.model f e in
    let a : x.schema ≡ y.schema = h.0 in
    let b : x.model ≡ y.model = h.1 in
    λ i. record { schema = a i; model = b i }

pub column_tells : Tells Column column_list column_fits
column_tells x y p q f e =
    let h = two_parts x.name (type_word x.kind) y.name (type_word y.kind) f e in
    let a : x.name ≡ y.name = h.0 in
    let b : x.kind ≡ y.kind = type_tells x.kind y.kind refl refl h.3 h.1 in
    λ i. record { name = a i; kind = b i }

pub pair_tells : Tells Pair pair_list pair_fits
pair_tells x y p q f e =
    let h = two_parts (name_list x.first) (name_list x.second) (name_list y.first) (name_list y.second) f e in
    let a : x.first ≡ y.first = name_tells x.first y.first refl refl h.2 h.0 in
    let b : x.second ≡ y.second = name_tells x.second y.second refl refl h.3 h.1 in
    λ i. record { first = a i; second = b i }

pub ref_tells : Tells Ref ref_list ref_fits
ref_tells x y p q f e =
    let h = two_parts (name_list x.name) (encode_lower x.fingerprint) (name_list y.name) (encode_lower y.fingerprint) f e in
    let px = (and_parts (is_digest x.fingerprint) true p).0 in
    let qy = (and_parts (is_digest y.fingerprint) true q).0 in
    let a : x.name ≡ y.name = name_tells x.name y.name refl refl h.2 h.0 in
    let b : x.fingerprint ≡ y.fingerprint = digits_tells x.fingerprint y.fingerprint px qy h.3 h.1 in
    λ i. record { name = a i; fingerprint = b i }

-- both of two tests
pub both_fit : (a b : Bool) → all_fit (a ∷ b ∷ []) ≡ true → (a ≡ true) × (b ≡ true)
both_fit a b p =
    let h = and_parts a (b && true) p in
    (h.0, (and_parts b true h.1).0)

pub bounds_tells : Tells Bounds bounds_list bounds_fits
bounds_tells x y p q f e =
    let h = two_parts (signed_decimal x.start) (signed_decimal x.end) (signed_decimal y.start) (signed_decimal y.end) f e in
    let px = both_fit (moment_fits x.start) (moment_fits x.end) p in
    let qy = both_fit (moment_fits y.start) (moment_fits y.end) q in
    let a : x.start ≡ y.start = signed_tells x.start y.start px.0 qy.0 h.2 h.0 in
    let b : x.end ≡ y.end = signed_tells x.end y.end px.1 qy.1 h.3 h.1 in
    λ i. record { start = a i; end = b i }

pub rows_tell : Tells (List (List Cell)) rows_list rows_fit
rows_tell = seq_tells (each_text cell_text) (list_all cell_fits) (seq_tells cell_text cell_fits cell_tells)

-- two definitions of one text are one, in whichever form it is
pub own_tells : (t : List ℕ) (a b : Own) → is_own a ≡ true → is_own b ≡ true → IsOwnText t a → IsOwnText t b → a ≡ b
own_tells t a b p q (Current, m, e) (Current, n, f) = one_value own_text (own_in Current) a b (own_is_read Current a p tt) (own_is_read Current b q tt) (sym e ∙ f)
own_tells t a b p q (Current, m, e) (Former, n, f) = forms_agree a b p q (sym e ∙ f)
own_tells t a b p q (Former, m, e) (Current, n, f) = sym (forms_agree b a q p (sym f ∙ e))
own_tells t a b p q (Former, m, e) (Former, n, f) = one_value own_text_old (own_in Former) a b (own_is_read Former a p m) (own_is_read Former b q n) (sym e ∙ f)
