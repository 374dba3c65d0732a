-- A file is rewritten or deleted among others: where it stood, what is found afterwards, and that paths stay distinct.
use Rattle.std.proofs.Common.{◌≡◌, ℕ, zero, suc, ◌<◌, Bool, true, false, cond, List, [], ◌∷◌, ◌++◌, length, take, drop, get_or, set, is_none, Some, None, refl, sym, ◌∙◌, ap, arith}
use Rattle.std.specs.declared.option.Option.{Option}
use Rattle.std.specs.Ordering.{is_eq}
use Rattle.std.specs.Cmp.{Equal-is}
use Rattle.std.proofs.lemmas.Map.Lookups.{exact_bytes}
use Rattle.mesh_list.specs.Keyed.{found}
use Rattle.mesh_list.proofs.Ascends.{and_left, and_right}
use Rattle.mesh_base_values.specs.Names.{text_cmp}
use Rattle.mesh_io.specs.declared.files.File.{File}
use Rattle.std.specs.Option.{option_map}
use Rattle.std.proofs.lemmas.Bool.{and_from as and_both}
use Rattle.mesh_io.specs.Files.{path_of, content_of, bytes_at, are_distinct, rewritten, deleted}

abbrev pub one : List ℕ → List ℕ → Bool
one a b = is_eq (text_cmp a b)

pub one_is : (a b : List ℕ) → one a b ≡ true → a ≡ b
one_is a b e = exact_bytes a b ((Equal-is (text_cmp a b)).0 e)

pub rewritten_same : (file : File) (fs : List File) (i : ℕ) (x : File) → i < length fs → x ≡ get_or fs i x → is_eq (text_cmp x.path file.path) ≡ true → take i fs ++ rewritten file (drop i fs) ≡ set fs i file
rewritten_same file [] i x lt here is = absurd (omega arith)
rewritten_same file (f ∷ fs) zero x lt here is = at_equal (one f.path file.path) (ap (λ (b : File). one b.path file.path) (sym here) ∙ is)
  where
    at_equal : (b : Bool) → b ≡ true → cond b (file ∷ fs) (f ∷ rewritten file fs) ≡ file ∷ fs
    at_equal true e = refl
    at_equal false e = cc
rewritten_same file (f ∷ fs) (suc i) x lt here is = ap (λ (l : List File). f ∷ l) (rewritten_same file fs i x (omega arith) here is)

inner : {T : Type 0} (b : Bool) (s t e : T) → cond b s (cond b t e) ≡ cond b s e
inner true s t e = refl
inner false s t e = refl

-- where two paths differ, it doesn't matter which is asked for first
swap : (p q : Bool) (s t e : Option File) → (p ≡ true → q ≡ true → true ≡ false) → cond p s (cond q t e) ≡ cond q t (cond p s e)
swap true true s t e h = absurd (let f : true ≡ false = h refl refl in cc)
swap true false s t e h = refl
swap false q s t e h = refl

by_rewritten : (file f : File) (q : List ℕ) (fs : List File) (b : Bool) → b ≡ one f.path file.path → found text_cmp path_of q (rewritten file fs) ≡ cond (one file.path q) (Some file) (found text_cmp path_of q fs) → found text_cmp path_of q (cond b (file ∷ fs) (f ∷ rewritten file fs)) ≡ cond (one file.path q) (Some file) (cond (one f.path q) (Some f) (found text_cmp path_of q fs))
by_rewritten file f q fs true e more =
    let same : f.path ≡ file.path = one_is f.path file.path (sym e) in
    sym (ap (λ (n : List ℕ). cond (one file.path q) (Some file) (cond (one n q) (Some f) (found text_cmp path_of q fs))) same
    ∙ inner (one file.path q) (Some file) (Some f) (found text_cmp path_of q fs))
by_rewritten file f q fs false e more =
    ap (cond (one f.path q) (Some f)) more
    ∙ swap (one f.path q) (one file.path q) (Some f) (Some file) (found text_cmp path_of q fs) (λ p r. clash p r)
  where
    clash : one f.path q ≡ true → one file.path q ≡ true → true ≡ false
    clash p r =
        let second : file.path ≡ q = one_is file.path q r in
        sym p ∙ ap (one f.path) (sym second) ∙ sym e

pub found-rewritten : (file : File) (q : List ℕ) (fs : List File) → found text_cmp path_of q (rewritten file fs) ≡ cond (is_eq (text_cmp file.path q)) (Some file) (found text_cmp path_of q fs)
found-rewritten file q [] = refl
found-rewritten file q (f ∷ fs) = by_rewritten file f q fs (one f.path file.path) refl (found-rewritten file q fs)

none_rewritten : (file : File) (q : List ℕ) (fs : List File) → one file.path q ≡ false → is_none (found text_cmp path_of q fs) ≡ true → is_none (found text_cmp path_of q (rewritten file fs)) ≡ true
none_rewritten file q fs differs none = ap is_none (found-rewritten file q fs ∙ ap (λ (b : Bool). cond b (Some file) (found text_cmp path_of q fs)) differs) ∙ none

other_way : (a b : List ℕ) (t : Bool) → t ≡ one a b → false ≡ one b a → one a b ≡ false
other_way a b false p e = sym p
other_way a b true p e =
    let same : a ≡ b = one_is a b (sym p) in
    sym (e ∙ ap (one b) same ∙ ap (λ (n : List ℕ). one n b) (sym same))

distinct_by : (file f : File) (fs : List File) (b : Bool) → b ≡ one f.path file.path → is_none (found text_cmp path_of f.path fs) ≡ true → are_distinct fs ≡ true → are_distinct (rewritten file fs) ≡ true → are_distinct (cond b (file ∷ fs) (f ∷ rewritten file fs)) ≡ true
distinct_by file f fs true e first rest more =
    let same : f.path ≡ file.path = one_is f.path file.path (sym e) in
    and_both _ _ (ap (λ (n : List ℕ). is_none (found text_cmp path_of n fs)) (sym same) ∙ first) rest
distinct_by file f fs false e first rest more =
    and_both _ _ (none_rewritten file f.path fs (other_way file.path f.path (one file.path f.path) refl e) first) more

pub are_distinct-rewritten : (file : File) (fs : List File) → are_distinct fs ≡ true → are_distinct (rewritten file fs) ≡ true
are_distinct-rewritten file [] h = refl
are_distinct-rewritten file (f ∷ fs) h =
    let first : is_none (found text_cmp path_of f.path fs) ≡ true = and_left (is_none (found text_cmp path_of f.path fs)) (are_distinct fs) h in
    let rest : are_distinct fs ≡ true = and_right (is_none (found text_cmp path_of f.path fs)) (are_distinct fs) h in
    distinct_by file f fs (one f.path file.path) refl first rest (are_distinct-rewritten file fs rest)

none_by : (path q : List ℕ) (f : File) (fs : List File) (b d : Bool) → b ≡ one f.path q → is_none (cond b (Some f) (found text_cmp path_of q fs)) ≡ true → (is_none (found text_cmp path_of q fs) ≡ true → is_none (found text_cmp path_of q (deleted path fs)) ≡ true) → is_none (found text_cmp path_of q (cond d fs (f ∷ deleted path fs))) ≡ true
none_by path q f fs true d e n more = cc
none_by path q f fs false true e n more = n
none_by path q f fs false false e n more = ap (λ (b : Bool). is_none (cond b (Some f) (found text_cmp path_of q (deleted path fs)))) (sym e) ∙ more n

none_deleted : (path q : List ℕ) (fs : List File) → is_none (found text_cmp path_of q fs) ≡ true → is_none (found text_cmp path_of q (deleted path fs)) ≡ true
none_deleted path q [] none = refl
none_deleted path q (f ∷ fs) none = none_by path q f fs (one f.path q) (one f.path path) refl none (none_deleted path q fs)

deleted_by : (path : List ℕ) (f : File) (fs : List File) (b : Bool) → is_none (found text_cmp path_of f.path fs) ≡ true → are_distinct fs ≡ true → are_distinct (deleted path fs) ≡ true → are_distinct (cond b fs (f ∷ deleted path fs)) ≡ true
deleted_by path f fs true first rest more = rest
deleted_by path f fs false first rest more = and_both _ _ (none_deleted path f.path fs first) more

pub are_distinct-deleted : (path : List ℕ) (fs : List File) → are_distinct fs ≡ true → are_distinct (deleted path fs) ≡ true
are_distinct-deleted path [] h = refl
are_distinct-deleted path (f ∷ fs) h =
    let first : is_none (found text_cmp path_of f.path fs) ≡ true = and_left (is_none (found text_cmp path_of f.path fs)) (are_distinct fs) h in
    let rest : are_distinct fs ≡ true = and_right (is_none (found text_cmp path_of f.path fs)) (are_distinct fs) h in
    deleted_by path f fs (one f.path path) first rest (are_distinct-deleted path fs rest)

bytes_by : (b : Bool) (f : File) (o : Option File) → option_map content_of (cond b (Some f) o) ≡ cond b (Some f.bytes) (option_map content_of o)
bytes_by true f o = refl
bytes_by false f o = refl

-- what is read after a file was rewritten
pub bytes_at-rewritten : (file : File) (q : List ℕ) (fs : List File) → bytes_at q (rewritten file fs) ≡ cond (is_eq (text_cmp file.path q)) (Some file.bytes) (bytes_at q fs)
bytes_at-rewritten file q fs = ap (option_map content_of) (found-rewritten file q fs) ∙ bytes_by (one file.path q) file (found text_cmp path_of q fs)

none_is : (o : Option File) → is_none o ≡ true → o ≡ None
none_is None e = refl
none_is (Some f) e = cc

none_both : (b : Bool) → found text_cmp path_of [] [] ≡ cond b None (found text_cmp path_of [] [])
none_both true = refl
none_both false = refl

gone_same : (path q : List ℕ) (f : File) (fs : List File) (b : Bool) → b ≡ one path q → f.path ≡ path → is_none (found text_cmp path_of f.path fs) ≡ true → found text_cmp path_of q fs ≡ cond b None (cond (one f.path q) (Some f) (found text_cmp path_of q fs))
gone_same path q f fs true e same first =
    let is : q ≡ f.path = sym (one_is path q (sym e)) ∙ sym same in
    ap (λ (x : List ℕ). found text_cmp path_of x fs) is ∙ none_is (found text_cmp path_of f.path fs) first
gone_same path q f fs false e same first =
    sym (ap (λ (b : Bool). cond b (Some f) (found text_cmp path_of q fs)) (ap (λ (x : List ℕ). one x q) same ∙ sym e))

gone_by : (path q : List ℕ) (f : File) (fs : List File) (b : Bool) → b ≡ one f.path path → is_none (found text_cmp path_of f.path fs) ≡ true → found text_cmp path_of q (deleted path fs) ≡ cond (one path q) None (found text_cmp path_of q fs) → found text_cmp path_of q (cond b fs (f ∷ deleted path fs)) ≡ cond (one path q) None (cond (one f.path q) (Some f) (found text_cmp path_of q fs))
gone_by path q f fs true e first more = gone_same path q f fs (one path q) refl (one_is f.path path (sym e)) first
gone_by path q f fs false e first more =
    ap (cond (one f.path q) (Some f)) more
    ∙ swap (one f.path q) (one path q) (Some f) None (found text_cmp path_of q fs) (λ p r. clash p r)
  where
    clash : one f.path q ≡ true → one path q ≡ true → true ≡ false
    clash p r =
        let second : path ≡ q = one_is path q r in
        sym p ∙ ap (one f.path) (sym second) ∙ sym e

found-deleted : (path q : List ℕ) (fs : List File) → are_distinct fs ≡ true → found text_cmp path_of q (deleted path fs) ≡ cond (one path q) None (found text_cmp path_of q fs)
found-deleted path q [] h = none_both (one path q)
found-deleted path q (f ∷ fs) h =
    let first : is_none (found text_cmp path_of f.path fs) ≡ true = and_left (is_none (found text_cmp path_of f.path fs)) (are_distinct fs) h in
    let rest : are_distinct fs ≡ true = and_right (is_none (found text_cmp path_of f.path fs)) (are_distinct fs) h in
    gone_by path q f fs (one f.path path) refl first (found-deleted path q fs rest)

gone_bytes : (b : Bool) (o : Option File) → option_map content_of (cond b None o) ≡ cond b None (option_map content_of o)
gone_bytes true o = refl
gone_bytes false o = refl

-- what is read after a file was deleted
pub bytes_at-deleted : (path q : List ℕ) (fs : List File) → are_distinct fs ≡ true → bytes_at q (deleted path fs) ≡ cond (is_eq (text_cmp path q)) None (bytes_at q fs)
bytes_at-deleted path q fs h = ap (option_map content_of) (found-deleted path q fs h) ∙ gone_bytes (one path q) (found text_cmp path_of q fs)

pub ruleset edited_laws = (bytes_at-rewritten, bytes_at-deleted)
