-- Lists that are read part by part.
use Rattle.std.proofs.Common.{◌≡◌, ℕ, zero, suc, ◌+◌, ◌-◌, ◌<◌, ◌≤◌, Bool, true, List, [], ◌∷◌, ◌++◌, length, take, drop, map, get_or, append_assoc, refl, sym, ap, ◌∙◌, arith}
use Rattle.std.specs.Prelude.{◌&&◌}
use Rattle.std.specs.List.{list_all}
use Rattle.std.proofs.lemmas.Bool.{and_parts}
use Rattle.std.proofs.lemmas.List.{map-append, map_more, take_all, take_more}
use Rattle.std.proofs.lemmas.List.Folds.{list_all_more}

-- the value whose text stands at a place
pub each_at : {A : Type 0} (text : A → List ℕ) (fits : A → Bool) (xs : List A) (i : ℕ) (t : List ℕ) → list_all fits xs ≡ true → i < length (map text xs) → t ≡ get_or (map text xs) i t → (x : A) × (fits x ≡ true) × (t ≡ text x) × (take (suc i) xs ≡ take i xs ++ x ∷ [])
each_at text fits [] i t fit lt here = absurd (omega arith)
each_at text fits (x ∷ xs) zero t fit lt here = (x, (and_parts (fits x) (list_all fits xs) fit).0, here, refl)
each_at text fits (x ∷ xs) (suc i) t fit lt here =
    let r = each_at text fits xs i t (and_parts (fits x) (list_all fits xs) fit).1 (omega arith) here in
    (r.0, r.1, r.2, ap (λ l. x ∷ l) r.3)

-- the texts so far with one more
pub read_more : {A : Type 0} (text : A → List ℕ) (made : List A) (value : A) (ts : List (List ℕ)) (i : ℕ) (t : List ℕ) → i < length ts → t ≡ get_or ts i t → take i ts ≡ map text made → t ≡ text value → take (i + 1) ts ≡ map text (made ++ value ∷ [])
read_more text made value ts i t lt here before same =
    take_more ts i t lt
    ∙ ap (λ u. take i ts ++ u ∷ []) (sym here ∙ same)
    ∙ ap (λ us. us ++ text value ∷ []) before
    ∙ sym (map-append text made (value ∷ []))

-- the first text, and those behind it
pub first_is : (ts : List (List ℕ)) (t x : List ℕ) (xs : List (List ℕ)) → t ≡ get_or ts 0 t → ts ≡ x ∷ xs → t ≡ x
first_is ts t x xs here is = here ∙ ap (λ l. get_or l 0 t) is

pub rest_is : (ts : List (List ℕ)) (x : List ℕ) (xs : List (List ℕ)) → ts ≡ x ∷ xs → take (length ts - 1) (drop 1 ts) ≡ xs
rest_is ts x xs is = ap (λ l. take (length l - 1) (drop 1 l)) is ∙ take_all (length (x ∷ xs) - 1) xs (omega arith)

pub both_are : (ts : List (List ℕ)) (t : List ℕ) → 1 ≤ length ts → t ≡ get_or ts 0 t → ts ≡ t ∷ take (length ts - 1) (drop 1 ts)
both_are [] t any here = absurd (omega arith)
both_are (y ∷ ys) t any here = λ i. sym here i ∷ sym (take_all (length (y ∷ ys) - 1) ys (omega arith)) i

-- the texts behind others with one more
pub put_more : {A : Type 0} (text : A → List ℕ) (out : List (List ℕ)) (xs : List A) (i : ℕ) (x : A) → i < length xs → x ≡ get_or xs i x → (out ++ map text (take i xs)) ++ text x ∷ [] ≡ out ++ map text (take (i + 1) xs)
put_more text out xs i x lt here =
    append_assoc out (map text (take i xs)) (text x ∷ [])
    ∙ ap (λ l. out ++ l) ((λ k. map text (take i xs) ++ text (here k) ∷ []) ∙ sym (map_more text xs i x lt))

-- all so far with one more
pub all_more : {A : Type 0} (fits : A → Bool) (xs : List A) (i : ℕ) (x : A) → i < length xs → x ≡ get_or xs i x → list_all fits (take i xs) ≡ true → fits x ≡ true → list_all fits (take (i + 1) xs) ≡ true
all_more fits xs i x lt here before fit = list_all_more fits xs i x lt ∙ ap (λ b. b && fits (get_or xs i x)) before ∙ sym (ap fits here) ∙ fit

-- the values so far with one more
pub only_more : {A : Type 0} (made : List A) (value x : A) (xs : List A) (i : ℕ) → made ≡ take i xs → x ≡ value → take (suc i) xs ≡ take i xs ++ x ∷ [] → made ++ value ∷ [] ≡ take (i + 1) xs
only_more made value x xs i before same step =
    let n : suc i ≡ i + 1 = omega arith in
    ap (λ l. l ++ value ∷ []) before ∙ ap (λ y. take i xs ++ y ∷ []) (sym same) ∙ sym step ∙ ap (λ k. take k xs) n
