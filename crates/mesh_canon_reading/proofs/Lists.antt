-- Lists that were written are read again, where each of their members is.
use Rattle.std.proofs.Common.{◌≡◌, ℕ, zero, suc, ◌+◌, ◌<◌, ◌≤◌, Bool, true, List, [], ◌∷◌, ◌++◌, length, map, Option, Some, None, refl, sym, ap, subst, ◌∙◌, append_assoc, arith}
use Rattle.std.specs.Prelude.{codes}
use Rattle.std.specs.List.{flat_map, list_all}
use Rattle.std.proofs.lemmas.Bool.{and_parts}
use Rattle.std.proofs.lemmas.List.{length-append}
use Rattle.std.proofs.lemmas.List.Concat.{flat_map-cons}
use Rattle.mesh_canon_text.specs.Text.{list_of, members, spaced}
use Rattle.mesh_canon_words.specs.Words.{after}
use Rattle.mesh_canon_reading.specs.Reading.{list_at, members_at, more_at}

-- a member doesn't begin as a list ends, and is read again
pub record Member {A : Type 0} (read : List ℕ → Option (A × List ℕ)) (text : A → List ℕ) (x : A) : Type 0 where
  pub opens : (rest : List ℕ) → after (codes "]") (text x ++ rest) ≡ None
  pub again : (rest : List ℕ) → read (text x ++ rest) ≡ Some (x, rest)

abbrev pub Each : {A : Type 0} → (List ℕ → Option (A × List ℕ)) → (A → List ℕ) → List A → Type 0
Each read text [] = Unit {0}
Each read text (x ∷ xs) = Member read text x × Each read text xs

pub each_of : {A : Type 0} (read : List ℕ → Option (A × List ℕ)) (text : A → List ℕ) (fits : A → Bool) → ((x : A) → fits x ≡ true → Member read text x) → (xs : List A) → list_all fits xs ≡ true → Each read text xs
each_of read text fits f [] h = tt
each_of read text fits f (x ∷ xs) h = let p = and_parts (fits x) (list_all fits xs) h in (f x p.0, each_of read text fits f xs p.1)

spaced_more : {A : Type 0} (text : A → List ℕ) (x : A) (xs : List A) (rest : List ℕ) → spaced text (x ∷ xs) ++ rest ≡ 32 ∷ (text x ++ (spaced text xs ++ rest))
unfolding spaced
spaced_more text x xs rest =
    ap (λ ys. ys ++ rest) (flat_map-cons (λ y. codes " " ++ text y) x xs) ∙ ap (λ ys. 32 ∷ ys) (append_assoc (text x) (flat_map (λ y. codes " " ++ text y) xs) rest)

spaced_none : {A : Type 0} (text : A → List ℕ) → spaced text [] ≡ []
unfolding spaced
spaced_none text = refl

pub spaced_long : {A : Type 0} (text : A → List ℕ) (xs : List A) (rest : List ℕ) → length xs + length rest ≤ length (spaced text xs ++ rest)
spaced_long text [] rest = subst (λ ys. 0 + length rest ≤ length (ys ++ rest)) (sym (spaced_none text)) (omega arith)
spaced_long text (x ∷ xs) rest =
    let less = spaced_long text xs rest in
    let more = length-append (text x) (spaced text xs ++ rest) in
    subst (λ ys. suc (length xs) + length rest ≤ length ys) (sym (spaced_more text x xs rest)) (omega arith)

more_ends : {A : Type 0} (read : List ℕ → Option (A × List ℕ)) (n : ℕ) (rest : List ℕ) → more_at read (suc n) (93 ∷ rest) ≡ Some ([], rest)
unfolding more_at after
more_ends read n rest = refl

more_next : {A : Type 0} (read : List ℕ → Option (A × List ℕ)) (n : ℕ) (x : A) (xs : List A) (bytes left rest : List ℕ) → read bytes ≡ Some (x, left) → more_at read n left ≡ Some (xs, rest) → more_at read (suc n) (32 ∷ bytes) ≡ Some (x ∷ xs, rest)
unfolding more_at after
more_next read n x xs bytes left rest e f = rw (e, f) refl

more_again : {A : Type 0} (read : List ℕ → Option (A × List ℕ)) (text : A → List ℕ) (n : ℕ) (xs : List A) (rest : List ℕ) → Each read text xs → length xs < n → more_at read n (spaced text xs ++ (93 ∷ rest)) ≡ Some (xs, rest)
more_again read text zero xs rest each lt = absurd (omega arith)
more_again read text (suc n) [] rest each lt = ap (λ ys. more_at read (suc n) (ys ++ (93 ∷ rest))) (spaced_none text) ∙ more_ends read n rest
more_again read text (suc n) (x ∷ xs) rest each lt =
    ap (more_at read (suc n)) (spaced_more text x xs (93 ∷ rest))
    ∙ more_next read n x xs (text x ++ (spaced text xs ++ (93 ∷ rest))) (spaced text xs ++ (93 ∷ rest)) rest (each.0.again (spaced text xs ++ (93 ∷ rest))) (more_again read text n xs rest each.1 (omega arith))

members_from : {A : Type 0} (read : List ℕ → Option (A × List ℕ)) (x : A) (xs : List A) (bytes left rest : List ℕ) → read bytes ≡ Some (x, left) → more_at read (length left) left ≡ Some (xs, rest) → members_at read bytes ≡ Some (x ∷ xs, rest)
unfolding members_at
members_from read x xs bytes left rest e f = rw (e, f) refl

list_from : {A : Type 0} (read : List ℕ → Option (A × List ℕ)) (bytes : List ℕ) (found : Option (List A × List ℕ)) → after (codes "]") bytes ≡ None → members_at read bytes ≡ found → list_at read (91 ∷ bytes) ≡ found
unfolding list_at after
list_from read bytes found e f = rw e f

list_none : {A : Type 0} (read : List ℕ → Option (A × List ℕ)) (text : A → List ℕ) (rest : List ℕ) → list_at read (list_of text [] ++ rest) ≡ Some ([], rest)
unfolding list_at list_of members after
list_none read text rest = refl

list_begins : {A : Type 0} (text : A → List ℕ) (x : A) (xs : List A) (rest : List ℕ) → list_of text (x ∷ xs) ++ rest ≡ 91 ∷ (text x ++ (spaced text xs ++ (93 ∷ rest)))
unfolding list_of members
list_begins text x xs rest =
    ap (λ ys. 91 ∷ ys) (append_assoc (text x ++ spaced text xs) (93 ∷ []) rest ∙ append_assoc (text x) (spaced text xs) (93 ∷ rest))

pub list_again : {A : Type 0} (read : List ℕ → Option (A × List ℕ)) (text : A → List ℕ) (xs : List A) → Each read text xs → (rest : List ℕ) → list_at read (list_of text xs ++ rest) ≡ Some (xs, rest)
list_again read text [] each rest = list_none read text rest
list_again read text (x ∷ xs) each rest =
    let left : List ℕ = spaced text xs ++ (93 ∷ rest) in
    let long = spaced_long text xs (93 ∷ rest) in
    ap (list_at read) (list_begins text x xs rest)
    ∙ list_from read (text x ++ left) (Some (x ∷ xs, rest)) (each.0.opens left)
    (members_from read x xs (text x ++ left) left rest (each.0.again left) (more_again read text (length left) xs rest each.1 (omega arith)))

-- a list doesn't begin as another one ends
pub list_opens : {A : Type 0} (text : A → List ℕ) (xs : List A) (rest : List ℕ) → after (codes "]") (list_of text xs ++ rest) ≡ None
unfolding list_of after
list_opens text xs rest = refl

spaced_mapped : {A : Type 0} (text : A → List ℕ) (xs : List A) → spaced (λ t. t) (map text xs) ≡ spaced text xs
unfolding spaced
spaced_mapped text [] = refl
spaced_mapped text (x ∷ xs) =
    flat_map-cons (λ t. codes " " ++ t) (text x) (map text xs)
    ∙ ap (λ ys. (32 ∷ text x) ++ ys) (spaced_mapped text xs)
    ∙ sym (flat_map-cons (λ y. codes " " ++ text y) x xs)

-- a list of texts, as the parts of an expression come
pub list_mapped : {A : Type 0} (text : A → List ℕ) (xs : List A) → list_of (λ t. t) (map text xs) ≡ list_of text xs
unfolding list_of members
list_mapped text [] = refl
list_mapped text (x ∷ xs) = ap (λ ys. 91 ∷ ((text x ++ ys) ++ (93 ∷ []))) (spaced_mapped text xs)

-- how long members are with the first of them
pub spaced_one : {A : Type 0} (text : A → List ℕ) (x : A) (xs : List A) → length (spaced text (x ∷ xs)) ≡ 1 + length (text x) + length (spaced text xs)
unfolding spaced
spaced_one text x xs =
    ap length (flat_map-cons (λ y. codes " " ++ text y) x xs) ∙ omega (arith, length-append (text x) (flat_map (λ y. codes " " ++ text y) xs))

pub list_long : {A : Type 0} (text : A → List ℕ) (xs : List A) → length (spaced text xs) ≤ length (list_of text xs)
unfolding list_of members
list_long text [] = subst (λ ys. length ys ≤ 2) (sym (spaced_none text)) (omega arith)
list_long text (x ∷ xs) =
    omega (arith, spaced_one text x xs, length-append (text x ++ spaced text xs) (93 ∷ []), length-append (text x) (spaced text xs))
