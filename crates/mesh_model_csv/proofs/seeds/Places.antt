-- What stands at a place of a list, and what stands behind it.
use Rattle.std.proofs.Common.{◌≡◌, ℕ, zero, suc, ◌+◌, ◌≤◌, List, [], ◌∷◌, drop, length, slice_get, slice_index_or, Some, None, refl, add-one, arith}
use Rattle.csv.specs.Records.{field_at}

next : {A : Type 0} (xs : List A) (i : ℕ) (x : A) → slice_get xs i ≡ Some x → drop i xs ≡ x ∷ drop (suc i) xs
next [] i x e = cc e
next (y ∷ ys) zero x e = let same : y ≡ x = cc in rw same refl
next (y ∷ ys) (suc i) x e = next ys i x e

pub here : {A : Type 0} (xs : List A) (i : ℕ) (x : A) → slice_get xs i ≡ Some x → drop i xs ≡ x ∷ drop (i + 1) xs
here xs i x e = rw add-one (next xs i x e)

pub past : {A : Type 0} (xs : List A) (i : ℕ) → slice_get xs i ≡ None → drop i xs ≡ []
past [] zero e = refl
past [] (suc i) e = refl
past (x ∷ xs) zero e = cc e
past (x ∷ xs) (suc i) e = past xs i e

-- behind the last element there is none
pub behind_all : {A : Type 0} (xs : List A) (i : ℕ) → length xs ≤ i → drop i xs ≡ []
behind_all [] zero le = refl
behind_all [] (suc i) le = refl
behind_all (x ∷ xs) zero le = absurd (omega arith)
behind_all (x ∷ xs) (suc i) le = behind_all xs i (omega arith)

-- the field of a record, as `csv` looks it up
pub same_place : (fields : List (List ℕ)) (i : ℕ) → field_at fields i ≡ slice_get fields i
unfolding field_at
same_place [] zero = refl
same_place [] (suc i) = refl
same_place (f ∷ fs) zero = refl
same_place (f ∷ fs) (suc i) = same_place fs i

pub none_there : {A : Type 0} (xs : List A) (i : ℕ) (d : A) → slice_get xs i ≡ None → slice_index_or xs i d ≡ d
none_there [] zero d e = refl
none_there [] (suc i) d e = refl
none_there (x ∷ xs) zero d e = cc e
none_there (x ∷ xs) (suc i) d e = none_there xs i d e
