-- What holds of each member of a list that is made of others.
use Rattle.std.proofs.Common.{◌≡◌, ℕ, zero, suc, Bool, true, false, cond, List, [], ◌∷◌, ◌++◌, map, length, slice_index_or, refl}
use Rattle.std.specs.List.{AllByRecursion as Each, AllZip, filter, flat_map, fold, list_all, list_any}
use Rattle.std.proofs.lemmas.Bool.{and_from}
use Rattle.mesh_spec_query.specs.Aggregates.{distinct}

pub each_map : {X Y : Type 0} (P : X → Type 0) (R : Y → Type 0) (f : X → Y) → ((x : X) → P x → R (f x)) → (xs : List X) → Each P xs → Each R (map f xs)
each_map P R f h [] all = tt
each_map P R f h (x ∷ xs) all = (h x all.0, each_map P R f h xs all.1)

pub each_weaker : {X : Type 0} (P R : X → Type 0) → ((x : X) → P x → R x) → (xs : List X) → Each P xs → Each R xs
each_weaker P R h [] all = tt
each_weaker P R h (x ∷ xs) all = (h x all.0, each_weaker P R h xs all.1)

pub each_append : {X : Type 0} (P : X → Type 0) (xs ys : List X) → Each P xs → Each P ys → Each P (xs ++ ys)
each_append P [] ys all more = more
each_append P (x ∷ xs) ys all more = (all.0, each_append P xs ys all.1 more)

pub each_filter : {X : Type 0} (P : X → Type 0) (p : X → Bool) (xs : List X) → Each P xs → Each P (filter p xs)
each_filter {X} P p [] all = tt
each_filter {X} P p (x ∷ xs) all = go (p x) (filter p xs) all.0 (each_filter P p xs all.1)
  where
    go : (b : Bool) (rest : List X) → P x → Each P rest → Each P (cond b (x ∷ rest) rest)
    go true rest h r = (h, r)
    go false rest h r = r

pub each_flat_map : {X Y : Type 0} (P : X → Type 0) (R : Y → Type 0) (f : X → List Y) → ((x : X) → P x → Each R (f x)) → (xs : List X) → Each P xs → Each R (flat_map f xs)
each_flat_map P R f h [] all = tt
each_flat_map P R f h (x ∷ xs) all = each_append R (f x) (flat_map f xs) (h x all.0) (each_flat_map P R f h xs all.1)

each_of_distinct : {X : Type 0} (P : X → Type 0) (same : X → X → Bool) (seen xs : List X) → Each P seen → Each P xs
    → Each P (fold (λ seen x. cond (list_any (same x) seen) seen (seen ++ x ∷ [])) seen xs)
each_of_distinct P same seen [] s all = s
each_of_distinct P same seen (x ∷ xs) s all =
    each_of_distinct P same (cond (list_any (same x) seen) seen (seen ++ x ∷ [])) xs (go (list_any (same x) seen)) all.1
  where
    go : (b : Bool) → Each P (cond b seen (seen ++ x ∷ []))
    go true = s
    go false = each_append P seen (x ∷ []) s (all.0, tt)

pub each_distinct : {X : Type 0} (P : X → Type 0) (same : X → X → Bool) (xs : List X) → Each P xs → Each P (distinct same xs)
each_distinct P same xs all = each_of_distinct P same [] xs tt all

pub zip_push : {X Y : Type 0} (R : X → Y → Type 0) (xs : List X) (ys : List Y) (x : X) (y : Y) → AllZip R xs ys → R x y → AllZip R (xs ++ x ∷ []) (ys ++ y ∷ [])
zip_push R [] [] x y all r = (r, tt)
zip_push R [] (b ∷ ys) x y all r = absurd all
zip_push R (a ∷ xs) [] x y all r = absurd all
zip_push R (a ∷ xs) (b ∷ ys) x y all r = (all.0, zip_push R xs ys x y all.1 r)

-- what holds at each place, and where nothing stands, holds with one more member
pub at_push : {X : Type 0} (P : ℕ → X → Type 0) (none : X) → ((i : ℕ) → P i none) → (xs : List X) (x : X) → ((i : ℕ) → P i (slice_index_or xs i none)) → P (length xs) x
    → (i : ℕ) → P i (slice_index_or (xs ++ x ∷ []) i none)
at_push P none past [] x h p zero = p
at_push P none past [] x h p (suc i) = past (suc i)
at_push P none past (y ∷ xs) x h p zero = h zero
at_push P none past (y ∷ xs) x h p (suc i) = at_push (λ i. P (suc i)) none (λ i. past (suc i)) xs x (λ i. h (suc i)) p i

pub index_map : {X Y : Type 0} (f : X → Y) (xs : List X) (i : ℕ) (none : X) → slice_index_or (map f xs) i (f none) ≡ f (slice_index_or xs i none)
index_map f [] i none = refl
index_map f (x ∷ xs) zero none = refl
index_map f (x ∷ xs) (suc i) none = index_map f xs i none

-- a test that each member passes
pub all_true : {X : Type 0} (P : X → Type 0) (p : X → Bool) → ((x : X) → P x → p x ≡ true) → (xs : List X) → Each P xs → list_all p xs ≡ true
all_true P p h [] all = refl
all_true P p h (x ∷ xs) all = and_from (p x) (list_all p xs) (h x all.0) (all_true P p h xs all.1)

pub each_before : {X : Type 0} (P : X → Type 0) (xs ys : List X) → Each P (xs ++ ys) → Each P xs
each_before P [] ys all = tt
each_before P (x ∷ xs) ys all = (all.0, each_before P xs ys all.1)
