-- Lists that are looked up by a key, in the order R of the keys.
use Rattle.std.specs.Prelude.{Bool, true, ◌&&◌, ℕ, suc, List, [], ◌∷◌, if◌then◌else◌, Some, None}
use Rattle.std.specs.Option.{option_map}
use Rattle.std.specs.declared.option.Option.{Option}
use Rattle.std.specs.declared.cmp.Ordering.{Ordering}
use Rattle.std.specs.declared.cmp.Ordering.TheVariants.{Less, Equal, Greater}
use Rattle.std.specs.Ordering.{is_eq, is_lt}

-- the first item with this key
abbrev pub found : {A K : Type 0} → (K → K → Ordering) → (A → K) → K → List A → Option A
found R key k [] = None
found R key k (x ∷ xs) = if is_eq (R (key x) k) then Some x else found R key k xs

abbrev pub put_by : {A : Type 0} → Ordering → A → A → List A → List A → List A
put_by Less x y xs rest = x ∷ rest
put_by Equal x y xs rest = y ∷ xs
put_by Greater x y xs rest = y ∷ x ∷ xs

-- the list with this item at its place, instead of the one that had its key
abbrev pub placed : {A K : Type 0} → (K → K → Ordering) → (A → K) → A → List A → List A
placed R key y [] = y ∷ []
placed R key y (x ∷ xs) = put_by (R (key x) (key y)) x y xs (placed R key y xs)

-- the list without the item that has this key
abbrev pub without : {A K : Type 0} → (K → K → Ordering) → (A → K) → K → List A → List A
without R key k [] = []
without R key k (x ∷ xs) = if is_eq (R (key x) k) then xs else x ∷ without R key k xs

-- the list with this item instead of the one that has its key, if there is one
abbrev pub exchanged : {A K : Type 0} → (K → K → Ordering) → (A → K) → A → List A → List A
exchanged R key y [] = []
exchanged R key y (x ∷ xs) = if is_eq (R (key x) (key y)) then y ∷ xs else x ∷ exchanged R key y xs

-- a key is below that of the first item, if there is one
abbrev pub below_first : {A K : Type 0} → (K → K → Ordering) → (A → K) → K → List A → Bool
below_first R key k [] = true
below_first R key k (x ∷ xs) = is_lt (R k (key x))

-- each key is below the next
abbrev pub ascends : {A K : Type 0} → (K → K → Ordering) → (A → K) → List A → Bool
ascends R key [] = true
ascends R key (x ∷ xs) = below_first R key (key x) xs && ascends R key xs

-- how many items stand in front of the first whose key is not below this key
abbrev pub place_of : {A K : Type 0} → (K → K → Ordering) → (A → K) → K → List A → ℕ
place_of R key k [] = 0
place_of R key k (x ∷ xs) = if is_lt (R (key x) k) then suc (place_of R key k xs) else 0

-- how many items stand in front of the first with this key, if there is one
abbrev pub first_at : {A K : Type 0} → (K → K → Ordering) → (A → K) → K → List A → Option ℕ
first_at R key k [] = None
first_at R key k (x ∷ xs) = if is_eq (R (key x) k) then Some 0 else option_map suc (first_at R key k xs)
