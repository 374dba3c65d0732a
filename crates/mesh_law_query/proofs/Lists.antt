-- What holds of each element of a list.
use Rattle.std.proofs.Common.{List, [], ◌∷◌, ◌++◌, map}
use Rattle.std.specs.List.{All, flat_map}
use Rattle.std.proofs.lemmas.List.Elements.{All-head, All-tail}

abbrev pub Each : {X : Type 0} → (X → Type 0) → List X → Type 0
Each P [] = Unit {0}
Each P (x ∷ xs) = P x × Each P xs

pub each : {X : Type 0} (P : X → Type 0) (xs : List X) → All P xs → Each P xs
each P [] h = tt
each P (x ∷ xs) h = (All-head P x xs h, each P xs (All-tail P x xs h))

pub Each_left : {X : Type 0} (P : X → Type 0) (xs ys : List X) → Each P (xs ++ ys) → Each P xs
Each_left P [] ys h = tt
Each_left P (x ∷ xs) ys h = (h.0, Each_left P xs ys h.1)

pub Each_right : {X : Type 0} (P : X → Type 0) (xs ys : List X) → Each P (xs ++ ys) → Each P ys
Each_right P [] ys h = h
Each_right P (x ∷ xs) ys h = Each_right P xs ys h.1

pub Each_map : {X Y : Type 0} (P : Y → Type 0) (f : X → Y) (xs : List X) → Each P (map f xs) → Each (λ x. P (f x)) xs
Each_map P f [] h = tt
Each_map P f (x ∷ xs) h = (h.0, Each_map P f xs h.1)

pub Each_imp : {X : Type 0} (P Q : X → Type 0) → ((x : X) → P x → Q x) → (xs : List X) → Each P xs → Each Q xs
Each_imp P Q f [] h = tt
Each_imp P Q f (x ∷ xs) h = (f x h.0, Each_imp P Q f xs h.1)

pub Each_flat : {X Y : Type 0} (P : Y → Type 0) (f : X → List Y) (xs : List X) → Each P (flat_map f xs) → Each (λ x. Each P (f x)) xs
Each_flat P f [] h = tt
Each_flat P f (x ∷ xs) h = (Each_left P (f x) (flat_map f xs) h, Each_flat P f xs (Each_right P (f x) (flat_map f xs) h))
