-- Two lists whose elements are related one by one.
use Rattle.std.proofs.Common.{◌≡◌, Bool, true, false, cond, List, [], ◌∷◌, ◌++◌, map, refl}
use Rattle.std.specs.List.{AllZip, filter, flat_map}

pub zip_append : {A B : Type 0} (R : A → B → Type 0) (xs : List A) (ys : List B) (us : List A) (vs : List B) → AllZip R xs ys → AllZip R us vs → AllZip R (xs ++ us) (ys ++ vs)
zip_append R [] [] us vs h k = k
zip_append R [] (y ∷ ys) us vs h k = absurd h
zip_append R (x ∷ xs) [] us vs h k = absurd h
zip_append R (x ∷ xs) (y ∷ ys) us vs h k = (h.0, zip_append R xs ys us vs h.1 k)

-- lists mapped into related lists
pub zip_map : {A B X Y : Type 0} (R : A → B → Type 0) (S : X → Y → Type 0) (f : A → X) (g : B → Y) → ((a : A) (b : B) → R a b → S (f a) (g b)) → (xs : List A) (ys : List B) → AllZip R xs ys → AllZip S (map f xs) (map g ys)
zip_map R S f g h [] [] k = tt
zip_map R S f g h [] (y ∷ ys) k = absurd k
zip_map R S f g h (x ∷ xs) [] k = absurd k
zip_map R S f g h (x ∷ xs) (y ∷ ys) k = (h x y k.0, zip_map R S f g h xs ys k.1)

pub zip_flat : {A B X Y : Type 0} (R : A → B → Type 0) (S : X → Y → Type 0) (f : A → List X) (g : B → List Y) → ((a : A) (b : B) → R a b → AllZip S (f a) (g b)) → (xs : List A) (ys : List B) → AllZip R xs ys → AllZip S (flat_map f xs) (flat_map g ys)
zip_flat R S f g h [] [] k = tt
zip_flat R S f g h [] (y ∷ ys) k = absurd k
zip_flat R S f g h (x ∷ xs) [] k = absurd k
zip_flat R S f g h (x ∷ xs) (y ∷ ys) k = zip_append S (f x) (g y) (flat_map f xs) (flat_map g ys) (h x y k.0) (zip_flat R S f g h xs ys k.1)

pub zip_filter : {A B : Type 0} (R : A → B → Type 0) (p : A → Bool) (q : B → Bool) → ((a : A) (b : B) → R a b → p a ≡ q b) → (xs : List A) (ys : List B) → AllZip R xs ys → AllZip R (filter p xs) (filter q ys)
zip_filter R p q h [] [] k = tt
zip_filter R p q h [] (y ∷ ys) k = absurd k
zip_filter R p q h (x ∷ xs) [] k = absurd k
zip_filter R p q h (x ∷ xs) (y ∷ ys) k = go (p x) (q y) (h x y k.0) (zip_filter R p q h xs ys k.1)
  where
    go : (a b : Bool) → a ≡ b → AllZip R (filter p xs) (filter q ys) → AllZip R (cond a (x ∷ filter p xs) (filter p xs)) (cond b (y ∷ filter q ys) (filter q ys))
    go true true e r = (k.0, r)
    go false false e r = r
    go true false e r = absurd (cc)
    go false true e r = absurd (cc)

-- what is the same of related elements is the same list
pub zip_same : {A B X : Type 0} (R : A → B → Type 0) (f : A → X) (g : B → X) → ((a : A) (b : B) → R a b → f a ≡ g b) → (xs : List A) (ys : List B) → AllZip R xs ys → map f xs ≡ map g ys
zip_same R f g h [] [] k = refl
zip_same R f g h [] (y ∷ ys) k = absurd k
zip_same R f g h (x ∷ xs) [] k = absurd k
zip_same R f g h (x ∷ xs) (y ∷ ys) k = λ i. h x y k.0 i ∷ zip_same R f g h xs ys k.1 i

-- and the other way round
pub zip_of_map : {A B X : Type 0} (f : A → X) (g : B → X) (xs : List A) (ys : List B) → map f xs ≡ map g ys → AllZip (λ a b. f a ≡ g b) xs ys
zip_of_map f g [] [] e = tt
zip_of_map f g [] (y ∷ ys) e = absurd (cc)
zip_of_map f g (x ∷ xs) [] e = absurd (cc)
zip_of_map f g (x ∷ xs) (y ∷ ys) e = let h : f x ≡ g y = cc in let t : map f xs ≡ map g ys = cc in (h, zip_of_map f g xs ys t)

pub zip_imp : {A B : Type 0} (R S : A → B → Type 0) → ((a : A) (b : B) → R a b → S a b) → (xs : List A) (ys : List B) → AllZip R xs ys → AllZip S xs ys
zip_imp R S h [] [] k = tt
zip_imp R S h [] (y ∷ ys) k = absurd k
zip_imp R S h (x ∷ xs) [] k = absurd k
zip_imp R S h (x ∷ xs) (y ∷ ys) k = (h x y k.0, zip_imp R S h xs ys k.1)

pub zip_itself : {A : Type 0} (R : A → A → Type 0) → ((a : A) → R a a) → (xs : List A) → AllZip R xs xs
zip_itself R h [] = tt
zip_itself R h (x ∷ xs) = (h x, zip_itself R h xs)
