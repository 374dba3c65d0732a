-- What stands in a list.
use Rattle.std.proofs.Common.{◌≡◌, zero, suc, Bool, true, false, cond, ◌⊎◌, inl, inr, List, [], ◌∷◌, ◌++◌, map, refl, ap, sym, ◌∙◌, subst, arith}
use Rattle.std.specs.List.{Contains, filter, flat_map}
use Rattle.std.specs.Option.{option_to_list}
use Rattle.std.specs.declared.option.Option.{Option}
use Rattle.std.specs.declared.option.Option.TheVariants.{None, Some}

abbrev pub Has : {X : Type 0} → X → List X → Type 0
Has x [] = ⊥
Has x (y ∷ ys) = (y ≡ x) ⊎ Has x ys

pub Has_from : {X : Type 0} (xs : List X) (x : X) → Contains xs x → Has x xs
Has_from [] x (k, l, e) = absurd (omega arith)
Has_from (y ∷ ys) x (zero, l, e) = inl e
Has_from (y ∷ ys) x (suc k, l, e) = inr (Has_from ys x (k, omega arith, e))

pub Has_to : {X : Type 0} (xs : List X) (x : X) → Has x xs → Contains xs x
Has_to [] x h = absurd h
Has_to (y ∷ ys) x (inl e) = (0, omega arith, e)
Has_to (y ∷ ys) x (inr h) = let (k, l, e) = Has_to ys x h in (suc k, omega arith, e)

pub Has_left : {X : Type 0} (x : X) (xs ys : List X) → Has x xs → Has x (xs ++ ys)
Has_left x [] ys h = absurd h
Has_left x (z ∷ xs) ys (inl e) = inl e
Has_left x (z ∷ xs) ys (inr h) = inr (Has_left x xs ys h)

pub Has_right : {X : Type 0} (x : X) (xs ys : List X) → Has x ys → Has x (xs ++ ys)
Has_right x [] ys h = h
Has_right x (z ∷ xs) ys h = inr (Has_right x xs ys h)

pub Has_cases : {X : Type 0} (x : X) (xs ys : List X) → Has x (xs ++ ys) → Has x xs ⊎ Has x ys
Has_cases x [] ys h = inr h
Has_cases x (z ∷ xs) ys (inl e) = inl (inl e)
Has_cases {X} x (z ∷ xs) ys (inr h) = go (Has_cases x xs ys h)
  where
    go : Has x xs ⊎ Has x ys → Has x (z ∷ xs) ⊎ Has x ys
    go (inl k) = inl (inr k)
    go (inr k) = inr k

pub Has_flat : {X Y : Type 0} (f : X → List Y) (xs : List X) (x : X) (y : Y) → Has x xs → Has y (f x) → Has y (flat_map f xs)
Has_flat f [] x y h k = absurd h
Has_flat f (z ∷ xs) x y (inl e) k = Has_left y (f z) (flat_map f xs) (subst (λ t. Has y (f t)) (sym e) k)
Has_flat f (z ∷ xs) x y (inr h) k = Has_right y (f z) (flat_map f xs) (Has_flat f xs x y h k)

pub Has_flat_from : {X Y : Type 0} (f : X → List Y) (xs : List X) (y : Y) → Has y (flat_map f xs) → (x : X) × Has x xs × Has y (f x)
Has_flat_from f [] y h = absurd h
Has_flat_from {X} f (z ∷ xs) y h = go (Has_cases y (f z) (flat_map f xs) h) (Has_flat_from f xs y)
  where
    go : Has y (f z) ⊎ Has y (flat_map f xs) → (Has y (flat_map f xs) → (x : X) × Has x xs × Has y (f x)) → (x : X) × Has x (z ∷ xs) × Has y (f x)
    go (inl k) rest = (z, inl refl, k)
    go (inr k) rest = let (x, i, l) = rest k in (x, inr i, l)

pub Has_map : {X Y : Type 0} (f : X → Y) (xs : List X) (x : X) (y : Y) → Has x xs → f x ≡ y → Has y (map f xs)
Has_map f [] x y h e = absurd h
Has_map f (z ∷ xs) x y (inl i) e = inl (ap f i ∙ e)
Has_map f (z ∷ xs) x y (inr h) e = inr (Has_map f xs x y h e)

pub Has_map_from : {X Y : Type 0} (f : X → Y) (xs : List X) (y : Y) → Has y (map f xs) → (x : X) × Has x xs × (f x ≡ y)
Has_map_from f [] y h = absurd h
Has_map_from f (z ∷ xs) y (inl e) = (z, inl refl, e)
Has_map_from f (z ∷ xs) y (inr h) = let (x, i, e) = Has_map_from f xs y h in (x, inr i, e)

pub Has_filter : {X : Type 0} (p : X → Bool) (xs : List X) (x : X) → Has x xs → p x ≡ true → Has x (filter p xs)
Has_filter p [] x h t = absurd h
Has_filter p (z ∷ xs) x (inl e) t = let kept : p z ≡ true = ap p e ∙ t in rw kept (inl e)
Has_filter p (z ∷ xs) x (inr h) t = go (p z) (Has_filter p xs x h t)
  where
    go : (b : Bool) → Has x (filter p xs) → Has x (cond b (z ∷ filter p xs) (filter p xs))
    go true k = inr k
    go false k = k

pub Has_filter_from : {X : Type 0} (p : X → Bool) (xs : List X) (x : X) → Has x (filter p xs) → Has x xs × (p x ≡ true)
Has_filter_from p [] x h = absurd h
Has_filter_from p (z ∷ xs) x h = go (p z) refl h (Has_filter_from p xs x)
  where
    go : (b : Bool) → p z ≡ b → Has x (cond b (z ∷ filter p xs) (filter p xs)) → (Has x (filter p xs) → Has x xs × (p x ≡ true)) → Has x (z ∷ xs) × (p x ≡ true)
    go true t (inl e) rest = (inl e, ap p (sym e) ∙ t)
    go true t (inr k) rest = (inr (rest k).0, (rest k).1)
    go false t k rest = (inr (rest k).0, (rest k).1)

pub Has_some : {X : Type 0} (o : Option X) (x : X) → o ≡ Some x → Has x (option_to_list o)
Has_some None x e = absurd (cc)
Has_some (Some y) x e = inl (let same : y ≡ x = cc in same)

pub Has_some_from : {X : Type 0} (o : Option X) (x : X) → Has x (option_to_list o) → o ≡ Some x
Has_some_from None x h = absurd h
Has_some_from (Some y) x (inl e) = ap Some e
Has_some_from (Some y) x (inr h) = absurd h
