-- Lists: what holds of each item, and tests of lists.
use Rattle.std.proofs.Common.{◌≡◌, ℕ, Bool, true, false, cond, ◌||◌, inl, inr, List, [], ◌∷◌, Some, None, refl, subst}
use Rattle.std.specs.List.{All, AllByRecursion, Contains, list_any, slice_get}
use Rattle.std.specs.Ordering.{is_eq}
use Rattle.std.specs.declared.cmp.Ordering.{Ordering}
use Rattle.std.proofs.lemmas.List.Elements.{All-nil, All-cons}
use Rattle.std.proofs.lemmas.Option.{get_or_from_slice_get, slice_get_within}
use Rattle.mesh_list.specs.Keyed.{found}
use Rattle.mesh_law_query.proofs.Has.{Has}
use Rattle.mesh_law_query.proofs.Lists.{Each}

pub of_all : {A : Type 0} (P : A → Type 0) (xs : List A) → AllByRecursion P xs → (x : A) → Has x xs → P x
of_all P [] h x k = absurd k
of_all P (y ∷ ys) h x (inl e) = subst P e h.0
of_all P (y ∷ ys) h x (inr k) = of_all P ys h.1 x k

pub all_of : {A : Type 0} (P : A → Type 0) (xs : List A) → ((x : A) → Has x xs → P x) → AllByRecursion P xs
all_of P [] f = tt
all_of P (x ∷ xs) f = (f x (inl refl), all_of P xs (λ y k. f y (inr k)))

pub all_each : {A : Type 0} (P : A → Type 0) (xs : List A) → Each P xs → All P xs
all_each P [] h = All-nil P
all_each P (x ∷ xs) h = All-cons P x xs h.0 (all_each P xs h.1)

-- where some item passes a test, one does
pub some_passes : {A : Type 0} (p : A → Bool) (xs : List A) → list_any p xs ≡ true → (x : A) × Has x xs × (p x ≡ true)
some_passes p [] h = absurd (let clash : false ≡ true = h in cc)
some_passes {A} p (y ∷ ys) h = go (p y) refl h (some_passes p ys)
  where
    go : (b : Bool) → p y ≡ b → (b || list_any p ys) ≡ true → (list_any p ys ≡ true → (x : A) × Has x ys × (p x ≡ true)) → (x : A) × Has x (y ∷ ys) × (p x ≡ true)
    go true e k more = (y, inl refl, e)
    go false e k more = let (x, there, passes) = more k in (x, inr there, passes)

-- what is found stands in the list
pub found_has : {A K : Type 0} (R : K → K → Ordering) (key : A → K) (k : K) (x : A) (xs : List A) → found R key k xs ≡ Some x → Has x xs
found_has R key k x [] e = absurd (let clash : None ≡ Some x = e in cc)
found_has R key k x (y ∷ ys) e = go (is_eq (R (key y) k)) e (found_has R key k x ys)
  where
    go : (b : Bool) → cond b (Some y) (found R key k ys) ≡ Some x → (found R key k ys ≡ Some x → Has x ys) → Has x (y ∷ ys)
    go true f more = inl (let same : y ≡ x = cc in same)
    go false f more = inr (more f)

-- so does what stands at a place
pub placed_in : {A : Type 0} (xs : List A) (i : ℕ) (x : A) → slice_get xs i ≡ Some x → Contains xs x
placed_in xs i x e = (i, slice_get_within xs i x e, get_or_from_slice_get xs i x x e)
