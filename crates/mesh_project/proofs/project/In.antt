-- What is in a list.
use Rattle.std.proofs.Common.{◌≡◌, ◌⊎◌, inl, inr, ℕ, zero, suc, ◌+◌, ◌<◌, ◌≤◌, Bool, true, false, cond, List, [], ◌∷◌, ◌++◌, map, length, get_or, Some, refl, sym, ap, ◌∙◌, subst, arith}
use Rattle.std.specs.List.{AllByRecursion, AllZip, Contains, filter, range_with_len, slice_get}
use Rattle.std.proofs.Math.Dec.{leb}
use Rattle.std.proofs.lemmas.Bool.Decides.{leb_tells}
use Rattle.std.specs.Ordering.{is_eq}
use Rattle.std.specs.declared.cmp.Ordering.{Ordering}
use Rattle.std.specs.declared.cmp.Ordering.TheVariants.{Less}
use Rattle.std.specs.Cmp.{IsTotalOrder}
use Rattle.mesh_list.specs.Keyed.{ascends, below_first, found}
use Rattle.mesh_list.proofs.Ascends.{and_left, and_right}
use Rattle.mesh_list.proofs.Each.{below_later, lt_is}

abbrev pub In : {X : Type 0} → X → List X → Type 0
In x [] = ⊥
In x (y ∷ ys) = (y ≡ x) ⊎ In x ys

pub of_all : {X : Type 0} (P : X → Type 0) (xs : List X) (x : X) → AllByRecursion P xs → In x xs → P x
of_all P [] x all is = absurd is
of_all P (y ∷ ys) x all (inl e) = subst P e all.0
of_all P (y ∷ ys) x all (inr is) = of_all P ys x all.1 is

pub all_of : {X : Type 0} (P : X → Type 0) (xs : List X) → ((x : X) → In x xs → P x) → AllByRecursion P xs
all_of P [] h = tt
all_of P (x ∷ xs) h = (h x (inl refl), all_of P xs (λ y is. h y (inr is)))

pub in_right : {X : Type 0} (xs ys : List X) (x : X) → In x ys → In x (xs ++ ys)
in_right [] ys x is = is
in_right (y ∷ xs) ys x is = inr (in_right xs ys x is)

pub in_left : {X : Type 0} (xs ys : List X) (x : X) → In x xs → In x (xs ++ ys)
in_left [] ys x is = absurd is
in_left (y ∷ xs) ys x (inl e) = inl e
in_left (y ∷ xs) ys x (inr is) = inr (in_left xs ys x is)

pub in_either : {X : Type 0} (xs ys : List X) (x : X) → In x (xs ++ ys) → In x xs ⊎ In x ys
in_either [] ys x is = inr is
in_either (y ∷ xs) ys x (inl e) = inl (inl e)
in_either {X} (y ∷ xs) ys x (inr is) = more (in_either xs ys x is)
  where
    more : In x xs ⊎ In x ys → In x (y ∷ xs) ⊎ In x ys
    more (inl h) = inl (inr h)
    more (inr h) = inr h

pub in_map : {X Y : Type 0} (f : X → Y) (xs : List X) (x : X) → In x xs → In (f x) (map f xs)
in_map f [] x is = absurd is
in_map f (y ∷ ys) x (inl e) = inl (ap f e)
in_map f (y ∷ ys) x (inr is) = inr (in_map f ys x is)

pub of_map : {X Y : Type 0} (f : X → Y) (xs : List X) (y : Y) → In y (map f xs) → (x : X) × In x xs × (f x ≡ y)
of_map f [] y is = absurd is
of_map f (x ∷ xs) y (inl e) = (x, inl refl, e)
of_map f (x ∷ xs) y (inr is) = let rest = of_map f xs y is in (rest.0, inr rest.1, rest.2)

pub in_at : {X : Type 0} (xs : List X) (k : ℕ) (d : X) → k < length xs → In (get_or xs k d) xs
in_at [] k d lt = absurd (omega arith)
in_at (x ∷ xs) zero d lt = inl refl
in_at (x ∷ xs) (suc k) d lt = inr (in_at xs k d (omega arith))

pub in_contained : {X : Type 0} (xs : List X) (x : X) → Contains xs x → In x xs
in_contained xs x c = subst (λ y. In y xs) c.2 (in_at xs c.0 x c.1)

pub in_got : {X : Type 0} (xs : List X) (k : ℕ) (x : X) → slice_get xs k ≡ Some x → In x xs
in_got [] k x e = absurd (cc)
in_got (y ∷ ys) zero x e = let same : y ≡ x = cc in inl same
in_got (y ∷ ys) (suc k) x e = inr (in_got ys k x e)

pub in_filter : {X : Type 0} (p : X → Bool) (xs : List X) (x : X) → In x xs → p x ≡ true → In x (filter p xs)
in_filter p [] x is e = absurd is
in_filter {X} p (y ∷ ys) x (inl same) e = subst (λ (b : Bool). In x (cond b (y ∷ filter p ys) (filter p ys))) (sym (ap p same ∙ e)) (inl same)
in_filter {X} p (y ∷ ys) x (inr is) e = by_test (p y) (in_filter p ys x is e)
  where
    by_test : (b : Bool) → In x (filter p ys) → In x (cond b (y ∷ filter p ys) (filter p ys))
    by_test true h = inr h
    by_test false h = h

pub of_filter : {X : Type 0} (p : X → Bool) (xs : List X) (x : X) → In x (filter p xs) → In x xs × (p x ≡ true)
of_filter p [] x is = absurd is
of_filter {X} p (y ∷ ys) x is = by_test (p y) refl is (λ h. of_filter p ys x h)
  where
    deeper : In x ys × (p x ≡ true) → In x (y ∷ ys) × (p x ≡ true)
    deeper h = (inr h.0, h.1)

    here : p y ≡ true → In x (y ∷ filter p ys) → (In x (filter p ys) → In x ys × (p x ≡ true)) → In x (y ∷ ys) × (p x ≡ true)
    here e (inl same) more = (inl same, ap p (sym same) ∙ e)
    here e (inr h) more = deeper (more h)

    by_test : (b : Bool) → p y ≡ b → In x (cond b (y ∷ filter p ys) (filter p ys)) → (In x (filter p ys) → In x ys × (p x ≡ true)) → In x (y ∷ ys) × (p x ≡ true)
    by_test true e h more = here e h more
    by_test false e h more = deeper (more h)

pub in_range : (n a j : ℕ) → a ≤ j → j < a + n → In j (range_with_len a n)
in_range zero a j low high = absurd (omega arith)
in_range (suc n) a j low high = first (leb_tells (a + 1) j) (λ less. in_range n (a + 1) j less (omega arith))
  where
    first : ((leb (a + 1) j ≡ true) × (a + 1 ≤ j)) ⊎ ((leb (a + 1) j ≡ false) × (j < a + 1)) → (a + 1 ≤ j → In j (range_with_len (a + 1) n)) → In j (range_with_len a (suc n))
    first (inl h) more = inr (more h.1)
    first (inr h) more = let less : j < a + 1 = h.1 in let same : a ≡ j = omega (arith, less, low) in inl same

pub below_range : (n a j : ℕ) → In j (range_with_len a n) → j < a + n
below_range zero a j is = absurd is
below_range (suc n) a j (inl e) = omega (arith, e)
below_range (suc n) a j (inr is) = let h = below_range n (a + 1) j is in omega (arith, h)

pub in_found : {A K : Type 0} (R : K → K → Ordering) (key : A → K) (k : K) (xs : List A) (x : A) → found R key k xs ≡ Some x → In x xs
in_found R key k [] x e = absurd (cc)
in_found {A} {K} R key k (y ∷ ys) x e = by_first (is_eq (R (key y) k)) e (λ h. in_found R key k ys x h)
  where
    by_first : (b : Bool) → cond b (Some y) (found R key k ys) ≡ Some x → (found R key k ys ≡ Some x → In x ys) → In x (y ∷ ys)
    by_first true h more = let same : y ≡ x = cc in inl same
    by_first false h more = inr (more h)

-- what stands behind in a list that ascends is above
pub all_below : {A K : Type 0} (R : K → K → Ordering) (total : IsTotalOrder R) (key : A → K) (k : K) (xs : List A) (y : A)
    → below_first R key k xs ≡ true → ascends R key xs ≡ true → In y xs → R k (key y) ≡ Less
all_below R total key k [] y below up is = absurd is
all_below R total key k (x ∷ xs) y below up (inl e) = ap (λ z. R k (key z)) (sym e) ∙ lt_is _ below
all_below R total key k (x ∷ xs) y below up (inr is) = all_below R total key k xs y (below_later R total key k x xs (lt_is _ below) (and_left _ _ up)) (and_right _ _ up) is

-- two lists whose members fit one by one
pub fits_right : {X Y : Type 0} (F : X → Y → Type 0) (xs : List X) (ys : List Y) (x : X) → AllZip F xs ys → In x xs → (y : Y) × In y ys × F x y
fits_right F [] ys x fit is = absurd is
fits_right F (z ∷ xs) [] x fit is = absurd fit
fits_right F (z ∷ xs) (y ∷ ys) x fit (inl e) = (y, inl refl, subst (λ w. F w y) e fit.0)
fits_right F (z ∷ xs) (y ∷ ys) x fit (inr is) = let rest = fits_right F xs ys x fit.1 is in (rest.0, inr rest.1, rest.2)

pub fits_left : {X Y : Type 0} (F : X → Y → Type 0) (xs : List X) (ys : List Y) (y : Y) → AllZip F xs ys → In y ys → (x : X) × In x xs × F x y
fits_left F [] [] y fit is = absurd is
fits_left F [] (z ∷ ys) y fit is = absurd fit
fits_left F (x ∷ xs) [] y fit is = absurd fit
fits_left F (x ∷ xs) (z ∷ ys) y fit (inl e) = (x, inl refl, subst (λ w. F x w) e fit.0)
fits_left F (x ∷ xs) (z ∷ ys) y fit (inr is) = let rest = fits_left F xs ys y fit.1 is in (rest.0, inr rest.1, rest.2)

pub fits_length : {X Y : Type 0} (F : X → Y → Type 0) (xs : List X) (ys : List Y) → AllZip F xs ys → length xs ≡ length ys
fits_length F [] [] fit = refl
fits_length F [] (y ∷ ys) fit = absurd fit
fits_length F (x ∷ xs) [] fit = absurd fit
fits_length F (x ∷ xs) (y ∷ ys) fit = ap suc (fits_length F xs ys fit.1)

pub fits_push : {X Y : Type 0} (F : X → Y → Type 0) (xs : List X) (ys : List Y) (x : X) (y : Y) → AllZip F xs ys → F x y → AllZip F (xs ++ x ∷ []) (ys ++ y ∷ [])
fits_push F [] [] x y fit f = (f, tt)
fits_push F [] (z ∷ ys) x y fit f = absurd fit
fits_push F (z ∷ xs) [] x y fit f = absurd fit
fits_push F (z ∷ xs) (w ∷ ys) x y fit f = (fit.0, fits_push F xs ys x y fit.1 f)
