-- Lists in another order.
use Rattle.std.proofs.Common.{◌≡◌, Bool, true, false, cond, ◌||◌, List, [], ◌∷◌, ◌++◌, map, length, refl, ap, ◌∙◌, subst, arith}
use Rattle.std.specs.List.{filter, flat_map, list_any, fold}

pub data Perm {X : Type 0} : List X → List X → Type 0 where
  nil : Perm [] []
  skip : {x : X} {xs ys : List X} → Perm xs ys → Perm (x ∷ xs) (x ∷ ys)
  swap : {x y : X} {xs : List X} → Perm (x ∷ y ∷ xs) (y ∷ x ∷ xs)
  trans : {xs ys zs : List X} → Perm xs ys → Perm ys zs → Perm xs zs

pub same : {X : Type 0} (xs : List X) → Perm xs xs
same [] = nil
same (x ∷ xs) = skip (same xs)

pub flip : {X : Type 0} {xs ys : List X} → Perm xs ys → Perm ys xs
flip nil = nil
flip (skip p) = skip (flip p)
flip swap = swap
flip (trans p q) = trans (flip q) (flip p)

pub is : {X : Type 0} (xs ys : List X) → xs ≡ ys → Perm xs ys
is xs ys e = let P : _ → Type 0 = λ l. Perm xs l in subst P e (same xs)

pub mapped : {X Y : Type 0} (f : X → Y) {xs ys : List X} → Perm xs ys → Perm (map f xs) (map f ys)
mapped f nil = nil
mapped f (skip p) = skip (mapped f p)
mapped f swap = swap
mapped f (trans p q) = trans (mapped f p) (mapped f q)

skip_if : {X : Type 0} (b : Bool) (x : X) {xs ys : List X} → Perm xs ys → Perm (cond b (x ∷ xs) xs) (cond b (x ∷ ys) ys)
skip_if true x p = skip p
skip_if false x p = p

swap_if : {X : Type 0} (a b : Bool) (x y : X) (xs : List X) → Perm (cond a (x ∷ cond b (y ∷ xs) xs) (cond b (y ∷ xs) xs)) (cond b (y ∷ cond a (x ∷ xs) xs) (cond a (x ∷ xs) xs))
swap_if true true x y xs = swap
swap_if true false x y xs = same (x ∷ xs)
swap_if false true x y xs = same (y ∷ xs)
swap_if false false x y xs = same xs

pub filtered : {X : Type 0} (t : X → Bool) {xs ys : List X} → Perm xs ys → Perm (filter t xs) (filter t ys)
filtered t nil = nil
filtered t (skip {x} p) = skip_if (t x) x (filtered t p)
filtered t (swap {x} {y} {xs}) = swap_if (t x) (t y) x y (filter t xs)
filtered t (trans p q) = trans (filtered t p) (filtered t q)

pub before : {X : Type 0} (zs : List X) {xs ys : List X} → Perm xs ys → Perm (zs ++ xs) (zs ++ ys)
before [] p = p
before (z ∷ zs) p = skip (before zs p)

pub after : {X : Type 0} (zs : List X) {xs ys : List X} → Perm xs ys → Perm (xs ++ zs) (ys ++ zs)
after zs nil = same zs
after zs (skip p) = skip (after zs p)
after zs swap = swap
after zs (trans p q) = trans (after zs p) (after zs q)

pub appended : {X : Type 0} {xs ys us vs : List X} → Perm xs ys → Perm us vs → Perm (xs ++ us) (ys ++ vs)
appended {X} {xs} {ys} {us} {vs} p q = trans (after us p) (before ys q)

pub middle : {X : Type 0} (x : X) (xs ys : List X) → Perm (x ∷ (xs ++ ys)) (xs ++ x ∷ ys)
middle x [] ys = same (x ∷ ys)
middle x (z ∷ xs) ys = trans swap (skip (middle x xs ys))

pub turned : {X : Type 0} (xs ys zs : List X) → Perm (xs ++ (ys ++ zs)) (ys ++ (xs ++ zs))
turned [] ys zs = same (ys ++ zs)
turned (x ∷ xs) ys zs = trans (skip (turned xs ys zs)) (middle x ys (xs ++ zs))

pub flat : {X Y : Type 0} (f : X → List Y) {xs ys : List X} → Perm xs ys → Perm (flat_map f xs) (flat_map f ys)
flat f nil = nil
flat f (skip {x} p) = before (f x) (flat f p)
flat f (swap {x} {y} {xs}) = turned (f x) (f y) (flat_map f xs)
flat f (trans p q) = trans (flat f p) (flat f q)

pub flat_each : {X Y : Type 0} (f g : X → List Y) → ((x : X) → Perm (f x) (g x)) → (xs : List X) → Perm (flat_map f xs) (flat_map g xs)
flat_each f g h [] = nil
flat_each f g h (x ∷ xs) = appended (h x) (flat_each f g h xs)

pub as_long : {X : Type 0} {xs ys : List X} → Perm xs ys → length xs ≡ length ys
as_long nil = refl
as_long (skip p) = search (arith, as_long p)
as_long swap = refl
as_long (trans p q) = as_long p ∙ as_long q

or_turn : (a b c : Bool) → (a || (b || c)) ≡ (b || (a || c))
or_turn true true c = refl
or_turn true false c = refl
or_turn false true c = refl
or_turn false false c = refl

pub any_same : {X : Type 0} (t : X → Bool) {xs ys : List X} → Perm xs ys → list_any t xs ≡ list_any t ys
any_same t nil = refl
any_same t (skip {x} p) = ap (λ b. t x || b) (any_same t p)
any_same t (swap {x} {y} {xs}) = or_turn (t x) (t y) (list_any t xs)
any_same t (trans p q) = any_same t p ∙ any_same t q

-- folds over one list in two orders, from related beginnings, where two steps may be exchanged
module _ {X Z : Type 0} (R : Z → Z → Type 0) (itself : (z : Z) → R z z) (through : (a b c : Z) → R a b → R b c → R a c) (f : Z → X → Z) (kept : (x : X) (a b : Z) → R a b → R (f a x) (f b x))
    (exchanged : (z : Z) (x y : X) → R (f (f z x) y) (f (f z y) x)) where
  along : (xs : List X) (a b : Z) → R a b → R (fold f a xs) (fold f b xs)
  along [] a b r = r
  along (x ∷ xs) a b r = along xs (f a x) (f b x) (kept x a b r)

  pub folds : {xs ys : List X} → Perm xs ys → (a b : Z) → R a b → R (fold f a xs) (fold f b ys)
  folds nil a b r = r
  folds (skip {x} p) a b r = folds p (f a x) (f b x) (kept x a b r)
  folds (swap {x} {y} {xs}) a b r = along xs (f (f a x) y) (f (f b y) x) (through (f (f a x) y) (f (f b x) y) (f (f b y) x) (kept y (f a x) (f b x) (kept x a b r)) (exchanged b x y))
  folds (trans {xs} {ys} {zs} p q) a b r = through (fold f a xs) (fold f b ys) (fold f b zs) (folds p a b r) (folds q b b (itself b))

pub fold_same : {X Z : Type 0} (f : Z → X → Z) → ((z : Z) (x y : X) → f (f z x) y ≡ f (f z y) x) → {xs ys : List X} → Perm xs ys → (z : Z) → fold f z xs ≡ fold f z ys
fold_same f h p z = folds (λ a b. a ≡ b) (λ z. refl) (λ a b c p q. p ∙ q) f (λ x a b e. ap (λ z. f z x) e) h p z z refl
