-- What is made of one item more, or found with it.
use Rattle.std.proofs.Common.{◌≡◌, ℕ, ◌+◌, ◌<◌, Bool, true, false, Ok, Result, List, [], ◌∷◌, ◌++◌, map, length, take, get_or, sym, ap, subst, ◌∙◌}
use Rattle.std.specs.Prelude.{IfOk, ◌&&◌, ◌||◌}
use Rattle.std.specs.List.{list_all, list_any}
use Rattle.std.proofs.lemmas.List.{map-append, take_more}
use Rattle.std.proofs.lemmas.List.Folds.{list_all_kept, list_all_more, list_any_kept, list_any_more}

-- a list of what is made of each item
pub put_more : {X Y : Type 0} (f : X → Y) (xs : List X) (i : ℕ) (d : X) (was now : List Y) (y : Y) → i < length xs → was ≡ map f (take i xs) → y ≡ f (get_or xs i d) → now ≡ was ++ y ∷ [] → now ≡ map f (take (i + 1) xs)
put_more {X} {Y} f xs i d was now y lt before same pushed =
    pushed
    ∙ (λ k. before k ++ same k ∷ [])
    ∙ sym (map-append f (take i xs) (get_or xs i d ∷ []))
    ∙ ap (map f) (sym (take_more xs i d lt))

-- the same, where making it may fail
pub made_more : {X Y E : Type 0} (f : X → Y) (xs : List X) (i : ℕ) (d : X) (was now : List Y) (r : Result Y E) → i < length xs → was ≡ map f (take i xs) → IfOk r (λ y. y ≡ f (get_or xs i d))
    → (y : Y) × (r ≡ Ok y) × (now ≡ was ++ y ∷ []) → now ≡ map f (take (i + 1) xs)
made_more {X} {Y} {E} f xs i d was now r lt before made (y, is, pushed) =
    put_more f xs i d was now y lt before (subst (λ (q : Result Y E). IfOk q (λ z. z ≡ f (get_or xs i d))) is made) pushed

pub made_of_item : {X Y E : Type 0} (f : X → Y) (xs : List X) (i : ℕ) (x : X) (was now : List Y) (r : Result Y E) → i < length xs → x ≡ get_or xs i x → was ≡ map f (take i xs) → IfOk r (λ y. y ≡ f x)
    → (y : Y) × (r ≡ Ok y) × (now ≡ was ++ y ∷ []) → now ≡ map f (take (i + 1) xs)
made_of_item {X} {Y} {E} f xs i x was now r lt here before made pushed = made_more f xs i x was now r lt before (subst (λ (z : X). IfOk r (λ y. y ≡ f z)) here made) pushed

-- none of the items so far has it, and so it is up to this one
pub found_here : {X : Type 0} (p : X → Bool) (xs : List X) (i : ℕ) (x : X) (a : Bool) → i < length xs → x ≡ get_or xs i x → list_any p (take i xs) ≡ false → a ≡ p x → a ≡ list_any p (take (i + 1) xs)
found_here p xs i x a lt here none is = is ∙ ap p here ∙ sym (list_any_more p xs i x lt ∙ ap (λ b. b || p (get_or xs i x)) none)

pub found_before : {X : Type 0} (p : X → Bool) (xs : List X) (i : ℕ) (a : Bool) → a ≡ true → list_any p (take i xs) ≡ true → a ≡ list_any p (take (i + 1) xs)
found_before p xs i a is some = is ∙ sym (list_any_kept p xs i some)

-- all items so far have it, and so it is up to this one
pub kept_here : {X : Type 0} (p : X → Bool) (xs : List X) (i : ℕ) (x : X) (a : Bool) → i < length xs → x ≡ get_or xs i x → list_all p (take i xs) ≡ true → a ≡ p x → a ≡ list_all p (take (i + 1) xs)
kept_here p xs i x a lt here all is = is ∙ ap p here ∙ sym (list_all_more p xs i x lt ∙ ap (λ b. b && p (get_or xs i x)) all)

-- the same beside a test of its own
pub both_here : {X : Type 0} (first : Bool) (p : X → Bool) (xs : List X) (i : ℕ) (x : X) (a : Bool) → i < length xs → x ≡ get_or xs i x → (first && list_all p (take i xs)) ≡ true → a ≡ p x
    → a ≡ (first && list_all p (take (i + 1) xs))
both_here true p xs i x a lt here all is = kept_here p xs i x a lt here all is
both_here false p xs i x a lt here all is = cc all

pub both_lost : {X : Type 0} (first : Bool) (p : X → Bool) (xs : List X) (i : ℕ) (a : Bool) → a ≡ false → (first && list_all p (take i xs)) ≡ false → a ≡ (first && list_all p (take (i + 1) xs))
both_lost true p xs i a is none = is ∙ sym (list_all_kept p xs i none)
both_lost false p xs i a is none = is
