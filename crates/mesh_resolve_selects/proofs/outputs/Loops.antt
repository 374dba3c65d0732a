-- A loop that puts something of each member behind what it has.
use Rattle.std.proofs.Common.{◌≡◌, ℕ, ◌+◌, ◌<◌, List, [], ◌∷◌, ◌++◌, length, map, take, get_or, sym, ap, ◌∙◌, append_assoc}
use Rattle.std.proofs.lemmas.List.{flat_map_more, map_more, map-append, take_more}
use Rattle.std.specs.List.{flat_map}

-- one thing of each member
pub one_made : {X Y : Type 0} (f : X → Y) (first made more : List Y) (xs : List X) (i : ℕ) (x : X) → i < length xs → x ≡ get_or xs i x → made ≡ first ++ map f (take i xs) → more ≡ made ++ f x ∷ []
    → more ≡ first ++ map f (take (i + 1) xs)
one_made f first made more xs i x lt is so_far grown =
    grown ∙ (λ k. so_far k ++ f (is k) ∷ []) ∙ append_assoc first (map f (take i xs)) (f (get_or xs i x) ∷ []) ∙ ap (λ l. first ++ l) (sym (map_more f xs i x lt))

-- the same of what was given so far
pub one_given : {X Y : Type 0} (f : X → Y) (made more : List Y) (xs : List X) (x : X) → made ≡ map f xs → more ≡ made ++ f x ∷ [] → more ≡ map f (xs ++ x ∷ [])
one_given f made more xs x so_far grown = grown ∙ ap (λ l. l ++ f x ∷ []) so_far ∙ sym (map-append f xs (x ∷ []))

-- several things of each member
pub some_made : {X Y : Type 0} (f : X → List Y) (first made more : List Y) (xs : List X) (i : ℕ) (x : X) → i < length xs → x ≡ get_or xs i x → made ≡ first ++ flat_map f (take i xs) → more ≡ made ++ f x
    → more ≡ first ++ flat_map f (take (i + 1) xs)
some_made f first made more xs i x lt is so_far grown =
    grown ∙ ap (λ l. l ++ f x) so_far ∙ flat_map_more f first (take i xs) x ∙ ap (λ l. first ++ flat_map f l) (ap (λ y. take i xs ++ y ∷ []) is ∙ sym (take_more xs i x lt))

-- the same in two steps
pub some_gathered : {X Z Y : Type 0} (g : Z → List Y) (f : X → Z) (first made more : List Y) (xs : List X) (i : ℕ) (x : X) → i < length xs → x ≡ get_or xs i x → made ≡ first ++ flat_map g (map f (take i xs))
    → more ≡ made ++ g (f x) → more ≡ first ++ flat_map g (map f (take (i + 1) xs))
some_gathered g f first made more xs i x lt is so_far grown =
    grown ∙ ap (λ l. l ++ g (f x)) so_far ∙ flat_map_more g first (map f (take i xs)) (f x)
    ∙ ap (λ l. first ++ flat_map g l) (ap (λ y. map f (take i xs) ++ f y ∷ []) is ∙ sym (map_more f xs i x lt))
