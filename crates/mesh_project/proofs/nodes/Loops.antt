-- A loop that puts something of each member behind what it has.
use Rattle.std.proofs.Common.{◌≡◌, ℕ, ◌+◌, ◌<◌, List, [], ◌∷◌, ◌++◌, length, map, fold, take, get_or, sym, ap, ◌∙◌, append_assoc}
use Rattle.std.proofs.lemmas.Grind.{flat_map-append}
use Rattle.std.proofs.lemmas.List.{append-nil, flat_map_more, map_more, take_more}
use Rattle.std.proofs.lemmas.List.Sums.{fold_more}
use Rattle.std.specs.List.{flat_map}

pub one_more_of : {X Y : Type 0} (f : X → List Y) (made more : List Y) (xs : List X) (i : ℕ) (x : X) → i < length xs → x ≡ get_or xs i x → made ≡ flat_map f (take i xs) → more ≡ made ++ f x
    → more ≡ flat_map f (take (i + 1) xs)
one_more_of f made more xs i x lt is so_far grown =
    grown ∙ ap (λ l. l ++ f x) so_far ∙ ap (λ l. flat_map f (take i xs) ++ l) (sym (append-nil (f x))) ∙ sym (flat_map-append f (take i xs) (x ∷ []))
    ∙ sym (ap (flat_map f) (take_more xs i x lt ∙ ap (λ y. take i xs ++ y ∷ []) (sym is)))

-- the same behind others
pub one_more_behind : {X Y : Type 0} (f : X → List Y) (first made more : List Y) (xs : List X) (i : ℕ) (x : X) → i < length xs → x ≡ get_or xs i x → made ≡ first ++ flat_map f (take i xs) → more ≡ made ++ f x
    → more ≡ first ++ flat_map f (take (i + 1) xs)
one_more_behind f first made more xs i x lt is so_far grown =
    grown ∙ ap (λ l. l ++ f x) so_far ∙ flat_map_more f first (take i xs) x
    ∙ ap (λ l. first ++ flat_map f l) (ap (λ y. take i xs ++ y ∷ []) is ∙ sym (take_more xs i x lt))

-- one thing of each member
pub one_more_made : {X Y : Type 0} (f : X → Y) (made more : List Y) (xs : List X) (i : ℕ) (x : X) → i < length xs → x ≡ get_or xs i x → made ≡ map f (take i xs) → more ≡ made ++ f x ∷ []
    → more ≡ map f (take (i + 1) xs)
one_more_made f made more xs i x lt is so_far grown = grown ∙ (λ k. so_far k ++ f (is k) ∷ []) ∙ sym (map_more f xs i x lt)

-- one thing of each number, behind others
pub one_number_made : {Y : Type 0} (f : ℕ → Y) (first made more : List Y) (ns : List ℕ) (i : ℕ) → i < length ns → made ≡ first ++ map f (take i ns) → more ≡ made ++ f (get_or ns i 0) ∷ []
    → more ≡ first ++ map f (take (i + 1) ns)
one_number_made f first made more ns i lt so_far grown =
    grown ∙ ap (λ l. l ++ f (get_or ns i 0) ∷ []) so_far ∙ append_assoc first (map f (take i ns)) (f (get_or ns i 0) ∷ []) ∙ ap (λ l. first ++ l) (sym (map_more f ns i 0 lt))

-- a state that each member changes
pub one_more_step : {S X : Type 0} (f : S → X → S) (start now next : S) (xs : List X) (i : ℕ) (x : X) → i < length xs → x ≡ get_or xs i x → now ≡ fold f start (take i xs) → next ≡ f now x
    → next ≡ fold f start (take (i + 1) xs)
one_more_step f start now next xs i x lt is so_far stepped = stepped ∙ (λ k. f (so_far k) (is k)) ∙ sym (fold_more f start xs i x lt)
