-- A loop that tests each member of a list, over those that are left.
use Rattle.std.proofs.Common.{◌≡◌, ℕ, ◌+◌, ◌<◌, ◌≤◌, Bool, true, false, ◌&&◌, ◌||◌, List, ◌∷◌, length, drop, get_or, sym, ap, ◌∙◌}
use Rattle.std.proofs.lemmas.List.{drop_all, drop_more}
use Rattle.std.specs.List.{list_all, list_any}

-- the next member, and those behind it
pub next_left : {X : Type 0} (xs : List X) (i : ℕ) (x : X) → i < length xs → x ≡ get_or xs i x → x ∷ drop (i + 1) xs ≡ drop i xs
next_left xs i x lt is = ap (λ y. y ∷ drop (i + 1) xs) is ∙ sym (drop_more xs i x lt)

module _ {X : Type 0} (p : X → Bool) (xs : List X) (i : ℕ) (w : Bool) where
  module _ (x : X) (lt : i < length xs) (is : x ≡ get_or xs i x) where
    pub all_go_on : p x ≡ true → list_all p (drop i xs) ≡ w → list_all p (drop (i + 1) xs) ≡ w
    all_go_on so before = ap (λ b. b && list_all p (drop (i + 1) xs)) (sym so) ∙ ap (list_all p) (next_left xs i x lt is) ∙ before

    pub one_fails : p x ≡ false → list_all p (drop i xs) ≡ w → false ≡ w
    one_fails so before = ap (λ b. b && list_all p (drop (i + 1) xs)) (sym so) ∙ ap (list_all p) (next_left xs i x lt is) ∙ before

    pub none_yet : p x ≡ false → list_any p (drop i xs) ≡ w → list_any p (drop (i + 1) xs) ≡ w
    none_yet so before = ap (λ b. b || list_any p (drop (i + 1) xs)) (sym so) ∙ ap (list_any p) (next_left xs i x lt is) ∙ before

    pub one_found : p x ≡ true → list_any p (drop i xs) ≡ w → true ≡ w
    one_found so before = ap (λ b. b || list_any p (drop (i + 1) xs)) (sym so) ∙ ap (list_any p) (next_left xs i x lt is) ∙ before

  pub all_passed : length xs ≤ i → list_all p (drop i xs) ≡ w → true ≡ w
  all_passed le before = ap (list_all p) (sym (drop_all i xs le)) ∙ before

  pub none_found : length xs ≤ i → list_any p (drop i xs) ≡ w → false ≡ w
  none_found le before = ap (list_any p) (sym (drop_all i xs le)) ∙ before
