-- Two ascending lists of the same rows are one list.
use Rattle.std.proofs.Common.{◌≡◌, ℕ, ◌<◌, ◌≤◌, ◌+◌, suc, Bool, true, false, cond, List, [], ◌∷◌, length, get_or, refl, sym, ap, subst, arith}
use Rattle.std.specs.declared.cmp.Ordering.{Ordering}
use Rattle.std.specs.declared.cmp.Ordering.TheVariants.{Less, Equal, Greater}
use Rattle.std.specs.Ordering.{is_lt, is_eq, ordering_reverse}
use Rattle.std.proofs.lemmas.Cmp.{tied_itself}
use Rattle.std.proofs.lemmas.List.Sums.{sum_by-cons}
use Rattle.mesh_base_values.specs.declared.values.Cell.{Cell}
use Rattle.mesh_base_values.specs.Order.{row_order}
use Rattle.mesh_base_values.specs.Bag.{times, IsSameBag, IsAscending}
use Rattle.mesh_base_values.proofs.Total.{row_total, row_exact}
use Rattle.mesh_base_values.proofs.Equals.{equal_of}

abbrev Row : Type 0
Row = List Cell

tie : (o r : Ordering) → o ≡ ordering_reverse r → is_lt o ≡ false → is_lt r ≡ false → o ≡ Equal
tie o Less e f g = cc
tie o Equal e f g = e
tie o Greater e f g = cc

itself : (y : Row) → is_eq (row_order y y) ≡ true
itself y = ap is_eq (tied_itself row_total y)

one_more : (y z : Row) (zs : List Row) → times y (z ∷ zs) ≡ cond (is_eq (row_order y z)) 1 0 + times y zs
one_more y z zs = sum_by-cons (λ x. cond (is_eq (row_order y x)) 1 0) z zs

counted : (b : Bool) (m n : ℕ) → b ≡ true → n ≡ cond b 1 0 + m → 1 ≤ n
counted true m n e f = omega arith
counted false m n e f = absurd cc

passed : (b : Bool) (m n : ℕ) → b ≡ false → n ≡ cond b 1 0 + m → 1 ≤ n → 1 ≤ m
passed true m n e f g = absurd cc
passed false m n e f g = omega arith

-- a row that stands in a list is not below what no row of the list is below
decided : (b : Bool) (P : Type 0) → (b ≡ true → P) → (b ≡ false → P) → P
decided true P f g = f refl
decided false P f g = g refl

not_below : (x y : Row) (rows : List Row) → ((j : ℕ) (d : Row) → j < length rows → is_lt (row_order (get_or rows j d) x) ≡ false) → 1 ≤ times y rows → is_lt (row_order y x) ≡ false
not_below x y [] f h = absurd (omega arith)
not_below x y (z ∷ zs) f h =
    let P : Row → Type 0 = λ r. is_lt (row_order r x) ≡ false in
    decided (is_eq (row_order y z)) (P y)
    (λ e. subst P (sym (row_exact y z (equal_of _ e))) (f 0 z (omega arith)))
    (λ e. not_below x y zs (λ j d l. f (suc j) d (omega arith)) (passed _ _ _ e (one_more y z zs) h))

tail_ascends : (x : Row) (xs : List Row) → IsAscending (x ∷ xs) → IsAscending xs
tail_ascends x xs up i j d le lt = up (suc i) (suc j) d (omega arith) (omega arith)

pub unique : (xs ys : List Row) → IsAscending xs → IsAscending ys → IsSameBag xs ys → xs ≡ ys
unique [] [] up vp bag = refl
unique [] (y ∷ ys) up vp bag = let c : 1 ≤ times y (y ∷ ys) = counted _ _ _ (itself y) (one_more y y ys) in let e : 0 ≡ times y (y ∷ ys) = bag y in absurd (omega arith)
unique (x ∷ xs) [] up vp bag = let c : 1 ≤ times x (x ∷ xs) = counted _ _ _ (itself x) (one_more x x xs) in let e : times x (x ∷ xs) ≡ 0 = bag x in absurd (omega arith)
unique (x ∷ xs) (y ∷ ys) up vp bag =
    let cy : 1 ≤ times y (y ∷ ys) = counted _ _ _ (itself y) (one_more y y ys) in
    let cx : 1 ≤ times x (x ∷ xs) = counted _ _ _ (itself x) (one_more x x xs) in
    let ey : times y (x ∷ xs) ≡ times y (y ∷ ys) = bag y in
    let ex : times x (x ∷ xs) ≡ times x (y ∷ ys) = bag x in
    let yx : is_lt (row_order y x) ≡ false = not_below x y (x ∷ xs) (λ j d l. up 0 j d (omega arith) l) (omega arith) in
    let xy : is_lt (row_order x y) ≡ false = not_below y x (y ∷ ys) (λ j d l. vp 0 j d (omega arith) l) (omega arith) in
    let same : x ≡ y = row_exact x y (tie _ _ (row_total.antisymm x y) xy yx) in
    let Q : Row → Type 0 = λ r. IsSameBag (x ∷ xs) (r ∷ ys) in
    let bag' : IsSameBag (x ∷ xs) (x ∷ ys) = subst Q (sym same) bag in
    let rest : xs ≡ ys = unique xs ys (tail_ascends x xs up) (tail_ascends y ys vp) (λ r. let a = one_more r x xs in let b = one_more r x ys in let e : times r (x ∷ xs) ≡ times r (x ∷ ys) = bag' r in omega arith) in
    cc
