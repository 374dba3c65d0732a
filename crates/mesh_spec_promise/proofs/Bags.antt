-- The test of two lists of rows tells whether they are one bag.
use Rattle.std.proofs.Common.{◌≡◌, ◌≢◌, ℕ, zero, suc, ◌+◌, Bool, true, false, cond, nat_eq, List, [], ◌∷◌, ◌++◌, refl, sym, ◌∙◌, ap, arith, eqb-true}
use Rattle.std.specs.Cmp.{Equal-is}
use Rattle.std.specs.List.{list_all}
use Rattle.std.specs.Ordering.{is_eq}
use Rattle.std.proofs.lemmas.List.Sums.{sum_by-cons}
use Rattle.std.proofs.lemmas.Bool.{and_from as and_both}
use Rattle.mesh_list.proofs.Ascends.{and_left, and_right}
use Rattle.mesh_base_values.specs.Bag.{IsSameBag, times}
use Rattle.mesh_base_values.specs.Order.{row_order}
use Rattle.mesh_base_values.specs.declared.values.Cell.{Cell}
use Rattle.mesh_base_values.proofs.Total.{row_exact}
use Rattle.mesh_spec_promise.specs.Moved.{same_bag}

times-cons : (y z : List Cell) (zs : List (List Cell)) → times y (z ∷ zs) ≡ cond (is_eq (row_order y z)) 1 0 + times y zs
times-cons y z zs = sum_by-cons (λ x. cond (is_eq (row_order y x)) 1 0) z zs

-- a test that all rows pass is passed by a row that stands among them
stands : (p : List Cell → Bool) (row : List Cell) (rows : List (List Cell)) → times row rows ≢ 0 → list_all p rows ≡ true → p row ≡ true
stands p row [] some all = absurd (some refl)
stands p row (y ∷ ys) some all = go (is_eq (row_order row y)) refl (λ more. stands p row ys more (and_right (p y) (list_all p ys) all))
  where
    go : (b : Bool) → is_eq (row_order row y) ≡ b → (times row ys ≢ 0 → p row ≡ true) → p row ≡ true
    go true e more = ap p (row_exact row y ((Equal-is (row_order row y)).0 e)) ∙ and_left (p y) (list_all p ys) all
    go false e more = more (λ none. some (times-cons row y ys ∙ ap (λ b. cond b 1 0 + times row ys) e ∙ omega (arith, none)))

all_front : (p : List Cell → Bool) (xs ys : List (List Cell)) → list_all p (xs ++ ys) ≡ true → list_all p xs ≡ true
all_front p [] ys h = refl
all_front p (x ∷ xs) ys h = and_both (p x) (list_all p xs) (and_left (p x) (list_all p (xs ++ ys)) h) (all_front p xs ys (and_right (p x) (list_all p (xs ++ ys)) h))

all_back : (p : List Cell → Bool) (xs ys : List (List Cell)) → list_all p (xs ++ ys) ≡ true → list_all p ys ≡ true
all_back p [] ys h = h
all_back p (x ∷ xs) ys h = all_back p xs ys (and_right (p x) (list_all p (xs ++ ys)) h)

pub bag_is_same : (xs ys : List (List Cell)) → same_bag xs ys ≡ true → IsSameBag xs ys
bag_is_same xs ys h row = by_count (times row xs) refl (times row ys) refl
  where
    by_count : (m : ℕ) → times row xs ≡ m → (n : ℕ) → times row ys ≡ n → times row xs ≡ times row ys
    by_count zero e zero f = e ∙ sym f
    by_count (suc m) e n f = eqb-true (times row xs) (times row ys) (stands (λ r. nat_eq (times r xs) (times r ys)) row xs (λ none. let k : suc m ≡ 0 = sym e ∙ none in omega (arith, k)) (all_front _ xs ys h))
    by_count zero e (suc n) f = eqb-true (times row xs) (times row ys) (stands (λ r. nat_eq (times r xs) (times r ys)) row ys (λ none. let k : suc n ≡ 0 = sym f ∙ none in omega (arith, k)) (all_back _ xs ys h))
