-- Rows in ascending order are the same rows, in the one order that ascends, and keep it where some are left out.
use Rattle.std.proofs.Common.{◌≡◌, ◌<◌, ◌+◌, ℕ, zero, suc, Bool, true, false, cond, List, [], ◌∷◌, length, get_or, refl, sym, ap, ◌∙◌, arith}
use Rattle.std.specs.List.{filter}
use Rattle.std.specs.Ordering.{is_eq, is_gt, is_lt, ordering_reverse}
use Rattle.std.specs.Result.{IfOk}
use Rattle.std.specs.declared.cmp.Ordering.{Ordering}
use Rattle.std.specs.declared.cmp.Ordering.TheVariants.{Less, Equal, Greater}
use Rattle.std.specs.declared.result.Result.{Result}
use Rattle.std.specs.declared.result.Result.TheVariants.{Ok, Err}
use Rattle.std.proofs.lemmas.Cmp.{tied_itself, upto}
use Rattle.std.proofs.lemmas.List.Sums.{sum_by-cons}
use Rattle.mesh_list.specs.declared.memory.Memory.{Memory}
use Rattle.mesh_base_values.specs.declared.values.Cell.{Cell}
use Rattle.mesh_base_values.specs.Bag.{IsAscending, IsSameBag, times}
use Rattle.mesh_base_values.specs.Order.{row_order}
use Rattle.mesh_base_values.proofs.Total.{row_total}
use Rattle.mesh_base_values.proofs.Unique.{unique}
use Rattle.mesh_spec_changes.specs.Changes.{ascending, inserted}

abbrev Row : Type 0
Row = List Cell

-- the second isn't less than the first
abbrev Upto : Row → Row → Type 0
Upto x y = is_lt (row_order y x) ≡ false

abbrev Above : Row → List Row → Type 0
Above x [] = Unit {0}
Above x (y ∷ ys) = Upto x y × Above x ys

abbrev pub Rises : List Row → Type 0
Rises [] = Unit {0}
Rises (x ∷ xs) = Above x xs × Rises xs

turned : (o : Ordering) → is_gt (ordering_reverse o) ≡ is_lt o
turned Less = refl
turned Equal = refl
turned Greater = refl

not_both : (o : Ordering) → is_lt o ≡ true → is_lt (ordering_reverse o) ≡ false
not_both Less e = refl
not_both Equal e = refl
not_both Greater e = absurd cc

upward : (x y : Row) → Upto x y → is_gt (row_order x y) ≡ false
upward x y h = ap is_gt (row_total.antisymm x y) ∙ turned (row_order y x) ∙ h

downward : (x y : Row) → is_gt (row_order x y) ≡ false → Upto x y
downward x y h = sym (turned (row_order y x)) ∙ ap is_gt (sym (row_total.antisymm x y)) ∙ h

chain : (x y z : Row) → Upto x y → Upto y z → Upto x z
chain x y z h k = downward x z (upto row_total x y z (upward x y h) (upward y z k))

less_upto : (x y : Row) → is_lt (row_order x y) ≡ true → Upto x y
less_upto x y h = ap is_lt (row_total.antisymm y x) ∙ not_both (row_order x y) h

itself : (x : Row) → Upto x x
itself x = ap is_lt (tied_itself row_total x)

all_above : (x y : Row) (ys : List Row) → Upto x y → Above y ys → Above x ys
all_above x y [] h a = tt
all_above x y (z ∷ zs) h a = (chain x y z h a.0, all_above x y zs h a.1)

-- what is put in its place keeps the order
still_above : (x row : Row) (rows : List Row) → Upto x row → Above x rows → Above x (inserted row rows)
still_above x row [] h a = (h, tt)
still_above x row (r ∷ rs) h a = go (is_lt (row_order r row)) (still_above x row rs h a.1)
  where
    go : (b : Bool) → Above x (inserted row rs) → Above x (cond b (r ∷ inserted row rs) (row ∷ r ∷ rs))
    go true rest = (a.0, rest)
    go false rest = (h, a)

still_rises : (row : Row) (rows : List Row) → Rises rows → Rises (inserted row rows)
still_rises row [] up = (tt, tt)
still_rises row (r ∷ rs) up = go (is_lt (row_order r row)) refl (still_rises row rs up.1)
  where
    go : (b : Bool) → is_lt (row_order r row) ≡ b → Rises (inserted row rs) → Rises (cond b (r ∷ inserted row rs) (row ∷ r ∷ rs))
    go true less rest = (still_above r row rs (less_upto r row less) up.0, rest)
    go false not_less rest = ((not_less, all_above row r rs not_less up.0), up)

pub ascending_rises : (rows : List Row) → Rises (ascending rows)
ascending_rises [] = tt
ascending_rises (row ∷ rows) = still_rises row (ascending rows) (ascending_rises rows)

above_at : (x : Row) (rows : List Row) → Above x rows → (j : ℕ) (d : Row) → j < length rows → Upto x (get_or rows j d)
above_at x [] a j d lt = absurd (omega arith)
above_at x (r ∷ rs) a zero d lt = a.0
above_at x (r ∷ rs) a (suc j) d lt = above_at x rs a.1 j d (omega arith)

rising_ascends : (rows : List Row) → Rises rows → IsAscending rows
rising_ascends [] up i j d le lt = absurd (omega arith)
rising_ascends (r ∷ rs) up zero zero d le lt = itself r
rising_ascends (r ∷ rs) up zero (suc j) d le lt = above_at r rs up.0 j d (omega arith)
rising_ascends (r ∷ rs) up (suc i) zero d le lt = absurd (omega arith)
rising_ascends (r ∷ rs) up (suc i) (suc j) d le lt = rising_ascends rs up.1 i j d (omega arith) (omega arith)

-- the rows are the same
one_more : (y z : Row) (zs : List Row) → times y (z ∷ zs) ≡ cond (is_eq (row_order y z)) 1 0 + times y zs
one_more y z zs = sum_by-cons (λ x. cond (is_eq (row_order y x)) 1 0) z zs

put_once : (y row : Row) (rows : List Row) → times y (inserted row rows) ≡ times y (row ∷ rows)
put_once y row [] = refl
put_once y row (r ∷ rs) = go (is_lt (row_order r row)) (put_once y row rs)
  where
    go : (b : Bool) → times y (inserted row rs) ≡ times y (row ∷ rs) → times y (cond b (r ∷ inserted row rs) (row ∷ r ∷ rs)) ≡ times y (row ∷ r ∷ rs)
    go true rest =
        let a = one_more y r (inserted row rs) in
        let b = one_more y row rs in
        let c = one_more y row (r ∷ rs) in
        let e = one_more y r rs in
        omega (arith, a, b, c, e, rest)
    go false rest = refl

pub ascending_bag : (rows : List Row) → IsSameBag rows (ascending rows)
ascending_bag [] y = refl
ascending_bag (row ∷ rows) y =
    let a = one_more y row rows in
    let b = one_more y row (ascending rows) in
    let c = put_once y row (ascending rows) in
    let e = ascending_bag rows y in
    omega (arith, a, b, c, e)

sorted_is : (rows sorted : List Row) → IsSameBag rows sorted → IsAscending sorted → sorted ≡ ascending rows
sorted_is rows sorted bag up = unique sorted (ascending rows) up (rising_ascends (ascending rows) (ascending_rises rows)) (λ y. sym (bag y) ∙ ascending_bag rows y)

pub sorted_rows : (rows : List Row) (made : Result (List Row) Memory) → IfOk made (λ sorted. IsSameBag rows sorted) → IfOk made (λ sorted. IsAscending sorted) → IfOk made (λ sorted. sorted ≡ ascending rows)
sorted_rows rows (Ok sorted) bag up = sorted_is rows sorted bag up
sorted_rows rows (Err e) bag up = tt

-- Some rows are left out, before or behind: it is the same.
module _ (p : Row → Bool) where
  some_above : (x : Row) (rows : List Row) → Above x rows → Above x (filter p rows)
  some_above x [] a = tt
  some_above x (r ∷ rs) a = go (p r) (some_above x rs a.1)
    where
      go : (b : Bool) → Above x (filter p rs) → Above x (cond b (r ∷ filter p rs) (filter p rs))
      go true rest = (a.0, rest)
      go false rest = rest

  at_front : (row : Row) (rows : List Row) → Above row rows → inserted row rows ≡ row ∷ rows
  at_front row [] a = refl
  at_front row (r ∷ rs) a = ap (λ (b : Bool). cond b (r ∷ inserted row rs) (row ∷ r ∷ rs)) a.0

  cut_either : (b : Bool) (xs ys : List Row) → filter p (cond b xs ys) ≡ cond b (filter p xs) (filter p ys)
  cut_either true xs ys = refl
  cut_either false xs ys = refl

  put_cut : (row r : Row) (left more : List Row) (less kept also : Bool) → is_lt (row_order r row) ≡ less → (less ≡ false → Above row left) → more ≡ cond kept (inserted row left) left
      → cond less (cond also (r ∷ more) more) (cond kept (row ∷ cond also (r ∷ left) left) (cond also (r ∷ left) left)) ≡ cond kept (inserted row (cond also (r ∷ left) left)) (cond also (r ∷ left) left)
  put_cut row r left more true true true is_less above rest = ap (λ (l : List Row). r ∷ l) rest ∙ sym (ap (λ (b : Bool). cond b (r ∷ inserted row left) (row ∷ r ∷ left)) is_less)
  put_cut row r left more true true false is_less above rest = rest
  put_cut row r left more true false true is_less above rest = ap (λ (l : List Row). r ∷ l) rest
  put_cut row r left more true false false is_less above rest = rest
  put_cut row r left more false true true is_less above rest = sym (ap (λ (b : Bool). cond b (r ∷ inserted row left) (row ∷ r ∷ left)) is_less)
  put_cut row r left more false true false is_less above rest = sym (at_front row left (above refl))
  put_cut row r left more false false true is_less above rest = refl
  put_cut row r left more false false false is_less above rest = refl

  put_then_cut : (row : Row) (rows : List Row) → Rises rows → filter p (inserted row rows) ≡ cond (p row) (inserted row (filter p rows)) (filter p rows)
  put_then_cut row [] up = refl
  put_then_cut row (r ∷ rs) up =
      cut_either (is_lt (row_order r row)) (r ∷ inserted row rs) (row ∷ r ∷ rs)
      ∙ put_cut row r (filter p rs) (filter p (inserted row rs)) (is_lt (row_order r row)) (p row) (p r) refl (λ not_less. some_above row rs (all_above row r rs not_less up.0)) (put_then_cut row rs up.1)

  pub cut_ascending : (rows : List Row) → filter p (ascending rows) ≡ ascending (filter p rows)
  cut_ascending [] = refl
  cut_ascending (row ∷ rows) = put_then_cut row (ascending rows) (ascending_rises rows) ∙ go (p row) (cut_ascending rows)
    where
      go : (b : Bool) → filter p (ascending rows) ≡ ascending (filter p rows) → cond b (inserted row (filter p (ascending rows))) (filter p (ascending rows)) ≡ ascending (cond b (row ∷ filter p rows) (filter p rows))
      go true rest = ap (inserted row) rest
      go false rest = rest
