-- What an aggregate makes of cells doesn't hang on their order.
use Rattle.std.proofs.Common.{◌≡◌, ℤ, pos, ◌+ℤ◌, Bool, true, false, cond, ◌||◌, List, [], ◌∷◌, ◌++◌, refl, ap, sym, ◌∙◌, subst}
use Rattle.std.specs.List.{list_any}
use Rattle.std.specs.declared.cmp.Ordering.{Ordering}
use Rattle.std.specs.declared.cmp.Ordering.TheVariants.{Less, Equal, Greater}
use Rattle.std.specs.Ordering.{is_lt, is_eq, ordering_reverse, flip_args}
use Rattle.std.specs.Cmp.{IsTotalOrder}
use Rattle.std.proofs.lemmas.Cmp.{tied_itself, back_total}
use Rattle.std.proofs.lemmas.List.Folds.{list_any-append}
use Rattle.std.proofs.Math.IntN.{+ℤ_assoc, +ℤ_comm}
use Rattle.mesh_base_values.specs.declared.values.Cell.{Cell}
use Rattle.mesh_base_values.specs.declared.values.Cell.TheVariants.{Null, Int, Text, Date, Bool as Truth}
use Rattle.mesh_base.specs.declared.expressions.AggKind.{AggKind}
use Rattle.mesh_base.specs.declared.expressions.AggKind.TheVariants.{Count, Countd, Sum, Min, Max}
use Rattle.mesh_base_values.specs.Order.{cell_order, row_order}
use Rattle.mesh_base_values.proofs.Total.{cell_total, cell_exact, row_total, row_exact}
use Rattle.mesh_base_values.proofs.Equals.{equal_of}
use Rattle.mesh_spec_query.specs.Cells.{is_null, number}
use Rattle.mesh_spec_query.specs.Aggregates.{distinct, same_cell, is_number, addend, smaller, larger, count_of, agg_value}
use Rattle.mesh_spec_query.specs.Sel.{same_row}
use Rattle.mesh_law_query.proofs.Perm.{Perm, nil, skip, swap, trans, same, is, after, as_long, any_same, folds, fold_same, filtered}

-- one of each
module _ {A : Type 0} (alike : A → A → Bool) (exact : (x y : A) → alike x y ≡ true → x ≡ y) (itself : (x : A) → alike x x ≡ true) where
  abbrev step : List A → A → List A
  step seen x = cond (list_any (alike x) seen) seen (seen ++ x ∷ [])

  kept : (x : A) (a b : List A) → Perm a b → Perm (step a x) (step b x)
  kept x a b p = go (list_any (alike x) a) (list_any (alike x) b) (any_same (alike x) p)
    where
      go : (v w : Bool) → v ≡ w → Perm (cond v a (a ++ x ∷ [])) (cond w b (b ++ x ∷ []))
      go true true e = p
      go false false e = after (x ∷ []) p
      go true false e = absurd (cc)
      go false true e = absurd (cc)

  ends : (z : List A) (x y : A) → Perm ((z ++ x ∷ []) ++ y ∷ []) ((z ++ y ∷ []) ++ x ∷ [])
  ends [] x y = swap
  ends (a ∷ z) x y = skip (ends z x y)

  one_more : (z : List A) (x y : A) (v w : Bool) → list_any (alike x) z ≡ v → alike x y ≡ w → list_any (alike x) (z ++ y ∷ []) ≡ (v || (w || false))
  one_more z x y v w e f = list_any-append (alike x) z (y ∷ []) ∙ (λ i. e i || (f i || false))

  old : (z : List A) (x : A) → list_any (alike x) z ≡ true → step z x ≡ z
  old z x e = rw e refl

  new : (z : List A) (x : A) → list_any (alike x) z ≡ false → step z x ≡ z ++ x ∷ []
  new z x e = rw e refl

  exchange : (z : List A) (x y : A) (a b v w : Bool) → list_any (alike x) z ≡ a → list_any (alike y) z ≡ b → alike x y ≡ v → alike y x ≡ w → Perm (step (step z x) y) (step (step z y) x)
  exchange z x y true true v w p q e f = is _ _ (ap (λ t. step t y) (old z x p) ∙ old z y q ∙ sym (ap (λ t. step t x) (old z y q) ∙ old z x p))
  exchange z x y true false v w p q e f = is _ _ (ap (λ t. step t y) (old z x p) ∙ new z y q ∙ sym (ap (λ t. step t x) (new z y q) ∙ old (z ++ y ∷ []) x (one_more z x y true v p e)))
  exchange z x y false true v w p q e f = is _ _ (ap (λ t. step t y) (new z x p) ∙ old (z ++ x ∷ []) y (one_more z y x true w q f) ∙ sym (ap (λ t. step t x) (old z y q) ∙ new z x p))
  exchange z x y false false true w p q e f = let P : A → Type 0 = λ t. Perm (step (step z x) t) (step (step z t) x) in subst P (exact x y e) (same (step (step z x) x))
  exchange z x y false false false true p q e f = let n : y ≡ x = exact y x f in let m : alike x y ≡ true = subst (λ t. alike x t ≡ true) (sym n) (itself x) in absurd (cc)
  exchange z x y false false false false p q e f =
      trans (is _ _ (ap (λ t. step t y) (new z x p) ∙ new (z ++ x ∷ []) y (one_more z y x false false q f)))
      (trans (ends z x y) (is _ _ (sym (ap (λ t. step t x) (new z y q) ∙ new (z ++ y ∷ []) x (one_more z x y false false p e)))))

  pub distinct_same : {xs ys : List A} → Perm xs ys → Perm (distinct alike xs) (distinct alike ys)
  distinct_same p = folds Perm same (λ a b c p q. trans p q) step kept (λ z x y. exchange z x y _ _ _ _ refl refl refl refl) p [] [] nil

pub rows_same : {xs ys : List (List Cell)} → Perm xs ys → Perm (distinct same_row xs) (distinct same_row ys)
rows_same p = distinct_same same_row (λ x y e. sym (row_exact y x (equal_of (row_order y x) e))) (λ x. ap is_eq (tied_itself row_total x)) p

cells_same : {xs ys : List Cell} → Perm xs ys → Perm (distinct same_cell xs) (distinct same_cell ys)
cells_same p = distinct_same same_cell (λ x y e. sym (cell_exact y x (equal_of (cell_order y x) e))) (λ x. ap is_eq (tied_itself cell_total x)) p

-- the best by a total order
module _ {A : Type 0} (R : A → A → Ordering) (order : IsTotalOrder R) (exact : (x y : A) → R x y ≡ Equal → x ≡ y) where
  abbrev best : A → A → A
  best x y = cond (is_lt (R x y)) y x

  less_of : (o : Ordering) → is_lt o ≡ true → o ≡ Less
  less_of Less e = refl
  less_of Equal e = cc
  less_of Greater e = cc

  through : (x y z : A) → is_lt (R x y) ≡ true → is_lt (R y z) ≡ true → is_lt (R x z) ≡ true
  through x y z e f = ap is_lt (order.trans x y z (less_of (R x y) e) (less_of (R y z) f))

  one_way : (o r : Ordering) → o ≡ ordering_reverse r → is_lt o ≡ true → is_lt r ≡ true → ⊥
  one_way o Less e f g = cc
  one_way o Equal e f g = cc
  one_way o Greater e f g = cc

  tie : (o r : Ordering) → o ≡ ordering_reverse r → is_lt o ≡ false → is_lt r ≡ false → o ≡ Equal
  tie o Less e f g = cc
  tie o Equal e f g = e
  tie o Greater e f g = cc

  pub best_turn : (x y : A) → best x y ≡ best y x
  best_turn x y = go (is_lt (R x y)) (is_lt (R y x)) refl refl
    where
      go : (c d : Bool) → is_lt (R x y) ≡ c → is_lt (R y x) ≡ d → best x y ≡ best y x
      go true true e f = absurd (one_way (R x y) (R y x) (order.antisymm x y) e f)
      go true false e f = rw (e, f) refl
      go false true e f = rw (e, f) refl
      go false false e f = rw (e, f) (exact x y (tie (R x y) (R y x) (order.antisymm x y) e f))

  right : (x y : A) → is_lt (R x y) ≡ true → best x y ≡ y
  right x y e = rw e refl

  left : (x y : A) → is_lt (R x y) ≡ false → best x y ≡ x
  left x y e = rw e refl

  exchange_best : (z x y : A) (a b c d : Bool) → is_lt (R z x) ≡ a → is_lt (R z y) ≡ b → is_lt (R x y) ≡ c → is_lt (R y x) ≡ d → best (best z x) y ≡ best (best z y) x
  exchange_best z x y true true c d p q e f = ap (λ t. best t y) (right z x p) ∙ best_turn x y ∙ sym (ap (λ t. best t x) (right z y q))
  exchange_best z x y true false true d p q e f = let t : is_lt (R z y) ≡ true = through z x y p e in absurd (cc)
  exchange_best z x y true false false d p q e f = ap (λ t. best t y) (right z x p) ∙ left x y e ∙ sym (ap (λ t. best t x) (left z y q) ∙ right z x p)
  exchange_best z x y false true c true p q e f = let t : is_lt (R z x) ≡ true = through z y x q f in absurd (cc)
  exchange_best z x y false true c false p q e f = ap (λ t. best t y) (left z x p) ∙ right z y q ∙ sym (ap (λ t. best t x) (right z y q) ∙ left y x f)
  exchange_best z x y false false c d p q e f = ap (λ t. best t y) (left z x p) ∙ left z y q ∙ sym (ap (λ t. best t x) (left z y q) ∙ left z x p)

  pub best_exchanged : (z x y : A) → best (best z x) y ≡ best (best z y) x
  best_exchanged z x y = exchange_best z x y _ _ _ _ refl refl refl refl

abbrev back : Cell → Cell → Ordering
back = flip_args cell_order

back_exact : (x y : Cell) → back x y ≡ Equal → x ≡ y
back_exact x y e = sym (cell_exact y x e)

abbrev least : Cell → Cell → Cell
least x y = cond (is_lt (cell_order y x)) y x

null_is : (x : Cell) → is_null x ≡ true → x ≡ Null
null_is Null e = refl
null_is (Int n) e = absurd (cc)
null_is (Text t) e = absurd (cc)
null_is (Date d) e = absurd (cc)
null_is (Truth b) e = absurd (cc)

null_right : (x : Cell) → smaller x Null ≡ x
null_right Null = refl
null_right (Int n) = refl
null_right (Text t) = refl
null_right (Date d) = refl
null_right (Truth b) = refl

both_there : (x y : Cell) → is_null x ≡ false → is_null y ≡ false → smaller x y ≡ least x y
both_there x y e f = rw (e, f) refl

there : (x y : Cell) → is_null x ≡ false → is_null y ≡ false → is_null (least x y) ≡ false
there x y e f = go (is_lt (cell_order y x))
  where
    go : (b : Bool) → is_null (cond b y x) ≡ false
    go true = f
    go false = e

smaller_turn : (x y : Cell) (a b : Bool) → is_null x ≡ a → is_null y ≡ b → smaller x y ≡ smaller y x
smaller_turn x y true b e f = let P : Cell → Type 0 = λ t. smaller t y ≡ smaller y t in subst P (sym (null_is x e)) (sym (null_right y))
smaller_turn x y false true e f = let P : Cell → Type 0 = λ t. smaller x t ≡ smaller t x in subst P (sym (null_is y f)) (null_right x)
smaller_turn x y false false e f = both_there x y e f ∙ best_turn back (back_total cell_total) back_exact x y ∙ sym (both_there y x f e)

smaller_cases : (z x y : Cell) (a b c : Bool) → is_null z ≡ a → is_null x ≡ b → is_null y ≡ c → smaller (smaller z x) y ≡ smaller (smaller z y) x
smaller_cases z x y true b c e f g = let P : Cell → Type 0 = λ t. smaller (smaller t x) y ≡ smaller (smaller t y) x in subst P (sym (null_is z e)) (smaller_turn x y b c f g)
smaller_cases z x y false true c e f g = let P : Cell → Type 0 = λ t. smaller (smaller z t) y ≡ smaller (smaller z y) t in subst P (sym (null_is x f)) (ap (λ t. smaller t y) (null_right z) ∙ sym (null_right (smaller z y)))
smaller_cases z x y false false true e f g = let P : Cell → Type 0 = λ t. smaller (smaller z x) t ≡ smaller (smaller z t) x in subst P (sym (null_is y g)) (null_right (smaller z x) ∙ sym (ap (λ t. smaller t x) (null_right z)))
smaller_cases z x y false false false e f g =
    ap (λ t. smaller t y) (both_there z x e f) ∙ both_there (least z x) y (there z x e f) g
    ∙ best_exchanged back (back_total cell_total) back_exact z x y
    ∙ sym (both_there (least z y) x (there z y e g) f) ∙ sym (ap (λ t. smaller t x) (both_there z y e g))

smaller_exchanged : (z x y : Cell) → smaller (smaller z x) y ≡ smaller (smaller z y) x
smaller_exchanged z x y = smaller_cases z x y _ _ _ refl refl refl

sum_exchanged : (s : ℤ) (x y : Cell) → (s +ℤ addend x) +ℤ addend y ≡ (s +ℤ addend y) +ℤ addend x
sum_exchanged s x y = +ℤ_assoc s (addend x) (addend y) ∙ ap (λ t. s +ℤ t) (+ℤ_comm (addend x) (addend y)) ∙ sym (+ℤ_assoc s (addend y) (addend x))

pub counted_same : {A : Type 0} {xs ys : List A} → Perm xs ys → count_of xs ≡ count_of ys
counted_same p = ap (λ n. Int (pos n)) (as_long p)

pub amount_same : (kind : AggKind) {xs ys : List Cell} → Perm xs ys → agg_value kind xs ≡ agg_value kind ys
amount_same Count p = counted_same (filtered _ p)
amount_same Countd p = counted_same (cells_same (filtered _ p))
amount_same Sum p = λ i. cond (any_same is_number p i) (number (fold_same (λ s c. s +ℤ addend c) sum_exchanged p (pos 0) i)) Null
amount_same Min p = fold_same smaller smaller_exchanged p Null
amount_same Max p = fold_same larger (best_exchanged cell_order cell_total cell_exact) p Null
