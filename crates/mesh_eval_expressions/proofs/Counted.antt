-- How many different cells there are.
use Rattle.std.proofs.Common.{◌≡◌, Bool, true, false, cond, ◌||◌, List, [], ◌∷◌, ◌++◌, map, length, refl, sym, ap, ap₂, ◌∙◌, subst}
use Rattle.std.specs.Borrow.{Bor}
use Rattle.std.specs.BTreeSet.{BTreeSet, IsFromIterResult, btree_set_len}
use Rattle.std.specs.Cmp.{IsTotalOrder}
use Rattle.std.specs.List.{IsDistinct, fold, list_any}
use Rattle.std.specs.Ordering.{eq_by_cmp, is_eq}
use Rattle.std.specs.Set.{distinct_count, is_member, unique_keys}
use Rattle.std.specs.declared.cmp.Ordering.{Ordering}
use Rattle.std.proofs.lemmas.Cmp.{eq_by_cmp_equiv, on_total}
use Rattle.std.proofs.lemmas.List.{length-map}
use Rattle.std.proofs.lemmas.Map.Keys.{IsDistinct-push}
use Rattle.std.proofs.lemmas.Map.Made.{length-from_keys}
use Rattle.std.proofs.lemmas.Map.Views.{btree_set_len-from_list}
use Rattle.mesh_base_values.specs.declared.values.Cell.{Cell}
use Rattle.mesh_base_values.specs.Order.{cell_order}
use Rattle.mesh_base_values.specs.contracts.values.CellOrd.TheImpl.{cmp-value}
use Rattle.mesh_base_values.proofs.Total.{cell_exact, cell_is, cell_total}
use Rattle.mesh_base_values.proofs.Equals.{eq_turned as turned, equal_of as equal_is}
use Rattle.mesh_spec_query.specs.Aggregates.{distinct, same_cell}

abbrev Same : Cell → Cell → Bool
Same = eq_by_cmp cell_order

flip : (x y : Cell) → same_cell x y ≡ Same x y
flip x y = ap is_eq (cell_total.antisymm y x) ∙ turned (cell_order x y)

among : (x : Cell) (seen : List Cell) → list_any (same_cell x) seen ≡ is_member Same seen x
among x seen = ap (λ (f : Cell → Bool). list_any f seen) (λ i y. flip x y i)

abbrev step : List Cell → Cell → List Cell
step seen x = cond (list_any (same_cell x) seen) seen (seen ++ x ∷ [])

-- none stands twice
once : (seen cells : List Cell) → IsDistinct Same seen → IsDistinct Same (fold step seen cells)
once seen [] h = h
once seen (x ∷ cells) h = go (list_any (same_cell x) seen) refl (λ s k. once s cells k)
  where
    go : (b : Bool) → list_any (same_cell x) seen ≡ b → ((s : List Cell) → IsDistinct Same s → IsDistinct Same (fold step s cells)) → IsDistinct Same (fold step (cond b seen (seen ++ x ∷ [])) cells)
    go true e rest = rest seen h
    go false e rest = rest (seen ++ x ∷ []) (IsDistinct-push (eq_by_cmp_equiv cell_total) seen x h (sym (among x seen) ∙ e))

pushed : (p : Cell → Bool) (xs : List Cell) (x : Cell) → list_any p (xs ++ x ∷ []) ≡ (list_any p xs || p x)
pushed p [] x = last (p x)
  where
    last : (b : Bool) → (b || false) ≡ b
    last true = refl
    last false = refl
pushed p (y ∷ xs) x = ap (λ b. p y || b) (pushed p xs x) ∙ three (p y) (list_any p xs) (p x)
  where
    three : (a b c : Bool) → (a || (b || c)) ≡ ((a || b) || c)
    three true b c = refl
    three false b c = refl

-- and each is there
kept : (q : Cell) (seen cells : List Cell) → is_member Same (fold step seen cells) q ≡ (is_member Same seen q || is_member Same cells q)
kept q seen [] = last (is_member Same seen q)
  where
    last : (b : Bool) → b ≡ (b || false)
    last true = refl
    last false = refl
kept q seen (x ∷ cells) = go (list_any (same_cell x) seen) (Same q x) refl refl (λ s. kept q s cells)
  where
    three : (a b c : Bool) → ((a || b) || c) ≡ (a || (b || c))
    three true b c = refl
    three false b c = refl

    there : Same q x ≡ true → list_any (same_cell x) seen ≡ true → is_member Same seen q ≡ true
    there s e = ap (is_member Same seen) (cell_exact q x (equal_is (cell_order q x) s)) ∙ sym (among x seen) ∙ e

    go : (b c : Bool) → list_any (same_cell x) seen ≡ b → Same q x ≡ c → ((s : List Cell) → is_member Same (fold step s cells) q ≡ (is_member Same s q || is_member Same cells q))
        → is_member Same (fold step (cond b seen (seen ++ x ∷ [])) cells) q ≡ (is_member Same seen q || (c || is_member Same cells q))
    go true true e s rest = rest seen ∙ ap (λ b. b || is_member Same cells q) (there s e) ∙ ap (λ b. b || true) (sym (there s e))
    go true false e s rest = rest seen
    go false c e s rest =
        rest (seen ++ x ∷ [])
        ∙ ap (λ b. b || is_member Same cells q) (pushed (Same q) seen x ∙ ap (λ b. is_member Same seen q || b) s)
        ∙ three (is_member Same seen q) c (is_member Same cells q)

nothing : IsDistinct Same []
unfolding IsDistinct
nothing = tt

counted_cells : (cells : List Cell) → length (distinct same_cell cells) ≡ distinct_count Same cells
counted_cells cells = length-from_keys (eq_by_cmp_equiv cell_total) (distinct same_cell cells) cells (once [] cells nothing) (λ q. kept q [] cells)

-- cells that lie elsewhere, in the order of cells
abbrev pub lent_cmp : Bor Cell → Bor Cell → Ordering
lent_cmp a b = cmp-value.it a.now b.now

abbrev Lent : Bor Cell → Bor Cell → Bool
Lent = eq_by_cmp lent_cmp

lent_total : IsTotalOrder lent_cmp
lent_total = let P : (Cell → Cell → Ordering) → Type 0 = λ R. IsTotalOrder (λ (a b : Bor Cell). R a.now b.now) in subst P (λ i a b. sym (cell_is a b) i) (on_total (λ (a : Bor Cell). a.now) cell_total)

abbrev shown : List (Bor Cell) → List Cell
shown all = map (λ cell. cell.now) all

lent_among : (x : Bor Cell) (all : List (Bor Cell)) → is_member Lent all x ≡ is_member Same (shown all) x.now
lent_among x [] = refl
lent_among x (y ∷ all) = ap₂ (λ a b. a || b) (ap is_eq (cell_is x.now y.now)) (lent_among x all)

lent_unique : (all : List (Bor Cell)) → shown (unique_keys Lent all) ≡ unique_keys Same (shown all)
lent_unique [] = refl
lent_unique (x ∷ all) = go (is_member Lent all x) (is_member Same (shown all) x.now) refl (lent_among x all) (lent_unique all)
  where
    go : (b c : Bool) → is_member Lent all x ≡ b → is_member Lent all x ≡ c → shown (unique_keys Lent all) ≡ unique_keys Same (shown all)
        → shown (cond b (unique_keys Lent all) (x ∷ unique_keys Lent all)) ≡ cond c (unique_keys Same (shown all)) (x.now ∷ unique_keys Same (shown all))
    go true true e f rest = rest
    go false false e f rest = ap (λ l. x.now ∷ l) rest
    go true false e f rest = absurd (let clash : true ≡ false = sym e ∙ f in cc)
    go false true e f rest = absurd (let clash : false ≡ true = sym e ∙ f in cc)

-- a set that was made of cells that lie elsewhere
pub counted : (all : List (Bor Cell)) (set : BTreeSet (Bor Cell)) (cells : List Cell) → IsFromIterResult lent_cmp all set → shown all ≡ cells → btree_set_len set ≡ length (distinct same_cell cells)
counted all set cells made is =
    btree_set_len-from_list lent_total all set made
    ∙ sym (length-map (unique_keys Lent all) (λ cell. cell.now)) ∙ ap length (lent_unique all)
    ∙ sym (counted_cells (shown all)) ∙ ap (λ l. length (distinct same_cell l)) is
