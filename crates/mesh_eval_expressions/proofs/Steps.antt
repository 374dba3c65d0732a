-- One item more of what a loop is over: rows of a group, cells.
use Rattle.std.proofs.Common.{◌≡◌, ℕ, ◌+◌, ◌<◌, Bool, true, false, not, if◌then◌else◌, List, [], ◌∷◌, ◌++◌, map, length, take, get_or, slice_index_or, sym, ap, ◌∙◌, append-nil}
use Rattle.std.specs.Borrow.{Bor}
use Rattle.std.specs.List.{fold}
use Rattle.std.proofs.lemmas.List.{map-append, take_more}
use Rattle.std.proofs.lemmas.List.Elements.{filter_more}
use Rattle.std.proofs.lemmas.List.Filters.{length-filter_more}
use Rattle.std.proofs.lemmas.List.Sums.{fold_more}
use Rattle.std.specs.Ordering.{is_lt}
use Rattle.mesh_base_values.specs.Order.{cell_order}
use Rattle.mesh_base_values.specs.declared.values.Cell.{Cell}
use Rattle.mesh_spec_query.specs.Aggregates.{known, larger}
use Rattle.mesh_spec_query.specs.Cells.{is_null}
use Rattle.mesh_spec_query.specs.Sel.{Joined}
use Rattle.mesh_eval_expressions.specs.Frames.{picked}

-- what is made of the rows of a group
pub picked_more : (f : Joined → Cell) (rows : List Joined) (places : List ℕ) (i : ℕ) (was : List Cell) (v : Cell) → i < length places → was ≡ map f (picked rows (take i places))
    → v ≡ f (slice_index_or rows (get_or places i 0) []) → was ++ v ∷ [] ≡ map f (picked rows (take (i + 1) places))
picked_more f rows places i was v lt before value =
    (λ k. before k ++ value k ∷ [])
    ∙ sym (ap (λ (l : List ℕ). map f (picked rows l)) (take_more places i 0 lt)
    ∙ ap (map f) (map-append (λ (at : ℕ). slice_index_or rows at []) (take i places) (get_or places i 0 ∷ []))
    ∙ map-append f (picked rows (take i places)) (slice_index_or rows (get_or places i 0) [] ∷ []))

-- a fold over cells
pub fold_cells : (f : Cell → Cell → Cell) (first : Cell) (cells : List Cell) (i : ℕ) (x : Cell) (was new : Cell) → i < length cells → x ≡ get_or cells i x
    → was ≡ fold f first (take i cells) → new ≡ f was x → new ≡ fold f first (take (i + 1) cells)
fold_cells f first cells i x was new lt here before step = step ∙ (λ k. f (before k) (here k)) ∙ sym (fold_more f first cells i x lt)

-- the cells that aren't NULL
known_more : (cells : List Cell) (i : ℕ) (x : Cell) (b : Bool) → i < length cells → x ≡ get_or cells i x → is_null x ≡ b → known (take (i + 1) cells) ≡ known (take i cells) ++ (if not b then x ∷ [] else [])
known_more cells i x b lt here test =
    filter_more (λ c. not (is_null c)) cells i x lt
    ∙ ap (λ (c : Cell). known (take i cells) ++ (if not (is_null c) then c ∷ [] else [])) (sym here)
    ∙ ap (λ (t : Bool). known (take i cells) ++ (if not t then x ∷ [] else [])) test

pub known_pushed : (cells : List Cell) (i : ℕ) (x : Cell) (was new : List (Bor Cell)) (lent : Bor Cell) → i < length cells → x ≡ get_or cells i x → map (λ (c : Bor Cell). c.now) was ≡ known (take i cells) → is_null x ≡ false
    → lent.now ≡ x → new ≡ was ++ lent ∷ [] → map (λ (c : Bor Cell). c.now) new ≡ known (take (i + 1) cells)
known_pushed cells i x was new lent lt here before test same pushed =
    ap (map (λ (c : Bor Cell). c.now)) pushed ∙ map-append (λ (c : Bor Cell). c.now) was (lent ∷ []) ∙ (λ k. before k ++ same k ∷ []) ∙ sym (known_more cells i x false lt here test)

pub known_passed : (cells : List Cell) (i : ℕ) (x : Cell) (shown : List Cell) → i < length cells → x ≡ get_or cells i x → shown ≡ known (take i cells) → is_null x ≡ true → shown ≡ known (take (i + 1) cells)
known_passed cells i x shown lt here before test = before ∙ sym (known_more cells i x true lt here test ∙ append-nil (known (take i cells)))

pub known_counted : (cells : List Cell) (i : ℕ) (x : Cell) (b : Bool) (was new : ℕ) → i < length cells → x ≡ get_or cells i x → was ≡ length (known (take i cells)) → is_null x ≡ b → new ≡ was + (if not b then 1 else 0)
    → new ≡ length (known (take (i + 1) cells))
known_counted cells i x b was new lt here before test step =
    step ∙ (λ k. before k + (if not ((sym test ∙ ap is_null here) k) then 1 else 0)) ∙ sym (length-filter_more (λ c. not (is_null c)) cells i x lt)

-- the larger of two
pub larger_here : (was x : Cell) → is_lt (cell_order was x) ≡ true → x ≡ larger was x
larger_here was x test = ap (λ (t : Bool). if t then x else was) (sym test)

pub larger_before : (was x : Cell) → is_lt (cell_order was x) ≡ false → was ≡ larger was x
larger_before was x test = ap (λ (t : Bool). if t then x else was) (sym test)
