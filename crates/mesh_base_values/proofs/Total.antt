-- The order of cells and rows is total, and ties only equal ones.
use Rattle.std.proofs.Common.{◌≡◌, refl, ap, subst, rules, List, [], ◌∷◌}
use Rattle.std.specs.declared.cmp.Ordering.{Ordering}
use Rattle.std.specs.declared.cmp.Ordering.TheVariants.{Equal}
use Rattle.std.specs.Ordering.{is_lt}
use Rattle.std.specs.Cmp.{IsTotalOrder}
use Rattle.std.specs.Cmp.Lexicographic.{lists_total, slice_cmp}
use Rattle.std.specs.List.Sorted.{IsSortedBy}
use Rattle.std.proofs.lemmas.List.Sorted.{sorted_far, ranks_by}
use Rattle.std.proofs.lemmas.Map.Lookups.{exact_signed, exact_bytes}
use Rattle.mesh_base_values.specs.declared.values.Cell.{Cell}
use Rattle.mesh_base_values.specs.declared.values.Cell.TheVariants.{Null, Int, Text, Date, Bool as Truth}
use Rattle.mesh_base_values.specs.NameOrder.{then_equal}
use Rattle.mesh_base_values.specs.Order.{cell_order, row_order}
use Rattle.mesh_base_values.specs.Bag.{IsAscending}
use Rattle.mesh_base_values.specs.contracts.values.CellOrd.TheImpl.{cmp-value}
use Rattle.mesh_base_values.specs.contracts.values.CellOrd.TheImpl.Laws.{total-law}

pub cell_is : (a b : Cell) → cmp-value.it a b ≡ cell_order a b
cell_is a b = search rules

pub cell_total : IsTotalOrder cell_order
cell_total = let P : (Cell → Cell → Ordering) → Type 0 = λ R. IsTotalOrder R in subst P (λ i a b. cell_is a b i) total-law

pub row_total : IsTotalOrder row_order
row_total = lists_total cell_total

-- what a sort by the derived order leaves
pub ascending_from_sort : (rows : List (List Cell)) → IsSortedBy (λ x y. is_lt (slice_cmp cmp-value.it x y)) rows → IsAscending rows
ascending_from_sort rows up =
    let P : (Cell → Cell → Ordering) → Type 0 = λ R. IsSortedBy (λ x y. is_lt (slice_cmp R x y)) rows in
    sorted_far _ (ranks_by row_total (λ x. x)) rows (subst P (λ i a b. cell_is a b i) up)

-- cells that tie are the same
pub cell_exact : (a b : Cell) → cell_order a b ≡ Equal → a ≡ b
cell_exact Null Null e = refl
cell_exact Null (Int n) e = cc
cell_exact Null (Text t) e = cc
cell_exact Null (Date d) e = cc
cell_exact Null (Truth b) e = cc
cell_exact (Int m) Null e = cc
cell_exact (Int m) (Int n) e = ap Int (exact_signed m n e)
cell_exact (Int m) (Text t) e = cc
cell_exact (Int m) (Date d) e = cc
cell_exact (Int m) (Truth b) e = cc
cell_exact (Text s) Null e = cc
cell_exact (Text s) (Int n) e = cc
cell_exact (Text s) (Text t) e = ap Text (exact_bytes s t e)
cell_exact (Text s) (Date d) e = cc
cell_exact (Text s) (Truth b) e = cc
cell_exact (Date c) Null e = cc
cell_exact (Date c) (Int n) e = cc
cell_exact (Date c) (Text t) e = cc
cell_exact (Date c) (Date d) e = ap Date (exact_signed c d e)
cell_exact (Date c) (Truth b) e = cc
cell_exact (Truth a) Null e = cc
cell_exact (Truth a) (Int n) e = cc
cell_exact (Truth a) (Text t) e = cc
cell_exact (Truth a) (Date d) e = cc
cell_exact (Truth a) (Truth b) e = search rules

-- rows that tie are the same
pub row_exact : (xs ys : List Cell) → row_order xs ys ≡ Equal → xs ≡ ys
row_exact [] [] e = refl
row_exact [] (y ∷ ys) e = cc
row_exact (x ∷ xs) [] e = cc
row_exact (x ∷ xs) (y ∷ ys) e =
    let both = then_equal (cell_order x y) (row_order xs ys) e in
    let first : x ≡ y = cell_exact x y both.0 in
    let rest : xs ≡ ys = row_exact xs ys both.1 in
    cc
