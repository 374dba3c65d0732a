-- Bags of rows, by counts, and ascending lists of rows.
use Rattle.std.specs.Prelude.{◌≡◌, ◌<◌, ◌≤◌, ℕ, false, List, length, count_by, slice_index_or}
use Rattle.std.specs.Ordering.{is_eq, is_lt}
use Rattle.mesh_base_values.specs.declared.values.Cell.{Cell}
use Rattle.mesh_base_values.specs.Order.{row_order}

-- how often a row stands in a list
abbrev pub times : List Cell → List (List Cell) → ℕ
times row rows = count_by (λ x. is_eq (row_order row x)) rows

-- the same rows, each as often
abbrev pub IsSameBag : List (List Cell) → List (List Cell) → Type 0
IsSameBag xs ys = (row : List Cell) → times row xs ≡ times row ys

-- no row is less than one before it
abbrev pub IsAscending : List (List Cell) → Type 0
IsAscending rows = (i j : ℕ) (d : List Cell) → i ≤ j → j < length rows → is_lt (row_order (slice_index_or rows j d) (slice_index_or rows i d)) ≡ false

-- a bag has one ascending list
abbrev pub HasOneOrder : Type 0
HasOneOrder = (xs ys : List (List Cell)) → IsAscending xs → IsAscending ys → IsSameBag xs ys → xs ≡ ys
