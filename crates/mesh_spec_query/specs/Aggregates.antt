-- The values of aggregates over a list of cells.
use Rattle.std.specs.Prelude.{ℤ, pos, ◌+ℤ◌, Bool, true, false, not, if◌then◌else◌, List, [], ◌∷◌, ◌++◌, length}
use Rattle.std.specs.List.{fold, filter, list_any}
use Rattle.std.specs.Ordering.{is_eq, is_lt}
use Rattle.mesh_base_values.specs.Order.{cell_order}
use Rattle.mesh_base_values.specs.declared.values.Cell.{Cell}
use Rattle.mesh_base_values.specs.declared.values.Cell.TheVariants.{Null, Int}
use Rattle.mesh_base.specs.declared.expressions.AggKind.{AggKind}
use Rattle.mesh_base.specs.declared.expressions.AggKind.TheVariants.{Count, Countd, Sum, Min, Max}
use Rattle.mesh_spec_query.specs.Cells.{is_null, number}

-- one of each, in the order in which they first stand
abbrev pub distinct : {A : Type 0} → (A → A → Bool) → List A → List A
distinct same xs = fold (λ seen x. if list_any (same x) seen then seen else seen ++ x ∷ []) [] xs

abbrev pub same_cell : Cell → Cell → Bool
same_cell x y = is_eq (cell_order y x)

abbrev pub known : List Cell → List Cell
known cells = filter (λ c. not (is_null c)) cells

abbrev pub is_number : Cell → Bool
is_number (Int n) = true
is_number _ = false

abbrev pub addend : Cell → ℤ
addend (Int n) = n
addend _ = pos 0

-- NULL where there is no number
abbrev pub total : List Cell → Cell
total cells = if list_any is_number cells then number (fold (λ sum c. sum +ℤ addend c) (pos 0) cells) else Null

abbrev pub smaller : Cell → Cell → Cell
smaller x y = if is_null x then y else if is_null y then x else if is_lt (cell_order y x) then y else x

-- NULL stands below all
abbrev pub larger : Cell → Cell → Cell
larger x y = if is_lt (cell_order x y) then y else x

abbrev pub count_of : {A : Type 0} → List A → Cell
count_of xs = Int (pos (length xs))

abbrev pub agg_value : AggKind → List Cell → Cell
agg_value Count cells = count_of (known cells)
agg_value Countd cells = count_of (distinct same_cell (known cells))
agg_value Sum cells = total cells
agg_value Min cells = fold smaller Null cells
agg_value Max cells = fold larger Null cells
