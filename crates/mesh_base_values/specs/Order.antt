-- The order of cells and rows.
use Rattle.std.specs.Prelude.{ℕ, Bool, true, false, List}
use Rattle.std.specs.declared.cmp.Ordering.{Ordering}
use Rattle.std.specs.Ordering.{nat_cmp, int_cmp}
use Rattle.std.specs.Cmp.Lexicographic.{slice_cmp}
use Rattle.mesh_base_values.specs.declared.values.Cell.{Cell}
use Rattle.mesh_base_values.specs.declared.values.Cell.TheVariants.{Null, Int, Text, Date, Bool as Truth}

-- Null stands first, then numbers, texts, dates, truth values.
abbrev pub cell_kind : Cell → ℕ
cell_kind Null = 0
cell_kind (Int n) = 1
cell_kind (Text t) = 2
cell_kind (Date d) = 3
cell_kind (Truth b) = 4

abbrev pub truth_number : Bool → ℕ
truth_number false = 0
truth_number true = 1

-- two cells of one kind by their values, and others by their kinds
abbrev pub cell_order : Cell → Cell → Ordering
cell_order (Int m) (Int n) = int_cmp m n
cell_order (Text s) (Text t) = slice_cmp nat_cmp s t
cell_order (Date d) (Date e) = int_cmp d e
cell_order (Truth a) (Truth b) = nat_cmp (truth_number a) (truth_number b)
cell_order a b = nat_cmp (cell_kind a) (cell_kind b)

abbrev pub row_order : List Cell → List Cell → Ordering
row_order = slice_cmp cell_order
