-- Which models each model stands on, as a row of bits, one for the place of each.
use Rattle.std.specs.Prelude.{◌≡◌, ℕ, ◌/◌, ◌%◌, Bool, false, nat_eq, slice_index_or, List, Some, None}
use Rattle.std.specs.Int.{bit_at}
use Rattle.std.specs.List.{AllZip, list_any, slice_get}
use Rattle.std.specs.declared.option.Option.{Option}
use Rattle.mesh_base.specs.declared.snapshots.Node.{Node}
use Rattle.mesh_spec_model.specs.Closures.{Closure}
use Rattle.mesh_spec_changes.specs.due.Dues.{descends}

-- the bit of a place is set
abbrev pub has_bit : List ℕ → ℕ → Bool
has_bit row p = nat_eq (bit_at (slice_index_or row (p / 64) 0) (p % 64)) 1

abbrev pub bit_in : Option (List ℕ) → ℕ → Bool
bit_in None p = false
bit_in (Some row) p = has_bit row p

-- the row at a place has a bit, and one of the rows at these places has it
abbrev pub row_has : List (List ℕ) → ℕ → ℕ → Bool
row_has rows p place = bit_in (slice_get rows place) p

abbrev pub any_row : List (List ℕ) → ℕ → List ℕ → Bool
any_row rows p places = list_any (row_has rows p) places

-- a row has the bit of each model that has the name of the closure or of one of its ancestors
abbrev pub IsLineage : List Node → Closure → List ℕ → Type 0
IsLineage nodes c row = (p : ℕ) (n : Node) → slice_get nodes p ≡ Some n → has_bit row p ≡ descends n.own.name c

abbrev pub HaveLineages : List Node → List Closure → List (List ℕ) → Type 0
HaveLineages nodes cs rows = AllZip (IsLineage nodes) cs rows
