-- What a field of a record is as a cell of a type.
use Rattle.std.specs.Prelude.{ℕ, Bool, true, false, ◌||◌, ◌==◌, List, [], ◌∷◌, length, slice_index_or, if◌then◌else◌}
use Rattle.std.specs.List.{list_all, list_any}
use Rattle.std.specs.Option.{option_map, is_some, unwrap_or}
use Rattle.std.specs.Str.Lossy.{utf8_valid_len}
use Rattle.std.specs.declared.option.Option.{Option}
use Rattle.std.specs.declared.option.Option.TheVariants.{None, Some}
use Rattle.mesh_base_values.specs.declared.values.Cell.{Cell}
use Rattle.mesh_base_values.specs.declared.values.Cell.TheVariants.{Null, Int as Number, Text as Words, Date as Day, Bool as Truth}
use Rattle.mesh_base_values.specs.declared.values.ColType.{ColType}
use Rattle.mesh_base_values.specs.declared.values.ColType.TheVariants.{Int, Text, Date, Bool as Logical}
use Rattle.mesh_time_days.specs.casts.Casts.{number_named, truth_named}
use Rattle.mesh_time_days.specs.casts.Dates.{day_named}

abbrev pub Record : Type 0
Record = List (List ℕ)

abbrev pub is_empty_text : List ℕ → Bool
is_empty_text [] = true
is_empty_text (b ∷ bs) = false

abbrev pub is_filled : List ℕ → Bool
is_filled [] = false
is_filled (b ∷ bs) = true

-- bytes are UTF-8
abbrev pub is_utf8 : List ℕ → Bool
is_utf8 bytes = utf8_valid_len bytes == length bytes

-- whether a field that isn't empty has a value of a type
abbrev pub has_value : ColType → List ℕ → Bool
has_value Int field = is_some (number_named field)
has_value Text field = is_utf8 field
has_value Date field = is_some (day_named field)
has_value Logical field = is_some (truth_named field)

-- an empty field is NULL
abbrev pub is_read : ColType → List ℕ → Bool
is_read kind field = is_empty_text field || has_value kind field

abbrev pub or_null : {A : Type 0} → (A → Cell) → Option A → Cell
or_null cell None = Null
or_null cell (Some x) = cell x

-- the value of a field that has one
abbrev pub value_of : ColType → List ℕ → Cell
value_of Int field = or_null Number (number_named field)
value_of Text field = Words field
value_of Date field = or_null Day (day_named field)
value_of Logical field = or_null Truth (truth_named field)

abbrev pub cell_of : ColType → List ℕ → Cell
cell_of kind [] = Null
cell_of kind (b ∷ bs) = value_of kind (b ∷ bs)

-- the row of a record that has a field for each column
abbrev pub row_of : List ColType → Record → List Cell
row_of [] fields = []
row_of (k ∷ ks) [] = []
row_of (k ∷ ks) (f ∷ fs) = cell_of k f ∷ row_of ks fs

-- the field at a place of a record, and an empty one where it has none
abbrev pub field : ℕ → Record → List ℕ
field c fields = slice_index_or fields c []

-- a column has a field that isn't empty
abbrev pub is_used : ℕ → List Record → Bool
is_used c records = list_any (λ r. is_filled (field c r)) records

-- all fields of a column are read as a type
abbrev pub are_read : ColType → ℕ → List Record → Bool
are_read kind c records = list_all (λ r. is_read kind (field c r)) records

-- The type of a column that isn't declared: INT, else DATE, where it has a field that isn't empty and all are read so,
-- and TEXT otherwise.
abbrev pub kind_found : ℕ → List Record → ColType
kind_found c records =
    if is_used c records then (if are_read Int c records then Int else (if are_read Date c records then Date else Text))
    else Text
