-- Where the columns of a table stand, so that a row is read by place.
use Rattle.std.specs.Prelude.{ℕ, suc, nat_eq, Bool, true, false, ◌&&◌, List, [], ◌∷◌, length, map, if◌then◌else◌, Some, None, slice_get}
use Rattle.std.specs.List.{list_all}
use Rattle.std.specs.declared.option.Option.{Option}
use Rattle.std.specs.Option.{option_map}
use Rattle.mesh_base_values.specs.declared.values.Cell.{Cell}
use Rattle.mesh_base_values.specs.declared.values.Cell.TheVariants.{Null}
use Rattle.mesh_base_values.specs.declared.values.Column.{Column}
use Rattle.mesh_base_values.specs.Picked.{same_text}

-- the place of the column of that name
abbrev pub place_of : List Column → List ℕ → Option ℕ
place_of [] name = None
place_of (c ∷ cs) name = if same_text c.name name then Some 0 else option_map suc (place_of cs name)

abbrev pub places_of : List Column → List (List ℕ) → List (Option ℕ)
places_of columns names = map (place_of columns) names

abbrev pub or_null : Option Cell → Cell
or_null None = Null
or_null (Some cell) = cell

-- the cell at a place, and NULL where there is none
abbrev pub cell_at : List Cell → Option ℕ → Cell
cell_at row None = Null
cell_at row (Some place) = or_null (slice_get row place)

abbrev pub row_at : List Cell → List (Option ℕ) → List Cell
row_at row places = map (cell_at row) places

abbrev pub rows_at : List (List Cell) → List (Option ℕ) → List (List Cell)
rows_at rows places = map (λ row. row_at row places) rows

-- the place is this one
abbrev pub is_at : ℕ → Option ℕ → Bool
is_at n None = false
is_at n (Some place) = nat_eq place n

-- the places are this one, the next one and so on
abbrev pub are_in_order : ℕ → List (Option ℕ) → Bool
are_in_order n [] = true
are_in_order n (place ∷ places) = is_at n place && are_in_order (suc n) places

-- each row has so many cells
abbrev pub are_wide : ℕ → List (List Cell) → Bool
are_wide width rows = list_all (λ row. nat_eq (length row) width) rows
