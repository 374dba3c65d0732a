-- A row is read by place as it is by name.
use Rattle.std.proofs.Common.{◌≡◌, ℕ, zero, suc, ◌+◌, ◌<◌, Bool, true, false, cond, List, [], ◌∷◌, ◌++◌, length, map, take, drop, get_or, slice_get, Some, None, refl, sym, ◌∙◌, ap, arith}
use Rattle.std.proofs.lemmas.List.{take_more, map-append, drop_all, drop_more}
use Rattle.std.proofs.lemmas.Bool.{eqb-true}
use Rattle.std.proofs.lemmas.Option.{slice_get-get_or}
use Rattle.std.specs.declared.option.Option.{Option}
use Rattle.std.specs.Option.{option_map}
use Rattle.mesh_base_values.specs.declared.values.Cell.{Cell}
use Rattle.mesh_base_values.specs.declared.values.Cell.TheVariants.{Null}
use Rattle.mesh_base_values.specs.declared.values.Column.{Column}
use Rattle.mesh_base_values.specs.Picked.{same_text, cell_of, picked_row, picked_rows}
use Rattle.mesh_list.proofs.Ascends.{and_left, and_right}
use Rattle.mesh_layer.specs.Places.{place_of, places_of, or_null, cell_at, row_at, rows_at, is_at, are_in_order, are_wide}

cell_at-empty : (place : Option ℕ) → cell_at [] place ≡ Null
cell_at-empty None = refl
cell_at-empty (Some zero) = refl
cell_at-empty (Some (suc k)) = refl

cell_at-later : (x : Cell) (xs : List Cell) (place : Option ℕ) → cell_at (x ∷ xs) (option_map suc place) ≡ cell_at xs place
cell_at-later x xs None = refl
cell_at-later x xs (Some k) = refl

by_test : (b : Bool) (x : Cell) (xs : List Cell) (place : Option ℕ) (cell : Cell) → cell_at xs place ≡ cell → cell_at (x ∷ xs) (cond b (Some 0) (option_map suc place)) ≡ cond b x cell
by_test true x xs place cell is = refl
by_test false x xs place cell is = cell_at-later x xs place ∙ is

pub cell_at-place_of : (columns : List Column) (row : List Cell) (name : List ℕ) → cell_at row (place_of columns name) ≡ cell_of columns row name
cell_at-place_of [] row name = refl
cell_at-place_of (c ∷ cs) [] name = cell_at-empty (place_of (c ∷ cs) name)
cell_at-place_of (c ∷ cs) (x ∷ xs) name = by_test (same_text c.name name) x xs (place_of cs name) (cell_of cs xs name) (cell_at-place_of cs xs name)

pub row_at-places_of : (names : List (List ℕ)) (columns : List Column) (row : List Cell) → row_at row (places_of columns names) ≡ picked_row names columns row
row_at-places_of [] columns row = refl
row_at-places_of (n ∷ ns) columns row = λ i. cell_at-place_of columns row n i ∷ row_at-places_of ns columns row i

pub rows_at-places_of : (names : List (List ℕ)) (columns : List Column) (rows : List (List Cell)) → rows_at rows (places_of columns names) ≡ picked_rows names columns rows
rows_at-places_of names columns [] = refl
rows_at-places_of names columns (row ∷ rows) = λ i. row_at-places_of names columns row i ∷ rows_at-places_of names columns rows i

-- one more place
pub places_of-more : (columns declared : List Column) (i : ℕ) (d : Column) → i < length declared → d ≡ get_or declared i d
    → places_of columns (map (λ (c : Column). c.name) (take (i + 1) declared)) ≡ places_of columns (map (λ (c : Column). c.name) (take i declared)) ++ place_of columns d.name ∷ []
places_of-more columns declared i d lt here =
    ap (λ (l : List Column). places_of columns (map (λ (c : Column). c.name) l)) (take_more declared i d lt ∙ ap (λ r. take i declared ++ r ∷ []) (sym here))
    ∙ ap (places_of columns) (map-append (λ (c : Column). c.name) (take i declared) (d ∷ []))
    ∙ map-append (place_of columns) (map (λ (c : Column). c.name) (take i declared)) (d.name ∷ [])

-- one more cell
pub row_at-more : (row : List Cell) (places : List (Option ℕ)) (i : ℕ) (d : Option ℕ) → i < length places → row_at row (take (i + 1) places) ≡ row_at row (take i places) ++ cell_at row (get_or places i d) ∷ []
row_at-more row places i d lt = ap (row_at row) (take_more places i d lt) ∙ map-append (cell_at row) (take i places) (get_or places i d ∷ [])

-- one more row
pub rows_at-more : (rows : List (List Cell)) (places : List (Option ℕ)) (i : ℕ) (row : List Cell) → i < length rows → row ≡ get_or rows i row → rows_at (take (i + 1) rows) places ≡ rows_at (take i rows) places ++ row_at row places ∷ []
rows_at-more rows places i row lt here =
    ap (λ all. rows_at all places) (take_more rows i row lt ∙ ap (λ r. take i rows ++ r ∷ []) (sym here))
    ∙ map-append (λ r. row_at r places) (take i rows) (row ∷ [])

cell_there : (row : List Cell) (n : ℕ) (place : Option ℕ) → is_at n place ≡ true → n < length row → cell_at row place ≡ get_or row n Null
cell_there row n None at inside = absurd (let no : false ≡ true = at in cc)
cell_there row n (Some k) at inside = ap (λ j. or_null (slice_get row j)) (eqb-true k n at) ∙ ap or_null (slice_get-get_or row n Null inside)

-- places in order are those of the cells that follow
cells_from : (row : List Cell) (n : ℕ) (places : List (Option ℕ)) → are_in_order n places ≡ true → n + length places ≡ length row → row_at row places ≡ drop n row
cells_from row n [] ordered long = sym (drop_all n row (omega (arith, long)))
cells_from row n (place ∷ places) ordered long =
    let inside : n < length row = omega (arith, long) in
    (λ i. cell_there row n place (and_left _ _ ordered) inside i ∷ cells_from row (suc n) places (and_right _ _ ordered) (omega (arith, long)) i)
    ∙ (let on : suc n ≡ n + 1 = omega arith in ap (λ k. get_or row n Null ∷ drop k row) on)
    ∙ sym (drop_more row n Null inside)

-- rows are themselves, read by the places of all their cells in order
pub rows_in_order : (places : List (Option ℕ)) (rows : List (List Cell)) → are_in_order 0 places ≡ true → are_wide (length places) rows ≡ true → rows_at rows places ≡ rows
rows_in_order places [] ordered wide = refl
rows_in_order places (row ∷ rows) ordered wide =
    let long : length row ≡ length places = eqb-true (length row) (length places) (and_left _ _ wide) in
    λ i. cells_from row 0 places ordered (omega (arith, long)) i ∷ rows_in_order places rows ordered (and_right _ _ wide) i

-- so they are picked themselves, where the declared columns are all columns in their order
pub picked_themselves : (names : List (List ℕ)) (columns : List Column) (rows : List (List Cell)) (places : List (Option ℕ)) (width : ℕ) → places ≡ places_of columns names → width ≡ length places → are_in_order 0 places ≡ true → are_wide width rows ≡ true → rows ≡ picked_rows names columns rows
picked_themselves names columns rows places width are long ordered wide =
    sym (rows_in_order places rows ordered (ap (λ n. are_wide n rows) (sym long) ∙ wide)) ∙ ap (rows_at rows) are ∙ rows_at-places_of names columns rows
