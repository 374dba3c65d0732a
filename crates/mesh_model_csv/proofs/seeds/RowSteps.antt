-- The fields of a record beside the types of its columns, one after the other.
use Rattle.std.proofs.Common.{◌≡◌, ℕ, ◌+◌, ◌<◌, ◌≤◌, Bool, true, false, cond, List, [], ◌∷◌, ◌++◌, drop, length, slice_get, get_or, refl, sym, ◌∙◌, ap, arith}
use Rattle.std.proofs.lemmas.List.{append-nil, append_assoc, drop_more}
use Rattle.std.specs.declared.option.Option.{Option}
use Rattle.std.specs.declared.option.Option.TheVariants.{None, Some}
use Rattle.mesh_base_values.specs.declared.values.Cell.{Cell}
use Rattle.mesh_base_values.specs.declared.values.ColType.{ColType}
use Rattle.mesh_base_values.specs.declared.values.Column.{Column}
use Rattle.mesh_model_csv.specs.seeds.Cells.{Record, is_read, cell_of, row_of, kind_found}
use Rattle.mesh_query_tokens.specs.declared.faults.ReadFault.{ReadFault}
use Rattle.mesh_model_csv.specs.seeds.Seeds.{unread_field, records_fault, kinds_found, column, columns_of}
use Rattle.mesh_model_csv.proofs.seeds.Places.{here, past, behind_all}

-- the first unread field from a place on
abbrev pub unread_from : List ColType → Record → ℕ → Option ℕ
unread_from ks fields i = unread_field (i + 1) (drop i ks) (drop i fields)

unread_at : (d : ColType) (ks : List ColType) (fields : Record) (i : ℕ) (f : List ℕ) → i < length ks → slice_get fields i ≡ Some f
    → unread_from ks fields i ≡ cond (is_read (get_or ks i d) f) (unread_from ks fields (i + 1)) (Some (i + 1))
unread_at d ks fields i f lt e = rw (drop_more ks i d lt, here fields i f e) refl

pub unread_goes : (d : ColType) (ks : List ColType) (fields : Record) (i : ℕ) (f : List ℕ) (total : Option ℕ) → i < length ks → slice_get fields i ≡ Some f
    → is_read (get_or ks i d) f ≡ true → unread_from ks fields i ≡ total → unread_from ks fields (i + 1) ≡ total
unread_goes d ks fields i f total lt e read so_far =
    sym (unread_at d ks fields i f lt e ∙ ap (λ (b : Bool). cond b (unread_from ks fields (i + 1)) (Some (i + 1))) read) ∙ so_far

pub unread_stops : (d : ColType) (ks : List ColType) (fields : Record) (i : ℕ) (f : List ℕ) (total : Option ℕ) → i < length ks → slice_get fields i ≡ Some f
    → is_read (get_or ks i d) f ≡ false → unread_from ks fields i ≡ total → total ≡ Some (i + 1)
unread_stops d ks fields i f total lt e read so_far =
    sym so_far ∙ unread_at d ks fields i f lt e ∙ ap (λ (b : Bool). cond b (unread_from ks fields (i + 1)) (Some (i + 1))) read

nothing_left : (c : ℕ) (ks : List ColType) → unread_field c ks [] ≡ None
nothing_left c [] = refl
nothing_left c (k ∷ ks) = refl

pub unread_short : (ks : List ColType) (fields : Record) (i : ℕ) (total : Option ℕ) → slice_get fields i ≡ None → unread_from ks fields i ≡ total → total ≡ None
unread_short ks fields i total e so_far = sym so_far ∙ ap (unread_field (i + 1) (drop i ks)) (past fields i e) ∙ nothing_left (i + 1) (drop i ks)

pub unread_ends : (ks : List ColType) (fields : Record) (i : ℕ) (total : Option ℕ) → length ks ≤ i → unread_from ks fields i ≡ total → total ≡ None
unread_ends ks fields i total le so_far = sym so_far ∙ ap (λ l. unread_field (i + 1) l (drop i fields)) (behind_all ks i le)

-- the cells so far, and those of the fields from a place on
abbrev pub row_from : List ColType → Record → ℕ → List Cell → List Cell
row_from ks fields i made = made ++ row_of (drop i ks) (drop i fields)

pub row_goes : (d : ColType) (ks : List ColType) (fields : Record) (i : ℕ) (f : List ℕ) (made : List Cell) (x : Cell) (total : List Cell) → i < length ks
    → slice_get fields i ≡ Some f → x ≡ cell_of (get_or ks i d) f → row_from ks fields i made ≡ total → row_from ks fields (i + 1) (made ++ x ∷ []) ≡ total
row_goes d ks fields i f made x total lt e is so_far =
    let one : row_of (drop i ks) (drop i fields) ≡ cell_of (get_or ks i d) f ∷ row_of (drop (i + 1) ks) (drop (i + 1) fields) = rw (drop_more ks i d lt, here fields i f e) refl in
    rw is (append_assoc made (cell_of (get_or ks i d) f ∷ []) (row_of (drop (i + 1) ks) (drop (i + 1) fields)) ∙ ap (λ l. made ++ l) (sym one)) ∙ so_far

no_cells : (ks : List ColType) → row_of ks [] ≡ []
no_cells [] = refl
no_cells (k ∷ ks) = refl

pub row_short : (ks : List ColType) (fields : Record) (i : ℕ) (made total : List Cell) → slice_get fields i ≡ None → row_from ks fields i made ≡ total → made ≡ total
row_short ks fields i made total e so_far =
    sym (append-nil made) ∙ ap (λ l. made ++ l) (sym (ap (row_of (drop i ks)) (past fields i e) ∙ no_cells (drop i ks))) ∙ so_far

pub row_ends : (ks : List ColType) (fields : Record) (i : ℕ) (made total : List Cell) → length ks ≤ i → row_from ks fields i made ≡ total → made ≡ total
row_ends ks fields i made total le so_far = sym (append-nil made) ∙ ap (λ l. made ++ l) (sym (ap (λ l. row_of l (drop i fields)) (behind_all ks i le))) ∙ so_far

-- the first fault of the records from a place on
abbrev pub fault_at : List ColType → List Record → ℕ → Option ReadFault
fault_at ks rs i = records_fault (i + 2) ks (drop i rs)

-- the types found so far, and those of the columns from a place on
abbrev pub kinds_from : List (List ℕ) → List Record → ℕ → List ColType → List ColType
kinds_from names rs i made = made ++ kinds_found i (drop i names) rs

pub kind_goes : (d : List ℕ) (names : List (List ℕ)) (rs : List Record) (i : ℕ) (made : List ColType) (k : ColType) (total : List ColType) → i < length names
    → k ≡ kind_found i rs → kinds_from names rs i made ≡ total → kinds_from names rs (i + 1) (made ++ k ∷ []) ≡ total
kind_goes d names rs i made k total lt is so_far =
    let one : kinds_found i (drop i names) rs ≡ kind_found i rs ∷ kinds_found (i + 1) (drop (i + 1) names) rs = ap (λ l. kinds_found i l rs) (drop_more names i d lt) in
    rw is (append_assoc made (kind_found i rs ∷ []) (kinds_found (i + 1) (drop (i + 1) names) rs) ∙ ap (λ l. made ++ l) (sym one)) ∙ so_far

pub kinds_end : (names : List (List ℕ)) (rs : List Record) (i : ℕ) (made total : List ColType) → length names ≤ i → kinds_from names rs i made ≡ total → made ≡ total
kinds_end names rs i made total le so_far = sym (append-nil made) ∙ ap (λ l. made ++ l) (sym (ap (λ l. kinds_found i l rs) (behind_all names i le))) ∙ so_far

-- the columns so far, and those from a place on
abbrev pub columns_from : List (List ℕ) → List ColType → ℕ → List Column → List Column
columns_from names ks i made = made ++ columns_of (drop i names) (drop i ks)

pub column_goes : (names : List (List ℕ)) (ks : List ColType) (i : ℕ) (n : List ℕ) (k : ColType) (made : List Column) (x : Column) (total : List Column) → i < length names
    → n ≡ get_or names i n → slice_get ks i ≡ Some k → x ≡ column n k → columns_from names ks i made ≡ total → columns_from names ks (i + 1) (made ++ x ∷ []) ≡ total
column_goes names ks i n k made x total lt at e is so_far =
    let one : columns_of (drop i names) (drop i ks) ≡ column n k ∷ columns_of (drop (i + 1) names) (drop (i + 1) ks) = rw (drop_more names i n lt, ← at, here ks i k e) refl in
    rw is (append_assoc made (column n k ∷ []) (columns_of (drop (i + 1) names) (drop (i + 1) ks)) ∙ ap (λ l. made ++ l) (sym one)) ∙ so_far

no_columns : (names : List (List ℕ)) → columns_of names [] ≡ []
no_columns [] = refl
no_columns (n ∷ ns) = refl

pub columns_short : (names : List (List ℕ)) (ks : List ColType) (i : ℕ) (made total : List Column) → slice_get ks i ≡ None → columns_from names ks i made ≡ total → made ≡ total
columns_short names ks i made total e so_far =
    sym (append-nil made) ∙ ap (λ l. made ++ l) (sym (ap (columns_of (drop i names)) (past ks i e) ∙ no_columns (drop i names))) ∙ so_far

pub columns_end : (names : List (List ℕ)) (ks : List ColType) (i : ℕ) (made total : List Column) → length names ≤ i → columns_from names ks i made ≡ total → made ≡ total
columns_end names ks i made total le so_far = sym (append-nil made) ∙ ap (λ l. made ++ l) (sym (ap (λ l. columns_of l (drop i ks)) (behind_all names i le))) ∙ so_far
