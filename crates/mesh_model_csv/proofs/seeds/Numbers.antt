-- A column that is found to be INT has numbers.
use Rattle.std.proofs.Common.{◌≡◌, ℕ, zero, suc, ◌+◌, Bool, true, false, cond, ◌||◌, List, [], ◌∷◌, map, length, slice_get, Ok, ℤ, refl, ◌∙◌, ap, ap₂, subst, arith}
use Rattle.std.specs.List.{list_all, list_any}
use Rattle.std.specs.Option.{is_some}
use Rattle.std.specs.declared.option.Option.{Option}
use Rattle.std.specs.declared.option.Option.TheVariants.{None, Some}
use Rattle.std.proofs.lemmas.Bool.{and_from as and_both}
use Rattle.csv.specs.Reading.{default_config, records, strip_bom}
use Rattle.mesh_list.proofs.Ascends.{and_left, and_right}
use Rattle.mesh_base_values.specs.declared.values.Cell.TheVariants.{Int as Number}
use Rattle.mesh_base_values.specs.declared.values.ColType.{ColType}
use Rattle.mesh_base_values.specs.declared.values.ColType.TheVariants.{Int, Text, Date}
use Rattle.mesh_time_days.specs.casts.Casts.{number_named}
use Rattle.mesh_base_values.specs.declared.values.Seed.{Seed}
use Rattle.mesh_model_csv.specs.seeds.Cells.{Record, is_filled, is_read, cell_of, row_of, field, is_used, are_read, kind_found, or_null}
use Rattle.mesh_model_csv.specs.seeds.Fits.{is_of, kind_at, cell_at, is_number, are_numbers}
use Rattle.mesh_model_csv.specs.seeds.Headers.{header_fault, header_names}
use Rattle.mesh_model_csv.specs.seeds.Seeds.{record_fault, records_fault, kinds_found, columns_of, seed_rows, seed_under, seed_of, seed_text}
use Rattle.mesh_model_csv.proofs.seeds.Fitting.{cell_is, fields_are, first_none, unless_ok}

-- a column that isn't declared is INT only where a field of it isn't empty and all are read as INT
numbers_are : (c : ℕ) (rs : List Record) → kind_found c rs ≡ Int → (is_used c rs ≡ true) × (are_read Int c rs ≡ true)
numbers_are c rs e = by (is_used c rs) (are_read Int c rs) (are_read Date c rs) e
  where
    by : (used number day : Bool) → cond used (cond number Int (cond day Date Text)) Text ≡ Int → (used ≡ true) × (number ≡ true)
    by true true day h = (refl, refl)
    by true false true h = cc h
    by true false false h = cc h
    by false number day h = cc h

-- the cell of a field that is read as INT is a number, unless the field is empty
filled_number : (f : List ℕ) → is_read Int f ≡ true → is_number (cell_of Int f) ≡ is_filled f
filled_number [] h = refl
filled_number (b ∷ bs) h = by (number_named (b ∷ bs)) h
  where
    by : (o : Option ℤ) → is_some o ≡ true → is_number (or_null Number o) ≡ true
    by None h = cc h
    by (Some n) h = refl

-- a row's cell is that of its record's field
row_cell : (ks : List ColType) (fields : Record) (c : ℕ) (k : ColType) → length fields ≡ length ks → slice_get ks c ≡ Some k → cell_at c (row_of ks fields) ≡ cell_of k (field c fields)
row_cell [] fields c k e at = cc at
row_cell (x ∷ xs) [] c k e at = absurd (omega (e, arith))
row_cell (x ∷ xs) (f ∷ fs) zero k e at = let same : x ≡ k = cc at in ap (λ k. cell_of k f) same
row_cell (x ∷ xs) (f ∷ fs) (suc c) k e at = row_cell xs fs c k (omega (e, arith)) at

some_number : (ks : List ColType) (c r : ℕ) (rs : List Record) → slice_get ks c ≡ Some Int → records_fault r ks rs ≡ None → are_read Int c rs ≡ true
    → list_any (λ row. is_number (cell_at c row)) (map (row_of ks) rs) ≡ is_used c rs
some_number ks c r [] at h read = refl
some_number ks c r (fields ∷ rs) at h read =
    let both = first_none (record_fault r ks fields) (records_fault (r + 1) ks rs) h in
    ap₂ ◌||◌
    (ap is_number (row_cell ks fields c Int (fields_are r ks fields both.0) at) ∙ filled_number (field c fields) (and_left _ _ read))
    (some_number ks c (r + 1) rs at both.1 (and_right _ _ read))

all_numbers : (ks : List ColType) (c r : ℕ) (rs : List Record) → slice_get ks c ≡ Some Int → records_fault r ks rs ≡ None
    → list_all (λ row. is_of Int (cell_at c row)) (map (row_of ks) rs) ≡ true
all_numbers ks c r [] at h = refl
all_numbers ks c r (fields ∷ rs) at h =
    let both = first_none (record_fault r ks fields) (records_fault (r + 1) ks rs) h in
    and_both _ _
    (ap (is_of Int) (row_cell ks fields c Int (fields_are r ks fields both.0) at) ∙ cell_is Int (field c fields))
    (all_numbers ks c (r + 1) rs at both.1)

-- a column's type is the one found for its place
found_at : (from : ℕ) (names : List (List ℕ)) (rs : List Record) (c place : ℕ) (k : ColType) → from + c ≡ place → slice_get (kinds_found from names rs) c ≡ Some k → kind_found place rs ≡ k
found_at from [] rs c place k same at = cc at
found_at from (n ∷ ns) rs zero place k same at =
    let here : from ≡ place = omega (same, arith) in
    let found : kind_found from rs ≡ k = cc at in
    subst (λ (c : ℕ). kind_found c rs ≡ k) here found
found_at from (n ∷ ns) rs (suc c) place k same at = found_at (from + 1) ns rs c place k (omega (same, arith)) at

kind_is : (names : List (List ℕ)) (ks : List ColType) (c : ℕ) (k : ColType) → kind_at c (columns_of names ks) ≡ Some k → slice_get ks c ≡ Some k
kind_is [] ks c k e = cc e
kind_is (n ∷ ns) [] c k e = cc e
kind_is (n ∷ ns) (x ∷ xs) zero k e = e
kind_is (n ∷ ns) (x ∷ xs) (suc c) k e = kind_is ns xs c k e

under_found : (names : List (List ℕ)) (rs : List Record) (seed : Seed) (c : ℕ) → seed_under [] names rs ≡ Ok seed → kind_at c seed.columns ≡ Some Int → are_numbers c seed.rows ≡ true
under_found names rs seed c e kind =
    let ks = kinds_found 0 names rs in
    let read = unless_ok (records_fault 2 ks rs) (Ok (seed_rows names ks rs)) seed e in
    let is : seed_rows names ks rs ≡ seed = cc read.1 in
    subst (λ (s : Seed). kind_at c s.columns ≡ Some Int → are_numbers c s.rows ≡ true) is (rows_found ks read.0 (found_at 0 names rs c c Int (omega arith))) kind
  where
    rows_found : (ks : List ColType) → records_fault 2 ks rs ≡ None → (slice_get ks c ≡ Some Int → kind_found c rs ≡ Int) → kind_at c (columns_of names ks) ≡ Some Int → are_numbers c (map (row_of ks) rs) ≡ true
    rows_found ks fine found kind =
        let at = kind_is names ks c Int kind in
        let numbers = numbers_are c rs (found at) in
        and_both _ _ (some_number ks c 2 rs at fine numbers.1 ∙ numbers.0) (all_numbers ks c 2 rs at fine)

records_found : (rs : List Record) (seed : Seed) (c : ℕ) → seed_of [] rs ≡ Ok seed → kind_at c seed.columns ≡ Some Int → are_numbers c seed.rows ≡ true
records_found [] seed c e kind = cc e
records_found (header ∷ rs) seed c e kind =
    under_found (header_names header) rs seed c (unless_ok (header_fault header) (seed_under [] (header_names header) rs) seed e).1 kind

pub numbers_found : (bytes : List ℕ) (seed : Seed) (c : ℕ) → seed_text [] bytes ≡ Ok seed → kind_at c seed.columns ≡ Some Int → are_numbers c seed.rows ≡ true
numbers_found bytes seed c e kind = records_found (records default_config (strip_bom bytes)) seed c e kind
