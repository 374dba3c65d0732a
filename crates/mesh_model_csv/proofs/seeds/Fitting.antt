-- The rows of a seed fit its columns.
use Rattle.std.proofs.Common.{◌≡◌, ℕ, suc, ◌+◌, ◌==◌, Bool, true, false, cond, List, [], ◌∷◌, map, length, Result, Ok, ℤ, refl, sym, ap, subst, arith}
use Rattle.std.proofs.lemmas.List.{length-map}
use Rattle.std.specs.List.{list_all}
use Rattle.std.specs.Option.{option_map}
use Rattle.std.specs.declared.option.Option.{Option}
use Rattle.std.specs.declared.option.Option.TheVariants.{None, Some}
use Rattle.std.proofs.lemmas.Bool.{and_from as and_both}
use borrow.Author.Tests.{eqb-true}
use Rattle.csv.specs.Reading.{default_config, records, strip_bom}
use Rattle.mesh_base_values.specs.declared.values.Cell.TheVariants.{Int as Number, Date as Day, Bool as Truth}
use Rattle.mesh_base_values.specs.declared.values.Column.{Column}
use Rattle.mesh_base_values.specs.declared.values.ColType.{ColType}
use Rattle.mesh_base_values.specs.declared.values.ColType.TheVariants.{Int, Text, Date, Bool as Logical}
use Rattle.mesh_query_tokens.specs.declared.faults.ReadFault.{ReadFault}
use Rattle.mesh_time_days.specs.casts.Casts.{number_named, truth_named}
use Rattle.mesh_time_days.specs.casts.Dates.{day_named}
use Rattle.mesh_base_values.specs.declared.values.Seed.{Seed}
use Rattle.mesh_model_csv.specs.seeds.Cells.{Record, value_of, cell_of, row_of, or_null}
use Rattle.mesh_model_csv.specs.seeds.Fits.{is_of, fits}
use Rattle.mesh_model_csv.specs.seeds.Headers.{bad_row, first_of, header_fault, header_names}
use Rattle.mesh_model_csv.specs.seeds.Seeds.{unread_field, record_fault, records_fault, shape_fault, kinds, kinds_found, columns_of, seed_rows, seed_under, seed_of, seed_text, unless}

number_is : (o : Option ℤ) → is_of Int (or_null Number o) ≡ true
number_is None = refl
number_is (Some n) = refl

day_is : (o : Option ℤ) → is_of Date (or_null Day o) ≡ true
day_is None = refl
day_is (Some n) = refl

truth_is : (o : Option Bool) → is_of Logical (or_null Truth o) ≡ true
truth_is None = refl
truth_is (Some b) = refl

-- a field's cell is of its column's type
value_is : (k : ColType) (f : List ℕ) → is_of k (value_of k f) ≡ true
value_is Int f = number_is (number_named f)
value_is Text f = refl
value_is Date f = day_is (day_named f)
value_is Logical f = truth_is (truth_named f)

pub cell_is : (k : ColType) (f : List ℕ) → is_of k (cell_of k f) ≡ true
cell_is k [] = refl
cell_is k (b ∷ bs) = value_is k (b ∷ bs)

-- a record of the right length gives a row that fits
row_fits : (names : List (List ℕ)) (ks : List ColType) (fields : Record) → length names ≡ length ks → length fields ≡ length ks → fits (columns_of names ks) (row_of ks fields) ≡ true
row_fits [] [] fields e h = refl
row_fits (n ∷ ns) [] fields e h = absurd (omega (e, arith))
row_fits [] (k ∷ ks) fields e h = absurd (omega (e, arith))
row_fits (n ∷ ns) (k ∷ ks) [] e h = absurd (omega (h, arith))
row_fits (n ∷ ns) (k ∷ ks) (f ∷ fs) e h = and_both _ _ (cell_is k f) (row_fits ns ks fs (omega (e, arith)) (omega (h, arith)))

-- a record without a fault has a field for each column
pub fields_are : (r : ℕ) (ks : List ColType) (fields : Record) → record_fault r ks fields ≡ None → length fields ≡ length ks
fields_are r ks fields e = by (length fields == length ks) refl e
  where
    by : (b : Bool) → b ≡ (length fields == length ks) → cond b (option_map (bad_row r) (unread_field 1 ks fields)) (Some (bad_row r 0)) ≡ None → length fields ≡ length ks
    by true is h = eqb-true (length fields) (length ks) (sym is)
    by false is h = cc h

pub first_none : (a b : Option ReadFault) → first_of a b ≡ None → (a ≡ None) × (b ≡ None)
first_none None b e = (refl, e)
first_none (Some x) b e = cc e

rows_are : (r : ℕ) (names : List (List ℕ)) (ks : List ColType) (rs : List Record) → length names ≡ length ks → records_fault r ks rs ≡ None
    → list_all (fits (columns_of names ks)) (map (row_of ks) rs) ≡ true
rows_are r names ks [] e h = refl
rows_are r names ks (fields ∷ rs) e h =
    let both = first_none (record_fault r ks fields) (records_fault (r + 1) ks rs) h in
    and_both _ _ (row_fits names ks fields e (fields_are r ks fields both.0)) (rows_are (r + 1) names ks rs e both.1)

found_length : (c : ℕ) (names : List (List ℕ)) (rs : List Record) → length names ≡ length (kinds_found c names rs)
found_length c [] rs = refl
found_length c (n ∷ ns) rs = ap (λ x. suc x) (found_length (c + 1) ns rs)

-- each column has a type
kinds_length : (declared : List Column) (names : List (List ℕ)) (rs : List Record) → length names ≡ length (kinds declared names rs)
kinds_length [] names rs = found_length 0 names rs
kinds_length (c ∷ cs) names rs = sym (length-map names _)

pub unless_ok : {A : Type 0} (fault : Option ReadFault) (answer : Result A ReadFault) (x : A) → unless fault answer ≡ Ok x → (fault ≡ None) × (answer ≡ Ok x)
unless_ok None answer x e = (refl, e)
unless_ok (Some f) answer x e = cc e

under_fits : (declared : List Column) (names : List (List ℕ)) (rs : List Record) (seed : Seed) → seed_under declared names rs ≡ Ok seed → list_all (fits seed.columns) seed.rows ≡ true
under_fits declared names rs seed e =
    let ks = kinds declared names rs in
    let shape = unless_ok (shape_fault declared names) (unless (records_fault 2 ks rs) (Ok (seed_rows names ks rs))) seed e in
    let read = unless_ok (records_fault 2 ks rs) (Ok (seed_rows names ks rs)) seed shape.1 in
    let is : seed_rows names ks rs ≡ seed = cc read.1 in
    subst (λ (s : Seed). list_all (fits s.columns) s.rows ≡ true) is (rows_are 2 names ks rs (kinds_length declared names rs) read.0)

records_fit : (declared : List Column) (rs : List Record) (seed : Seed) → seed_of declared rs ≡ Ok seed → list_all (fits seed.columns) seed.rows ≡ true
records_fit declared [] seed e = cc e
records_fit declared (header ∷ rs) seed e =
    under_fits declared (header_names header) rs seed (unless_ok (header_fault header) (seed_under declared (header_names header) rs) seed e).1

pub rows_fit : (declared : List Column) (bytes : List ℕ) (seed : Seed) → seed_text declared bytes ≡ Ok seed → list_all (fits seed.columns) seed.rows ≡ true
rows_fit declared bytes seed e = records_fit declared (records default_config (strip_bom bytes)) seed e
