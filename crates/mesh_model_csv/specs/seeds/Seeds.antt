-- What a seed's file says: the columns that its header names and a row for each further record, or its first fault.
use Rattle.std.specs.Prelude.{ℕ, ◌+◌, Bool, true, false, ◌&&◌, ◌==◌, List, [], ◌∷◌, map, length, Result, Ok, Err, if◌then◌else◌}
use Rattle.std.specs.List.{find, list_all}
use Rattle.std.specs.Option.{option_map, is_some, unwrap_or}
use Rattle.std.specs.declared.option.Option.{Option}
use Rattle.std.specs.declared.option.Option.TheVariants.{None, Some}
use Rattle.csv.specs.Reading.{default_config, records, strip_bom}
use Rattle.mesh_base_values.specs.declared.values.Column.{Column}
use Rattle.mesh_base_values.specs.declared.values.ColType.{ColType}
use Rattle.mesh_base_values.specs.declared.values.ColType.TheVariants as type
use Rattle.mesh_base_values.specs.Picked.{same_text}
use Rattle.mesh_query_tokens.specs.declared.faults.ReadFault.{ReadFault}
use Rattle.mesh_base_values.specs.declared.values.Seed.{Seed}
use Rattle.mesh_model_csv.specs.seeds.Cells.{Record, is_read, row_of, kind_found}
use Rattle.mesh_model_csv.specs.seeds.Headers.{bad_row, first_of, header_fault, header_names}

-- the declared column of that name
abbrev pub declared : List Column → List ℕ → Option Column
declared columns name = find (λ c. same_text c.name name) columns

abbrev pub declared_kind : List Column → List ℕ → Option ColType
declared_kind columns name = option_map (λ c. c.kind) (declared columns name)

abbrev pub is_declared : List Column → List ℕ → Bool
is_declared columns name = is_some (declared_kind columns name)

-- the declared columns have the header's names, in any order
abbrev pub are_declared : List Column → List (List ℕ) → Bool
are_declared columns names = (length columns == length names) && list_all (is_declared columns) names

-- a seed without declared columns names what it likes
abbrev pub shape_fault : List Column → List (List ℕ) → Option ReadFault
shape_fault [] names = None
shape_fault (c ∷ cs) names = if are_declared (c ∷ cs) names then None else Some (bad_row 1 0)

-- the types found for the columns from place c on
abbrev pub kinds_found : ℕ → List (List ℕ) → List Record → List ColType
kinds_found c [] rs = []
kinds_found c (n ∷ ns) rs = kind_found c rs ∷ kinds_found (c + 1) ns rs

abbrev pub kinds_declared : List Column → List (List ℕ) → List ColType
kinds_declared columns names = map (λ n. unwrap_or (declared_kind columns n) type.Text) names

abbrev pub kinds : List Column → List (List ℕ) → List Record → List ColType
kinds [] names rs = kinds_found 0 names rs
kinds (c ∷ cs) names rs = kinds_declared (c ∷ cs) names

-- the first field, from field c on, that isn't read as its column's type
abbrev pub unread_field : ℕ → List ColType → Record → Option ℕ
unread_field c [] fields = None
unread_field c (k ∷ ks) [] = None
unread_field c (k ∷ ks) (f ∷ fs) = if is_read k f then unread_field (c + 1) ks fs else Some c

-- record r has a field for each column, which is read as its type
abbrev pub record_fault : ℕ → List ColType → Record → Option ReadFault
record_fault r ks fields = if length fields == length ks then option_map (bad_row r) (unread_field 1 ks fields) else Some (bad_row r 0)

-- the first fault from record r on
abbrev pub records_fault : ℕ → List ColType → List Record → Option ReadFault
records_fault r ks [] = None
records_fault r ks (fields ∷ rs) = first_of (record_fault r ks fields) (records_fault (r + 1) ks rs)

abbrev pub column : List ℕ → ColType → Column
column name kind = record { name = name; kind = kind }

abbrev pub columns_of : List (List ℕ) → List ColType → List Column
columns_of [] ks = []
columns_of (n ∷ ns) [] = []
columns_of (n ∷ ns) (k ∷ ks) = column n k ∷ columns_of ns ks

abbrev pub unless : {A : Type 0} → Option ReadFault → Result A ReadFault → Result A ReadFault
unless None answer = answer
unless (Some fault) answer = Err fault

abbrev pub seed_rows : List (List ℕ) → List ColType → List Record → Seed
seed_rows names ks rs = record { columns = columns_of names ks; rows = map (row_of ks) rs }

-- the header's names, and the records under them
abbrev pub seed_under : List Column → List (List ℕ) → List Record → Result Seed ReadFault
seed_under columns names rs =
    unless (shape_fault columns names)
    (let ks = kinds columns names rs in unless (records_fault 2 ks rs) (Ok (seed_rows names ks rs)))

abbrev pub seed_of : List Column → List Record → Result Seed ReadFault
seed_of columns [] = Err (bad_row 1 0)
seed_of columns (header ∷ rs) = unless (header_fault header) (seed_under columns (header_names header) rs)

-- what a seed's file says beside its declared columns
abbrev pub seed_text : List Column → List ℕ → Result Seed ReadFault
seed_text columns bytes = seed_of columns (records default_config (strip_bom bytes))
