-- What the file that declares the sources says: the sources, ascending by name, or its first fault. Records and
-- fields are counted from 1; the header is record 1.
use Rattle.std.specs.Prelude.{ℕ, suc, ◌+◌, Bool, false, ◌&&◌, not, nat_le, nat_lt, ◌==◌, List, [], ◌∷◌, ◌++◌, codes, length, take, drop, Result, Ok, Err, if◌then◌else◌}
use Rattle.std.specs.List.{list_any}
use Rattle.std.specs.Option.{is_some, unwrap_or}
use Rattle.std.specs.Str.{bytes_eq}
use Rattle.std.specs.declared.option.Option.{Option}
use Rattle.std.specs.declared.option.Option.TheVariants.{None, Some}
use Rattle.csv.specs.Reading.{default_config, records, strip_bom}
use Rattle.mesh_list.specs.Keyed.{found, placed, without}
use Rattle.mesh_base_values.specs.Names.{is_identifier, is_schema, name_cmp}
use Rattle.mesh_base_values.specs.Picked.{same_text}
use Rattle.mesh_base.specs.declared.definitions.Decl.{Decl}
use Rattle.mesh_base_values.specs.declared.values.Column.{Column}
use Rattle.mesh_base_values.specs.declared.values.ColType.{ColType}
use Rattle.mesh_base_values.specs.declared.values.Name.{Name}
use Rattle.mesh_query_grammar.specs.Words.{type_of}
use Rattle.mesh_query_tokens.specs.Gives.{◌>>=◌}
use Rattle.mesh_query_tokens.specs.Text.{file_word, largest_file}
use Rattle.mesh_query_tokens.specs.declared.faults.FaultKind.TheVariants.{TooLarge}
use Rattle.mesh_query_tokens.specs.declared.faults.ReadFault.{ReadFault}
use Rattle.mesh_query_tokens.specs.declared.faults.ReadFault.TheVariants.{Fault}
use Rattle.mesh_model_csv.specs.seeds.Cells.{Record, field}
use Rattle.mesh_model_csv.specs.seeds.Headers.{bad_row, long_name, many_columns, longest_name, most_columns, lowered, first_of, header_fault, header_names}
use Rattle.mesh_model_csv.specs.seeds.Seeds.{unless}

-- the names are `name`, `column`, `type` and `role`
abbrev pub are_words : List (List ℕ) → Bool
are_words (a ∷ b ∷ c ∷ d ∷ []) = bytes_eq a (codes "name") && (bytes_eq b (codes "column") && (bytes_eq c (codes "type") && bytes_eq d (codes "role")))
are_words _ = false

-- the header has four fields, which are names, and these ones
abbrev pub words_fault : List (List ℕ) → Option ReadFault
words_fault names = if are_words names then None else Some (bad_row 1 0)

abbrev pub shape_fault : Record → Option ReadFault
shape_fault header = if length header == 4 then first_of (header_fault header) (words_fault (header_names header)) else Some (bad_row 1 0)

-- how many bytes stand in front of the first point
abbrev pub point_len : List ℕ → ℕ
point_len [] = 0
point_len (b ∷ bs) = if b == 46 then 0 else suc (point_len bs)

-- both parts of a source's name are identifiers, and the first can be a schema
abbrev pub source_named : ℕ → List ℕ → List ℕ → Result Name ReadFault
source_named r schema model =
    if not (is_identifier schema && is_identifier model) then Err (bad_row r 1)
    else if not (nat_le (length schema) longest_name && nat_le (length model) longest_name) then Err long_name
    else if not (is_schema schema) then Err (bad_row r 1)
    else Ok (record { schema = lowered schema; model = lowered model })

-- a point stands between them
abbrev pub two_parts : ℕ → List ℕ → List ℕ → Result Name ReadFault
two_parts r schema [] = Err (bad_row r 1)
two_parts r schema (point ∷ model) = source_named r schema model

abbrev pub source_name : ℕ → List ℕ → Result Name ReadFault
source_name r field = two_parts r (take (point_len field) field) (drop (point_len field) field)

abbrev pub has_column : List Column → List ℕ → Bool
has_column columns name = list_any (λ c. same_text c.name name) columns

-- a column is an identifier that the source doesn't have yet
abbrev pub column_name : ℕ → List Column → List ℕ → Result (List ℕ) ReadFault
column_name r columns field =
    if not (is_identifier field) then Err (bad_row r 2)
    else if not (nat_le (length field) longest_name) then Err long_name
    else if has_column columns (lowered field) then Err (bad_row r 2)
    else if not (nat_lt (length columns) most_columns) then Err many_columns
    else Ok (lowered field)

abbrev pub typed : ℕ → Option ColType → Result ColType ReadFault
typed r None = Err (bad_row r 3)
typed r (Some kind) = Ok kind

abbrev pub column_type : ℕ → List ℕ → Result ColType ReadFault
column_type r field = typed r (type_of (lowered field))

-- the time column of a source, with a column whose role is `time` or empty; there is one at most
abbrev pub time_of : ℕ → Option (List ℕ) → List ℕ → List ℕ → Result (Option (List ℕ)) ReadFault
time_of r time column [] = Ok time
time_of r time column (b ∷ bs) = if bytes_eq (b ∷ bs) (codes "time") && not (is_some time) then Ok (Some column) else Err (bad_row r 4)

abbrev pub with_column : Decl → List ℕ → ColType → Option (List ℕ) → Decl
with_column d column kind time = record { name = d.name; columns = d.columns ++ record { name = column; kind = kind } ∷ []; time = time }

-- a source with the column that the last three fields of record r declare
abbrev pub grown : ℕ → Decl → List ℕ → List ℕ → List ℕ → Result Decl ReadFault
grown r d column type role = do
  column ← column_name r d.columns column
  kind ← column_type r type
  time ← time_of r d.time column role
  Ok (with_column d column kind time)

abbrev pub decl_name : Decl → Name
decl_name d = d.name

-- a source of which nothing is declared yet
abbrev pub undeclared : Name → Decl
undeclared name = record { name = name; columns = []; time = None }

abbrev pub declared : Name → List Decl → Decl
declared name sources = unwrap_or (found name_cmp decl_name name sources) (undeclared name)

-- the sources with one at its place
abbrev pub with_source : Name → List Decl → Decl → List Decl
with_source name sources d = placed name_cmp decl_name d (without name_cmp decl_name name sources)

-- the sources with what the fields of record r declare
abbrev pub declared_by : ℕ → List Decl → List ℕ → List ℕ → List ℕ → List ℕ → Result (List Decl) ReadFault
declared_by r sources name column type role = do
  name ← source_name r name
  d ← grown r (declared name sources) column type role
  Ok (with_source name sources d)

abbrev pub declare : ℕ → List Decl → Record → Result (List Decl) ReadFault
declare r sources fields =
    if length fields == 4 then declared_by r sources (field 0 fields) (field 1 fields) (field 2 fields) (field 3 fields)
    else Err (bad_row r 0)

-- the sources with what the records from record r on declare
abbrev pub declare_all : ℕ → List Decl → List Record → Result (List Decl) ReadFault
declare_all r sources [] = Ok sources
declare_all r sources (fields ∷ rs) = declare r sources fields >>= λ more. declare_all (r + 1) more rs

abbrev pub external_of : List Record → Result (List Decl) ReadFault
external_of [] = Err (bad_row 1 0)
external_of (header ∷ rs) = unless (shape_fault header) (declare_all 2 [] rs)

abbrev pub large_file : ReadFault
large_file = Fault 0 (TooLarge file_word largest_file)

-- what the file says
abbrev pub external_text : List ℕ → Result (List Decl) ReadFault
external_text bytes = if nat_le (length bytes) largest_file then external_of (records default_config (strip_bom bytes)) else Err large_file
