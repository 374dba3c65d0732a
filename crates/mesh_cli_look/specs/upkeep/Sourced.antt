-- The rows that a file of the project has for a declared source.
use Rattle.std.specs.Prelude.{ℕ, List, codes, map, Result, Ok, Err}
use Rattle.std.specs.List.{find}
use Rattle.std.specs.Ordering.{is_eq}
use Rattle.std.specs.declared.option.Option.{Option}
use Rattle.std.specs.declared.option.Option.TheVariants.{None, Some}
use Rattle.mesh_base_values.specs.Names.{name_cmp}
use Rattle.mesh_base_values.specs.Picked.{picked_rows}
use Rattle.mesh_base_values.specs.declared.values.Column.{Column}
use Rattle.mesh_base_values.specs.declared.values.Name.{Name}
use Rattle.mesh_base_values.specs.declared.values.Seed.{Seed}
use Rattle.mesh_query_tokens.specs.declared.faults.FaultKind.TheVariants.{UnknownRelation}
use Rattle.mesh_base.specs.declared.definitions.Decl.{Decl}
use Rattle.mesh_model_csv.specs.seeds.Headers.{bad_row}
use Rattle.mesh_model_csv.specs.seeds.Seeds.{seed_text}
use Rattle.mesh_cli_print.specs.faults.Lines.{name_text}
use Rattle.mesh_io.specs.declared.files.File.{File}
use Rattle.mesh_project_files.specs.declared.faults.LoadFault.{LoadFault}
use Rattle.mesh_project_files.specs.declared.faults.LoadFault.TheVariants.{Fault}
use Rattle.mesh_project_files.specs.Loading.{◌>>=◌, in_file}
use Rattle.mesh_project_files.specs.Models.{file_within}
use Rattle.mesh_project_files.specs.Project.{sources_in}

-- the declared source of that name
abbrev pub declared_as : Name → List Decl → Option Decl
declared_as name sources = find (λ (d : Decl). is_eq (name_cmp d.name name)) sources

-- the words name a source that no file declares
abbrev pub undeclared : Name → LoadFault
undeclared name = Fault (codes "-") 0 (UnknownRelation (name_text name))

abbrev pub columns_if : Name → Option Decl → Result (List Column) LoadFault
columns_if name None = Err (undeclared name)
columns_if name (Some d) = Ok d.columns

-- the columns that are declared for the source of that name
abbrev pub columns_named : Name → List Decl → Result (List Column) LoadFault
columns_named name sources = columns_if name (declared_as name sources)

-- what a file says beside the declared columns; one that isn't there is told as a record 0
abbrev pub seed_in : List ℕ → List Column → Option (List ℕ) → Result Seed LoadFault
seed_in file columns None = in_file file (Err (bad_row 0 0))
seed_in file columns (Some bytes) = in_file file (seed_text columns bytes)

-- rows in the order of the declared columns
abbrev pub in_order : List Column → Seed → Seed
in_order columns s = record { columns = columns; rows = picked_rows (map (λ (d : Column). d.name) columns) s.columns s.rows }

abbrev pub source_in : List ℕ → List Column → Option (List ℕ) → Result Seed LoadFault
source_in file columns bytes = seed_in file columns bytes >>= λ s. Ok (in_order columns s)

-- the rows of a file of at most 16,777,216 bytes, under the declared columns
abbrev pub file_rows : List File → List ℕ → List ℕ → List Column → Result Seed LoadFault
file_rows files dir file columns = file_within files dir file (codes "source") 16777216 >>= source_in file columns

abbrev pub declared_rows : List File → List ℕ → Name → List ℕ → List Decl → Result Seed LoadFault
declared_rows files dir name file sources = columns_named name sources >>= file_rows files dir file

-- the columns that the project in DIR declares for a source, and the rows that a file has for it: a source that isn't
-- declared is told before the file is read
abbrev pub source_rows : List File → List ℕ → Name → List ℕ → Result Seed LoadFault
source_rows files dir name file = sources_in files dir >>= declared_rows files dir name file
