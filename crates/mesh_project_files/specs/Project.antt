-- What the files of a project say, or their first fault.
use Rattle.std.specs.Prelude.{ℕ, nat_le, List, [], ◌∷◌, ◌++◌, codes, length, filter, Result, Ok, Err, if◌then◌else◌}
use Rattle.std.specs.declared.option.Option.{Option}
use Rattle.std.specs.declared.option.Option.TheVariants.{None, Some}
use Rattle.mesh_base.specs.declared.definitions.Decl.{Decl}
use Rattle.mesh_model_csv.specs.external.Externals.{external_text}
use Rattle.mesh_io.specs.declared.files.File.{File}
use Rattle.mesh_io.specs.Files.{listing}
use Rattle.mesh_project_files.specs.declared.faults.LoadFault.{LoadFault}
use Rattle.mesh_project_files.specs.declared.project.ModelFile.{ModelFile}
use Rattle.mesh_project_files.specs.declared.project.ProjectFiles.{ProjectFiles}
use Rattle.mesh_project_files.specs.Loading.{◌>>=◌, Gives, in_file, too_large}
use Rattle.mesh_project_files.specs.Places.{in_dir, is_sql, is_read}
use Rattle.mesh_project_files.specs.Models.{file_within, IsFileRead}

-- the sources that the file declares, and none where it isn't there
abbrev pub declared : List ℕ → Option (List ℕ) → Result (List Decl) LoadFault
declared file None = Ok []
declared file (Some bytes) = in_file file (external_text bytes)

abbrev pub sources_at : List File → List ℕ → List ℕ → Result (List Decl) LoadFault
sources_at files dir file = file_within files dir file (codes "file") 1048576 >>= declared file

-- the sources of the project in DIR
abbrev pub sources_in : List File → List ℕ → Result (List Decl) LoadFault
sources_in files dir = sources_at files dir (codes "external_models.csv")

-- the paths below `models`, by their bytes
abbrev pub listed : List File → List ℕ → List (List ℕ)
listed files dir = listing (in_dir dir (codes "models")) files

-- the paths that stand for models
abbrev pub model_paths : List File → List ℕ → List (List ℕ)
model_paths files dir = filter is_read (listed files dir)

-- those among some paths, of which at most 4,096 are model files
abbrev pub counted : List (List ℕ) → Result (List (List ℕ)) LoadFault
counted paths = if nat_le (length (filter is_sql paths)) 4096 then Ok (filter is_read paths) else Err (too_large (codes "-") (codes "models") 4096)

abbrev pub paths_in : List File → List ℕ → Result (List (List ℕ)) LoadFault
paths_in files dir = counted (listed files dir)

-- one model more, where its file is there
abbrev pub with_file : List ModelFile → Option ModelFile → List ModelFile
with_file models None = models
with_file models (Some model) = models ++ model ∷ []

-- what comes next where a file was read, and otherwise its fault
abbrev pub Then : Result (Option ModelFile) LoadFault → (Option ModelFile → Type 0) → Result (List ModelFile) LoadFault → Type 0
Then (Ok file) next answer = next file
Then (Err fault) next answer = Gives answer (Err fault)

-- The files at the paths were read, one after the other, behind the models so far. The first fault ends it.
abbrev pub AreRead : List File → List ℕ → List ModelFile → List (List ℕ) → Result (List ModelFile) LoadFault → Type 0
AreRead files dir models [] answer = Gives answer (Ok models)
AreRead files dir models (path ∷ paths) answer =
    (file : Result (Option ModelFile) LoadFault) × IsFileRead files dir path file × Then file (λ f. AreRead files dir (with_file models f) paths answer) answer

-- the sources first, then how many models there are, and then the models' files
abbrev pub meaning : List File → List ℕ → Result (List ModelFile) LoadFault → Result ProjectFiles LoadFault
meaning files dir models = do
  sources ← sources_in files dir
  paths ← paths_in files dir
  models ← models
  Ok (record { sources = sources; models = models })

-- what the files of the project in DIR say
abbrev pub AreFiles : List File → List ℕ → Result ProjectFiles LoadFault → Type 0
AreFiles files dir answer = (models : Result (List ModelFile) LoadFault) × AreRead files dir [] (model_paths files dir) models × Gives answer (meaning files dir models)

-- what the files of the project in DIR give, where this is made of what they say
abbrev pub FilesGive : {X : Type 0} → (ProjectFiles → Result X LoadFault) → List File → List ℕ → Result X LoadFault → Type 0
FilesGive made files dir answer = (read : Result ProjectFiles LoadFault) × AreFiles files dir read × Gives answer (read >>= made)
