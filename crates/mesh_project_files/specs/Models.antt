-- What a model's file says, with the seed that it names.
use Rattle.std.specs.Prelude.{ℕ, Bool, true, false, nat_le, List, codes, length, Result, Ok, Err, if◌then◌else◌}
use Rattle.std.specs.declared.option.Option.{Option}
use Rattle.std.specs.declared.option.Option.TheVariants.{None, Some}
use Rattle.mesh_base_values.specs.declared.values.Seed.{Seed}
use Rattle.mesh_query_tokens.specs.declared.faults.ReadFault.{ReadFault}
use Rattle.mesh_io.specs.declared.files.File.{File}
use Rattle.mesh_io.specs.Files.{bytes_at}
use Rattle.mesh_model_csv.specs.seeds.Seeds.{seed_text}
use Rattle.mesh_model_statement.specs.declared.model.model.ModelText.{ModelText}
use Rattle.mesh_model.specs.Reads.{IsModelRead}
use Rattle.mesh_project_files.specs.declared.faults.LoadFault.{LoadFault}
use Rattle.mesh_project_files.specs.declared.project.ModelFile.{ModelFile}
use Rattle.mesh_project_files.specs.Loading.{◌>>=◌, Gives, in_file, too_large, bad_path, outside}
use Rattle.mesh_project_files.specs.Places.{in_dir, below_models, is_python}

-- a file's bytes, if it is there, of which there are at most so many
abbrev pub within : List ℕ → List ℕ → ℕ → Option (List ℕ) → Result (Option (List ℕ)) LoadFault
within file what most None = Ok None
within file what most (Some bytes) = if nat_le (length bytes) most then Ok (Some bytes) else Err (too_large file what most)

-- the same of a file of the project in DIR
abbrev pub file_within : List File → List ℕ → List ℕ → List ℕ → ℕ → Result (Option (List ℕ)) LoadFault
file_within files dir file what most = within file what most (bytes_at (in_dir dir file) files)

-- a seed's file that is there, beside the columns that its model declares
abbrev pub seed_if_there : ModelText → List ℕ → Option (List ℕ) → Result (Option Seed) LoadFault
seed_if_there text path None = Err (bad_path text.file text.path_at)
seed_if_there text path (Some bytes) = in_file path (seed_text text.columns bytes) >>= λ seed. Ok (Some seed)

-- the seed at a path, of at most 4,194,304 bytes
abbrev pub seed_at : List File → List ℕ → ModelText → List ℕ → Result (Option Seed) LoadFault
seed_at files dir text path = file_within files dir path (codes "seed") 4194304 >>= seed_if_there text path

abbrev pub seed_if_named : List File → List ℕ → ModelText → Option (List ℕ) → Result (Option Seed) LoadFault
seed_if_named files dir text None = Ok None
seed_if_named files dir text (Some path) = seed_at files dir text path

-- the seed that a model names
abbrev pub seed_of : List File → List ℕ → ModelText → Result (Option Seed) LoadFault
seed_of files dir text = seed_if_named files dir text text.path

-- a model's file with its seed
abbrev pub with_seed : List File → List ℕ → ModelText → Result (Option ModelFile) LoadFault
with_seed files dir text = seed_of files dir text >>= λ seed. Ok (Some (record { text = text; seed = seed }))

-- the model of a file of these bytes
abbrev pub IsTextRead : List File → List ℕ → List ℕ → List ℕ → Result (Option ModelFile) LoadFault → Type 0
IsTextRead files dir file bytes answer =
    (text : Result ModelText ReadFault) × IsModelRead file bytes text × Gives answer (in_file file text >>= with_seed files dir)

abbrev pub IsContentRead : List File → List ℕ → List ℕ → Result (Option (List ℕ)) LoadFault → Result (Option ModelFile) LoadFault → Type 0
IsContentRead files dir file (Ok None) answer = Gives answer (Ok None)
IsContentRead files dir file (Ok (Some bytes)) answer = IsTextRead files dir file bytes answer
IsContentRead files dir file (Err fault) answer = Gives answer (Err fault)

-- the model of a file of at most 1,048,576 bytes, and none where it isn't there
abbrev pub IsModelFileRead : List File → List ℕ → List ℕ → Result (Option ModelFile) LoadFault → Type 0
IsModelFileRead files dir file answer = IsContentRead files dir file (file_within files dir file (codes "file") 1048576) answer

-- a file that is a model in Python, or isn't
abbrev pub IsReadAs : List File → List ℕ → List ℕ → Bool → Result (Option ModelFile) LoadFault → Type 0
IsReadAs files dir file true answer = Gives answer (Err (outside file file))
IsReadAs files dir file false answer = IsModelFileRead files dir file answer

-- the file at a path below `models`
abbrev pub IsFileRead : List File → List ℕ → List ℕ → Result (Option ModelFile) LoadFault → Type 0
IsFileRead files dir path answer = IsReadAs files dir (below_models path) (is_python path) answer
