-- What the files of a project mean: its models by rank and name, or their first fault.
use Rattle.std.specs.Prelude.{◌≡◌, ℕ, nat_le, List, length, codes, map, Result, Ok, Err, if◌then◌else◌}
use Rattle.mesh_base_values.specs.declared.values.Name.{Name}
use Rattle.mesh_io.specs.declared.files.File.{File}
use Rattle.mesh_query_tokens.specs.declared.faults.FaultKind.{FaultKind}
use Rattle.mesh_query_tokens.specs.declared.faults.FaultKind.TheVariants.{Cycle}
use Rattle.mesh_base.specs.rules.Proper.{ProjectNodes}
use Rattle.mesh_project.specs.declared.order.readers.Ranked.{Ranked}
use Rattle.mesh_project.specs.declared.order.readers.Reader.{Reader}
use Rattle.mesh_project.specs.order.Order.{AreCyclic, IsOrder}
use Rattle.mesh_project_files.specs.Loading.{◌>>=◌, Gives, too_large}
use Rattle.mesh_project_files.specs.declared.faults.LoadFault.{LoadFault}
use Rattle.mesh_project_files.specs.declared.faults.LoadFault.TheVariants.{Fault, Folder, Memory}
use Rattle.mesh_project_files.specs.declared.project.ModelFile.{ModelFile}
use Rattle.mesh_project_files.specs.declared.project.ProjectFiles.{ProjectFiles}
use Rattle.mesh_project_files.specs.Project.{AreFiles}
use Rattle.mesh_project.specs.nodes.Apart.{apart}
use Rattle.mesh_project.specs.nodes.Nodes.{nodes_of}
use Rattle.mesh_project.specs.nodes.Reads.{text_reads}

-- as many models as a project may have
abbrev pub counted : List ModelFile → Result (Unit {0}) LoadFault
counted models = if nat_le (length models) 4096 then Ok tt else Err (too_large (codes "-") (codes "models") 4096)

-- a model, as one that reads others
abbrev pub reader_of : ModelFile → Reader
reader_of f = record { name = f.text.name; reads = text_reads f.text.query }

-- a fault of no one file: these models reach themselves
abbrev pub cycle : List Name → LoadFault
cycle names = Fault (codes "-") 0 (Cycle names)

-- a fault tells all models that reach themselves, unless memory ran out
abbrev pub TellsCycle : List Reader → LoadFault → Type 0
TellsCycle models (Fault file at kind) = (names : List Name) × AreCyclic models names × (Fault file at kind ≡ cycle names)
TellsCycle models Folder = ⊥
TellsCycle models Memory = Unit {0}

-- the models by rank and name, or those that reach themselves
abbrev pub IsOrdered : List Reader → Result (List Ranked) LoadFault → Type 0
IsOrdered models (Ok order) = IsOrder models order
IsOrdered models (Err fault) = TellsCycle models fault

-- at most 4,096 models, whose names differ from each other and from those of the sources
abbrev pub checked : ProjectFiles → Result (Unit {0}) LoadFault
checked files = counted files.models >>= λ few. apart files.sources files.models

-- names that stand twice first, then cycles, and then the models by rank and name, each over those before it
abbrev pub meaning : ProjectFiles → Result (List Ranked) LoadFault → Result ProjectNodes LoadFault
meaning files order = do
  alone ← checked files
  ranked ← order
  nodes ← nodes_of files.sources files.models ranked
  Ok (record { nodes = nodes })

-- what the files say, once they are read
abbrev pub IsMeant : ProjectFiles → Result ProjectNodes LoadFault → Type 0
IsMeant files answer = (order : Result (List Ranked) LoadFault) × IsOrdered (map reader_of files.models) order × Gives answer (meaning files order)

-- what comes of reading
abbrev pub IsMade : Result ProjectFiles LoadFault → Result ProjectNodes LoadFault → Type 0
IsMade (Ok files) answer = IsMeant files answer
IsMade (Err fault) answer = Gives answer (Err fault)

-- what the files of the project in DIR mean
abbrev pub IsLoaded : List File → List ℕ → Result ProjectNodes LoadFault → Type 0
IsLoaded files dir answer = (read : Result ProjectFiles LoadFault) × AreFiles files dir read × IsMade read answer

-- the files are this project
abbrev pub Loads : List File → List ℕ → ProjectNodes → Type 0
Loads files dir project = IsLoaded files dir (Ok project)

-- their first fault
abbrev pub IsFirstFault : List File → List ℕ → List ℕ → ℕ → FaultKind → Type 0
IsFirstFault files dir file at kind = IsLoaded files dir (Err (Fault file at kind))
