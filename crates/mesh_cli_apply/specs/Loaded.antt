-- What the files of a project mean, as a command tells it.
use Rattle.std.specs.Prelude.{◌≡◌, ◌⊎◌, ℕ, List, Result, Ok, Err}
use Rattle.std.specs.declared.option.Option.{Option}
use Rattle.std.specs.Option.{ForSome}
use Rattle.mesh_query_tokens.specs.declared.faults.FaultKind.{FaultKind}
use Rattle.mesh_base.specs.declared.snapshots.Node.{Node}
use Rattle.mesh_base.specs.rules.Proper.{ProjectNodes}
use Rattle.mesh_io.specs.declared.files.File.{File}
use Rattle.mesh_io.specs.Told.{FolderTold}
use Rattle.mesh_project_files.specs.Loading.{AsksAs}
use Rattle.mesh_project_files.specs.declared.faults.LoadFault.{LoadFault}
use Rattle.mesh_project.specs.project.Project.{IsFirstFault, IsLoaded, Loads}
use Rattle.mesh_cli_print.specs.declared.printed.refusals.Refusal.{Refusal}
use Rattle.mesh_cli_print.specs.declared.printed.refusals.Refusal.TheVariants.{Model}
use Rattle.mesh_cli_answer.specs.Loads.{of_load}

-- a project, which is that of the files where the folder tells them
pub record IsProject (files : Option (List File)) (dir : List ℕ) (of : List Node → Type 0) : Type 0 where
  pub project : ProjectNodes
  pub loaded : ForSome files (λ fs. Loads fs dir project)
  pub has : of project.nodes

-- a fault, which is the first one of the files where the folder tells them, and this is told
pub record IsFaulty (files : Option (List File)) (dir : List ℕ) (r : Refusal) : Type 0 where
  pub file : List ℕ
  pub at : ℕ
  pub kind : FaultKind
  pub first : ForSome files (λ fs. IsFirstFault fs dir file at kind)
  pub told : r ≡ Model file at kind

-- the first fault of the files is told
abbrev pub TellsFault : {T : Type 0} → Option (List File) → List ℕ → Result T Refusal → Type 0
TellsFault files dir (Err r) = IsFaulty files dir r
TellsFault files dir other = ⊥

-- what a command answers of a project, or else the first fault of its files
abbrev pub OfProject : {T : Type 0} → Option (List File) → List ℕ → (List Node → Result T Refusal → Type 0) → Result T Refusal → Type 0
OfProject files dir gives answer = IsProject files dir (λ nodes. gives nodes answer) ⊎ TellsFault files dir answer

-- the project in a folder was loaded, or why it wasn't is told
abbrev pub LoadsProject : List ℕ → FolderTold → FolderTold → Result ProjectNodes Refusal → Type 0
LoadsProject dir old new (Ok project) = AsksAs {X = ProjectNodes} (λ fs. IsLoaded fs dir) old new (Ok project)
LoadsProject dir old new (Err r) = (fault : LoadFault) × (r ≡ of_load fault) × AsksAs {X = ProjectNodes} (λ fs. IsLoaded fs dir) old new (Err fault)
