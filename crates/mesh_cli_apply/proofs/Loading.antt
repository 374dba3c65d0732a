-- What is answered of the project in a folder.
use Rattle.std.proofs.Common.{◌≡◌, inl, inr, ℕ, true, false, List, Ok, Err, Result, refl, arith}
use Rattle.mesh_list.specs.Counts.{Rose}
use Rattle.mesh_io.specs.declared.files.File.{File}
use Rattle.mesh_base.specs.declared.snapshots.Node.{Node}
use Rattle.mesh_base.specs.rules.Proper.{ProjectNodes}
use Rattle.mesh_house.specs.House.{Told}
use Rattle.mesh_house.specs.declared.world.Change.{Change}
use Rattle.mesh_house.specs.declared.world.World.{World}
use Rattle.mesh_io.specs.Told.{FolderTold}
use Rattle.mesh_project_files.specs.Loading.{AsksAs}
use Rattle.mesh_project_files.specs.declared.faults.LoadFault.{LoadFault}
use Rattle.mesh_project_files.specs.declared.faults.LoadFault.TheVariants as load
use Rattle.mesh_project.specs.project.Project.{IsLoaded}
use Rattle.mesh_cli_print.specs.declared.printed.refusals.Refusal.{Refusal}
use Rattle.mesh_cli_print.specs.declared.printed.refusals.Refusal.TheVariants.{Model, Warehouse, Input}
use Rattle.mesh_cli_answer.specs.Answers.{Answers, IsAsked}
use Rattle.mesh_cli_answer.proofs.Answering.{alone_itself, answers_so, refused_alone, refused_first, wanting_first, within}
use Rattle.mesh_cli_answer.specs.Loads.{of_load}
use Rattle.mesh_cli_apply.specs.Loaded.{IsProject, OfProject}

module _ {T : Type 0} (dir : List ℕ) (gives : List Node → World → Result T Refusal → Type 0) (old new : FolderTold) (a : Told) where
  -- what is answered of the project of the files
  abbrev pub given_of : World → Result T Refusal → Type 0
  given_of w = OfProject old.files dir (λ nodes. gives nodes w)

  -- the project wasn't loaded
  pub not_loaded : (makes : World → List Change → Type 0) (fault : LoadFault) → AsksAs {X = ProjectNodes} (λ fs. IsLoaded fs dir) old new (Err fault) → Answers (Rose old.faults new.faults) makes given_of a a (Err (of_load fault))
  not_loaded makes (load.Fault file at kind) asks = refused_first makes given_of a (Model file at kind) refl
      (λ w told fine. inr (record { file = file; at = at; kind = kind; first = asks.gives; told = refl }))
  not_loaded makes load.Folder asks = refused_alone makes given_of a a Input (alone_itself a) (omega arith) (λ e. absurd (let clash : Input ≡ Warehouse = e in cc)) (λ e. asks.failed refl)
      (λ w told fine. absurd (let clash : true ≡ false = fine in cc))
  not_loaded makes load.Memory asks = wanting_first makes given_of a

  -- the folder was asked, and stays as it is
  pub asked : {X : Type 0} (means : List File → Result X LoadFault → Type 0) (read : Result X LoadFault) → AsksAs means old new read → IsAsked old new
  asked means read asks = record { files = asks.files; faults = asks.faults }

  module _ (project : ProjectNodes) (asks : AsksAs (λ fs. IsLoaded fs dir) old new (Ok project)) (c : Told) (r : Result T Refusal) where
    -- a command that changes nothing, or the same of whatever project
    pub given_loaded : (makes : World → List Change → Type 0) → Answers ⊥ makes (gives project.nodes) a c r → Answers (Rose old.faults new.faults) makes given_of a c r
    given_loaded makes by = answers_so makes makes (gives project.nodes) given_of a c (λ w told list is. is) (λ w told x is. inl (record { project = project; loaded = asks.gives; has = is })) r
        (within (Rose old.faults new.faults) makes (gives project.nodes) a c r by)

    -- what is made and answered of a project that was loaded
    pub made_loaded : (makes : List Node → World → List Change → Type 0) → Answers ⊥ (makes project.nodes) (gives project.nodes) a c r
        → Answers (Rose old.faults new.faults) (λ w list. IsProject old.files dir (λ nodes. makes nodes w list)) given_of a c r
    made_loaded makes by = answers_so (makes project.nodes) (λ w list. IsProject old.files dir (λ nodes. makes nodes w list)) (gives project.nodes) given_of a c
        (λ w told list is. record { project = project; loaded = asks.gives; has = is }) (λ w told x is. inl (record { project = project; loaded = asks.gives; has = is })) r
        (within (Rose old.faults new.faults) (makes project.nodes) (gives project.nodes) a c r by)
