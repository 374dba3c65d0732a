-- What is made of files that were read.
use Rattle.std.proofs.Common.{◌≡◌, ℕ, List, Result, Ok, Err, refl}
use Rattle.std.specs.Prelude.{IsErrOf}
use Rattle.std.specs.Result.{IsErrAnd}
use Rattle.mesh_io.specs.Told.{FolderTold}
use Rattle.mesh_project_files.specs.declared.faults.LoadFault.{LoadFault}
use Rattle.mesh_project_files.specs.declared.faults.LoadFault.TheVariants.{Fault, Folder, Memory}
use Rattle.mesh_project_files.specs.declared.project.ProjectFiles.{ProjectFiles}
use Rattle.mesh_project_files.specs.Loading.{AsksAs, Gives, Refuses}
use Rattle.mesh_project_files.specs.Project.{AreFiles, FilesGive}
use Rattle.mesh_project_files.proofs.Asking.{asks_err, asks_alone, asks_memory}
use Rattle.mesh_project_files.proofs.Reading.{without_sources}

refused : (X : Type 0) (fault : LoadFault) → Refuses {X = X} fault (Err fault)
refused X (Fault file at kind) = refl
refused X Folder = tt
refused X Memory = tt

module _ {X : Type 0} (made : ProjectFiles → Result X LoadFault) (dir : List ℕ) (a b : FolderTold) (result : Result X LoadFault) where
  -- the files weren't read
  pub made_err : (fault : LoadFault) → AsksAs (λ fs. AreFiles fs dir) a b (Err fault) → IsErrAnd result (λ y. y ≡ fault) → AsksAs (λ fs. FilesGive made fs dir) a b result
  made_err fault asked is = asks_err (λ fs. AreFiles fs dir) (λ fs. FilesGive made fs dir) a b fault result asked is (λ fs h. (Err fault, h, refused X fault))

  -- they were, and something was made of them
  pub made_then : (files : ProjectFiles) → AsksAs (λ fs. AreFiles fs dir) a b (Ok files) → (IsErrOf result Folder → ⊥) → Gives result (made files) → AsksAs (λ fs. FilesGive made fs dir) a b result
  made_then files asked alone gives = asks_alone (λ fs. AreFiles fs dir) (λ fs. FilesGive made fs dir) a b files result asked alone (λ fs h. (Ok files, h, gives))

  -- memory ran out before they were read
  pub made_memory : IsErrAnd result (λ y. y ≡ Memory) → AsksAs (λ fs. FilesGive made fs dir) a a result
  made_memory is = asks_memory (λ fs. FilesGive made fs dir) a result is (λ fs. (Err Memory, without_sources fs dir Memory tt, tt))
