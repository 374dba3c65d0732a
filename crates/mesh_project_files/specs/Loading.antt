-- What a call that asks the folder answers.
use Rattle.std.specs.Prelude.{◌≡◌, ℕ, ◌≤◌, List, codes, Result, Ok, Err, IsErrOf}
use Rattle.std.specs.Option.{ForSome}
use Rattle.mesh_list.specs.Counts.{Rose}
use Rattle.mesh_io.specs.declared.fails.IoFail.{IoFail}
use Rattle.mesh_io.specs.declared.fails.IoFail.TheVariants as io
use Rattle.mesh_io.specs.declared.files.File.{File}
use Rattle.mesh_io.specs.Told.{FolderTold}
use Rattle.mesh_query_tokens.specs.declared.faults.FaultKind.TheVariants.{TooLarge, BadProperty, Outside}
use Rattle.mesh_query_tokens.specs.declared.faults.ReadFault.{ReadFault}
use Rattle.mesh_query_tokens.specs.declared.faults.ReadFault.TheVariants as read
use Rattle.mesh_project_files.specs.declared.faults.LoadFault.{LoadFault}
use Rattle.mesh_project_files.specs.declared.faults.LoadFault.TheVariants.{Fault, Folder, Memory}

abbrev pub of_folder : IoFail → LoadFault
of_folder io.Failed = Folder
of_folder io.Memory = Memory

-- a fault of the text in a file
abbrev pub of_text : List ℕ → ReadFault → LoadFault
of_text file (read.Fault at kind) = Fault file at kind
of_text file read.Memory = Memory

abbrev pub in_file : {A : Type 0} → List ℕ → Result A ReadFault → Result A LoadFault
in_file file (Ok x) = Ok x
in_file file (Err fault) = Err (of_text file fault)

abbrev pub too_large : List ℕ → List ℕ → ℕ → LoadFault
too_large file what limit = Fault file 0 (TooLarge what limit)

abbrev pub bad_path : List ℕ → ℕ → LoadFault
bad_path file at = Fault file at (BadProperty (codes "path"))

abbrev pub outside : List ℕ → List ℕ → LoadFault
outside file name = Fault file 0 (Outside name)

-- one step of loading, and then the next
infixl 10 ◌>>=◌
abbrev pub ◌>>=◌ : {A B : Type 0} → Result A LoadFault → (A → Result B LoadFault) → Result B LoadFault
(Ok x) >>= next = next x
(Err e) >>= next = Err e

-- a refusal is the fault that is meant, unless the folder failed or memory ran out
abbrev pub Refuses : {X : Type 0} → LoadFault → Result X LoadFault → Type 0
Refuses (Fault file at kind) meant = meant ≡ Err (Fault file at kind)
Refuses Folder meant = Unit {0}
Refuses Memory meant = Unit {0}

-- the answer is what is meant, unless the folder failed or memory ran out
abbrev pub Gives : {X : Type 0} → Result X LoadFault → Result X LoadFault → Type 0
Gives (Ok x) meant = meant ≡ Ok x
Gives (Err fault) meant = Refuses fault meant

-- The folder was asked, and answered so for its files. It changes nothing, and only a fault of its own is told as one.
pub record AsksAs {X : Type 0} (Answers : List File → Result X LoadFault → Type 0) (old new : FolderTold) (result : Result X LoadFault) : Type 0 where
  pub files : new.files ≡ old.files
  pub faults : old.faults ≤ new.faults
  pub gives : ForSome old.files (λ fs. Answers fs result)
  pub failed : IsErrOf result Folder → Rose old.faults new.faults

-- the same, where the files mean one answer
abbrev pub Asks : {X : Type 0} → (List File → Result X LoadFault) → FolderTold → FolderTold → Result X LoadFault → Type 0
Asks meant old new result = AsksAs (λ fs r. Gives r (meant fs)) old new result
