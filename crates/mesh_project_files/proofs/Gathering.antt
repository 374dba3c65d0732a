-- The calls that read the files of a project, one after the other.
use Rattle.std.proofs.Common.{◌≡◌, ℕ, ◌+◌, ◌<◌, ◌≤◌, List, [], ◌∷◌, drop, length, get_or, Result, Ok, Err, sym, ◌∙◌, ap, subst}
use Rattle.std.proofs.lemmas.List.{drop_more}
use Rattle.std.specs.Option.{ForSome}
use Rattle.std.specs.Result.{IsErrAnd}
use Rattle.std.specs.declared.option.Option.{Option}
use Rattle.mesh_base.specs.declared.definitions.Decl.{Decl}
use Rattle.mesh_io.specs.declared.files.File.{File}
use Rattle.mesh_io.specs.Told.{FolderTold}
use Rattle.mesh_project_files.specs.declared.faults.LoadFault.{LoadFault}
use Rattle.mesh_project_files.specs.declared.faults.LoadFault.TheVariants.{Memory}
use Rattle.mesh_project_files.specs.declared.project.ModelFile.{ModelFile}
use Rattle.mesh_project_files.specs.declared.project.ProjectFiles.{ProjectFiles}
use Rattle.mesh_project_files.specs.Loading.{AsksAs, Gives}
use Rattle.mesh_project_files.specs.Models.{IsFileRead}
use Rattle.mesh_project_files.specs.Project.{AreRead, AreFiles, with_file, sources_in, paths_in}
use Rattle.mesh_project_files.proofs.Asking.{asks_err, asks_then, asks_wanting}
use Rattle.mesh_project_files.proofs.Reading.{unknown, without_paths, Goes}

-- the path at a place stands before those behind it
pub next_path : (paths : List (List ℕ)) (i : ℕ) (path : List ℕ) → i < length paths → path ≡ get_or paths i path → drop i paths ≡ path ∷ drop (i + 1) paths
next_path paths i path lt is = drop_more paths i path lt ∙ ap (λ p. p ∷ drop (i + 1) paths) (sym is)

-- the models of some files, where others are left
abbrev From : List ℕ → List (List ℕ) → List (List ℕ) → List File → Result (List ModelFile) LoadFault → Type 0
From dir paths left fs (Ok models) = Goes fs dir paths left models
From dir paths left fs (Err e) = Unit {0}

-- a file was read, and its model, if it is there, stands behind those so far
pub gather_more : (fs : List File) (dir : List ℕ) (paths left : List (List ℕ)) (models : List ModelFile) (path : List ℕ) (rest : List (List ℕ)) (file : Option ModelFile) → left ≡ path ∷ rest
    → Goes fs dir paths left models → IsFileRead fs dir path (Ok file) → Goes fs dir paths rest (with_file models file)
gather_more fs dir paths left models path rest file first goes read r h = goes r (subst (λ l. AreRead fs dir models l r) (sym first) (Ok file, read, h))

module _ (dir : List ℕ) (paths left : List (List ℕ)) (a b : FolderTold) (models : List ModelFile) (same : b.files ≡ a.files) (risen : a.faults ≤ b.faults)
    (goes : ForSome a.files (λ fs. Goes fs dir paths left models)) where
  so_far : AsksAs (From dir paths left) a b (Ok models)
  so_far = record { files = same; faults = risen; gives = goes; failed = λ h. cc h }

  module _ (path : List ℕ) (rest : List (List ℕ)) (first : left ≡ path ∷ rest) (c : FolderTold) (result : Result (List ModelFile) LoadFault) where
    abbrev Left : List File → Result (List ModelFile) LoadFault → Type 0
    Left fs r = AreRead fs dir models (path ∷ rest) r

    onward : AsksAs Left b c result → AsksAs (λ fs. AreRead fs dir [] paths) a c result
    onward q =
        asks_then (From dir paths left) Left (λ fs. AreRead fs dir [] paths) a b c models result so_far q
        (λ fs f r. f result (subst (λ l. AreRead fs dir models l result) (sym first) r))

    -- memory runs out behind it
    pub gather_wanting : (file : Option ModelFile) → AsksAs (λ fs. IsFileRead fs dir path) b c (Ok file) → IsErrAnd result (λ y. y ≡ Memory) → AsksAs (λ fs. AreRead fs dir [] paths) a c result
    gather_wanting file p is =
        onward (asks_wanting (λ fs. IsFileRead fs dir path) Left b c file result p is (λ fs h. (Ok file, h, unknown fs dir (with_file models file) rest)))

module _ (dir : List ℕ) (a b c : FolderTold) (sources : List Decl) (p : AsksAs (λ fs r. Gives r (sources_in fs dir)) a b (Ok sources)) (result : Result ProjectFiles LoadFault) where
  abbrev Behind_sources : List File → Result ProjectFiles LoadFault → Type 0
  Behind_sources fs r = sources_in fs dir ≡ Ok sources → AreFiles fs dir r

  behind_sources : AsksAs Behind_sources b c result → AsksAs (λ fs. AreFiles fs dir) a c result
  behind_sources q = asks_then (λ fs r. Gives r (sources_in fs dir)) Behind_sources (λ fs. AreFiles fs dir) a b c sources result p q (λ fs s second. second s)

  pub read_without_paths : (fault : LoadFault) → AsksAs (λ fs r. Gives r (paths_in fs dir)) b c (Err fault) → IsErrAnd result (λ y. y ≡ fault) → AsksAs (λ fs. AreFiles fs dir) a c result
  read_without_paths fault q is = behind_sources (asks_err (λ fs r. Gives r (paths_in fs dir)) Behind_sources b c fault result q is (λ fs e s. without_paths fs dir fault sources s e))
