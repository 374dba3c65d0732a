-- Files that are read one after the other, and what they say together.
use Rattle.std.proofs.Common.{◌≡◌, ℕ, Bool, true, false, List, [], ◌∷◌, Result, Ok, Err, sym, ap, subst}
use Rattle.std.specs.declared.option.Option.{Option}
use Rattle.std.specs.declared.option.Option.TheVariants.{None, Some}
use Rattle.mesh_base.specs.declared.definitions.Decl.{Decl}
use Rattle.mesh_io.specs.declared.files.File.{File}
use Rattle.mesh_query_tokens.specs.declared.faults.ReadFault.TheVariants as read
use Rattle.mesh_model.specs.Reads.{IsModelRead}
use Rattle.mesh_project_files.specs.declared.faults.LoadFault.{LoadFault}
use Rattle.mesh_project_files.specs.declared.faults.LoadFault.TheVariants.{Fault, Folder, Memory}
use Rattle.mesh_project_files.specs.declared.project.ModelFile.{ModelFile}
use Rattle.mesh_project_files.specs.declared.project.ProjectFiles.{ProjectFiles}
use Rattle.mesh_project_files.specs.Loading.{◌>>=◌, Gives, Refuses}
use Rattle.mesh_project_files.specs.Places.{below_models, is_python}
use Rattle.mesh_project_files.specs.Models.{file_within, IsTextRead, IsContentRead, IsReadAs, IsFileRead}
use Rattle.mesh_project_files.specs.Project.{AreRead, AreFiles, sources_in, paths_in, model_paths}

-- a refusal of one step refuses what would go on behind it
pub refused_first : {A B : Type 0} (fault : LoadFault) (first : Result A LoadFault) (next : A → Result B LoadFault) → Refuses fault first → Refuses fault (first >>= next)
refused_first (Fault file at kind) (Ok x) next e = cc e
refused_first (Fault file at kind) (Err f) next e = let same : f ≡ Fault file at kind = cc in ap (λ g. Err g) same
refused_first Folder first next e = tt
refused_first Memory first next e = tt

-- one step, and then the next
pub then_next : {A B : Type 0} (first : Result A LoadFault) (next : A → Result B LoadFault) (x : A) (result : Result B LoadFault) → first ≡ Ok x → Gives result (next x) → Gives result (first >>= next)
then_next first next x result e g = subst (λ r. Gives result r) (sym (ap (λ f. f >>= next) e)) g

-- a text of which nothing is known
model_unknown : (file bytes : List ℕ) → IsModelRead file bytes (Err read.Memory)
model_unknown file bytes = (Err read.Memory, tt, tt)

module _ (fs : List File) (dir file : List ℕ) where
  text_unknown : (bytes : List ℕ) → IsTextRead fs dir file bytes (Err Memory)
  text_unknown bytes = (Err read.Memory, model_unknown file bytes, tt)

  text_unasked : (bytes : List ℕ) → IsTextRead fs dir file bytes (Err Folder)
  text_unasked bytes = (Err read.Memory, model_unknown file bytes, tt)

  -- the file's bytes weren't had
  pub content_err : (meant : Result (Option (List ℕ)) LoadFault) (fault : LoadFault) → Refuses fault meant → IsContentRead fs dir file meant (Err fault)
  content_err (Ok None) (Fault f at kind) e = cc e
  content_err (Ok None) Folder e = tt
  content_err (Ok None) Memory e = tt
  content_err (Ok (Some bytes)) (Fault f at kind) e = cc e
  content_err (Ok (Some bytes)) Folder e = text_unasked bytes
  content_err (Ok (Some bytes)) Memory e = text_unknown bytes
  content_err (Err g) (Fault f at kind) e = let same : g ≡ Fault f at kind = cc in ap (λ x. Err x) same
  content_err (Err g) Folder e = tt
  content_err (Err g) Memory e = tt

module _ (fs : List File) (dir : List ℕ) where
  -- a file of which nothing is known
  pub file_unknown : (path : List ℕ) → IsFileRead fs dir path (Err Memory)
  file_unknown path = either (is_python path)
    where
      either : (b : Bool) → IsReadAs fs dir (below_models path) b (Err Memory)
      either true = tt
      either false = content_err fs dir (below_models path) (file_within fs dir (below_models path) _ _) Memory tt

  -- nothing is known of the files that are left
  pub unknown : (models : List ModelFile) (paths : List (List ℕ)) → AreRead fs dir models paths (Err Memory)
  unknown models [] = tt
  unknown models (path ∷ paths) = (Err Memory, file_unknown path, tt)

  abbrev behind_sources : Result (List ModelFile) LoadFault → List Decl → Result ProjectFiles LoadFault
  behind_sources models sources = paths_in fs dir >>= λ paths. models >>= λ models. Ok (record { sources = sources; models = models })

  pub without_sources : (fault : LoadFault) → Refuses fault (sources_in fs dir) → AreFiles fs dir (Err fault)
  without_sources fault e = (Err Memory, unknown [] (model_paths fs dir), refused_first fault (sources_in fs dir) (behind_sources (Err Memory)) e)

  pub without_paths : (fault : LoadFault) (sources : List Decl) → sources_in fs dir ≡ Ok sources → Refuses fault (paths_in fs dir) → AreFiles fs dir (Err fault)
  without_paths fault sources s e =
      let refused : Refuses fault (behind_sources (Err Memory) sources) = refused_first fault (paths_in fs dir) (λ paths. Err Memory) e in
      (Err Memory, unknown [] (model_paths fs dir), then_next (sources_in fs dir) (behind_sources (Err Memory)) sources (Err fault) s refused)

-- what comes of the files that are left comes of all
abbrev pub Goes : List File → List ℕ → List (List ℕ) → List (List ℕ) → List ModelFile → Type 0
Goes fs dir paths left models = (r : Result (List ModelFile) LoadFault) → AreRead fs dir models left r → AreRead fs dir [] paths r
