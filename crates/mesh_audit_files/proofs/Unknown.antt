-- Calls that ran out of memory: nothing is known then.
use Rattle.std.proofs.Common.{◌≡◌, ℕ, List, [], map, Result, Ok, Err, refl, sym, subst}
use Rattle.std.specs.declared.option.Option.{Option}
use Rattle.std.specs.declared.option.Option.TheVariants.{None, Some}
use Rattle.std.specs.Prelude.{codes}
use Rattle.mesh_io.specs.declared.files.File.{File}
use Rattle.mesh_query_tokens.specs.declared.faults.ReadFault.{ReadFault}
use Rattle.mesh_query_tokens.specs.declared.faults.ReadFault.TheVariants as faults
use Rattle.mesh_resolve.specs.declared.known.Known.{Known}
use Rattle.mesh_project_files.specs.Loading.{Refuses, in_file}
use Rattle.mesh_project_files.specs.Models.{file_within}
use Rattle.mesh_project_files.specs.Places.{under}
use Rattle.mesh_project_files.specs.declared.faults.LoadFault.{LoadFault}
use Rattle.mesh_project_files.specs.declared.faults.LoadFault.TheVariants.{Fault, Folder, Memory}
use Rattle.mesh_audit_files.specs.text.Texts.{IsAuditRead}
use Rattle.mesh_audit_files.specs.declared.text.texts.AuditText.{AuditText}
use Rattle.mesh_audit_files.specs.declared.files.AuditFile.{AuditFile}
use Rattle.mesh_audit_files.specs.Files.{AreAuditFiles, IsAdded, IsContentAdded, IsFileAdded, IsTextAdded, audit_file, audit_name, audit_paths}
use Rattle.mesh_audit_files.specs.Listings.{Listed}
use Rattle.mesh_audit_files.specs.Sets.{IsSetOf}
use Rattle.mesh_audit_files.specs.Walks.{Then}
use Rattle.mesh_audit_files.proofs.Walking.{IsSilent, silent_gives, then_refused, wants}

pub content_unknown : (fault : LoadFault) → IsSilent fault → (known : Known) (all : List Listed) (done : List AuditFile) (file : List ℕ) (content : Option (List ℕ)) → IsContentAdded known all done file content (Err fault)
content_unknown fault silent known all done file None = silent_gives fault silent (Ok done)
content_unknown fault silent known all done file (Some bytes) = (Err faults.Memory, (Err faults.Memory, tt, tt), silent_gives fault silent (Err Memory))

pub file_unknown : (fs : List File) (dir : List ℕ) (known : Known) (all : List Listed) (done : List AuditFile) (path : List ℕ) → IsFileAdded fs dir known all done path (Err Memory)
file_unknown fs dir known all done path = at (file_within fs dir (under (codes "audits") path) (codes "file") 1048576)
  where
    at : (r : Result (Option (List ℕ)) LoadFault) → Then {X = List AuditFile} r (λ content. IsContentAdded known all done (under (codes "audits") path) content (Err Memory)) (Err Memory)
    at (Ok content) = content_unknown Memory tt known all done (under (codes "audits") path) content
    at (Err fault) = tt

-- the file's bytes weren't had
pub file_refused : (fs : List File) (dir : List ℕ) (known : Known) (all : List Listed) (done : List AuditFile) (path : List ℕ) (fault : LoadFault)
    → Refuses fault (file_within fs dir (under (codes "audits") path) (codes "file") 1048576) → IsFileAdded fs dir known all done path (Err fault)
file_refused fs dir known all done path fault is =
    then_refused (List AuditFile) (file_within fs dir (under (codes "audits") path) (codes "file") 1048576) (λ content. IsContentAdded known all done (under (codes "audits") path) content (Err fault)) fault is
    (λ content silent. content_unknown fault silent known all done (under (codes "audits") path) content)

pub files_unknown : (fault : LoadFault) → IsSilent fault → (fs : List File) (dir : List ℕ) (known : Known) (all : List Listed) → AreAuditFiles fs dir known all (Err fault)
files_unknown fault silent fs dir known all = wants (IsFileAdded fs dir known all) (file_unknown fs dir known all) fault silent [] (audit_paths fs dir)

-- the paths weren't had
pub paths_refused : (fs : List File) (dir : List ℕ) (known : Known) (all : List Listed) (paths : List (List ℕ)) (fault : LoadFault) → Refuses fault (Ok paths) → AreAuditFiles fs dir known all (Err fault)
paths_refused fs dir known all paths (Fault file at kind) is = absurd (cc is)
paths_refused fs dir known all paths Folder is = files_unknown Folder tt fs dir known all
paths_refused fs dir known all paths Memory is = files_unknown Memory tt fs dir known all

pub set_unknown : (fs : List File) (dir : List ℕ) (known : Known) (all : List Listed) → IsSetOf fs dir known all (Err Memory)
set_unknown fs dir known all = (Err Memory, files_unknown Memory tt fs dir known all, tt)

-- the file's text was refused
pub text_refused : (known : Known) (all : List Listed) (done : List AuditFile) (file bytes : List ℕ) (fault : LoadFault) (text : Result AuditText ReadFault) → IsAuditRead (map audit_name done) bytes text
    → Refuses fault (in_file file text) → IsTextAdded known all done file bytes (Err fault)
text_refused known all done file bytes (Fault f at kind) text read is =
    (text, read, subst (λ (r : Result AuditText LoadFault). Then {X = List AuditFile} r (λ t. IsAdded known all done (audit_file file t) (Err (Fault f at kind))) (Err (Fault f at kind))) (sym is) refl)
text_refused known all done file bytes Folder text read is = (Err faults.Memory, (Err faults.Memory, tt, tt), tt)
text_refused known all done file bytes Memory text read is = (Err faults.Memory, (Err faults.Memory, tt, tt), tt)
