-- The files of audits, or their first fault. A file's query is resolved for each model that lists its audit.
use Rattle.std.specs.Prelude.{ℕ, List, [], ◌∷◌, ◌++◌, codes, map, Result, Ok, Err}
use Rattle.std.specs.List.{filter}
use Rattle.std.specs.declared.option.Option.{Option}
use Rattle.std.specs.declared.option.Option.TheVariants.{None, Some}
use Rattle.mesh_base.specs.declared.queries.Query.{Query}
use Rattle.mesh_io.specs.declared.files.File.{File}
use Rattle.mesh_io.specs.Files.{listing}
use Rattle.mesh_query_tokens.specs.declared.faults.ReadFault.{ReadFault}
use Rattle.mesh_resolve.specs.declared.known.Known.{Known}
use Rattle.mesh_project_files.specs.Loading.{◌>>=◌, Gives, in_file}
use Rattle.mesh_project_files.specs.Models.{file_within}
use Rattle.mesh_project_files.specs.Places.{in_dir, is_sql, under}
use Rattle.mesh_project_files.specs.declared.faults.LoadFault.{LoadFault}
use Rattle.mesh_audit_files.specs.declared.text.texts.AuditText.{AuditText}
use Rattle.mesh_audit_files.specs.text.Texts.{IsAuditRead}
use Rattle.mesh_audit_files.specs.declared.files.AuditFile.{AuditFile}
use Rattle.mesh_audit_files.specs.Listings.{Listed, goes_by}
use Rattle.mesh_audit_files.specs.Queries.{IsQueryFor}
use Rattle.mesh_audit_files.specs.Walks.{Along, Then}

-- the file of an audit
abbrev pub audit_file : List ℕ → AuditText → AuditFile
audit_file file text = record { file = file; text = text }

abbrev pub audit_name : AuditFile → List ℕ
audit_name f = f.text.name

-- a file's query is right for a model that lists it
abbrev pub IsRightFor : Known → AuditFile → Unit {0} → Listed → Result (Unit {0}) LoadFault → Type 0
IsRightFor known f before l answer = (query : Result Query LoadFault) × IsQueryFor known f l.model.own.name query × Gives answer (query >>= λ right. Ok tt)

-- a file's query is right for each of the models that list it
abbrev pub IsRight : Known → List Listed → AuditFile → Result (Unit {0}) LoadFault → Type 0
IsRight known all f answer = Along (IsRightFor known f) tt (filter (goes_by f.text.name) all) answer

-- an audit's file that says this, behind those so far
abbrev pub IsAdded : Known → List Listed → List AuditFile → AuditFile → Result (List AuditFile) LoadFault → Type 0
IsAdded known all done f answer = (right : Result (Unit {0}) LoadFault) × IsRight known all f right × Gives answer (right >>= λ r. Ok (done ++ f ∷ []))

-- the audit's file of these bytes, behind those so far, whose names are taken
abbrev pub IsTextAdded : Known → List Listed → List AuditFile → List ℕ → List ℕ → Result (List AuditFile) LoadFault → Type 0
IsTextAdded known all done file bytes answer =
    (text : Result AuditText ReadFault) × IsAuditRead (map audit_name done) bytes text
    × Then (in_file file text) (λ t. IsAdded known all done (audit_file file t) answer) answer

-- a file that isn't there any more is passed over
abbrev pub IsContentAdded : Known → List Listed → List AuditFile → List ℕ → Option (List ℕ) → Result (List AuditFile) LoadFault → Type 0
IsContentAdded known all done file None answer = Gives answer (Ok done)
IsContentAdded known all done file (Some bytes) answer = IsTextAdded known all done file bytes answer

-- the file of a path below `audits`, of at most 1,048,576 bytes, behind those so far
abbrev pub IsFileAdded : List File → List ℕ → Known → List Listed → List AuditFile → List ℕ → Result (List AuditFile) LoadFault → Type 0
IsFileAdded files dir known all done path answer =
    let file = under (codes "audits") path in
    Then (file_within files dir file (codes "file") 1048576) (λ content. IsContentAdded known all done file content answer) answer

-- the paths below `audits` that end in `.sql`, by their bytes
abbrev pub audit_paths : List File → List ℕ → List (List ℕ)
audit_paths files dir = filter is_sql (listing (in_dir dir (codes "audits")) files)

-- The audits' files of the project in DIR, or their first fault.
abbrev pub AreAuditFiles : List File → List ℕ → Known → List Listed → Result (List AuditFile) LoadFault → Type 0
AreAuditFiles files dir known all answer = Along (IsFileAdded files dir known all) [] (audit_paths files dir) answer
