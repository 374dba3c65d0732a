-- The audits of a project, or the first fault of their files and of what models list.
use Rattle.std.specs.Prelude.{ℕ, not, List, [], ◌∷◌, ◌++◌, codes, Result, Ok, Err}
use Rattle.std.specs.List.{find}
use Rattle.std.specs.Str.{bytes_eq}
use Rattle.std.specs.declared.option.Option.{Option}
use Rattle.std.specs.declared.option.Option.TheVariants.{None, Some}
use Rattle.mesh_base_values.specs.declared.values.Column.{Column}
use Rattle.mesh_base.specs.Outputs.{columns_of}
use Rattle.mesh_base.specs.declared.queries.Query.{Query}
use Rattle.mesh_base.specs.declared.snapshots.Node.{Node}
use Rattle.mesh_base.specs.rules.Proper.{ProjectNodes}
use Rattle.mesh_base.specs.rules.Seen.{has_column}
use Rattle.mesh_io.specs.declared.files.File.{File}
use Rattle.mesh_query_tokens.specs.declared.faults.FaultKind.TheVariants.{UnknownColumn}
use Rattle.mesh_project_files.specs.Loading.{◌>>=◌, Gives}
use Rattle.mesh_project_files.specs.Project.{AreFiles}
use Rattle.mesh_project_files.specs.declared.faults.LoadFault.{LoadFault}
use Rattle.mesh_project_files.specs.declared.faults.LoadFault.TheVariants.{Fault}
use Rattle.mesh_project_files.specs.declared.project.ModelFile.{ModelFile}
use Rattle.mesh_project_files.specs.declared.project.ProjectFiles.{ProjectFiles}
use Rattle.mesh_resolve.specs.declared.known.Known.{Known}
use Rattle.mesh_audit.specs.declared.audits.AuditSet.{AuditSet}
use Rattle.mesh_audit.specs.Forms.{not_null, unique_values}
use Rattle.mesh_audit_files.specs.declared.text.entries.Entry.{Entry}
use Rattle.mesh_audit_files.specs.declared.text.entries.Entry.TheVariants.{Named, NotNull, UniqueValues, Other}
use Rattle.mesh_audit_files.specs.declared.files.AuditFile.{AuditFile}
use Rattle.mesh_audit_files.specs.Files.{AreAuditFiles}
use Rattle.mesh_audit_files.specs.Listings.{Listed, all_listed}
use Rattle.mesh_audit_files.specs.Queries.{IsQueryFor, known_in}
use Rattle.mesh_audit_files.specs.Walks.{Along, Then}

abbrev pub no_audits : AuditSet
no_audits = record { audits = []; unknown = [] }

-- one audit more that is run
abbrev pub with_audit : AuditSet → Node → List ℕ → Query → AuditSet
with_audit set n name query = record set { audits = set.audits ++ record { model = n.own.name; name = name; query = query } ∷ [] }

-- one name more that isn't
abbrev pub with_unknown : AuditSet → Node → List ℕ → AuditSet
with_unknown set n name = record set { unknown = set.unknown ++ record { model = n.own.name; name = name } ∷ [] }

-- the first of some columns that a model doesn't have
abbrev pub missing_column : List Column → List (List ℕ) → Option (List ℕ)
missing_column columns names = find (λ name. not (has_column columns name)) names

-- an audit over columns, which the model has to have
abbrev pub over_columns : AuditSet → Listed → List ℕ → Query → Option (List ℕ) → Result AuditSet LoadFault
over_columns set l name query None = Ok (with_audit set l.model name query)
over_columns set l name query (Some column) = Err (Fault l.file 0 (UnknownColumn column))

-- the audit of a file, by its name
abbrev pub file_named : List AuditFile → List ℕ → Option AuditFile
file_named files name = find (λ (f : AuditFile). bytes_eq f.text.name name) files

-- an entry that goes by a name is run where a file has that name
abbrev pub IsNamed : Known → AuditSet → Listed → List ℕ → Option AuditFile → Result AuditSet LoadFault → Type 0
IsNamed known set l name None answer = Gives answer (Ok (with_unknown set l.model name))
IsNamed known set l name (Some f) answer =
    (query : Result Query LoadFault) × IsQueryFor known f l.model.own.name query × Gives answer (query >>= λ q. Ok (with_audit set l.model name q))

-- an entry of a model, by what it asks for
abbrev pub IsTakenAs : Known → List AuditFile → AuditSet → Listed → Entry → Result AuditSet LoadFault → Type 0
IsTakenAs known files set l (Named name) answer = IsNamed known set l name (file_named files name) answer
IsTakenAs known files set l (NotNull columns) answer =
    Gives answer (over_columns set l (codes "not_null") (not_null l.model.own.name columns) (missing_column (columns_of l.model.own) columns))
IsTakenAs known files set l (UniqueValues columns) answer =
    Gives answer (over_columns set l (codes "unique_values") (unique_values l.model.own.name columns) (missing_column (columns_of l.model.own) columns))
IsTakenAs known files set l (Other text) answer = Gives answer (Ok (with_unknown set l.model text))

abbrev pub IsTaken : Known → List AuditFile → AuditSet → Listed → Result AuditSet LoadFault → Type 0
IsTaken known files set l answer = IsTakenAs known files set l l.entry answer

-- what models list, where the audits' files are these
abbrev pub AreTaken : Known → List Listed → List AuditFile → Result AuditSet LoadFault → Type 0
AreTaken known all files answer = Along (IsTaken known files) no_audits all answer

-- the audits of a project whose models list all this: their files come first, and then what is listed
abbrev pub IsSetOf : List File → List ℕ → Known → List Listed → Result AuditSet LoadFault → Type 0
IsSetOf files dir known all answer =
    (read : Result (List AuditFile) LoadFault) × AreAuditFiles files dir known all read × Then read (λ fs. AreTaken known all fs answer) answer

-- the same where the models' files are known
abbrev pub AuditsIn : List File → List ℕ → List ModelFile → ProjectNodes → Result AuditSet LoadFault → Type 0
AuditsIn files dir models p answer = IsSetOf files dir (known_in p.nodes) (all_listed models p.nodes) answer

-- AuditsOf: the audits of the project in DIR that are run, and the names that aren't, by rank and name of the model and
-- then in written order; or the first fault of the audits' files and of what models list.
abbrev pub AuditsOf : List File → List ℕ → ProjectNodes → Result AuditSet LoadFault → Type 0
AuditsOf files dir p answer =
    (read : Result ProjectFiles LoadFault) × AreFiles files dir read × Then read (λ r. AuditsIn files dir r.models p answer) answer
