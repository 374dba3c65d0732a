-- The query of an audit's file for a model.
use Rattle.std.specs.Prelude.{ℕ, false, List, [], map, Result, Ok, Err}
use Rattle.mesh_base_values.specs.declared.values.Name.{Name}
use Rattle.mesh_base.specs.declared.queries.Query.{Query}
use Rattle.mesh_base.specs.declared.snapshots.Node.{Node}
use Rattle.mesh_query_tokens.specs.Gives.{◌>>=◌}
use Rattle.mesh_query_tokens.specs.declared.faults.ReadFault.{ReadFault}
use Rattle.mesh_query_grammar.specs.declared.surface.queries.Surface.{Surface}
use Rattle.mesh_model.specs.Reads.{IsQueryRead}
use Rattle.mesh_resolve.specs.declared.known.Known.{Known}
use Rattle.mesh_resolve.specs.Queries.{resolved}
use Rattle.mesh_project_files.specs.Loading.{Gives, of_text}
use Rattle.mesh_project_files.specs.declared.faults.LoadFault.{LoadFault}
use Rattle.mesh_project.specs.nodes.Nodes.{input_of}
use Rattle.mesh_audit_files.specs.text.Replaced.{with_name}
use Rattle.mesh_audit_files.specs.text.Texts.{placeless}
use Rattle.mesh_audit_files.specs.declared.files.AuditFile.{AuditFile}

-- what an audit's query may name: the models of the project, no sources and no macros
abbrev pub known_in : List Node → Known
known_in nodes = record { models = map input_of nodes; sources = []; macros = false }

-- a fault of a query has no place in its file
abbrev pub in_query : {A : Type 0} → List ℕ → Result A ReadFault → Result A LoadFault
in_query file (Ok x) = Ok x
in_query file (Err fault) = Err (of_text file (placeless fault))

-- a query whose tree is read so
abbrev pub query_of : Known → Result Surface ReadFault → Result Query ReadFault
query_of known tree = tree >>= resolved known

-- The query of an audit's file for a model: it is read with the model's name for `@this_model`.
abbrev pub IsQueryFor : Known → AuditFile → Name → Result Query LoadFault → Type 0
IsQueryFor known f model answer =
    (tree : Result Surface ReadFault) × IsQueryRead (with_name model f.text.tokens) 0 tree × Gives answer (in_query f.file (query_of known tree))
