-- What an audit's file says, or its first fault: that of its statement, then that of its query, whose faults are told
-- at place 0, and then an absent name.
use Rattle.std.specs.Prelude.{ℕ, List, [], codes, if◌then◌else◌, Result, Ok, Err}
use Rattle.std.specs.declared.option.Option.{Option}
use Rattle.std.specs.declared.option.Option.TheVariants.{None, Some}
use Rattle.mesh_base_values.specs.declared.values.Name.{Name}
use Rattle.mesh_query_tokens.specs.Gives.{◌>>=◌, Gives}
use Rattle.mesh_query_tokens.specs.bounds.Brackets.{or_fault}
use Rattle.mesh_query_tokens.specs.declared.faults.ReadFault.{ReadFault}
use Rattle.mesh_query_tokens.specs.declared.faults.ReadFault.TheVariants.{Fault, Memory}
use Rattle.mesh_query_tokens.specs.declared.tokens.Token.{Token}
use Rattle.mesh_query_grammar.specs.declared.surface.queries.Surface.{Surface}
use Rattle.mesh_model_statement.specs.Faults.{bad}
use Rattle.mesh_model.specs.Lexed.{file_fault, file_tokens}
use Rattle.mesh_model.specs.ModelTexts.{is_want}
use Rattle.mesh_model.specs.Reads.{IsQueryRead}
use Rattle.mesh_audit_files.specs.declared.text.texts.AuditText.{AuditText}
use Rattle.mesh_audit_files.specs.text.Replaced.{with_name}
use Rattle.mesh_audit_files.specs.text.Statement.{Headed, statement}

-- a fault of the query of an audit's file has no place in it
abbrev pub placeless : ReadFault → ReadFault
placeless (Fault at kind) = Fault 0 kind
placeless Memory = Memory

-- a fault of these tokens, or that of the faulty one behind them where the first says only that tokens are wanting
abbrev pub or_token : List Token → Option ReadFault → ReadFault → ReadFault
or_token ts None fault = fault
or_token ts (Some token) fault = if is_want ts fault then token else fault

-- a model's name that stands for that of any model, where the query is read by itself
abbrev pub any_model : Name
any_model = record { schema = codes "this"; model = codes "model" }

-- the tokens behind the statement
abbrev pub behind : Result Headed ReadFault → List Token
behind (Ok r) = r.rest
behind (Err fault) = []

-- the query's tokens, as they are read by themselves
abbrev pub alone : List (List ℕ) → List Token → List Token
alone taken ts = with_name any_model (behind (statement taken ts))

abbrev pub first_fault : List Token → Option ReadFault → Result Headed ReadFault → Result Headed ReadFault
first_fault ts token (Ok r) = Ok r
first_fault ts token (Err fault) = Err (or_token ts token fault)

abbrev pub no_token : Option ReadFault → Result (Unit {0}) ReadFault
no_token None = Ok tt
no_token (Some token) = Err (placeless token)

-- a query that was read so says nothing by itself but its fault, or that of the faulty token behind it
abbrev pub query_fault : List Token → Option ReadFault → Result Surface ReadFault → Result (Unit {0}) ReadFault
query_fault ts token (Ok tree) = no_token token
query_fault ts token (Err fault) = Err (placeless (or_token ts token fault))

-- an audit's name and the tokens of its query
abbrev pub named : Headed → Result AuditText ReadFault
named r = or_fault (bad 0 (codes "name")) r.head.name >>= λ name. Ok (record { name = name; tokens = r.rest })

-- what a file says behind whose statement this query stands by itself
abbrev pub whole : Option ReadFault → Result Surface ReadFault → Headed → Result AuditText ReadFault
whole token query r = query_fault (with_name any_model r.rest) token query >>= λ right. named r

-- what a file says whose tokens in front of its faulty one are these, where the query by itself is read so
abbrev pub text_of : List (List ℕ) → List Token → Option ReadFault → Result Surface ReadFault → Result AuditText ReadFault
text_of taken ts token query = first_fault ts token (statement taken ts) >>= whole token query

-- what an audit's file of these bytes says, where earlier files have taken these names
abbrev pub IsAuditRead : List (List ℕ) → List ℕ → Result AuditText ReadFault → Type 0
IsAuditRead taken bytes answer =
    (query : Result Surface ReadFault) × IsQueryRead (alone taken (file_tokens bytes)) 0 query
    × Gives answer (text_of taken (file_tokens bytes) (file_fault bytes) query)
