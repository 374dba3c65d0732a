-- The text of the rows of a query over an environment's models.
use Rattle.std.specs.Prelude.{ℕ, false, List, [], codes, map, Result, Ok, Err}
use Rattle.mesh_query_tokens.specs.Text.{tokens}
use Rattle.mesh_query_tokens.specs.declared.faults.ReadFault.{ReadFault}
use Rattle.mesh_query_tokens.specs.declared.faults.ReadFault.TheVariants as faults
use Rattle.mesh_query_tokens.specs.declared.tokens.Token.{Token}
use Rattle.mesh_query_grammar.specs.declared.surface.queries.Surface.{Surface}
use Rattle.mesh_base.specs.Outputs.{select_columns}
use Rattle.mesh_base.specs.declared.jobs.Input.{Input}
use Rattle.mesh_base.specs.declared.queries.Query.{Query}
use Rattle.mesh_base.specs.declared.snapshots.Ref.{Ref}
use Rattle.mesh_base.specs.declared.snapshots.Snapshot.{Snapshot}
use Rattle.mesh_house_book.specs.declared.book.Book.{Book}
use Rattle.mesh_house_book.specs.WellFormed.{columns_at, snapshot_at}
use Rattle.mesh_resolve.specs.declared.known.Known.{Known}
use Rattle.mesh_resolve.specs.Queries.{resolved}
use Rattle.mesh_model.specs.Lexed.{or_none}
use Rattle.mesh_house.specs.declared.world.World.{World}
use Rattle.mesh_layer.specs.Asked.{asked, lost_asked}
use Rattle.mesh_cli_print.specs.declared.printed.refusals.Refusal.{Refusal}
use Rattle.mesh_cli_print.specs.declared.printed.refusals.Refusal.TheVariants.{Model, Memory}
use Rattle.mesh_cli_look.specs.asking.Looks.{◌>>=◌, list_of, printed}

-- a fault of the words' query, which is in no file
abbrev pub of_word : ReadFault → Refusal
of_word (faults.Fault at kind) = Model (codes "-") at kind
of_word faults.Memory = Memory

-- what is read of the words' query
abbrev pub word : {T : Type 0} → Result T ReadFault → Result T Refusal
word (Ok x) = Ok x
word (Err fault) = Err (of_word fault)

-- the tokens of the words' query, or none where they have a fault
abbrev pub word_tokens : List ℕ → List Token
word_tokens text = or_none (tokens text)

-- a model of an environment as a query may name it: its output columns
abbrev pub model_seen : List Snapshot → Ref → Input
model_seen all r = record { name = r.name; columns = columns_at (snapshot_at all r); rows = [] }

-- what a query may name: the models of a list, no sources and no macros
abbrev pub seen : Book → List Ref → Known
seen b list = record { models = map (model_seen b.snapshots) list; sources = []; macros = false }

-- the query of its tree, over what it may name
abbrev pub tree_over : Known → Result Surface ReadFault → Result Query Refusal
tree_over known query = word query >>= λ tree. word (resolved known tree)

-- the words' query over what it may name, where its tree is read so: a fault of its tokens comes first
abbrev pub word_over : Known → List ℕ → Result Surface ReadFault → Result Query Refusal
word_over known text query = word (tokens text) >>= λ ts. tree_over known query

-- what a query over an environment's models may name
abbrev pub known_of : Book → List ℕ → Result Known Refusal
known_of b env = list_of b env >>= λ list. Ok (seen b list)

-- the words' query over the models of an environment
abbrev pub worded : Book → List ℕ → List ℕ → Result Surface ReadFault → Result Query Refusal
worded b env text query = known_of b env >>= λ known. word_over known text query

-- the text of its rows, in a world
abbrev pub fetched : Book → List ℕ → List ℕ → Result Surface ReadFault → World → Result (List ℕ) Refusal
fetched b env text query w = worded b env text query >>= λ q. printed (select_columns q.selects) (asked b env q w) (lost_asked b env q w)
