-- A model's node over those of the models before it, or the first fault of its query.
use Rattle.std.specs.Prelude.{ℕ, List, [], ◌∷◌, ◌++◌, map, Result, Ok}
use Rattle.std.specs.List.{flat_map, slice_get}
use Rattle.std.specs.declared.option.Option.{Option}
use Rattle.std.specs.declared.option.Option.TheVariants.{None, Some}
use Rattle.sha2.specs.Sha256.{sha256}
use Rattle.mesh_base_values.specs.Kinds.{is_incremental}
use Rattle.mesh_base_values.specs.declared.kinds.Kind.{Kind}
use Rattle.mesh_base.specs.Outputs.{columns_of}
use Rattle.mesh_base.specs.declared.definitions.Decl.{Decl}
use Rattle.mesh_base.specs.declared.definitions.Own.{Own}
use Rattle.mesh_base.specs.declared.jobs.Input.{Input}
use Rattle.mesh_base.specs.declared.snapshots.Node.{Node}
use Rattle.mesh_base.specs.declared.snapshots.Ref.{Ref}
use Rattle.mesh_canon_text.specs.Text.{node_text}
use Rattle.mesh_resolve.specs.declared.known.Known.{Known}
use Rattle.mesh_resolve.specs.Owns.{own}
use Rattle.mesh_law_reading.specs.Formed.{IsReadModel}
use Rattle.mesh_project.specs.declared.order.readers.Ranked.{Ranked}
use Rattle.mesh_project_files.specs.Loading.{◌>>=◌, in_file}
use Rattle.mesh_project_files.specs.declared.faults.LoadFault.{LoadFault}
use Rattle.mesh_project_files.specs.declared.project.ModelFile.{ModelFile}
use Rattle.mesh_project.specs.declared.nodes.earlier.Place.{Place}
use Rattle.mesh_project.specs.nodes.Earlier.{named, place_at}
use Rattle.mesh_project.specs.nodes.Reads.{text_reads}
use Rattle.mesh_project.specs.nodes.Walk.{along}

-- a model as a table without rows
abbrev pub input_of : Node → Input
input_of n = record { name = n.own.name; columns = columns_of n.own; rows = [] }

-- the same where there is a model
abbrev pub input_at : Option Node → List Input
input_at None = []
input_at (Some n) = input_of n ∷ []

-- the models at these places, as tables
abbrev pub inputs_at : List Node → List Place → List Input
inputs_at nodes places = flat_map (λ (p : Place). input_at (slice_get nodes p.at)) places

-- what the query of a model may read: the models before it and the declared sources, with macros for an incremental
-- model
abbrev pub known_before : List Decl → List Node → Kind → Known
known_before sources nodes kind = record {
  models = map input_of nodes;
  sources = sources;
  macros = is_incremental kind;
}

-- the same of the models at these places alone
abbrev pub known_to : List Decl → List Node → List Place → Kind → Known
known_to sources nodes places kind = record {
  models = inputs_at nodes places;
  sources = sources;
  macros = is_incremental kind;
}

-- a model at its fingerprint, where there is one
abbrev pub ref_at : Option Node → List Ref
ref_at None = []
ref_at (Some n) = (record { name = n.own.name; fingerprint = n.fingerprint }) ∷ []

-- the models at these places, each at its fingerprint
abbrev pub refs_at : List Node → List Place → List Ref
refs_at nodes places = flat_map (λ (p : Place). ref_at (slice_get nodes p.at)) places

-- A model over those before it. Its fingerprint is the SHA-256 of its definition and its parents' fingerprints.
abbrev pub node_over : List Node → ℕ → List Place → Own → Node
node_over nodes rank places own = record {
  own = own;
  parents = map place_at places;
  rank = rank;
  fingerprint = sha256 (node_text own (refs_at nodes places));
}

-- the models that a model's query names, among those before it
abbrev pub parents_of : List Node → ModelFile → List Place
parents_of nodes f = named nodes (text_reads f.text.query)

-- a model's own definition, over the models before it and the declared sources
abbrev pub own_over : List Decl → List Node → ModelFile → Result Own LoadFault
own_over sources nodes f = in_file f.text.file (own f.text f.seed (known_before sources nodes f.text.kind))

-- a model of this rank over those before it
abbrev pub model_over : List Decl → List Node → ℕ → ModelFile → Result Node LoadFault
model_over sources nodes rank f = own_over sources nodes f >>= λ o. Ok (node_over nodes rank (parents_of nodes f) o)

-- one model more, where there is a file
abbrev pub with_file : List Decl → List Node → ℕ → Option ModelFile → Result (List Node) LoadFault
with_file sources nodes rank None = Ok nodes
with_file sources nodes rank (Some f) = model_over sources nodes rank f >>= λ n. Ok (nodes ++ n ∷ [])

-- the model at a place of the files is the next one
abbrev pub with_model : List Decl → List ModelFile → List Node → Ranked → Result (List Node) LoadFault
with_model sources files nodes r = with_file sources nodes r.rank (slice_get files r.at)

-- the models in this order, each over those before it
abbrev pub nodes_of : List Decl → List ModelFile → List Ranked → Result (List Node) LoadFault
nodes_of sources files order = along (with_model sources files) [] order

-- a model's file with its seed, as reading leaves it
abbrev pub IsWhole : ModelFile → Type 0
IsWhole f = IsReadModel f.text f.seed
