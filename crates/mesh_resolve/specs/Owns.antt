-- The own definition of a model: what its file and its seed say, with its query resolved and the sources that this
-- reads.
use Rattle.std.specs.Prelude.{ℕ, Bool, true, false, ◌&&◌, not, List, [], ◌∷◌, Result, Ok, Err}
use Rattle.std.specs.List.{list_any, filter}
use Rattle.std.specs.Option.{is_some}
use Rattle.std.specs.declared.option.Option.{Option}
use Rattle.std.specs.declared.option.Option.TheVariants.{None, Some}
use Rattle.mesh_list.specs.Keyed.{found, placed}
use Rattle.mesh_base_values.specs.declared.kinds.Kind.{Kind}
use Rattle.mesh_base_values.specs.declared.kinds.Kind.TheVariants.{Seed as SeedKind}
use Rattle.mesh_base_values.specs.declared.values.ColType.TheVariants.{Bool as Truth}
use Rattle.mesh_base_values.specs.declared.values.Column.{Column}
use Rattle.mesh_base_values.specs.declared.values.Name.{Name}
use Rattle.mesh_base_values.specs.declared.values.Seed.{Seed}
use Rattle.mesh_base_values.specs.Kinds.{time_column}
use Rattle.mesh_base_values.specs.Names.{name_cmp}
use Rattle.mesh_base_values.specs.Picked.{same_text}
use Rattle.mesh_base_values.specs.Types.{same_type}
use Rattle.mesh_base.specs.declared.definitions.Decl.{Decl}
use Rattle.mesh_base.specs.declared.definitions.Defn.{Defn}
use Rattle.mesh_base.specs.declared.definitions.Defn.TheVariants as body
use Rattle.mesh_base.specs.declared.definitions.Own.{Own}
use Rattle.mesh_base.specs.declared.queries.Query.{Query}
use Rattle.mesh_base.specs.Keys.{input_name}
use Rattle.mesh_base.specs.Outputs.{select_columns}
use Rattle.mesh_model_statement.specs.declared.model.model.ModelText.{ModelText}
use Rattle.mesh_base.specs.rules.Proper.{defn_names, is_among}
use Rattle.mesh_query_grammar.specs.declared.surface.queries.Surface.{Surface}
use Rattle.mesh_query_tokens.specs.Gives.{◌>>=◌}
use Rattle.mesh_query_tokens.specs.Walk.{provided}
use Rattle.mesh_query_tokens.specs.declared.faults.ReadFault.{ReadFault}
use Rattle.mesh_resolve_types.specs.Faults.{mismatch, no_time_column, unwritten}
use Rattle.mesh_resolve.specs.declared.known.Known.{Known}
use Rattle.mesh_resolve.specs.Relations.{decl_name}
use Rattle.mesh_resolve.specs.Queries.{resolved}

-- a declared source is read where the query names it; a model hides a source of its name
abbrev pub is_read : Known → List Name → Decl → Bool
is_read known names d = is_among names d.name && not (is_some (found name_cmp input_name d.name known.models))

-- each once, in the order of the names, the first of two of one name counting
abbrev pub in_order : List Decl → List Decl
in_order [] = []
in_order (d ∷ ds) = placed name_cmp decl_name d (in_order ds)

-- the declarations of the sources that a query reads
unfoldable pub sources_read : Known → Query → List Decl
sources_read known q = in_order (filter (is_read known (defn_names (body.Sql q))) known.sources)

-- a column of that name is there, and no BOOL
abbrev pub keeps_time : List ℕ → Column → Bool
keeps_time time c = same_text c.name time && not (same_type Truth c.kind)

abbrev pub timed : Option (List ℕ) → List Column → Result (Unit {0}) ReadFault
timed None columns = Ok tt
timed (Some time) columns = provided (list_any (keeps_time time) columns) tt (no_time_column time)

-- the same names and types in the same order
abbrev pub are_same_columns : List Column → List Column → Bool
are_same_columns [] [] = true
are_same_columns (a ∷ cs) (b ∷ ds) = same_text a.name b.name && (same_type a.kind b.kind && are_same_columns cs ds)
are_same_columns _ _ = false

-- columns that a model's file names are those that its query has
abbrev pub as_declared : List Column → List Column → Result (Unit {0}) ReadFault
as_declared [] columns = Ok tt
as_declared (c ∷ cs) columns = provided (are_same_columns (c ∷ cs) columns) tt (mismatch 0)

-- a model's body, with the sources that it reads
abbrev pub Behind : Type 0
Behind = Defn × List Decl

-- a query, whose time column and columns are looked at once it is resolved
unfoldable pub query_body : Known → Kind → List Column → Surface → Result Behind ReadFault
query_body known kind declared q = do
  query ← resolved known q
  timed ← timed (time_column kind) (select_columns query.selects)
  same ← as_declared declared (select_columns query.selects)
  Ok (body.Sql query, sources_read known query)

-- a seed's rows, or the query; a model has one of the two
abbrev pub body_of : Known → Kind → List Column → Option Seed → Option Surface → Result Behind ReadFault
body_of known kind declared (Some seed) query = Ok (body.Seed seed.columns seed.rows, [])
body_of known kind declared None (Some query) = query_body known kind declared query
body_of known kind declared None None = Err (unwritten 0)

abbrev pub with_body : ModelText → Behind → Own
with_body m b = record {
  name = m.name;
  kind = m.kind;
  cron = m.cron;
  unit = m.unit;
  start = m.start;
  sources = b.1;
  defn = b.0;
}

-- the own definition of a model, or the first fault of its query
unfoldable pub own : ModelText → Option Seed → Known → Result Own ReadFault
own m seed known = body_of known m.kind m.columns seed m.query >>= λ b. Ok (with_body m b)

-- A seed is handed over exactly where the kind is SEED, a query is there for every other kind, and macros are known
-- exactly for an incremental one.
abbrev pub is_seed : Kind → Bool
is_seed SeedKind = true
is_seed other = false
