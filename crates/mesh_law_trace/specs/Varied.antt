-- Models over seeds and sources that differ where no trace has them.
use Rattle.std.specs.Prelude.{◌≡◌, ℕ, ⊤, false, List, [], if◌then◌else◌}
use Rattle.std.specs.List.{Contains, flat_map}
use Rattle.std.specs.Option.{option_to_list}
use Rattle.std.specs.Ordering.{is_eq}
use Rattle.std.specs.declared.option.Option.TheVariants.{Some}
use Rattle.mesh_base_values.specs.Bag.{IsSameBag}
use Rattle.mesh_base_values.specs.Kinds.{is_incremental}
use Rattle.mesh_base_values.specs.Names.{name_cmp}
use Rattle.mesh_base_values.specs.declared.values.Name.{Name}
use Rattle.mesh_base.specs.declared.definitions.Decl.{Decl}
use Rattle.mesh_base.specs.declared.definitions.Defn.{Defn}
use Rattle.mesh_base.specs.declared.definitions.Defn.TheVariants.{Seed, Sql}
use Rattle.mesh_base.specs.declared.definitions.Own.{Own}
use Rattle.mesh_base.specs.declared.jobs.Input.{Input}
use Rattle.mesh_spec_model.specs.Closures.{Closure, Closures, Model, Alone, With, own_of}
use Rattle.mesh_spec_model.specs.Horizons.{Clock}
use Rattle.mesh_spec_model.specs.Scratch.{from_scratch, table_of}
use Rattle.mesh_spec_model.specs.Sources.{declared}
use Rattle.mesh_law_query.specs.Cuts.{cut}
use Rattle.mesh_trace.specs.Feeds.{alone}
use Rattle.mesh_trace.specs.declared.traces.Trace.{Trace}

-- the same query, or seeds of the same columns
abbrev pub IsVariedAs : Own → Defn → Defn → Type 0
IsVariedAs own (Seed columns rows) (Seed others more) = (is_incremental own.kind ≡ false) × (columns ≡ others)
IsVariedAs own (Sql q) (Sql p) = q ≡ p
IsVariedAs own (Seed columns rows) (Sql p) = ⊥
IsVariedAs own (Sql q) (Seed others more) = ⊥

-- definitions that differ at most in the rows of a seed
abbrev pub IsVaried : Own → Own → Type 0
IsVaried own other = (record own { defn = other.defn } ≡ other) × IsVariedAs own own.defn other.defn

-- models that differ at most in the rows of seeds among them and their ancestors
abbrev mutual
  pub AreVaried : Closure → Closure → Type 0
  AreVaried (Model own parents) (Model other others) = IsVaried own other × HaveVaried parents others

  pub HaveVaried : Closures → Closures → Type 0
  HaveVaried Alone Alone = ⊤
  HaveVaried (With c cs) (With d ds) = AreVaried c d × HaveVaried cs ds
  HaveVaried Alone (With d ds) = ⊥
  HaveVaried (With c cs) Alone = ⊥

-- the columns of a relation among what is fed
abbrev pub columns_fed : List Trace → Name → List (List ℕ)
columns_fed fed name = flat_map (λ (t : Trace). if is_eq (name_cmp t.relation name) then option_to_list t.column else []) fed

-- A relation that is among it has the same rows as far as its columns there go, in whatever order: as many rows, if
-- none of its columns is.
abbrev pub AgreeAt : List Trace → Name → Input → Input → Type 0
AgreeAt fed name a b = Contains fed (alone name) → IsSameBag (cut (columns_fed fed name) (Some a)) (cut (columns_fed fed name) (Some b))

-- so it is with each source that a definition declares
abbrev pub SourcesAgree : List Trace → List Input → List Input → Own → Type 0
SourcesAgree fed a b own = (d : Decl) → Contains own.sources d → AgreeAt fed d.name (declared a d) (declared b d)

-- and with the rows of a seed
abbrev pub SeedsAgree : List Trace → Own → Own → Defn → Defn → Type 0
SeedsAgree fed own other (Seed columns rows) (Seed others more) = AgreeAt fed own.name (table_of own rows) (table_of other more)
SeedsAgree fed own other (Seed columns rows) (Sql p) = ⊤
SeedsAgree fed own other (Sql q) d = ⊤

-- and with all of these among a model and its ancestors
abbrev mutual
  pub Agree : List Trace → List Input → List Input → Closure → Closure → Type 0
  Agree fed a b (Model own parents) (Model other others) = SourcesAgree fed a b own × SeedsAgree fed own other own.defn other.defn × AllAgree fed a b parents others

  pub AllAgree : List Trace → List Input → List Input → Closures → Closures → Type 0
  AllAgree fed a b Alone ds = ⊤
  AllAgree fed a b (With c cs) Alone = ⊤
  AllAgree fed a b (With c cs) (With d ds) = Agree fed a b c d × AllAgree fed a b cs ds

-- a model that is no seed
abbrev pub IsQuery : Defn → Type 0
IsQuery (Seed columns rows) = ⊥
IsQuery (Sql q) = ⊤

-- a model as a table, from scratch
abbrev pub scratch_table : List Input → Clock → Closure → Input
scratch_table sources clock c = table_of (own_of c) (from_scratch sources clock c)
