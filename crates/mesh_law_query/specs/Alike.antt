-- Inputs that a query can't tell apart.
use Rattle.std.specs.Prelude.{◌≡◌, List, []}
use Rattle.std.specs.List.{All}
use Rattle.std.specs.declared.option.Option.{Option}
use Rattle.mesh_base_values.specs.Bag.{IsSameBag}
use Rattle.mesh_base.specs.declared.jobs.Input.{Input}
use Rattle.mesh_base_values.specs.declared.values.Name.{Name}
use Rattle.mesh_base.specs.declared.queries.Rel.TheVariants.{Named}
use Rattle.mesh_base.specs.declared.queries.Query.{Query}
use Rattle.mesh_base.specs.declared.definitions.Defn.TheVariants.{Sql}
use Rattle.mesh_base.specs.rules.Proper.{defn_names}
use Rattle.mesh_spec_query.specs.Tables.{relation, columns_in, rows_in}

-- the models and sources that a query names
abbrev pub names : Query → List Name
names q = defn_names (Sql q)

-- what a query finds under a name
abbrev pub named : List Input → Name → Option Input
named inputs name = relation inputs [] (Named name)

-- the same columns, and the same rows, each as often
abbrev pub IsSameTable : Option Input → Option Input → Type 0
IsSameTable a b = (columns_in a ≡ columns_in b) × IsSameBag (rows_in a) (rows_in b)

-- under each of the names, both have such a table
abbrev pub AreSameTables : List Name → List Input → List Input → Type 0
AreSameTables all a b = All (λ name. IsSameTable (named a name) (named b name)) all

-- under each name that the query names
abbrev pub HaveSameBags : Query → List Input → List Input → Type 0
HaveSameBags q a b = AreSameTables (names q) a b
