-- What a query names is found among the tables that it reads.
use Rattle.std.specs.Prelude.{◌≡◌, ℕ, ⊤, List, ◌∷◌, ◌++◌}
use Rattle.std.specs.List.{All, Contains, slice_get}
use Rattle.std.specs.declared.option.Option.TheVariants.{Some}
use Rattle.mesh_base_values.specs.declared.times.Bounds.{Bounds}
use Rattle.mesh_base_values.specs.declared.values.Column.{Column}
use Rattle.mesh_base.specs.declared.definitions.Defn.{Defn}
use Rattle.mesh_base.specs.declared.definitions.Defn.TheVariants.{Seed, Sql}
use Rattle.mesh_base.specs.declared.expressions.Expr.{Expr}
use Rattle.mesh_base.specs.declared.jobs.Input.{Input}
use Rattle.mesh_base.specs.declared.queries.FromItem.{FromItem}
use Rattle.mesh_base.specs.declared.queries.Query.{Query}
use Rattle.mesh_base.specs.declared.queries.Select.{Select}
use Rattle.mesh_base.specs.Outputs.{columns_of}
use Rattle.mesh_base.specs.declared.rules.relations.Relation.{Relation}
use Rattle.mesh_spec_query.specs.Named.{columns}
use Rattle.mesh_spec_query.specs.Sel.{cte_inputs}
use Rattle.mesh_spec_query.specs.Tables.{relation}
use Rattle.mesh_spec_model.specs.Closures.{Closure, own_of}
use Rattle.mesh_law_query.specs.Reads.{StandsIn}

-- a table, and a model, as a query reads them
abbrev pub input_relation : Input → Relation
input_relation i = record { name = i.name; columns = i.columns }

abbrev pub model_relation : Closure → Relation
model_relation c = record { name = (own_of c).name; columns = columns_of (own_of c) }

-- what a FROM item reads is there: a table, or a CTE among those so far
abbrev pub IsFound : List Input → List Input → FromItem → Type 0
IsFound inputs ctes f = (t : Input) × (relation inputs ctes f.rel ≡ Some t)

-- and it has a column of that name
abbrev pub HasColumn : List Input → List Input → FromItem → List ℕ → Type 0
HasColumn inputs ctes f name = (t : Input) × (relation inputs ctes f.rel ≡ Some t) × ((c : Column) × Contains t.columns c × (c.name ≡ name))

-- a SELECT finds all that it reads, and each column that it names is one of what the FROM item at that place reads
abbrev pub FindsAll : List Input → List Input → Select → Type 0
FindsAll inputs ctes s =
    All (IsFound inputs ctes) s.from
    × ((e : Expr) (item : ℕ) (name : List ℕ) → StandsIn s e → Contains (columns e) (item, name) → (f : FromItem) × (slice_get s.from item ≡ Some f) × HasColumn inputs ctes f name)

-- so does each SELECT of a CTE, over the CTEs before it, and each of the query, over all of them
abbrev pub QueryFindsAll : Query → List Input → Bounds → Type 0
QueryFindsAll q inputs u =
    ((before after : List (List Select)) (c : List Select) → q.ctes ≡ before ++ c ∷ after → All (FindsAll inputs (cte_inputs inputs u before)) c)
    × All (FindsAll inputs (cte_inputs inputs u q.ctes)) q.selects

abbrev pub DefnFindsAll : Defn → List Input → Bounds → Type 0
DefnFindsAll (Seed columns rows) inputs u = ⊤
DefnFindsAll (Sql q) inputs u = QueryFindsAll q inputs u
