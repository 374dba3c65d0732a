-- The relations of two parts that the text of a query names, in its order.
use Rattle.std.specs.Prelude.{ℕ, List, [], ◌∷◌, ◌++◌}
use Rattle.std.specs.List.{flat_map}
use Rattle.std.specs.declared.option.Option.{Option}
use Rattle.std.specs.declared.option.Option.TheVariants.{None, Some}
use Rattle.mesh_base_values.specs.declared.values.Name.{Name}
use Rattle.mesh_query_grammar.specs.declared.surface.queries.Surface.{Surface}
use Rattle.mesh_query_grammar.specs.declared.surface.queries.SurfaceCte.{SurfaceCte}
use Rattle.mesh_query_grammar.specs.declared.surface.queries.SurfaceFrom.{SurfaceFrom}
use Rattle.mesh_query_grammar.specs.declared.surface.queries.SurfaceJoin.{SurfaceJoin}
use Rattle.mesh_query_grammar.specs.declared.surface.queries.SurfaceJoin.TheVariants.{Comma, Cross, Inner, Left}
use Rattle.mesh_query_grammar.specs.declared.surface.queries.SurfaceRel.{SurfaceRel}
use Rattle.mesh_query_grammar.specs.declared.surface.queries.SurfaceSelect.{SurfaceSelect}
use Rattle.mesh_query_grammar.specs.declared.surface.queries.SurfaceUnion.{SurfaceUnion}

-- a name of two parts, and nothing of one part, which is that of a CTE
abbrev pub of_two_parts : Option (List ℕ) → List ℕ → List Name
of_two_parts None name = []
of_two_parts (Some schema) name = (record { schema = schema; model = name }) ∷ []

-- what a relation names
abbrev pub rel_reads : SurfaceRel → List Name
rel_reads r = of_two_parts r.schema r.name

-- the relation of a join
abbrev pub join_rel : SurfaceJoin → SurfaceRel
join_rel (Comma at rel) = rel
join_rel (Cross at rel) = rel
join_rel (Inner at rel on) = rel
join_rel (Left at rel on) = rel

-- what a join names
abbrev pub join_reads : SurfaceJoin → List Name
join_reads j = rel_reads (join_rel j)

-- what the FROM items name, from left to right
abbrev pub from_reads : Option SurfaceFrom → List Name
from_reads None = []
from_reads (Some from) = rel_reads from.first ++ flat_map join_reads from.joins

-- what a SELECT names
abbrev pub select_reads : SurfaceSelect → List Name
select_reads s = from_reads s.from

-- what the SELECTs name, in their order
abbrev pub union_reads : SurfaceUnion → List Name
union_reads u = flat_map select_reads u.selects

-- what the body of a CTE names
abbrev pub cte_reads : SurfaceCte → List Name
cte_reads c = union_reads c.body

-- those in the CTEs, and then those in what is selected
abbrev pub query_reads : Surface → List Name
query_reads q = flat_map cte_reads q.ctes ++ union_reads q.body

-- the same of a model, which has no query where it is a SEED
abbrev pub text_reads : Option Surface → List Name
text_reads None = []
text_reads (Some query) = query_reads query
