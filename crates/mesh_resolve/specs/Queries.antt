-- The walk through a query: its CTEs in order, its SELECTs, and then the sides of each UNION ALL.
use Rattle.std.specs.Prelude.{not, List, [], ◌∷◌, ◌++◌, map, Result, Ok}
use Rattle.std.specs.List.{list_any}
use Rattle.mesh_base.specs.declared.queries.Query.{Query}
use Rattle.mesh_base.specs.declared.queries.Select.{Select}
use Rattle.mesh_query_grammar.specs.declared.surface.queries.Surface.{Surface}
use Rattle.mesh_query_grammar.specs.declared.surface.queries.SurfaceCte.{SurfaceCte}
use Rattle.mesh_query_grammar.specs.declared.surface.queries.SurfaceSelect.{SurfaceSelect}
use Rattle.mesh_query_grammar.specs.declared.surface.queries.SurfaceUnion.{SurfaceUnion}
use Rattle.mesh_query_tokens.specs.Gives.{◌>>=◌}
use Rattle.mesh_query_tokens.specs.declared.faults.ReadFault.{ReadFault}
use Rattle.mesh_resolve_types.specs.Faults.{duplicate}
use Rattle.mesh_query_tokens.specs.Walk.{provided, along}
use Rattle.mesh_resolve_selects.specs.declared.outputs.commons.Common.{Common}
use Rattle.mesh_resolve_selects.specs.outputs.Commons.{is_cte, selects_of}
use Rattle.mesh_resolve_selects.specs.outputs.Sides.{with_sides_alike}
use Rattle.mesh_resolve.specs.declared.known.Known.{Known}
use Rattle.mesh_resolve.specs.Selects.{select}

abbrev pub one_select : Known → List Common → List Select → SurfaceSelect → Result (List Select) ReadFault
one_select known ctes done s = select known ctes s >>= λ r. Ok (done ++ r ∷ [])

unfoldable pub selects : Known → List Common → SurfaceUnion → Result (List Select) ReadFault
selects known ctes u = along (one_select known ctes) [] u.selects

-- a CTE's own body is walked before its name is looked at
abbrev pub cte : Known → List Common → SurfaceCte → Result (List Common) ReadFault
cte known done c = do
  body ← selects known done c.body
  provided (not (list_any (is_cte c.name) done)) (done ++ (record { name = c.name; selects = body }) ∷ []) (duplicate c.at c.name)

-- a query, or its first fault; the sides of UNION ALL come after all SELECTs of the whole query
unfoldable pub resolved : Known → Surface → Result Query ReadFault
resolved known q = do
  ctes ← along (cte known) [] q.ctes
  body ← selects known ctes q.body
  with_sides_alike (map selects_of ctes) body
