-- The walk through one SELECT: FROM, WHERE, items, keys and HAVING, then the rule on groups, then names that stand
-- twice.
use Rattle.std.specs.Prelude.{Bool, List, map, Result, Ok}
use Rattle.std.specs.Option.{option_map}
use Rattle.std.specs.declared.option.Option.{Option}
use Rattle.mesh_base.specs.declared.expressions.Expr.{Expr}
use Rattle.mesh_base.specs.declared.queries.FromItem.{FromItem}
use Rattle.mesh_base.specs.declared.queries.Select.{Select}
use Rattle.mesh_query_grammar.specs.declared.surface.expressions.OrExpr.{OrExpr}
use Rattle.mesh_query_grammar.specs.declared.surface.queries.SurfaceSelect.{SurfaceSelect}
use Rattle.mesh_query_tokens.specs.Gives.{◌>>=◌}
use Rattle.mesh_query_tokens.specs.declared.faults.ReadFault.{ReadFault}
use Rattle.mesh_resolve_scope.specs.sight.InSight.{Sight}
use Rattle.mesh_resolve_types.specs.declared.typed.Typed.{Typed}
use Rattle.mesh_query_tokens.specs.Walk.{some_of}
use Rattle.mesh_resolve_types.specs.Forms.{expr_of}
use Rattle.mesh_resolve_selects.specs.declared.outputs.commons.Common.{Common}
use Rattle.mesh_resolve_selects.specs.outputs.Outputs.{items, resolved_item}
use Rattle.mesh_resolve_selects.specs.outputs.Keys.{keys, key_exprs}
use Rattle.mesh_resolve_selects.specs.declared.selects.parts.Drawn.{Drawn}
use Rattle.mesh_resolve_selects.specs.declared.selects.parts.Walked.{Walked}
use Rattle.mesh_resolve_selects.specs.selects.Standing.{is_grouped, stands}
use Rattle.mesh_resolve.specs.declared.known.Known.{Known}
use Rattle.mesh_resolve.specs.Relations.{condition, drawn_from}

-- a condition that may be absent
abbrev pub some_condition : Sight → Option OrExpr → Result (Option Typed) ReadFault
some_condition sight e = some_of (option_map (condition sight) e)

-- the parts of a SELECT, in the order of the walk; what stands in them is not yet looked at together
unfoldable pub walked : Known → List Common → SurfaceSelect → Result Walked ReadFault
walked known ctes s = do
  from ← drawn_from known ctes s.from
  filter ← some_condition from.sight s.filter
  outputs ← items from.sight s.items
  keys ← keys from.sight outputs s.keys
  having ← some_condition from.sight s.having
  Ok (record { from = from.drawn; filter = filter; outputs = outputs; keys = keys; having = having })

-- the keys of a SELECT that keeps all rules
abbrev pub right_keys : Walked → Result (List Expr) ReadFault
right_keys w = do
  right ← stands (is_grouped w) (key_exprs w.keys) w
  Ok (key_exprs w.keys)

abbrev pub from_item : Drawn → FromItem
from_item d = record { join = d.join; rel = d.rel; on = option_map expr_of d.on }

abbrev pub resolved_as : Bool → Bool → List Expr → Walked → Select
resolved_as distinct grouped keys w = record {
  distinct = distinct;
  grouped = grouped;
  items = map resolved_item w.outputs;
  from = map from_item w.from;
  filter = option_map expr_of w.filter;
  keys = keys;
  having = option_map expr_of w.having;
}

-- one SELECT, or its first fault
unfoldable pub select : Known → List Common → SurfaceSelect → Result Select ReadFault
select known ctes s = do
  w ← walked known ctes s
  keys ← right_keys w
  Ok (resolved_as s.distinct (is_grouped w) keys w)
