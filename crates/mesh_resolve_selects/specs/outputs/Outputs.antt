-- The output columns of a SELECT.
use Rattle.std.specs.Prelude.{ℕ, List, [], ◌∷◌, ◌++◌, map, length, nat_le, codes, decimal, Result, if◌then◌else◌}
use Rattle.std.specs.List.{flat_map}
use Rattle.std.specs.declared.option.Option.{Option}
use Rattle.std.specs.declared.option.Option.TheVariants.{None, Some}
use Rattle.mesh_base_values.specs.declared.values.Column.{Column}
use Rattle.mesh_base.specs.declared.expressions.Expr.{Expr, out-Expr}
use Rattle.mesh_base.specs.declared.expressions.Expr.TheOpen.{Expr-F, Col}
use Rattle.mesh_base.specs.declared.expressions.When.{When}
use Rattle.mesh_base.specs.declared.queries.Item.{Item}
use Rattle.mesh_query_grammar.specs.declared.surface.expressions.OrExpr.{OrExpr}
use Rattle.mesh_query_grammar.specs.declared.surface.queries.SurfaceItem.{SurfaceItem}
use Rattle.mesh_query_grammar.specs.declared.surface.queries.SurfaceItem.TheVariants.{All, AllOf, Value}
use Rattle.mesh_query_tokens.specs.Gives.{◌>>=◌}
use Rattle.mesh_query_tokens.specs.declared.faults.ReadFault.{ReadFault}
use Rattle.mesh_resolve_selects.specs.declared.outputs.outputs.Output.{Output}
use Rattle.mesh_resolve_scope.specs.declared.sight.sight.Seen.{Seen}
use Rattle.mesh_resolve_scope.specs.sight.InSight.{Sight}
use Rattle.mesh_resolve_types.specs.declared.typed.Typed.{Typed}
use Rattle.mesh_resolve_types.specs.Faults.{most_columns, too_many_columns}
use Rattle.mesh_query_tokens.specs.Walk.{provided, along}
use Rattle.mesh_resolve_types.specs.rules.Kinds.{or_text}
use Rattle.mesh_resolve_scope.specs.sight.Sight.{answers_to, qualified, column_typed}
use Rattle.mesh_resolve_scope.specs.Expressions.{typed}

-- a column of a FROM item, as `*` at this place names it
abbrev pub starred : ℕ → Seen → Column → Output
starred at d c = record { at = at; name = c.name; typed = column_typed at c.name d.place c.kind }

abbrev pub all_of_one : ℕ → Option (List ℕ) → Seen → List Output
all_of_one at item d = if answers_to item d then map (starred at d) d.columns else []

-- `*` and `item.*` in the order of FROM
abbrev pub expanded : ℕ → Option (List ℕ) → List Seen → List Output
expanded at item from = flat_map (all_of_one at item) from

-- without an alias, a column has its own name, and any other item is called by its place from 0
abbrev pub name_by_place : ℕ → List ℕ
name_by_place place = codes "_col_" ++ decimal place

abbrev pub own_name : ℕ → Expr-F Expr When → List ℕ
own_name place (Col item name) = name
own_name place _ = name_by_place place

abbrev pub output_name : ℕ → Option (List ℕ) → Typed → List ℕ
output_name place None t = own_name place (out-Expr t.expr)
output_name place (Some alias) t = alias

abbrev pub output : ℕ → ℕ → Option (List ℕ) → Typed → Output
output at place alias t = record { at = at; name = output_name place alias t; typed = t }

-- no more columns than there may be
abbrev pub within_limit : List Output → Result (List Output) ReadFault
within_limit all = provided (nat_le (length all) most_columns) all too_many_columns

-- `item.*` names a FROM item
abbrev pub all_of_item : Sight → List Output → ℕ → List ℕ → Result (List Output) ReadFault
all_of_item sight done at name = do
  there ← qualified at (Some name) sight.from
  within_limit (done ++ expanded at (Some name) sight.from)

abbrev pub value_item : Sight → List Output → ℕ → OrExpr → Option (List ℕ) → Result (List Output) ReadFault
value_item sight done at value alias = do
  t ← typed sight value
  within_limit (done ++ output at (length done) alias t ∷ [])

abbrev pub item : Sight → List Output → SurfaceItem → Result (List Output) ReadFault
item sight done (All at) = within_limit (done ++ expanded at None sight.from)
item sight done (AllOf at name) = all_of_item sight done at name
item sight done (Value at value alias) = value_item sight done at value alias

unfoldable pub items : Sight → List SurfaceItem → Result (List Output) ReadFault
items sight all = along (item sight) [] all

-- the item of the resolved SELECT
abbrev pub resolved_item : Output → Item
resolved_item o = record { name = o.name; kind = or_text o.typed.kind; expr = o.typed.expr }
