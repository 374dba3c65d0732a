-- The keys of GROUP BY: expressions, and items by number or by name.
use Rattle.std.specs.Prelude.{ℕ, ℤ, pos, suc, Bool, List, [], ◌∷◌, ◌++◌, Result, Ok, if◌then◌else◌}
use Rattle.std.specs.List.{slice_get, list_any, flat_map}
use Rattle.mesh_base_values.specs.Picked.{same_text}
use Rattle.std.specs.declared.option.Option.{Option}
use Rattle.std.specs.declared.option.Option.TheVariants.{None, Some}
use Rattle.mesh_base_values.specs.declared.values.Column.{Column}
use Rattle.mesh_base_values.specs.declared.values.Cell.{Cell}
use Rattle.mesh_base_values.specs.declared.values.Cell.TheVariants as cell
use Rattle.mesh_base.specs.declared.expressions.Expr.{Expr, out-Expr}
use Rattle.mesh_base.specs.declared.expressions.Expr.TheOpen.{Expr-F, Literal}
use Rattle.mesh_base.specs.declared.expressions.When.{When}
use Rattle.mesh_query_grammar.specs.declared.surface.expressions.OrExpr.{OrExpr, out-OrExpr}
use Rattle.mesh_query_tokens.specs.Gives.{◌>>=◌}
use Rattle.mesh_query_tokens.specs.declared.faults.ReadFault.{ReadFault}
use Rattle.mesh_resolve_selects.specs.declared.outputs.keys.Key.{Key}
use Rattle.mesh_resolve_selects.specs.declared.outputs.keys.Key.TheVariants.{Part, Item, Missing}
use Rattle.mesh_resolve_selects.specs.declared.outputs.outputs.Output.{Output}
use Rattle.mesh_resolve_scope.specs.declared.sight.sight.Seen.{Seen}
use Rattle.mesh_resolve_scope.specs.sight.InSight.{Sight}
use Rattle.mesh_resolve_types.specs.declared.typed.Typed.{Typed}
use Rattle.mesh_query_tokens.specs.Walk.{along}
use Rattle.mesh_resolve_scope.specs.Expressions.{typed}
use Rattle.mesh_resolve_scope.specs.Lone.{lone_name}

abbrev pub expr_of_output : Output → Expr
expr_of_output o = o.typed.expr

-- the first item of that name
abbrev pub output_named : List Output → List ℕ → Option Expr
output_named [] name = None
output_named (o ∷ os) name = if same_text o.name name then Some o.typed.expr else output_named os name

-- a FROM item has a column of that name
abbrev pub has_column : List ℕ → Seen → Bool
has_column name d = list_any (λ (c : Column). same_text c.name name) d.columns

abbrev pub is_input : List ℕ → List Seen → Bool
is_input name from = list_any (has_column name) from

-- the item that a single name means, unless it is the name of an input column
abbrev pub item_meant : Sight → List Output → Option (List ℕ) → Option Expr
item_meant sight outputs None = None
item_meant sight outputs (Some name) = if is_input name sight.from then None else output_named outputs name

abbrev pub item_or_missing : ℕ → Option Output → Key
item_or_missing at None = Missing at
item_or_missing at (Some o) = Item at o.typed.expr

-- a number means the item at that place from 1
abbrev pub item_at : ℕ → List Output → ℤ → Key
item_at at outputs (pos (suc n)) = item_or_missing at (slice_get outputs n)
item_at at outputs _ = Missing at

-- the number that an expression is
abbrev pub number_of_cell : Cell → Option ℤ
number_of_cell (cell.Int n) = Some n
number_of_cell _ = None

abbrev pub number_of : Expr-F Expr When → Option ℤ
number_of (Literal value) = number_of_cell value
number_of _ = None

abbrev pub by_number : ℕ → List Output → Typed → Option ℤ → Key
by_number at outputs t None = Part t
by_number at outputs t (Some n) = item_at at outputs n

abbrev pub key_by : Sight → List Output → OrExpr → Option Expr → Result Key ReadFault
key_by sight outputs e None = typed sight e >>= λ t. Ok (by_number (out-OrExpr e).at outputs t (number_of (out-Expr t.expr)))
key_by sight outputs e (Some item) = Ok (Item (out-OrExpr e).at item)

unfoldable pub key : Sight → List Output → OrExpr → Result Key ReadFault
key sight outputs e = key_by sight outputs e (item_meant sight outputs (lone_name e))

abbrev pub one_key : Sight → List Output → List Key → OrExpr → Result (List Key) ReadFault
one_key sight outputs done e = key sight outputs e >>= λ k. Ok (done ++ k ∷ [])

unfoldable pub keys : Sight → List Output → List OrExpr → Result (List Key) ReadFault
keys sight outputs es = along (one_key sight outputs) [] es

abbrev pub key_expr : Key → List Expr
key_expr (Part t) = t.expr ∷ []
key_expr (Item at e) = e ∷ []
key_expr (Missing at) = []

-- the keys of the resolved SELECT
abbrev pub key_exprs : List Key → List Expr
key_exprs keys = flat_map key_expr keys
