-- The value of an expression.
use Rattle.std.specs.Prelude.{ℕ, Bool, List, [], map, slice_index_or}
use Rattle.std.specs.List.{position}
use Rattle.std.specs.declared.option.Option.{Option}
use Rattle.std.specs.declared.option.Option.TheVariants.{None, Some}
use Rattle.mesh_base_values.specs.declared.times.Bounds.{Bounds}
use Rattle.mesh_base_values.specs.declared.values.Column.{Column}
use Rattle.mesh_base_values.specs.declared.values.Cell.{Cell}
use Rattle.mesh_base_values.specs.declared.values.Cell.TheVariants as cell
use Rattle.mesh_base.specs.declared.expressions.Expr.{Expr, para-Expr, roll-Expr, out-Expr, map-Expr}
use Rattle.mesh_base.specs.declared.expressions.Expr.TheOpen.{Expr-F, When-F, Literal, Col, Macro, Binary, Neg, Not, IsNull, Between, OneOf, Cast, Call, Case, CountAll, Agg}
use Rattle.mesh_base.specs.declared.expressions.When.{When, para-When}
use Rattle.mesh_base.specs.contracts.expressions.ExprPartialEq.TheImpl.{eq-value}
use Rattle.mesh_base_values.specs.Picked.{cell_of}
use Rattle.mesh_spec_query.specs.Cells.{is_null, op_value, negative, opposite, between, one_of, case_value, func_value}
use Rattle.mesh_time_days.specs.casts.Casts.{cast_value}
use Rattle.mesh_spec_query.specs.Macros.{macro_value}
use Rattle.mesh_spec_query.specs.Aggregates.{agg_value, count_of}

-- a row of a FROM: the cell of each item's column
abbrev pub Seen : Type 0
Seen = ℕ → List ℕ → Cell

-- a row of each FROM item, under the items' columns
abbrev pub seen : List (List Column) → List (List Cell) → Seen
seen columns rows item name = cell_of (slice_index_or columns item []) (slice_index_or rows item []) name

-- what an expression sees: columns, the parts that equal a key, and the group's rows
pub record Scope : Type 0 where
  pub column : Seen
  pub keys : List Expr
  pub key_values : List Cell
  pub group : Option (List Seen)
  pub bounds : Bounds

abbrev pub Value : Type 0
Value = Scope → Cell

abbrev pub at_row : Bounds → Seen → Scope
at_row bounds row = record { column = row; keys = []; key_values = []; group = None; bounds = bounds }

abbrev pub same_expr : Expr → Expr → Bool
same_expr = eq-value.it

abbrev pub over_group : (List Seen → Cell) → Option (List Seen) → Cell
over_group value None = cell.Null
over_group value (Some rows) = value rows

-- one node, where each part comes with its own value
abbrev pub node_value : Expr-F (Expr × Value) (When × (Scope → Cell × Cell)) → Value
node_value (Literal c) s = c
node_value (Col item name) s = s.column item name
node_value (Macro var) s = macro_value var s.bounds
node_value (Binary op left right) s = op_value op (left.1 s) (right.1 s)
node_value (Neg value) s = negative (value.1 s)
node_value (Not value) s = opposite (value.1 s)
node_value (IsNull value) s = cell.Bool (is_null (value.1 s))
node_value (Between value low high) s = between (value.1 s) (low.1 s) (high.1 s)
node_value (OneOf value of) s = one_of (value.1 s) (map (λ p. p.1 s) of)
node_value (Cast to value) s = cast_value to (value.1 s)
node_value (Call func args) s = func_value func (map (λ p. p.1 s) args)
node_value (Case whens otherwise) s = case_value (map (λ w. w.1 s) whens) (otherwise.1 s)
node_value CountAll s = over_group count_of s.group
node_value (Agg kind value) s = over_group (λ rows. agg_value kind (map (λ row. value.1 (at_row s.bounds row)) rows)) s.group

abbrev pub when_value : When-F (Expr × Value) (When × (Scope → Cell × Cell)) → Scope → Cell × Cell
when_value w s = (w.test.1 s, w.value.1 s)

-- the node itself
abbrev pub node_of : Expr-F (Expr × Value) (When × (Scope → Cell × Cell)) → Expr-F Expr When
node_of (Literal c) = Literal c
node_of (Col item name) = Col item name
node_of (Macro var) = Macro var
node_of (Binary op left right) = Binary op left.0 right.0
node_of (Neg value) = Neg value.0
node_of (Not value) = Not value.0
node_of (IsNull value) = IsNull value.0
node_of (Between value low high) = Between value.0 low.0 high.0
node_of (OneOf value of) = OneOf value.0 (map (λ p. p.0) of)
node_of (Cast to value) = Cast to value.0
node_of (Call func args) = Call func (map (λ p. p.0) args)
node_of (Case whens otherwise) = Case (map (λ p. p.0) whens) otherwise.0
node_of CountAll = CountAll
node_of (Agg kind value) = Agg kind value.0

-- which key an expression equals
abbrev pub key_of : Scope → Expr → Option ℕ
key_of s e = position (λ key. same_expr key e) s.keys

-- a key's value, else the value of the node
abbrev pub key_or : Scope → Option ℕ → Cell → Cell
key_or s None value = value
key_or s (Some k) value = slice_index_or s.key_values k cell.Null

abbrev pub ev_here : Expr-F (Expr × Value) (When × (Scope → Cell × Cell)) → Value
ev_here node s = key_or s (key_of s (roll-Expr (node_of node))) (node_value node s)

abbrev pub Ev : Expr → Scope → Cell
Ev = para-Expr Value (Scope → Cell × Cell) ev_here when_value

abbrev pub Ev_when : When → Scope → Cell × Cell
Ev_when = para-When Value (Scope → Cell × Cell) ev_here when_value

-- a node, where each part comes with its value
abbrev pub valued : Expr-F Expr When → Expr-F (Expr × Value) (When × (Scope → Cell × Cell))
valued = map-Expr Expr When (Expr × Value) (When × (Scope → Cell × Cell)) (λ e. (e, Ev e)) (λ w. (w, Ev_when w))

-- the value of the node, whether it equals a key or not
abbrev pub Ev_node : Expr → Scope → Cell
Ev_node e s = node_value (valued (out-Expr e)) s

abbrev pub Ev_each : List Expr → Scope → List Cell
Ev_each all s = map (λ (p : Expr × Value). p.1 s) (map (λ e. (e, Ev e)) all)

abbrev pub Ev_whens : List When → Scope → List (Cell × Cell)
Ev_whens all s = map (λ (p : When × (Scope → Cell × Cell)). p.1 s) (map (λ w. (w, Ev_when w)) all)
