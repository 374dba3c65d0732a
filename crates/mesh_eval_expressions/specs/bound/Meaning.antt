-- The value of a bound expression, and when it is an expression's.
use Rattle.std.specs.Prelude.{◌≡◌, List, [], map, slice_index_or}
use Rattle.std.specs.Option.{option_map}
use Rattle.std.specs.declared.option.Option.{Option}
use Rattle.std.specs.declared.option.Option.TheVariants.{None, Some}
use Rattle.mesh_base_values.specs.declared.times.Bounds.{Bounds}
use Rattle.mesh_base_values.specs.declared.values.Column.{Column}
use Rattle.mesh_base_values.specs.declared.values.Cell.{Cell}
use Rattle.mesh_base_values.specs.declared.values.Cell.TheVariants as cell
use Rattle.mesh_base.specs.declared.expressions.Expr.{Expr}
use Rattle.mesh_base.specs.declared.expressions.When.{When}
use Rattle.mesh_time_days.specs.casts.Casts.{cast_value}
use Rattle.mesh_spec_query.specs.Aggregates.{agg_value, count_of}
use Rattle.mesh_spec_query.specs.Cells.{is_null, op_value, negative, opposite, between, one_of, case_value, func_value}
use Rattle.mesh_spec_query.specs.Ev.{Scope, Ev, Ev_node, Ev_each, Ev_when, Ev_whens, seen}
use Rattle.mesh_spec_query.specs.Sel.{Joined}
use Rattle.mesh_eval_rows.specs.joins.joined.Spots.{cell_at}
use Rattle.mesh_eval_expressions.specs.declared.bound.forms.Bound.{Bound, fold-Bound}
use Rattle.mesh_eval_expressions.specs.declared.bound.forms.Bound.TheOpen.{Bound-F, BoundWhen-F, Lies, Known, Key, Binary, Neg, Not, IsNull, Between, OneOf, Cast, Call, Case, CountAll, Agg, Plain}
use Rattle.mesh_eval_expressions.specs.declared.bound.forms.BoundWhen.{BoundWhen, fold-BoundWhen}

-- what a bound expression is given: a row of each FROM item, the values of the keys, and the rows of the group
pub record Given : Type 0 where
  pub row : Joined
  pub key_values : List Cell
  pub group : Option (List Joined)

-- a row by itself
abbrev pub row_alone : Joined → Given
row_alone row = record { row = row; key_values = []; group = None }

abbrev pub over_rows : (List Joined → Cell) → Option (List Joined) → Cell
over_rows value None = cell.Null
over_rows value (Some rows) = value rows

-- one node, from the values of its parts
abbrev pub bound_here : Bound-F (Given → Cell) (Given → Cell × Cell) → Given → Cell
bound_here (Lies spot) g = cell_at spot g.row
bound_here (Known c) g = c
bound_here (Key k) g = slice_index_or g.key_values k cell.Null
bound_here (Binary op left right) g = op_value op (left g) (right g)
bound_here (Neg value) g = negative (value g)
bound_here (Not value) g = opposite (value g)
bound_here (IsNull value) g = cell.Bool (is_null (value g))
bound_here (Between value low high) g = between (value g) (low g) (high g)
bound_here (OneOf value of) g = one_of (value g) (map (λ x. x g) of)
bound_here (Cast to value) g = cast_value to (value g)
bound_here (Call func args) g = func_value func (map (λ x. x g) args)
bound_here (Case whens otherwise) g = case_value (map (λ w. w g) whens) (otherwise g)
bound_here CountAll g = over_rows count_of g.group
bound_here (Agg kind value) g = over_rows (λ rows. agg_value kind (map (λ row. value (row_alone row)) rows)) g.group
bound_here (Plain value) g = value g

abbrev pub when_here : BoundWhen-F (Given → Cell) (Given → Cell × Cell) → Given → Cell × Cell
when_here w g = (w.test g, w.value g)

abbrev pub bound_value : Bound → Given → Cell
bound_value = fold-Bound (Given → Cell) (Given → Cell × Cell) bound_here when_here

abbrev pub bound_when : BoundWhen → Given → Cell × Cell
bound_when = fold-BoundWhen (Given → Cell) (Given → Cell × Cell) bound_here when_here

abbrev pub bound_each : List Bound → Given → List Cell
bound_each all g = map (λ x. x g) (map bound_value all)

abbrev pub bound_whens : List BoundWhen → Given → List (Cell × Cell)
bound_whens all g = map (λ w. w g) (map bound_when all)

-- what an expression sees of what is given, under columns and keys and for an interval
abbrev pub given_scope : Bounds → List (List Column) → List Expr → Given → Scope
given_scope u columns keys g = record { column = seen columns g.row; keys = keys; key_values = g.key_values; group = option_map (map (seen columns)) g.group; bounds = u }

-- it has that value, whatever it is given
abbrev pub Means : (Given → Cell) → Bound → Type 0
Means f b = (g : Given) → bound_value b g ≡ f g

abbrev pub EachMeans : (Given → List Cell) → List Bound → Type 0
EachMeans f all = (g : Given) → bound_each all g ≡ f g

abbrev pub WhenMeans : (Given → Cell × Cell) → BoundWhen → Type 0
WhenMeans f w = (g : Given) → bound_when w g ≡ f g

abbrev pub WhensMean : (Given → List (Cell × Cell)) → List BoundWhen → Type 0
WhensMean f all = (g : Given) → bound_whens all g ≡ f g

-- it has the expression's value, whatever it is given
abbrev pub IsBound : Bounds → List (List Column) → List Expr → Expr → Bound → Type 0
IsBound u columns keys e b = Means (λ g. Ev e (given_scope u columns keys g)) b

-- it has the value of the expression's node, whether that equals a key or not
abbrev pub IsBoundNode : Bounds → List (List Column) → List Expr → Expr → Bound → Type 0
IsBoundNode u columns keys e b = Means (λ g. Ev_node e (given_scope u columns keys g)) b

abbrev pub AreBound : Bounds → List (List Column) → List Expr → List Expr → List Bound → Type 0
AreBound u columns keys all made = EachMeans (λ g. Ev_each all (given_scope u columns keys g)) made

abbrev pub IsBoundWhen : Bounds → List (List Column) → List Expr → When → BoundWhen → Type 0
IsBoundWhen u columns keys w made = WhenMeans (λ g. Ev_when w (given_scope u columns keys g)) made

abbrev pub AreBoundWhens : Bounds → List (List Column) → List Expr → List When → List BoundWhen → Type 0
AreBoundWhens u columns keys all made = WhensMean (λ g. Ev_whens all (given_scope u columns keys g)) made
