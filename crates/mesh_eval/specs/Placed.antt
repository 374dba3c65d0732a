-- Expressions bound before the first row, and their values at rows.
use Rattle.std.specs.Prelude.{◌≡◌, Bool, true, List, [], ◌∷◌, ◌++◌, map, if◌then◌else◌}
use Rattle.std.specs.List.{filter}
use Rattle.std.specs.declared.option.Option.{Option}
use Rattle.std.specs.declared.option.Option.TheVariants.{None, Some}
use Rattle.mesh_base_values.specs.declared.times.Bounds.{Bounds}
use Rattle.mesh_base_values.specs.declared.values.Cell.{Cell}
use Rattle.mesh_base_values.specs.declared.values.Column.{Column}
use Rattle.mesh_base.specs.declared.expressions.Expr.{Expr}
use Rattle.mesh_base.specs.declared.queries.Item.{Item}
use Rattle.mesh_base.specs.declared.queries.Select.{Select}
use Rattle.mesh_spec_query.specs.Cells.{is_true}
use Rattle.mesh_spec_query.specs.Sel.{Group, Joined, holds, item_row, group_row}
use Rattle.mesh_eval_expressions.specs.declared.bound.forms.Bound.{Bound}
use Rattle.mesh_eval_expressions.specs.bound.Meaning.{Given, EachMeans, bound_each, bound_value, given_scope, row_alone}
use Rattle.mesh_eval.specs.declared.groups.Output.{Output}

-- the values of bound expressions at a row
abbrev pub values_at : List Bound → Joined → List Cell
values_at all row = bound_each all (row_alone row)

-- they have the items' values, whatever they are given
abbrev pub AreItems : Bounds → List (List Column) → List Expr → List Item → List Bound → Type 0
AreItems u columns keys items made = EachMeans (λ g. item_row items (given_scope u columns keys g)) made

-- whether there is no condition or it is true
abbrev pub bound_holds : Option Bound → Given → Bool
bound_holds None g = true
bound_holds (Some b) g = is_true (bound_value b g)

-- it is true where the condition is
abbrev pub IsCondition : Bounds → List (List Column) → List Expr → Option Expr → Option Bound → Type 0
IsCondition u columns keys condition made = (g : Given) → bound_holds made g ≡ holds condition (given_scope u columns keys g)

abbrev pub row_test : Option Bound → Joined → Bool
row_test condition row = bound_holds condition (row_alone row)

-- the pairs of a row so far with rows of a relation that pass
abbrev pub pairs : (Joined → Bool) → Joined → List (List Cell) → List Joined
pairs test left rows = filter test (map (λ row. left ++ row ∷ []) rows)

-- what a group gives
abbrev pub given_group : Group → Given
given_group g = record { row = []; key_values = g.key_values; group = Some g.rows }

-- the row of a group, where HAVING is true
abbrev pub output_row : Output → Group → List (List Cell)
output_row o g = if bound_holds o.having (given_group g) then bound_each o.items (given_group g) ∷ [] else []

-- it gives the rows of a SELECT's groups
abbrev pub IsOutput : Bounds → List (List Column) → Select → Output → Type 0
IsOutput u columns q o = (g : Group) → output_row o g ≡ group_row u columns q g
