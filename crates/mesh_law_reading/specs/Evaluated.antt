-- Whether all expressions that a query evaluates have operands of the types that they take, for each row and each
-- group.
use Rattle.std.specs.Prelude.{Bool, true, ◌&&◌, if◌then◌else◌, List, [], ◌∷◌, ◌++◌, None, Some}
use Rattle.std.specs.List.{filter, list_all}
use Rattle.std.specs.declared.option.Option.{Option}
use Rattle.mesh_base_values.specs.declared.times.Bounds.{Bounds}
use Rattle.mesh_base_values.specs.declared.values.Column.{Column}
use Rattle.mesh_base.specs.declared.expressions.Expr.{Expr}
use Rattle.mesh_base.specs.declared.jobs.Input.{Input}
use Rattle.mesh_base.specs.declared.queries.FromItem.{FromItem}
use Rattle.mesh_base.specs.declared.queries.Item.{Item}
use Rattle.mesh_base.specs.declared.queries.Query.{Query}
use Rattle.mesh_base.specs.declared.queries.Select.{Select}
use Rattle.mesh_spec_query.specs.Ev.{Scope}
use Rattle.mesh_spec_query.specs.Tables.{relation, rows_in}
use Rattle.mesh_spec_query.specs.Sel.{Group, Joined, cte_input, cte_inputs, from_columns, from_rows, group_scope, groups, join_item, row_holds, row_scope}
use Rattle.mesh_law_reading.specs.Operands.{operands_fit}

abbrev pub some_fits : Option Expr → Scope → Bool
some_fits None s = true
some_fits (Some e) s = operands_fit e s

abbrev pub items_fit : List Item → Scope → Bool
items_fit items s = list_all (λ (item : Item). operands_fit item.expr s) items

-- ON, for each pair of a row so far and a row of the table
abbrev pub join_fits : Bounds → List (List Column) → List Input → List Input → List Joined → FromItem → Bool
join_fits u columns inputs ctes lefts item =
    list_all (λ left. list_all (λ row. some_fits item.on (row_scope u columns (left ++ row ∷ []))) (rows_in (relation inputs ctes item.rel))) lefts

abbrev pub joins_fit : Bounds → List (List Column) → List Input → List Input → List Joined → List FromItem → Bool
joins_fit u columns inputs ctes lefts [] = true
joins_fit u columns inputs ctes lefts (item ∷ items) =
    join_fits u columns inputs ctes lefts item && joins_fit u columns inputs ctes (join_item u columns inputs ctes lefts item) items

-- HAVING and the items, for a group
abbrev pub group_fits : Bounds → List (List Column) → Select → Group → Bool
group_fits u columns q g = some_fits q.having (group_scope u columns q.keys g) && items_fit q.items (group_scope u columns q.keys g)

-- the keys for each row and what follows them for each group, or the items for each row
abbrev pub made_fits : Bounds → List (List Column) → Select → List Joined → Bool
made_fits u columns q rows =
    if q.grouped then list_all (λ row. list_all (λ key. operands_fit key (row_scope u columns row)) q.keys) rows && list_all (group_fits u columns q) (groups u columns q.keys rows)
    else list_all (λ row. items_fit q.items (row_scope u columns row)) rows

abbrev pub select_operands_fit : List Input → Bounds → List Input → Select → Bool
select_operands_fit inputs u ctes q =
    let columns = from_columns inputs ctes q.from in
    let from = from_rows u columns inputs ctes q.from in
    joins_fit u columns inputs ctes ([] ∷ []) q.from
    && (list_all (λ row. some_fits q.filter (row_scope u columns row)) from && made_fits u columns q (filter (row_holds u columns q.filter) from))

-- each CTE, over those before it
abbrev pub ctes_fit : List Input → Bounds → List Input → List (List Select) → Bool
ctes_fit inputs u so_far [] = true
ctes_fit inputs u so_far (c ∷ cs) = list_all (select_operands_fit inputs u so_far) c && ctes_fit inputs u (so_far ++ cte_input inputs u so_far c ∷ []) cs

abbrev pub query_operands_fit : Query → List Input → Bounds → Bool
query_operands_fit q inputs u = ctes_fit inputs u [] q.ctes && list_all (select_operands_fit inputs u (cte_inputs inputs u q.ctes)) q.selects
