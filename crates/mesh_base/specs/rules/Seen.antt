-- Which columns and CTEs a query sees: what it names has to be there.
use Rattle.std.specs.Prelude.{ℕ, Bool, true, false, ◌&&◌, not, List, [], ◌∷◌, ◌++◌, map, Some, None}
use Rattle.std.specs.List.{list_all, list_any, slice_get}
use Rattle.std.specs.Option.{is_some, option_map}
use Rattle.std.specs.declared.option.Option.{Option}
use Rattle.mesh_base_values.specs.declared.values.Column.{Column}
use Rattle.mesh_base.specs.declared.expressions.Expr.{Expr, fold-Expr}
use Rattle.mesh_base.specs.declared.expressions.Expr.TheOpen.{Expr-F, When-F, Literal, Col, Macro, Binary, Neg, Not, IsNull, Between, OneOf, Cast, Call, Case, CountAll, Agg}
use Rattle.mesh_base.specs.declared.expressions.When.{When, fold-When}
use Rattle.mesh_base.specs.declared.queries.Item.{Item}
use Rattle.mesh_base.specs.declared.queries.Rel.{Rel}
use Rattle.mesh_base.specs.declared.queries.Rel.TheVariants.{Named, Cte}
use Rattle.mesh_base.specs.declared.queries.FromItem.{FromItem}
use Rattle.mesh_base.specs.declared.queries.Select.{Select}
use Rattle.mesh_base.specs.declared.queries.Query.{Query}
use Rattle.mesh_base.specs.Outputs.{select_columns}
use Rattle.mesh_base_values.specs.Picked.{same_text}
use Rattle.mesh_base.specs.declared.rules.relations.Relation.{Relation}
use Rattle.mesh_base.specs.rules.Relations.{relation_columns}

-- some column has that name
abbrev pub has_column : List Column → List ℕ → Bool
has_column columns name = list_any (λ (c : Column). same_text c.name name) columns

-- no two columns have one name
abbrev pub are_distinct : List Column → Bool
are_distinct [] = true
are_distinct (c ∷ cs) = not (has_column cs c.name) && are_distinct cs

-- some column of a table has that name, where there is a table
abbrev pub has_in : Option (List Column) → List ℕ → Bool
has_in None name = false
has_in (Some columns) name = has_column columns name

-- that FROM item has a column of that name
abbrev pub column_at : List (List Column) → ℕ → List ℕ → Bool
column_at tables item name = has_in (slice_get tables item) name

-- the columns in an expression are there, each in its FROM item: one node, with the answer for each part
abbrev pub sees_here : List (List Column) → Expr-F Bool Bool → Bool
sees_here tables (Literal cell) = true
sees_here tables (Col item name) = column_at tables item name
sees_here tables (Macro var) = true
sees_here tables (Binary op left right) = left && right
sees_here tables (Neg value) = value
sees_here tables (Not value) = value
sees_here tables (IsNull value) = value
sees_here tables (Between value low high) = value && low && high
sees_here tables (OneOf value of) = value && list_all (λ b. b) of
sees_here tables (Cast to value) = value
sees_here tables (Call func args) = list_all (λ b. b) args
sees_here tables (Case whens otherwise) = list_all (λ b. b) whens && otherwise
sees_here tables CountAll = true
sees_here tables (Agg kind value) = value

abbrev pub when_sees : When-F Bool Bool → Bool
when_sees w = w.test && w.value

abbrev pub sees : List (List Column) → Expr → Bool
sees tables = fold-Expr Bool Bool (sees_here tables) when_sees

abbrev pub sees_when : List (List Column) → When → Bool
sees_when tables = fold-When Bool Bool (sees_here tables) when_sees

-- the same for a part that may be absent
abbrev pub sees_some : List (List Column) → Option Expr → Bool
sees_some tables None = true
sees_some tables (Some e) = sees tables e

-- the columns of what a FROM item reads, where it is there: a relation, or one of the earlier CTEs
abbrev pub rel_columns : List Relation → List (List Select) → Rel → Option (List Column)
rel_columns relations ctes (Named name) = relation_columns relations name
rel_columns relations ctes (Cte at) = option_map select_columns (slice_get ctes at)

abbrev pub or_no_columns : Option (List Column) → List Column
or_no_columns None = []
or_no_columns (Some columns) = columns

-- the columns of each FROM item
abbrev pub tables_of : List Relation → List (List Select) → List FromItem → List (List Column)
tables_of relations ctes from = map (λ (f : FromItem). or_no_columns (rel_columns relations ctes f.rel)) from

-- what each FROM item reads is there
abbrev pub are_there : List Relation → List (List Select) → List FromItem → Bool
are_there relations ctes from = list_all (λ (f : FromItem). is_some (rel_columns relations ctes f.rel)) from

-- the same for the items, the ON conditions and the keys of a SELECT
abbrev pub items_see : List (List Column) → List Item → Bool
items_see tables items = list_all (λ (i : Item). sees tables i.expr) items

abbrev pub conditions_see : List (List Column) → List FromItem → Bool
conditions_see tables from = list_all (λ (f : FromItem). sees_some tables f.on) from

abbrev pub keys_see : List (List Column) → List Expr → Bool
keys_see tables keys = list_all (sees tables) keys

-- each column that a SELECT names is a column of its FROM item
unfoldable pub select_sees : List (List Column) → Select → Bool
select_sees tables s =
    items_see tables s.items
    && (conditions_see tables s.from
    && (sees_some tables s.filter && (keys_see tables s.keys && sees_some tables s.having)))

-- a SELECT whose relations, CTEs and columns are there
unfoldable pub is_select_seen : List Relation → List (List Select) → Select → Bool
is_select_seen relations ctes s =
    are_there relations ctes s.from && select_sees (tables_of relations ctes s.from) s

abbrev pub are_selects_seen : List Relation → List (List Select) → List Select → Bool
are_selects_seen relations ctes selects = list_all (is_select_seen relations ctes) selects

-- each CTE sees only those before it
abbrev pub are_ctes_seen : List Relation → List (List Select) → List (List Select) → Bool
are_ctes_seen relations before [] = true
are_ctes_seen relations before (c ∷ cs) =
    are_selects_seen relations before c && are_ctes_seen relations (before ++ c ∷ []) cs

-- all that a query names is there: relations, columns, and CTEs among those before
abbrev pub is_query_seen : List Relation → Query → Bool
is_query_seen relations q =
    are_ctes_seen relations [] q.ctes && are_selects_seen relations q.ctes q.selects
